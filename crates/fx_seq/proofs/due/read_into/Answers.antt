use Rattle.std.proofs.Common.{◌∷◌, [], refl, arith, rules, w64}
use Rattle.std.proofs.lemmas.Int.{to_z-of_z}
use mir.Val.{SFits}
use Rattle.std.proofs.lemmas.Result.{err_from_is_err_and}
use Rattle.fx_seq.proofs.FillingLemmas.{fetch_comes, told_first}
use Rattle.fx_seq.proofs.Reading.{reads_one}
use Rattle.fx_seq.proofs.due.read_into.Goals as goal

pub returns-in_err-image-clause-refused : goal.returns-in_err-image-clause-refused
returns-in_err-image-clause-refused g c = λ tells.
    let w = c.args.wanted.now in
    let files = g.L.Library.file c.args.library.now in
    let p = err_from_is_err_and c.from_residual.result c.from_residual.ensures.1 in
    rw (p.1, p.2) (told_first files c.args.most_side c.args.limit c.args.sum (w ∷ []) [] [] c.args.sum w c.in_err-image.field-0.0 (λ rest. refl) refl (c.in_err-image.ensures.refused tells c.args.limit c.args.sum))

pub returns-in_err-image-clause-fetch_first : goal.returns-in_err-image-clause-fetch_first
returns-in_err-image-clause-fetch_first g c = λ tells.
    let w = c.args.wanted.now in
    let files = g.L.Library.file c.args.library.now in
    let p = err_from_is_err_and c.from_residual.result c.from_residual.ensures.1 in
    rw (p.1, p.2) (fetch_comes files c.args.most_side c.args.limit c.args.sum (w ∷ []) [] [] c.args.sum _ _ _ w c.in_err-image.field-0.0 (λ rest. refl) refl c.in_err-image.ensures.fetch)

pub returns-clause-reads : goal.returns-clause-reads
returns-clause-reads g c =
    let w = c.args.wanted.now in
    let files = g.L.Library.file c.args.library.now in
    let sum = c.in_ok-all.ensures.sum in
    let fits : SFits w64 c.args.wanted.now.frame = search rules in
    reads_one g.L.Library.tells files c.args.most_side c.args.limit c.args.sum c.in_ok-all.all w _ c.args.frames.now.items c.push.new.self.items c.in_ok-push.ensures.items
    (record { node = refl; frame = to_z-of_z w64 w.frame fits; size = omega (arith, sum) }) c.in_ok-image.ensures.picture (omega (arith, sum)) c.in_ok-all.ensures.fits
