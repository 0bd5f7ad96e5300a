use Rattle.std.proofs.Common.{◌≡◌, ◌∙◌, ◌+◌, ◌-◌, [], ◌∷◌, ◌++◌, arith, ap, refl, sym, subst, rules, w64, FitsSigned}
use Rattle.std.proofs.lemmas.Int.{to_z-of_z}
use Rattle.std.proofs.lemmas.List.{get_or_default}
use Rattle.fx_base.specs.Bounds.{Bounds}
use Rattle.fx_effect.specs.Bands.{IsInBand, AreBands}
use Rattle.fx_effect.specs.declared.bands.Band.{Band}
use Rattle.fx_effect.proofs.BandLaws.{own_band, last_takes}
use Rattle.fx_effect.proofs.bands.take_piece.Goals as goal

pub returns-then-takes-clause-ok : goal.returns-then-takes-clause-ok
returns-then-takes-clause-ok c pieces p long here then is are =
    let frame : FitsSigned w64 c.args.frame = c.ranges.frame in
    let bands = c.args.bands.now.items in
    let i = c.len-count.result - 1 in
    let last = c.index_mut.result.now in
    let same : c.index.result.now ≡ last = c.index.ensures ∙ get_or_default bands i c.index.result.now last (omega (arith, c.len-count.ensures, c.if-count-gt0.true)) ∙ sym c.index_mut.ensures.value in
    let inside : IsInBand last p = subst (λ (b : Band). IsInBand b p) same ((simp to_z-of_z at c.takes.ensures) c.if-takes.true p here then is) in
    last_takes bands pieces p i last _ are (omega (arith, c.len-count.ensures, c.if-count-gt0.true)) c.index_mut.ensures.value
    (record { clip = refl; frame = refl; bottom = refl; top = refl; from = refl; to = ap (λ n. n + 1) (sym long) }) inside

pub returns-in_ok-push-clause-ok : goal.returns-in_ok-push-clause-ok
returns-in_ok-push-clause-ok c pieces p long here then is are =
    let frame : FitsSigned w64 c.args.frame = c.ranges.frame in
    let a : FitsSigned w64 c.rect.inside.y1 = search rules in
    let b : FitsSigned w64 c.rect.inside.y2 = search rules in
    let same = is ∙ sym c.rect.view_is in
    let items = simp to_z-of_z at c.in_ok-push.ensures.items in
    subst (λ bs. AreBands bs (pieces ++ p ∷ [])) (sym items)
    (own_band c.args.bands.now.items pieces p _ are (sym long) (ap (λ n. n + 1) (sym long))
    (record { clip = here; frame = then; bottom = ap (λ (r : Bounds). r.y1) same; top = ap (λ (r : Bounds). r.y2) same }))
