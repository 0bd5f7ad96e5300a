use Rattle.std.proofs.Common.{rules, ◌≡◌, ◌≤◌, ℕ, ◌+◌, ◌++◌, filter, map, None, refl, ap, sym, ◌∙◌, subst, arith}
use mathlib.Core.Path.{fun_ext}
use Rattle.std.proofs.lemmas.Result.{err_from_is_err_and}
use Rattle.fx_outside.specs.Outside.{Files}
use Rattle.fx_seq.specs.Filling.{IsTold, first_refused}
use Rattle.fx_seq.specs.Lists.{ArePictures, size_of_all, used_size}
use Rattle.fx_seq.specs.Moments.{due_at}
use Rattle.fx_seq.specs.Filling.{IsFirstFetch}
use Rattle.fx_pipe.specs.Moments.{all_of}
use Rattle.fx_pipe.specs.Reads.{is_kept, kept_of, kept_size}
use Rattle.fx_pipe.proofs.ReadLemmas.{few_more, knows_more}
use Rattle.fx_pipe.proofs.read.read_moment.Goals as goal

pub returns-in_err-frames-clause-unread : goal.returns-in_err-frames-clause-unread
returns-in_err-frames-clause-unread g c = λ files fs same knows.
    let l = g.L.Library in
    let p = c.args.schedule.now in
    let r = c.args.reader.now in
    let e = c.in_err-frames.field-0.0 in
    let kept : c.kept_size-held.result ≡ kept_size p.uses.now r.next r.kept.items = search rules in
    let held : c.kept_size-held.result ≡ used_size p.uses.now r.next (all_of fs) = kept ∙ knows.sizes r.next (omega arith) in
    let due = due_at p.uses.now r.next in
    let from = err_from_is_err_and c.from_residual.result c.from_residual.ensures.1 in
    rw (from.1, from.2) (record {
      told = λ tells. subst (λ (f : Files). IsTold (first_refused f p.most_side p.limit (used_size p.uses.now r.next (all_of fs)) due) e) (fun_ext (same tells))
          (subst (λ (n : ℕ). IsTold (first_refused (l.file c.args.library.now) p.most_side p.limit n due) e) held (c.in_err-frames.ensures.refused tells));
      first = λ tells. subst (λ (f : Files). IsFirstFetch f p.most_side p.limit (used_size p.uses.now r.next (all_of fs)) due e) (fun_ext (same tells))
          (subst (λ (n : ℕ). IsFirstFetch (l.file c.args.library.now) p.most_side p.limit n due e) held (c.in_err-frames.ensures.fetch_first tells));
    })

pub returns-clause-read : goal.returns-clause-read
returns-clause-read g c = λ files fs same knows.
    let l = g.L.Library in
    let p = c.args.schedule.now in
    let r = c.args.reader.now in
    let frames = c.in_ok-frames.frames.items in
    let kept : c.kept_size-held.result ≡ kept_size p.uses.now r.next r.kept.items = search rules in
    let held : c.kept_size-held.result ≡ used_size p.uses.now r.next (all_of fs) = kept ∙ knows.sizes r.next (omega arith) in
    let due = due_at p.uses.now r.next in
    let noted : c.note.new.kept.items ≡ r.kept.items ++ map kept_of frames = search rules in
    let left : c.forget.new.kept.items ≡ filter (is_kept p.uses.now (r.next + 1)) (r.kept.items ++ map kept_of frames) =
    c.forget.ensures ∙ ap (filter (is_kept p.uses.now (r.next + 1))) noted in (
      record {
        are = c.in_ok-frames.ensures.frames;
        pictures = λ tells. subst (λ (f : Files). ArePictures f p.most_side due frames) (fun_ext (same tells)) (c.in_ok-frames.ensures.pictures tells);
        accepted = λ tells. subst (λ (f : Files). first_refused f p.most_side p.limit (used_size p.uses.now r.next (all_of fs)) due ≡ None) (fun_ext (same tells))
            (subst (λ (n : ℕ). first_refused (l.file c.args.library.now) p.most_side p.limit n due ≡ None) held (c.in_ok-frames.ensures.accepted tells));
      },
      knows_more p fs frames r (record { next = r.next + 1; kept = c.forget.new.kept }) knows refl left,
    )

pub returns-clause-few : goal.returns-clause-few
returns-clause-few g c =
    let p = c.args.schedule.now in
    let r = c.args.reader.now in
    let frames = c.in_ok-frames.frames.items in
    let kept : c.kept_size-held.result ≡ kept_size p.uses.now r.next r.kept.items = search rules in
    let noted : c.note.new.kept.items ≡ r.kept.items ++ map kept_of frames = search rules in
    let left : c.forget.new.kept.items ≡ filter (is_kept p.uses.now (r.next + 1)) (r.kept.items ++ map kept_of frames) =
    c.forget.ensures ∙ ap (filter (is_kept p.uses.now (r.next + 1))) noted in
    let low : c.kept_size-held.result ≤ p.limit = subst (λ (n : ℕ). n ≤ p.limit) (sym kept) c.requires.few in
    few_more p frames r.next r.kept.items c.forget.new.kept.items left
    (subst (λ (n : ℕ). n + size_of_all frames ≤ p.limit) kept (c.in_ok-frames.ensures.fits low))
