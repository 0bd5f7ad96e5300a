use Rattle.std.proofs.Common.{◌≡◌, ℕ, suc, ◌+◌, ◌-◌, ◌*◌, List, ◌++◌, take, drop, length, refl, sym, ap, ◌∙◌, append_assoc, Result, Ok, Err, OnErr, arith}
use Rattle.std.proofs.lemmas.List.{take_at}
use Rattle.fx_pam.specs.Fronts.{fronts}
use Rattle.fx_pam.proofs.writer.push_fronts.Goals as goal

-- the front of one run more
one-front : (size kept i : ℕ) (row old so_far new : List ℕ) → so_far ≡ old ++ fronts size kept row i
    → new ≡ so_far ++ take (i * size + kept - i * size) (drop (i * size) row) → new ≡ old ++ fronts size kept row (i + 1)
one-front size kept i row old so_far new before now =
    let wide : i * size + kept - i * size ≡ kept = omega arith in
    let more : i + 1 ≡ suc i = omega arith in
    now
    ∙ ap (λ n. so_far ++ take n (drop (i * size) row)) wide
    ∙ ap (λ out. out ++ take kept (drop (i * size) row)) before
    ∙ append_assoc old (fronts size kept row i) (take kept (drop (i * size) row))
    ∙ ap (λ n. old ++ fronts size kept row n) (sym more)

-- what stands in front of what was pushed
begun_so : (old more now : List ℕ) → now ≡ old ++ more → take (length old) now ≡ old
begun_so old more now is = ap (take (length old)) is ∙ take_at old more (length old) refl

on_err : {A B : Type 0} {P : Type 0} (r : Result A B) → P → OnErr r P
on_err (Ok a) p = _
on_err (Err e) p = p

pub returns-in_err-extend_from_slice-clause-err : goal.returns-in_err-extend_from_slice-clause-err
returns-in_err-extend_from_slice-clause-err c =
    on_err c.from_residual.result
    (begun_so c.args.out.now.items (fronts c.args.size c.args.kept c.args.row.now c.loop-i.i) c.extend_from_slice.new.self.items (c.in_err-extend_from_slice.ensures.items ∙ c.loop-i.invariant))

pub loop-i-preserved : goal.loop-i-preserved
loop-i-preserved c =
    one-front c.args.size c.args.kept c.loop-i.i c.args.row.now c.args.out.now.items c.loop-i.out.items c.extend_from_slice.new.self.items c.loop-i.invariant c.in_ok-extend_from_slice.ensures.items
