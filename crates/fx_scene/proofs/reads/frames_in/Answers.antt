use Rattle.std.proofs.Common.{◌≡◌, ◌∙◌, ◌++◌, ap, sym, subst, rules, arith, w64, to_z, of_z, ℤ, List, pos, ◌+ℤ◌, ◌≤ℤ◌, ◌<ℤ◌, length}
use Rattle.std.proofs.lemmas.Int.{to_z-of_z, ints}
use Rattle.std.specs.List.{filter}
use mir.Val.{SFits}
use Rattle.fx_scene.specs.Frames.{in_some, frames_of, first_least, last_greatest}
use Rattle.fx_scene.specs.Frames.{int_span}
use Rattle.fx_scene.proofs.SpanLemmas.{none_frames, frames_start, frames_step, frames_end, up_to, past_it, sum_fits}
use Rattle.fx_scene.proofs.reads.frames_in.Goals as goal

pub returns-then-is_empty : goal.returns-then-is_empty
returns-then-is_empty c = c.new-frames.ensures.items ∙ sym (none_frames c.args.spans.now (sym c.is_empty.ensures ∙ c.if-is_empty.true))

pub loop-f-init : goal.loop-f-init
loop-f-init c =
    let f1 : SFits w64 c.least_of-first.result = search rules in
    let f2 : SFits w64 c.greatest_of-last.result = search rules in
    let spans = c.args.spans.now in
    simp to_z-of_z (ap (λ (xs : List ℤ). xs ++ filter (in_some spans) (int_span c.least_of-first.result c.greatest_of-last.result)) c.new-frames.ensures.items
    ∙ ap (λ (a : ℤ). filter (in_some spans) (int_span a c.greatest_of-last.result)) c.least_of-first.ensures
    ∙ ap (λ (b : ℤ). filter (in_some spans) (int_span (first_least spans) b)) c.greatest_of-last.ensures.value
    ∙ frames_start spans (search rules))

pub loop-f-preserved : goal.loop-f-preserved
loop-f-preserved c =
    let f2 : SFits w64 c.greatest_of-last.result = search rules in
    let near = c.greatest_of-last.ensures.near in let low = near.0 in let high = near.1 in
    let f = to_z w64 c.loop-f.f-bits in
    let last = c.greatest_of-last.result in
    let f3 : SFits w64 (last +ℤ pos 1) = sum_fits last low high in
    let test = simp to_z-of_z at c.loop-f-test.true in
    let below : f ≤ℤ last = up_to f last test in
    let f4 : SFits w64 (f +ℤ pos 1) = search rules in
    let inv = simp to_z-of_z at c.loop-f.invariant in
    simp to_z-of_z (frames_step (in_some c.args.spans.now) c.loop-f.frames.items c.add_if.new.frames.items _ f last below c.in_ok-add_if.ensures inv)

pub returns : goal.returns
returns c =
    let f2 : SFits w64 c.greatest_of-last.result = search rules in
    let near = c.greatest_of-last.ensures.near in let low = near.0 in let high = near.1 in
    let f = to_z w64 c.loop-f.f-bits in
    let last = c.greatest_of-last.result in
    let f3 : SFits w64 (last +ℤ pos 1) = sum_fits last low high in
    let test = simp to_z-of_z at c.loop-f-test.false in
    frames_end (in_some c.args.spans.now) c.loop-f.frames.items _ f last (past_it f last test) (simp to_z-of_z at c.loop-f.invariant)
