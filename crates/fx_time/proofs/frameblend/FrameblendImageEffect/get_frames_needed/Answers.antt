use Rattle.std.proofs.Common.{◌≡◌, [], ◌∷◌, codes, ℤ, pos, ◌+ℤ◌, ◌-ℤ◌, w64, to_z, of_z, subst, arith}
use Rattle.std.specs.Prelude.{All}
use Rattle.std.proofs.lemmas.Int.{ints}
use Rattle.std.proofs.lemmas.List.Elements.{All-cons, All-nil}
use Rattle.fx_props.specs.Entries.{AreModerate, Wrote, frame_ranges}
use Rattle.fx_time.specs.Frameblend.{radius}
use Rattle.fx_time.proofs.BlendLaws.{span_moderate}
use Rattle.fx_time.proofs.frameblend.FrameblendImageEffect.get_frames_needed.Goals as goal

pub write_frames-requires-clause-near : goal.write_frames-requires-clause-near
write_frames-requires-clause-near c =
    let t = c.args.values.now.frame in
    let r = c.radius-radius.result in
    let frame = c.requires.asked.frame in
    let low = frame.0 in
    let high = frame.1 in
    let few = c.radius-radius.ensures.few in
    All-cons (λ s. All AreModerate s.now) _ []
    (span_moderate t (to_z w64 (of_z w64 (to_z w64 (of_z w64 t) -ℤ to_z w64 r))) (to_z w64 (of_z w64 (to_z w64 (of_z w64 t) +ℤ to_z w64 r))) r frame few (omega (arith, ints)) (omega (arith, ints)))
    (All-nil (λ s. All AreModerate s.now))

pub returns : goal.returns
returns c = λ context lawful.
    let v = c.args.values.now in
    let t = v.frame in
    let r = c.radius-radius.result in
    let low = c.requires.asked.frame.0 in
    let high = c.requires.asked.frame.1 in
    let few = c.radius-radius.ensures.few in
    let value = c.radius-radius.ensures.value in
    let before : to_z w64 (of_z w64 (to_z w64 (of_z w64 t) -ℤ to_z w64 r)) ≡ t -ℤ pos (radius v) = omega (arith, ints) in
    let behind : to_z w64 (of_z w64 (to_z w64 (of_z w64 t) +ℤ to_z w64 r)) ≡ t +ℤ pos (radius v) = omega (arith, ints) in
    let old = c.args.out_args.now in
    let new = c.write_frames.new.out_args in
    subst (λ (first : ℤ). Wrote (frame_ranges (codes "Source" ∷ []) (λ clip. (first, t +ℤ pos (radius v)) ∷ [])) old new) before
    (subst (λ (last : ℤ). Wrote (frame_ranges (codes "Source" ∷ []) (λ clip. (to_z w64 (of_z w64 (to_z w64 (of_z w64 t) -ℤ to_z w64 r)), last) ∷ [])) old new) behind c.in_ok-write_frames.ensures.written)
