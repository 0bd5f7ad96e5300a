use Rattle.std.proofs.Common.{◌≡◌, [], ◌∷◌, codes, ℤ, pos, ◌+ℤ◌, ◌-ℤ◌, w64, to_z, of_z, subst, arith}
use Rattle.std.proofs.lemmas.Int.{ints}
use Rattle.fx_props.specs.Entries.{Wrote, frame_ranges}
use Rattle.fx_units.proofs.actions.toys.WideImageEffect.get_frames_needed.Goals as goal

pub returns : goal.returns
returns c = λ context lawful.
    let t = c.args.values.now.frame in
    let low = c.requires.asked.frame.0 in
    let high = c.requires.asked.frame.1 in
    let before : to_z w64 (of_z w64 (to_z w64 (of_z w64 t) -ℤ pos 1)) ≡ t -ℤ pos 1 = omega (arith, ints, low, high) in
    let behind : to_z w64 (of_z w64 (to_z w64 (of_z w64 t) +ℤ pos 1)) ≡ t +ℤ pos 1 = omega (arith, ints, low, high) in
    let old = c.args.out_args.now in
    let new = c.write_frames.new.out_args in
    subst (λ (first : ℤ). Wrote (frame_ranges (codes "A" ∷ codes "B" ∷ []) (λ clip. (first, t +ℤ pos 1) ∷ [])) old new) before
    (subst (λ (last : ℤ). Wrote (frame_ranges (codes "A" ∷ codes "B" ∷ []) (λ clip. (to_z w64 (of_z w64 (to_z w64 (of_z w64 t) -ℤ pos 1)), last) ∷ [])) old new) behind c.in_ok-write_frames.ensures.written)
