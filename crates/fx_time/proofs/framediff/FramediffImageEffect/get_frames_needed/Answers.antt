use Rattle.std.proofs.Common.{ℤ, [], ◌∷◌, codes, subst, w64, FitsSigned, rules}
use Rattle.std.proofs.lemmas.Int.{to_z-of_z}
use Rattle.fx_props.specs.Entries.{Wrote, frame_ranges}
use Rattle.fx_time.specs.Times.{alone}
use Rattle.fx_time.proofs.framediff.FramediffImageEffect.get_frames_needed.Goals as goal

pub returns : goal.returns
returns c context lawful =
    let then : FitsSigned w64 c.earlier-then.result = search rules in
    let now : FitsSigned w64 c.args.values.now.frame = search rules in
    let wrote = simp to_z-of_z at c.in_ok-write_frames.ensures.written in
    subst (λ (t : ℤ). Wrote (frame_ranges (codes "Source" ∷ []) (λ clip. alone t ∷ alone c.args.values.now.frame ∷ [])) c.args.out_args.now c.write_frames.new.out_args) c.earlier-then.ensures wrote
