use Rattle.std.proofs.Common.{ℤ, [], ◌∷◌, codes, subst, w64, FitsSigned, rules}
use Rattle.std.proofs.lemmas.Int.{to_z-of_z}
use Rattle.fx_props.specs.Entries.{Wrote, frame_ranges}
use Rattle.fx_time.specs.Times.{alone}
use Rattle.fx_time.proofs.timeoffset.TimeoffsetImageEffect.get_frames_needed.Goals as goal

pub returns : goal.returns
returns c context lawful =
    let moment : FitsSigned w64 c.moment-moment.result = search rules in
    let wrote = simp to_z-of_z at c.in_ok-write_frames.ensures.written in
    subst (λ (t : ℤ). Wrote (frame_ranges (codes "Source" ∷ []) (λ clip. alone t ∷ [])) c.args.out_args.now c.write_frames.new.out_args) c.moment-moment.ensures wrote
