use Rattle.std.proofs.Common.{subst}
use Rattle.fx_props.specs.declared.value.PropKind.TheVariants as kind
use Rattle.fx_props.specs.Entries.{AreBlank}
use Rattle.fx_props.specs.declared.names.TheConstants.{CLIP_FRAMES}
use Rattle.fx_actions.proofs.AnswerLemmas.{names_differ, frames_written}
use Rattle.fx_actions.proofs.frames.frames_needed.Goals as goal

pub clip_set_of_blanks-requires : goal.clip_set_of_blanks-requires
clip_set_of_blanks-requires g c =
    let bound = g.met.E.ImageEffect in
    names_differ (g.E.ImageEffect.meaning c.args.effect.now) c.args.values.now c.args.names.now (bound.laws c.args.effect.now) c.requires.names

pub get_frames_needed-requires-clause-blank : goal.get_frames_needed-requires-clause-blank
get_frames_needed-requires-clause-blank g c =
    let names = c.requires.names in
    record {
      context = names.context;
      lawful = names.lawful;
      blank = subst (AreBlank c.in_ok-out_args.out_args CLIP_FRAMES.now kind.Fix) names.are c.in_ok-out_args.ensures;
    }

pub frames_in-requires : goal.frames_in-requires
frames_in-requires g c =
    let m = g.E.ImageEffect.meaning c.args.effect.now in
    let v = c.args.values.now in
    let names = c.requires.names in
    let asked = c.in_ok-get_frames_needed.ensures names.context names.lawful in
    record {
      spans = m.spans v;
      are = frames_written m v c.args.names.now names _ _ _ c.in-Ok.is asked;
    }
