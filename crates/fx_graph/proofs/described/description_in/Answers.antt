use Rattle.std.proofs.Common.{◌≡◌, ◌∙◌, All, sym, subst}
use Rattle.fx_effect.specs.Described.{DescribeClips}
use Rattle.fx_graph.specs.Described.{ShowsClip}
use Rattle.fx_graph.proofs.DescribedLaws.{all_show, alpha_all}
use Rattle.fx_graph.proofs.described.description_in.Goals as goal

pub clips_of-requires : goal.clips_of-requires
clips_of-requires g c =
    let s = (g.E.ImageEffect.meaning c.args.effect.now).shape in
    subst (All ShowsClip) (sym c.deref.ensures.value) (all_show s (s.clips c.args.context) c.describe_in_context.new.clips.items c.in_ok-describe_in_context.ensures.clips)

pub returns-clause-inputs : goal.returns-clause-inputs
returns-clause-inputs g c =
    let s = (g.E.ImageEffect.meaning c.args.effect.now).shape in
    let are = subst (DescribeClips s c.args.context) (sym c.deref.ensures.value) c.in_ok-describe_in_context.ensures.clips in
    (c.in_ok-inputs.ensures s (s.clips c.args.context) are).0

pub returns-clause-alpha : goal.returns-clause-alpha
returns-clause-alpha g c =
    let bound = g.met.E.ImageEffect in
    let e = c.args.effect.now in
    let s = (g.E.ImageEffect.meaning e).shape in
    let are = subst (DescribeClips s c.args.context) (sym c.deref.ensures.value) c.in_ok-describe_in_context.ensures.clips in
    (c.in_ok-inputs.ensures s (s.clips c.args.context) are).1 ∙ alpha_all s (s.clips c.args.context) ((bound.laws e).shape.without_clips c.args.context c.requires)
