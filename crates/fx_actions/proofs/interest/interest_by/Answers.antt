use Rattle.std.proofs.Common.{◌∙◌, ap, subst, length, replicate}
use Rattle.fx_props.specs.declared.value.PropKind.TheVariants as kind
use Rattle.fx_props.specs.Entries.{AreBlank}
use Rattle.fx_props.specs.declared.names.TheConstants.{CLIP_REGION}
use Rattle.fx_actions.proofs.AnswerLemmas.{names_differ, interest_written, interest_left, each_clip-same}
use Rattle.fx_actions.proofs.interest.interest_by.Goals as goal

pub clip_set_of_blanks-requires : goal.clip_set_of_blanks-requires
clip_set_of_blanks-requires g c =
    let bound = g.met.E.ImageEffect in
    names_differ (g.E.ImageEffect.meaning c.args.effect.now) c.args.values.now c.args.names.now (bound.laws c.args.effect.now) c.requires.names

pub get_regions_of_interest-requires-clause-blank : goal.get_regions_of_interest-requires-clause-blank
get_regions_of_interest-requires-clause-blank g c =
    let names = c.requires.names in
    record {
      context = names.context;
      lawful = names.lawful;
      blank = subst (AreBlank c.in_ok-out_args.out_args CLIP_REGION.now kind.Fix) names.are c.in_ok-out_args.ensures;
    }

pub regions_in-requires : goal.regions_in-requires
regions_in-requires g c =
    let m = g.E.ImageEffect.meaning c.args.effect.now in
    let v = c.args.values.now in
    let names = c.requires.names in
    let bound = g.met.E.ImageEffect in
    let asked = c.in_ok-get_regions_of_interest.ensures names.context c.args.window names.lawful c.requires.window c.requires.region in
    record {
      regions = m.roi v c.args.window;
      are = interest_written m v c.args.window c.args.names.now names _ _ _ (bound.laws c.args.effect.now) c.requires.window.bounds c.in-Ok.is asked;
    }

pub returns-in-Ok : goal.returns-in-Ok
returns-in-Ok g c =
    let m = g.E.ImageEffect.meaning c.args.effect.now in
    let v = c.args.values.now in
    let names = c.requires.names in
    let bound = g.met.E.ImageEffect in
    let asked = c.in_ok-get_regions_of_interest.ensures names.context c.args.window names.lawful c.requires.window c.requires.region in
    c.regions_in.ensures (m.roi v c.args.window) (interest_written m v c.args.window c.args.names.now names _ _ _ (bound.laws c.args.effect.now) c.requires.window.bounds c.in-Ok.is asked)

pub returns : goal.returns
returns g c =
    let m = g.E.ImageEffect.meaning c.args.effect.now in
    let names = c.requires.names in
    let asked = c.in_ok-get_regions_of_interest.ensures names.context c.args.window names.lawful c.requires.window c.requires.region in
    let same = interest_left m c.args.values.now c.args.window names.context _ _ _ c.in-Default.is asked in
    c.in_ok-vec-in-Default.ensures.items_if_clones_equal (λ y e. e)
    ∙ ap (λ ns. replicate (length ns) c.args.window) c.items.ensures
    ∙ each_clip-same (m.roi c.args.values.now c.args.window) c.args.window (length c.args.names.now) same
