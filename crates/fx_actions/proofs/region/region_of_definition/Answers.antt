use Rattle.std.proofs.Common.{◌∙◌, length, sym, ap}
use Rattle.fx_actions.proofs.AnswerLemmas.{region_written, connected_long, regions_long, flags_long}
use Rattle.fx_actions.proofs.region.region_of_definition.Goals as goal

pub region_at-requires : goal.region_at-requires
region_at-requires g c =
    let m = g.E.ImageEffect.meaning c.args.effect.now in
    let v = c.args.values.now in
    let bound = g.met.E.ImageEffect in
    let regions = c.args.regions.now in
    let asked = c.in_ok-get_region_of_definition.ensures c.args.context c.requires.lawful in
    record {
      region = m.rod c.args.context v regions;
      rect = (bound.laws c.args.effect.now).region_is_rect c.args.context v regions c.requires.lawful c.requires.regions;
      there = region_written m v regions c.args.context _ _ _ c.in-Ok.is asked;
    }

pub returns-in-Ok : goal.returns-in-Ok
returns-in-Ok g c =
    let m = g.E.ImageEffect.meaning c.args.effect.now in
    let v = c.args.values.now in
    let bound = g.met.E.ImageEffect in
    let regions = c.args.regions.now in
    let asked = c.in_ok-get_region_of_definition.ensures c.args.context c.requires.lawful in
    c.region_at.ensures (m.rod c.args.context v regions) ((bound.laws c.args.effect.now).region_is_rect c.args.context v regions c.requires.lawful c.requires.regions) (region_written m v regions c.args.context _ _ _ c.in-Ok.is asked)

pub default_region-requires-clause-flags : goal.default_region-requires-clause-flags
default_region-requires-clause-flags g c =
    let s = (g.E.ImageEffect.meaning c.args.effect.now).shape in
    ap length c.requires.optional ∙ flags_long s c.args.context ∙ sym (connected_long s c.args.context c.args.values.now c.requires.lawful)
    ∙ sym (regions_long c.args.values.now c.args.regions.now c.requires.regions)

pub default_region-requires-clause-connected : goal.default_region-requires-clause-connected
default_region-requires-clause-connected g c = sym (regions_long c.args.values.now c.args.regions.now c.requires.regions)
