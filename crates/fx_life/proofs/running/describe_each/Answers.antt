use Rattle.std.proofs.Common.{◌<◌, length, rules, ◌∙◌}
use Rattle.fx_life.proofs.RunningLemmas.{used_more}
use Rattle.fx_life.proofs.running.describe_each.Goals as goal

pub describe_once-requires : goal.describe_once-requires
describe_once-requires g c =
    let inside : c.loop-one.one-index < length c.args.uses.now = search rules in
    rw c.loop-one.invariant.effect (c.requires.supported c.loop-one.one-index _ inside)

pub loop-one-preserved : goal.loop-one-preserved
loop-one-preserved g c =
    let inside : c.loop-one.one-index < length c.args.uses.now = search rules in
    record {
      effect = c.describe_once.ensures.effect ∙ c.loop-one.invariant.effect;
      live = c.describe_once.ensures.live ∙ c.loop-one.invariant.live;
      contexts =
          used_more c.loop-one.plugin.contexts c.describe_once.new.plugin.contexts c.args.uses.now
          c.loop-one.one-index _ inside
          c.loop-one.invariant.contexts c.in_ok-describe_once.ensures.contexts;
    }
