-- The nodes that are kept are those that differ from the instance's.
use Rattle.std.proofs.Common.{◌≡◌, rules}
use Rattle.std.proofs.lemmas.Fn.{filter_same}
use Rattle.fx_life.specs.Plugin.{without}
use Rattle.fx_life.proofs.described.Described.destroy_instance.Goals as goal

pub returns-clause-ok : goal.returns-clause-ok
returns-clause-ok g c =
    let kept : c.retain.new.self.items ≡ without c.args.instance.node c.self.inside.live.items =
    filter_same _ _ _ (λ x b f' k. search rules) _ _ c.retain.ensures.filtered in
    search (rules, kept)

pub returns-clause-step : goal.returns-clause-step
returns-clause-step g c =
    let kept : c.retain.new.self.items ≡ without c.args.instance.node c.self.inside.live.items =
    filter_same _ _ _ (λ x b f' k. search rules) _ _ c.retain.ensures.filtered in
    λ phases idle. search (rules, kept)
