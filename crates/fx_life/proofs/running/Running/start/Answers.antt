use Rattle.std.proofs.Common.{◌≡◌, All, ap, sym, subst}
use Rattle.std.specs.List.{Contains}
use Rattle.fx_life.specs.Plugin.{Plugin}
use Rattle.fx_life.proofs.running.Running.start.Goals as goal

pub begin-requires-clause-supported : goal.begin-requires-clause-supported
begin-requires-clause-supported g c =
    let is : c.in_ok-plugin.plugin.effect ≡ c.args.effect = ap (λ (p : Plugin _). p.effect) c.in_ok-plugin.ensures in
    subst (λ e. All (λ u. Contains (g.E.ImageEffect.meaning e).shape.contexts u.context) c.args.uses.now) (sym is)
    c.requires.supported
