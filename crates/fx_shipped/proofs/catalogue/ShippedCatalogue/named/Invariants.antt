use Rattle.std.proofs.Common.{◌≡◌, drop}
use Rattle.fx_shipped.specs.Shipped.{all, effect_of, first_named}
use Rattle.fx_shipped.proofs.catalogue.ShippedCatalogue.named.Given as goal

abbrev pub invariant-loop-effect : goal.invariant-loop-effect
invariant-loop-effect l = first_named (drop l.effect-index all) l.name ≡ effect_of l.name
