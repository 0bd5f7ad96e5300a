use Rattle.std.proofs.Common.{◌≡◌, map}
use Rattle.fx_props.specs.Property.{property_made}
use Rattle.fx_props.proofs.set.PropSet.new.Given as goal

abbrev pub invariant-loop-def : goal.invariant-loop-def
invariant-loop-def l = l.properties.items ≡ map (λ def. (def.name, property_made def)) l.yielded
