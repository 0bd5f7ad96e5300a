use Rattle.fx_props.proofs.SetLemmas.{property_among, copied_value}
use Rattle.fx_props.proofs.set.PropSet.find.Goals as goal

pub returns : goal.returns
returns c =
    rw (← c.self.view_is, property_among c.self.inside.properties.items c.args.name.now, ← c.deref.ensures.value, ← c.named.ensures) (copied_value c.named.result)
