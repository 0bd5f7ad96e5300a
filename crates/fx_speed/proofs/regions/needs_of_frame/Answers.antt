use Rattle.std.proofs.Common.{pos}
use Rattle.fx_speed.proofs.regions.needs_of_frame.Goals as goal

pub needs_of_node-requires-clause-reached : goal.needs_of_node-requires-clause-reached
needs_of_node-requires-clause-reached g c =
    let regions = simp c.from.ensures at c.in_ok-regions.ensures in
    regions.all _ _ (c.requires c.loop-node_frame.node_frame-index (record { node = 0; frame = pos 0 }) c.loop-node_frame-test.true)
