use Rattle.std.proofs.Common.{◌≡◌, length, arith, rules}
use Rattle.fx_graph.proofs.accepting.put_node.Goals as goal

pub returns-clause-place : goal.returns-clause-place
returns-clause-place g c =
    let place_is : c.len.result ≡ length c.args.nodes.now.items = omega arith in
    λ n. rw (c.text.ensures, place_is) at c.in_ok-add.ensures.added n
