use Rattle.std.proofs.Common.{List, map, subst, sym}
use Rattle.std.specs.List.{AllByRecursion}
use Rattle.fx_graph.specs.Shown.{shown}
use Rattle.fx_takes.specs.Shown.{TakeShown, take_shown}
use Rattle.fx_proxy.specs.Scaled.{IsShownTake, scaled_node}
use Rattle.fx_proxy.proofs.TakeLemmas.{takes_hidden, takes_shown, takes_still}
use Rattle.fx_proxy.proofs.taking.scaled_takes.Goals as goal

pub scale_each-requires-clause-takes : goal.scale_each-requires-clause-takes
scale_each-requires-clause-takes g c = takes_shown (map shown c.args.graph.now.nodes.items) c.args.takes.list.items c.requires.edits

pub returns-clause-edits : goal.returns-clause-edits
returns-clause-edits g c =
    let number = g.E.Catalogue.number_of in
    let nodes = map shown c.args.graph.now.nodes.items in
    let old = c.args.takes.list.items in
    let small = map (scaled_node number c.args.q) nodes in
    takes_hidden small c.scale_each.new.takes.items
    (subst (λ (ts : List TakeShown). AllByRecursion (IsShownTake small) ts) (sym c.scale_each.ensures)
    (takes_still number c.args.q nodes (map take_shown old) (takes_shown nodes old c.requires.edits)))
