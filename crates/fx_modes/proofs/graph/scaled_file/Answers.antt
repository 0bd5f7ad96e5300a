use Rattle.std.proofs.Common.{◌≡◌, List, length, map, ap, arith, subst, sym}
use Rattle.std.proofs.lemmas.List.{length-map}
use Rattle.fx_graph.specs.Shown.{Shown, shown}
use Rattle.fx_proxy.specs.Scaled.{scaled_node, scaled_take}
use Rattle.fx_scene.specs.Takes.{AreEdits, edits_of}
use Rattle.fx_shipped.specs.declared.shipped.Shipped.{Shipped}
use Rattle.fx_shipped.specs.Shipped.{number_of}
use Rattle.fx_takes.specs.Shown.{take_shown}
use Rattle.fx_modes.specs.Graphs.{Graph}
use Rattle.fx_modes.proofs.graph.scaled_file.Goals as goal

pub returns-clause-takes : goal.returns-clause-takes
returns-clause-takes c =
    let q = c.args.q in
    let nodes = map shown c.args.file.graph.nodes.items in
    let old = c.args.file.takes.list.items in
    let new = c.scaled_takes-takes.result.list.items in
    let a = length-map old take_shown in
    let b = length-map new take_shown in
    let d = length-map (map take_shown old) (scaled_take number_of q nodes) in
    let same : length (map take_shown new) ≡ length (map (scaled_take number_of q nodes) (map take_shown old)) =
    ap length c.scaled_takes-takes.ensures.takes in
    let few = c.requires.takes.few in
    let edits : AreEdits (map (scaled_node number_of q) nodes) (edits_of new) = c.scaled_takes-takes.ensures.edits in
    record {
      few = omega (arith, a, b, d, same, few);
      edits = subst (λ (ns : List (Shown Shipped)). AreEdits ns (edits_of new)) (sym (ap (λ (g : Graph). g.nodes) c.in-Ok.ensures.graph)) edits;
    }
