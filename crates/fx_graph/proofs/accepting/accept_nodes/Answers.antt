use Rattle.std.proofs.Common.{◌≡◌, ◌∙◌, sym, ap, arith, rules, length, drop, ◌<◌, ◌≤◌, ◌+◌, ◌++◌, ◌∷◌, [], get_or, map, subst}
use Rattle.std.specs.Prelude.{Ok, None, Some, cond, List, ℕ}
use Rattle.std.specs.Str.{bytes_eq}
use Rattle.std.specs.BTreeMap.{get_by_text}
use Rattle.std.proofs.lemmas.Result.{err_from_is_err_and}
use Rattle.std.proofs.lemmas.List.{at_drop_more, at_drop_all, map-append, length-map, length-append}
use Rattle.fx_graph.specs.Refusal.{TellsErr}
use Rattle.fx_graph.specs.Shown.{shown, names_of}
use Rattle.fx_graph.specs.Nodes.{nodes_of, node_of, place_of, IsIndex}
use Rattle.fx_graph.specs.Kept.{AreNodes}
use Rattle.fx_graph.proofs.Pushing.{nodes_pushed, no_nodes}
use Rattle.fx_graph.proofs.Making.{step_ok, step_err, index_push, rest_is}
use Rattle.fx_graph.proofs.accepting.accept_nodes.Goals as goal

pub returns-in_err-node-clause-err : goal.returns-in_err-node-clause-err
returns-in_err-node-clause-err g c =
    let find = g.E.Catalogue.find in
    let meaning = g.E.ImageEffect.meaning in
    let project = c.args.project in
    let raws = c.args.raws.now in
    let raw = c.raw-item.result in
    let i = c.loop-raw.raw-index in
    let nodes = map shown c.loop-raw.nodes.items in
    let e = c.in_err-node.field-0.0 in
    let told : TellsErr (node_of find meaning project nodes raw) e = rw c.deref.ensures.value at c.in_err-node.ensures.err in
    let here = step_err find meaning project nodes raw (drop (i + 1) raws) e told in
    let within : i < length raws = omega arith in
    let more = rest_is (nodes_of find meaning project nodes) raws i raw within c.raw-item.is in
    let p = err_from_is_err_and c.from_residual.result c.from_residual.ensures.1 in
    rw (p.1, p.2, c.loop-raw.invariant.whole, more) here

pub loop-raw-preserved : goal.loop-raw-preserved
loop-raw-preserved g c =
    let find = g.E.Catalogue.find in
    let meaning = g.E.ImageEffect.meaning in
    let project = c.args.project in
    let raws = c.args.raws.now in
    let raw = c.raw-item.result in
    let i = c.loop-raw.raw-index in
    let nodes = map shown c.loop-raw.nodes.items in
    let node = shown c.in_ok-node.node in
    let made : node_of find meaning project nodes raw ≡ Ok node = rw c.deref.ensures.value at c.in_ok-node.ensures.ok in
    let fresh : place_of (names_of nodes) node.name ≡ None = rw c.deref.ensures.value at c.in_ok-node.ensures.fresh in
    let within : i < length raws = omega arith in
    let more = rest_is (nodes_of find meaning project nodes) raws i raw within c.raw-item.is in
    let here = step_ok find meaning project nodes raw (drop (i + 1) raws) node made in
    let long : length (names_of nodes) ≡ length c.loop-raw.nodes.items = length-map nodes (λ n. n.name) ∙ length-map c.loop-raw.nodes.items shown in
    let added : (n : List ℕ) → get_by_text c.put_node.new.places n ≡ cond (bytes_eq node.name n) (Some (length (names_of nodes))) (get_by_text c.loop-raw.places n) = λ n. subst (λ k. get_by_text c.put_node.new.places n ≡ cond (bytes_eq node.name n) (Some k) (get_by_text c.loop-raw.places n)) (sym long) (c.in_ok-put_node.ensures.place n) in
    let pushed : map shown c.put_node.new.nodes.items ≡ nodes ++ node ∷ [] = ap (map shown) c.in_ok-put_node.ensures.node ∙ map-append shown c.loop-raw.nodes.items (c.in_ok-node.node ∷ []) in
    record {
      whole = c.loop-raw.invariant.whole ∙ more ∙ here ∙ ap (λ ns. nodes_of find meaning project ns (drop (i + 1) raws)) (sym pushed);
      index = subst (IsIndex c.put_node.new.places) (sym (ap names_of pushed ∙ map-append (λ n. n.name) nodes (node ∷ []))) (index_push c.loop-raw.places c.put_node.new.places (names_of nodes) node.name c.loop-raw.invariant.index fresh added);
      kept = subst (AreNodes meaning project) (sym pushed) (nodes_pushed meaning project nodes node c.loop-raw.invariant.kept (rw c.deref.ensures.value at c.in_ok-node.ensures.kept));
      count = let more : length c.put_node.new.nodes.items ≡ length c.loop-raw.nodes.items + 1 = ap length c.in_ok-put_node.ensures.node ∙ length-append c.loop-raw.nodes.items (c.in_ok-node.node ∷ []) in more ∙ ap (λ n. n + 1) c.loop-raw.invariant.count;
    }

pub returns-clause-ok : goal.returns-clause-ok
returns-clause-ok g c =
    let past : length c.args.raws.now ≤ c.loop-raw.raw-index = omega arith in
    c.loop-raw.invariant.whole ∙ at_drop_all (nodes_of g.E.Catalogue.find g.E.ImageEffect.meaning c.args.project (map shown c.loop-raw.nodes.items)) c.args.raws.now c.loop-raw.raw-index past
