use Rattle.std.proofs.Common.{◌≡◌, ℕ, zero, suc, ◌<◌, List, [], ◌∷◌, length, map, set, get_or, slice_get, Option, Some, None, refl, sym, ap, ◌∙◌, subst, arith}
use Rattle.std.proofs.lemmas.List.{length-map}
use Rattle.std.proofs.lemmas.Option.{slice_get-get_or, slice_get-map, slice_get_within}
use Rattle.std.specs.Option.{option_map}
use Rattle.fx_graph.specs.declared.node.Node.{Node as AnyNode}
use Rattle.fx_graph.specs.Edits.{HasParam, edited, with_edit}
use Rattle.fx_graph.specs.Shown.{Shown, shown}
use Rattle.fx_graph.specs.Kept.{AreNodes, HasOutput}
use Rattle.fx_graph.specs.Nodes.{Form}
use Rattle.fx_graph.proofs.EditLaws.{edit_keeps, set_edit}
use Rattle.fx_graph.proofs.graph.Graph.set_param.Goals as goal

map_set : {X Y : Type 0} (h : X → Y) (xs : List X) (i : ℕ) (x : X) → map h (set xs i x) ≡ set (map h xs) i (h x)
map_set h [] i x = refl
map_set h (y ∷ xs) zero x = refl
map_set h (y ∷ xs) (suc i) x = ap (λ ys. h y ∷ ys) (map_set h xs i x)

set_long : {X : Type 0} (xs : List X) (i : ℕ) (x : X) → length (set xs i x) ≡ length xs
set_long [] i x = refl
set_long (y ∷ xs) zero x = refl
set_long (y ∷ xs) (suc i) x = ap suc (set_long xs i x)

-- the node that is there
edited_is : {E : Type 0} (items : List (AnyNode E)) (k : ℕ) (old : AnyNode E) (node : Shown E)
    → slice_get (map shown items) k ≡ Some node → old ≡ get_or items k old → slice_get (map shown items) k ≡ Some (shown old)
edited_is items k old node there is =
    let low = slice_get_within (map shown items) k node there in
    let long = length-map items shown in
    slice_get-map shown items k
    ∙ ap (option_map shown) (slice_get-get_or items k old (omega (arith, low, long)) ∙ ap Some (sym is))

abbrev or_else : {X : Type 0} → X → Option X → X
or_else x None = x
or_else x (Some y) = y

pub index_mut-requires : goal.index_mut-requires
index_mut-requires g c =
    let items = c.args.self.now.nodes.items in
    omega (arith, slice_get_within (map shown items) c.args.node c.requires.node c.requires.there, length-map items shown)

pub put_param-requires : goal.put_param-requires
put_param-requires g c =
    let items = c.args.self.now.nodes.items in
    let old = c.index_mut.result.now in
    let there = edited_is items c.args.node old c.requires.node c.requires.there c.index_mut.ensures.value in
    subst (λ (n : Shown g.row.E.Denot). HasParam n.does c.args.param c.args.value.def) (ap (or_else c.requires.node) (sym c.requires.there ∙ there)) c.requires.param

pub returns-clause-others : goal.returns-clause-others
returns-clause-others g c = record {
  project = refl;
  depth = refl;
  components = refl;
  output = refl;
  file = refl;
  format = refl;
  first = refl;
  last = refl;
}

pub returns-clause-nodes : goal.returns-clause-nodes
returns-clause-nodes g c =
    let items = c.args.self.now.nodes.items in
    let new = c.put_param.new.node in
    let old = c.index_mut.result.now in
    let there = edited_is items c.args.node old c.requires.node c.requires.there c.index_mut.ensures.value in
    map_set shown items c.args.node new
    ∙ ap (set (map shown items) c.args.node) c.put_param.ensures
    ∙ set_edit c.args.param c.args.value c.args.node (map shown items) (shown old) there

pub invariant_of-self : goal.invariant_of-self
invariant_of-self g c =
    let self = c.args.self.now in
    let items = self.nodes.items in
    let new = c.put_param.new.node in
    let old = c.index_mut.result.now in
    let there = edited_is items c.args.node old c.requires.node c.requires.there c.index_mut.ensures.value in
    let nodes : map shown (set items c.args.node new) ≡ with_edit c.args.node c.args.param c.args.value (map shown items) =
    map_set shown items c.args.node new
    ∙ ap (set (map shown items) c.args.node) c.put_param.ensures
    ∙ set_edit c.args.param c.args.value c.args.node (map shown items) (shown old) there in
    let meaning = g.E.ImageEffect.meaning in
    let form : Form = (self.depth, self.components) in
    record {
      extent = self.extent;
      named = self.named;
      range = self.range;
      rendered = subst (λ (n : ℕ). HasOutput n self.output) (sym (set_long items c.args.node new)) self.rendered;
      kept = subst (λ (ns : List (Shown _)). AreNodes meaning form ns) (sym nodes)
          (edit_keeps c.args.param c.args.value meaning form c.args.node (map shown items) c.requires c.def-def.ensures.kept self.kept);
    }
