-- A list that no row refuses expands to some node.
use Rattle.std.proofs.Common.{◌≡◌, refl, ap, sym, ◌∙◌, ℕ, ◌≤◌, arith, Bool, true, false, List, [], ◌∷◌, ◌++◌, codes, Option, Some, None, bytes_eq, if◌then◌else◌}
use Rattle.std.proofs.lemmas.Bool.{false≢true}
use Rattle.fx_text.specs.Nodes.{Node, Group}
use Rattle.fx_text.specs.declared.raw.RawWork.{RawWork}
use Rattle.fx_text.specs.declared.raw.RawWork.TheVariants as work
use Rattle.fx_graph.specs.Refusal.{first_of, node_path}
use Rattle.fx_group.specs.Names.{is_among}
use Rattle.fx_group.specs.Faults.{name_fault, work_fault, use_fault, node_fault, nodes_fault, node_names}
use Rattle.fx_group.specs.Expansion.{group_named}
use Rattle.fx_group.specs.Sizes.{work_size, nodes_size, group_size}
use Rattle.fx_group.proofs.Texts.{or_none, not_none}
use Rattle.fx_group.proofs.InstanceLaws.{AreSound}

-- each of these groups expands to some node
abbrev EachHasSome : List Group → Type 0
EachHasSome gs = (group : List ℕ) (g : Group) → group_named gs group ≡ Some g → 1 ≤ group_size gs group

work_some : (gs : List Group) → EachHasSome gs → (known : List (List ℕ)) (path : List ℕ) (w : RawWork) → work_fault gs (is_among known) path w ≡ None → 1 ≤ work_size (group_size gs) w
work_some gs each known path (work.Source pattern first last hold depth components) rows = omega (arith)
work_some gs each known path (work.Effect effect context clips params) rows = omega (arith)
work_some gs each known path (work.GroupUse group clips) rows = by (group_named gs group) refl rows
  where
    by : (o : Option Group) → group_named gs group ≡ o → use_fault (is_among known) path o clips ≡ None → 1 ≤ group_size gs group
    by None found e = not_none _ e
    by (Some g) found e = each group g found

pub nodes_some : (gs : List Group) → EachHasSome gs → (known : List (List ℕ)) (ns : List Node) (name : List ℕ) → nodes_fault gs known ns ≡ None → is_among (node_names ns) name ≡ true
    → 1 ≤ nodes_size (group_size gs) ns
nodes_some gs each known [] name rows among = absurd (false≢true among)
nodes_some gs each known (n ∷ ns) name rows among =
    let r = or_none (node_fault gs (is_among known) n) (nodes_fault gs (known ++ n.name ∷ []) ns) rows in
    let own = or_none (name_fault (node_path n.path (codes "name")) (is_among known n.name) n.name) (first_of (work_fault gs (is_among known) n.path n.work ∷ [])) r.0 in
    let works = or_none (work_fault gs (is_among known) n.path n.work) None own.1 in
    let here : 1 ≤ work_size (group_size gs) n.work = work_some gs each known n.path n.work works.0 in
    omega (arith, here)

pub named_some : (gs : List Group) → AreSound gs → EachHasSome gs
named_some [] sound group g found = not_none g (sym found)
named_some (h ∷ gs) sound group g found = go (bytes_eq h.name group) refl (named_some gs sound.1)
  where
    go : (b : Bool) → bytes_eq h.name group ≡ b → EachHasSome gs → 1 ≤ (if b then nodes_size (group_size gs) h.nodes else group_size gs group)
    go true e each = nodes_some gs each h.inputs h.nodes h.output sound.0.0 sound.0.1
    go false e each = each group g (ap (λ b. if b then Some h else group_named gs group) (sym e) ∙ found)
