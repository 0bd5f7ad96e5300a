-- A list expands to as many nodes as its uses say, whatever stands before it and whatever its clips are connected to.
use Rattle.std.proofs.Common.{◌≡◌, refl, ap, sym, ◌∙◌, ℕ, ◌+◌, arith, Bool, true, false, List, [], ◌∷◌, length, length-append, add_assoc, add-zero, zero-add, bytes_eq, if◌then◌else◌}
use Rattle.fx_text.specs.Nodes.{Node, Group, Graph}
use Rattle.fx_text.specs.declared.raw.RawWork.{RawWork}
use Rattle.fx_text.specs.declared.raw.RawWork.TheVariants as work
use Rattle.fx_group.specs.Expansion.{latest_first, Targets, Flat, Expander, work_expanded, nodes_expanded, group_expanded, expander, inputs_meant, expanded}
use Rattle.fx_group.specs.Sizes.{work_size, nodes_size, group_size, capped}

-- an expander makes as many nodes of each group as this size says
abbrev Makes : Expander → (List ℕ → ℕ) → Type 0
Makes expand size = (group prefix : List ℕ) (clips : Targets) → length (expand group prefix clips).0 ≡ size group

work_long : (expand : Expander) (size : List ℕ → ℕ) → Makes expand size → (prefix : List ℕ) (flat : Flat) (name path : List ℕ) (w : RawWork)
    → length (work_expanded expand prefix flat name path w).nodes ≡ length flat.nodes + work_size size w
work_long expand size makes prefix flat name path (work.Source pattern first last hold depth components) = length-append flat.nodes _
work_long expand size makes prefix flat name path (work.Effect effect context clips params) = length-append flat.nodes _
work_long expand size makes prefix flat name path (work.GroupUse group clips) = length-append flat.nodes _ ∙ ap (λ n. length flat.nodes + n) (makes group _ _)

nodes_long : (expand : Expander) (size : List ℕ → ℕ) → Makes expand size → (prefix : List ℕ) (flat : Flat) (ns : List Node)
    → length (nodes_expanded expand prefix flat ns).nodes ≡ length flat.nodes + nodes_size size ns
nodes_long expand size makes prefix flat [] = sym (add-zero (length flat.nodes))
nodes_long expand size makes prefix flat (n ∷ ns) =
    nodes_long expand size makes prefix (work_expanded expand prefix flat n.name n.path n.work) ns
    ∙ ap (λ l. l + nodes_size size ns) (work_long expand size makes prefix flat n.name n.path n.work)
    ∙ add_assoc (length flat.nodes) (work_size size n.work) (nodes_size size ns)

group_long : (gs : List Group) → Makes (expander gs) (group_size gs)
group_long [] group prefix clips = refl
group_long (g ∷ gs) group prefix clips = go (bytes_eq g.name group) (group_long gs)
  where
    go : (b : Bool) → Makes (expander gs) (group_size gs) → length (if b then group_expanded (expander gs) g prefix clips else expander gs group prefix clips).0
        ≡ (if b then nodes_size (group_size gs) g.nodes else group_size gs group)
    go true makes = nodes_long (expander gs) (group_size gs) makes prefix (record { nodes = []; others = inputs_meant g.inputs clips }) g.nodes ∙ zero-add (nodes_size (group_size gs) g.nodes)
    go false makes = makes group prefix clips

-- the number of nodes of the expanded list
pub expanded_long : (raw : Graph) → length (expanded raw) ≡ nodes_size (group_size (latest_first raw.groups)) raw.nodes
expanded_long raw = nodes_long (expander (latest_first raw.groups)) (group_size (latest_first raw.groups)) (group_long (latest_first raw.groups)) [] (record { nodes = []; others = [] }) raw.nodes ∙ zero-add (nodes_size (group_size (latest_first raw.groups)) raw.nodes)

-- counted up to the same bound step by step
pub capped-add : (a b : ℕ) → capped (capped a + capped b) ≡ capped (a + b)
capped-add a b = omega (arith)
