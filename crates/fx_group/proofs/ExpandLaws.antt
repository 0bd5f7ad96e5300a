-- A graph of format 2 in which no fault is found, expanded.
use Rattle.std.proofs.Common.{◌≡◌, refl, ap, sym, ◌∙◌, subst, ℕ, ◌≤◌, ◌<◌, nat_eq, nat_lt, ◌||◌, arith, Bool, true, false, List, [], ◌∷◌, ◌++◌, length, reverse, append_assoc, append-nil, codes, Option, Some, None, Result, Ok, Err, if◌then◌else◌}
use Rattle.std.proofs.lemmas.Bool.{false≢true}
use Rattle.std.proofs.lemmas.Bool.Decides.{nat_tests}
use Rattle.std.proofs.lemmas.Grind.{reverse_onto}
use Rattle.std.proofs.lemmas.List.{reverse-reverse}
use Rattle.fx_base.specs.declared.limits.TheConstants.{MOST_NODES}
use Rattle.fx_text.specs.Fault.{Fault, told}
use Rattle.fx_text.specs.declared.fault.GraphFault.{GraphFault}
use Rattle.fx_text.specs.declared.fault.GraphFault.TheVariants as fault
use Rattle.fx_text.specs.Nodes.{Node, Group, Graph}
use Rattle.fx_text.specs.declared.fault.GraphCode.TheVariants.{TooManyNodes}
use Rattle.fx_graph.specs.Refusal.{Tells, where_so, first_of, refused_or}
use Rattle.fx_group.specs.Names.{is_among}
use Rattle.fx_group.specs.Faults.{groups_fault, nodes_fault, node_names, expand_fault}
use Rattle.fx_group.specs.Expansion.{behind, latest_first, most_nodes, Flat, meant, nodes_expanded, expander, flat_of, expanded}
use Rattle.fx_group.specs.Sizes.{nodes_size, group_size, capped}
use Rattle.fx_group.specs.Theorem.{formula_of, AreInstances}
use Rattle.fx_group.specs.Graph.{expanded_graph, expand_of, lists_fault, AreInstancesOf}
use Rattle.fx_group.proofs.Texts.{text_same, or_none}
use Rattle.fx_group.proofs.InstanceLaws.{expanded_are, sound_groups, AreSound, unless_so}
use Rattle.fx_group.proofs.SizeLaws.{expanded_long}
use Rattle.fx_group.proofs.SomeLaws.{nodes_some, named_some}

-- ---- groups, of which the latest stands first

behind_reverse : (before gs : List Group) → behind before gs ≡ reverse gs ++ before
behind_reverse before [] = refl
behind_reverse before (g ∷ gs) =
    behind_reverse (g ∷ before) gs ∙ sym (append_assoc (reverse gs) (g ∷ []) before)
    ∙ ap (λ xs. xs ++ before) (sym (reverse_onto gs g []))

pub latest_is : (gs : List Group) → latest_first gs ≡ reverse gs
latest_is gs = behind_reverse [] gs ∙ append-nil (reverse gs)

-- ---- the count

pub few_is : (n size : ℕ) → size ≡ capped n → size ≤ MOST_NODES → nat_lt most_nodes n ≡ false
few_is n size is few =
    let low : n ≤ most_nodes = omega arith in
    grind (arith, nat_tests)

pub many_is : (n size : ℕ) → size ≡ capped n → MOST_NODES < size → nat_lt most_nodes n ≡ true
many_is n size is many =
    let high : most_nodes < n = omega arith in
    grind (arith, nat_tests)

not_many : (n : ℕ) → nat_lt most_nodes n ≡ false → n ≤ MOST_NODES
not_many n h = grind (arith, nat_tests)

-- ---- faults

pub lists_is : (raw : Graph) → nat_eq raw.format 1 ≡ false → expand_fault raw ≡ lists_fault (reverse raw.groups) raw.nodes
lists_is raw two =
    ap (λ b. if b then None else first_of (groups_fault 0 [] raw.groups ∷ nodes_fault (latest_first raw.groups) [] raw.nodes
    ∷ where_so (nat_lt most_nodes (length (expanded raw))) TooManyNodes (codes "nodes") ∷ [])) two
    ∙ ap (λ n. first_of (groups_fault 0 [] raw.groups ∷ nodes_fault (latest_first raw.groups) [] raw.nodes
    ∷ where_so (nat_lt most_nodes n) TooManyNodes (codes "nodes") ∷ [])) (expanded_long raw)
    ∙ ap (λ gs. first_of (groups_fault 0 [] raw.groups ∷ nodes_fault gs [] raw.nodes
    ∷ where_so (nat_lt most_nodes (nodes_size (group_size gs) raw.nodes)) TooManyNodes (codes "nodes") ∷ [])) (latest_is raw.groups)
    ∙ ap (λ gs. first_of (groups_fault 0 [] gs ∷ nodes_fault (reverse raw.groups) [] raw.nodes
    ∷ where_so (nat_lt most_nodes (nodes_size (group_size (reverse raw.groups)) raw.nodes)) TooManyNodes (codes "nodes") ∷ [])) (sym (reverse-reverse raw.groups))

module _ (raw : Graph) (two : nat_eq raw.format 1 ≡ false) (none : lists_fault (reverse raw.groups) raw.nodes ≡ None) where
  flat_is : flat_of raw ≡ nodes_expanded (expander (reverse raw.groups)) [] (record { nodes = []; others = [] }) raw.nodes
  flat_is = ap (λ gs. nodes_expanded (expander gs) [] (record { nodes = []; others = [] }) raw.nodes) (latest_is raw.groups)

  pub made_graph : (flat : Flat) (node : List ℕ) → flat ≡ nodes_expanded (expander (reverse raw.groups)) [] (record { nodes = []; others = [] }) raw.nodes
      → node ≡ meant flat.others [] raw.output.node
      → expand_of raw ≡ Ok (record raw { groups = []; nodes = flat.nodes; output = record raw.output { node = node } })
  made_graph flat node is named =
      let same : flat ≡ flat_of raw = is ∙ sym flat_is in
      ap (λ o. refused_or o (Ok (expanded_graph raw))) (lists_is raw two ∙ none)
      ∙ ap (λ b. Ok (if b then raw else record raw { groups = []; nodes = (flat_of raw).nodes; output = record raw.output { node = meant (flat_of raw).others [] raw.output.node } })) two
      ∙ ap (λ (f : Flat). Ok (record raw { groups = []; nodes = f.nodes; output = record raw.output { node = meant f.others [] raw.output.node } })) (sym same)
      ∙ ap (λ n. Ok (record raw { groups = []; nodes = flat.nodes; output = record raw.output { node = n } })) (sym named)

  rows : (groups_fault 0 [] raw.groups ≡ None) × (nodes_fault (reverse raw.groups) [] raw.nodes ≡ None) × (nat_lt most_nodes (nodes_size (group_size (reverse raw.groups)) raw.nodes) ≡ false)
  rows =
      let many : Option Fault = where_so (nat_lt most_nodes (nodes_size (group_size (reverse raw.groups)) raw.nodes)) TooManyNodes (codes "nodes") in
      let r1 = or_none (groups_fault 0 [] (reverse (reverse raw.groups))) (first_of (nodes_fault (reverse raw.groups) [] raw.nodes ∷ many ∷ [])) none in
      let r2 = or_none (nodes_fault (reverse raw.groups) [] raw.nodes) (first_of (many ∷ [])) r1.1 in
      let r3 = or_none many None r2.1 in
      (subst (λ gs. groups_fault 0 [] gs ≡ None) (reverse-reverse raw.groups) r1.0, r2.0, unless_so _ TooManyNodes (codes "nodes") r3.0)

  pub flat_long : (flat : Flat) → flat ≡ nodes_expanded (expander (reverse raw.groups)) [] (record { nodes = []; others = [] }) raw.nodes
      → length flat.nodes ≡ nodes_size (group_size (reverse raw.groups)) raw.nodes
  flat_long flat is =
      ap (λ (f : Flat). length f.nodes) (is ∙ sym flat_is) ∙ expanded_long raw ∙ ap (λ gs. nodes_size (group_size gs) raw.nodes) (latest_is raw.groups)

  pub flat_few : (flat : Flat) → flat ≡ nodes_expanded (expander (reverse raw.groups)) [] (record { nodes = []; others = [] }) raw.nodes
      → length flat.nodes ≤ MOST_NODES
  flat_few flat is =
      let few : nodes_size (group_size (reverse raw.groups)) raw.nodes ≤ MOST_NODES = not_many _ rows.2 in
      omega (arith, few, flat_long flat is)

  pub flat_some : (flat : Flat) → flat ≡ nodes_expanded (expander (reverse raw.groups)) [] (record { nodes = []; others = [] }) raw.nodes
      → 1 ≤ length raw.nodes → 1 ≤ length flat.nodes
  flat_some flat is some =
      let sound : AreSound (reverse raw.groups) = subst AreSound (latest_is raw.groups) (sound_groups 0 [] raw.groups rows.0 tt) in
      let least : 1 ≤ nodes_size (group_size (reverse raw.groups)) raw.nodes = by raw.nodes some rows.1 sound in
      omega (arith, least, flat_long flat is)
    where
      head_among : (n : Node) (ns : List Node) → is_among (node_names (n ∷ ns)) n.name ≡ true
      head_among n ns = ap (λ b. b || is_among (node_names ns) n.name) (text_same n.name n.name refl)

      by : (ns : List Node) → 1 ≤ length ns → nodes_fault (reverse raw.groups) [] ns ≡ None → AreSound (reverse raw.groups) → 1 ≤ nodes_size (group_size (reverse raw.groups)) ns
      by [] low none sound = absurd (omega (arith, low))
      by (n ∷ ns) low none sound =
          nodes_some (reverse raw.groups) (named_some (reverse raw.groups) sound) [] (n ∷ ns) n.name none (head_among n ns)

-- ---- what is answered

pub err_ok : {A B : Type 0} (e : Fault) (a : A) → Err e ≡ Ok a → B
err_ok {A} {B} e a h = absurd (false≢true (ap is_fine h))
  where
    is_fine : Result A Fault → Bool
    is_fine (Ok x) = true
    is_fine (Err f) = false

pub ok_same : {A : Type 0} (a b : A) → (let r : Result A Fault = Ok a in r ≡ Ok b) → a ≡ b
ok_same {A} a b h = ap value h
  where
    value : Result A Fault → A
    value (Ok x) = x
    value (Err f) = a

-- a fault that is found
pub told_lists : (raw : Graph) (e : GraphFault) → nat_eq raw.format 1 ≡ false → Tells (lists_fault (reverse raw.groups) raw.nodes) e
    → (e ≡ fault.Memory → ⊥) → expand_of raw ≡ Err (told e)
told_lists raw fault.Memory two h other = absurd (other refl)
told_lists raw (fault.Refused code path) two h other = ap (λ o. refused_or o (Ok (expanded_graph raw))) (lists_is raw two ∙ h)

pub instances_of : (raw g : Graph) → expand_of raw ≡ Ok g → AreInstancesOf raw g
instances_of raw g is two = by (expand_fault raw) refl is
  where
    by : (o : Option Fault) → expand_fault raw ≡ o → refused_or o (Ok (expanded_graph raw)) ≡ Ok g → AreInstances raw g.nodes
    by (Some e) none h = err_ok e g h
    by None none h =
        let same : g ≡ expanded_graph raw = sym (ok_same (expanded_graph raw) g h) in
        let nodes : g.nodes ≡ expanded raw = ap (λ (x : Graph). x.nodes) same ∙ ap (λ b. (if b then raw else record raw { groups = []; nodes = (flat_of raw).nodes; output = record raw.output { node = meant (flat_of raw).others [] raw.output.node } }).nodes) two in
        subst (λ ns. AreInstances raw ns) (sym nodes) (expanded_are formula_of raw two none)
