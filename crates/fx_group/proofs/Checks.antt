-- What a list's faults are, node by node and input by input, and the names that are known.
use Rattle.std.proofs.Common.{◌≡◌, refl, ap, sym, ◌∙◌, subst, ℕ, ◌+◌, ◌-◌, ◌<◌, arith, Bool, true, false, ◌||◌, List, [], ◌∷◌, ◌++◌, length, map, take, drop, get_or, length-drop, reverse, append_assoc, codes, String, Global, BTreeMap, Option, Some, None, is_some, bytes_eq, if◌then◌else◌}
use Rattle.std.specs.List.{list_any}
use Rattle.std.specs.Option.{option_or}
use Rattle.std.specs.BTreeMap.{get_by_text}
use Rattle.std.proofs.lemmas.List.{map-append, take_more, take_all, at_drop_more, reverse-append}
use Rattle.fx_text.specs.Nodes.{Node, Group}
use Rattle.fx_text.specs.Fault.{Fault}
use Rattle.fx_text.specs.Paths.{inside}
use Rattle.fx_text.specs.declared.fault.GraphFault.{GraphFault}
use Rattle.fx_text.specs.declared.fault.GraphFault.TheVariants as fault
use Rattle.fx_graph.specs.Refusal.{Tells}
use Rattle.fx_group.specs.Names.{is_among}
use Rattle.fx_group.specs.Known.{in_map, IsKnown}
use Rattle.fx_group.specs.Faults.{node_fault, nodes_fault, node_names, group_fault, groups_fault}
use Rattle.fx_group.proofs.Texts.{among-append}

pub any_map : {A : Type 0} (f : A → List ℕ) (p : List ℕ → Bool) (xs : List A) → list_any p (map f xs) ≡ list_any (λ x. p (f x)) xs
any_map f p [] = refl
any_map f p (x ∷ xs) = ap (λ b. p (f x) || b) (any_map f p xs)

-- ---- rows

pub tells_or : (a b : Option Fault) (e : GraphFault) → Tells a e → Tells (option_or a b) e
tells_or a b fault.Memory h = tt
tells_or a b (fault.Refused code path) h = ap (λ o. option_or o b) h

-- the second of two rows, where the first one refuses nothing
pub tells_last : (a b : Option Fault) (e : GraphFault) → a ≡ None → Tells b e → Tells (option_or a (option_or b None)) e
tells_last a b fault.Memory none h = tt
tells_last a b (fault.Refused code path) none h = ap (λ o. option_or o (option_or b None)) none ∙ ap (λ o. option_or o None) h

pub or_rest : (a b : Option Fault) → a ≡ None → option_or a b ≡ b
or_rest a b h = ap (λ o. option_or o b) h

-- ---- names that are known

or_true : (b : Bool) → b || true ≡ true
or_true true = refl
or_true false = refl

or_none : (b : Bool) → b || false ≡ b
or_none true = refl
or_none false = refl

pub known_more : (old new : BTreeMap (String Global) ℕ) (names : List (List ℕ)) (name : List ℕ) → IsKnown old names
    → ((n : List ℕ) → get_by_text new n ≡ (if bytes_eq name n then Some 0 else get_by_text old n)) → IsKnown new (names ++ name ∷ [])
known_more old new names name known added n =
    ap is_some (added n) ∙ go (bytes_eq name n) ∙ sym (among-append names (name ∷ []) n)
  where
    go : (b : Bool) → is_some (if b then Some 0 else get_by_text old n) ≡ is_among names n || (b || false)
    go true = sym (or_true (is_among names n))
    go false = known n ∙ sym (or_none (is_among names n))

pub same_known : (known : BTreeMap (String Global) ℕ) (names : List (List ℕ)) → IsKnown known names → in_map known ≡ is_among names
same_known known names is = λ i name. is name i

-- ---- a list's items one by one

-- what is made of the rest is made of the next item and of what is behind it
pub rest_is : {A B : Type 0} (f : List A → B) (items : List A) (i : ℕ) (item : A) → i < length items → item ≡ get_or items i item
    → f (drop i items) ≡ f (item ∷ drop (i + 1) items)
rest_is f items i item within is = at_drop_more f items i item within ∙ ap (λ a. f (a ∷ drop (i + 1) items)) (sym is)

pub front_more : {A : Type 0} (items : List A) (i : ℕ) (item : A) → i < length items → item ≡ get_or items i item
    → take (i + 1) items ≡ take i items ++ item ∷ []
front_more items i item within is = take_more items i item within ∙ ap (λ a. take i items ++ a ∷ []) (sym is)

-- ---- nodes

pub node_told : (groups : List Group) (names : List (List ℕ)) (known : BTreeMap (String Global) ℕ) (n : Node) (ns : List Node) (e : GraphFault)
    → IsKnown known names → Tells (node_fault groups (in_map known) n) e → Tells (nodes_fault groups names (n ∷ ns)) e
node_told groups names known n ns e is h =
    tells_or (node_fault groups (is_among names) n) (nodes_fault groups (names ++ n.name ∷ []) ns) e
    (subst (λ k. Tells (node_fault groups k n) e) (same_known known names is) h)

pub node_past : (groups : List Group) (names : List (List ℕ)) (known : BTreeMap (String Global) ℕ) (n : Node) (ns : List Node)
    → IsKnown known names → node_fault groups (in_map known) n ≡ None → nodes_fault groups names (n ∷ ns) ≡ nodes_fault groups (names ++ n.name ∷ []) ns
node_past groups names known n ns is h =
    or_rest (node_fault groups (is_among names) n) (nodes_fault groups (names ++ n.name ∷ []) ns)
    (subst (λ k. node_fault groups k n ≡ None) (same_known known names is) h)

pub names_more : (inputs : List (List ℕ)) (nodes : List Node) (i : ℕ) (n : Node) → i < length nodes → n ≡ get_or nodes i n
    → (inputs ++ node_names (take i nodes)) ++ n.name ∷ [] ≡ inputs ++ node_names (take (i + 1) nodes)
names_more inputs nodes i n within is =
    append_assoc inputs (node_names (take i nodes)) (n.name ∷ [])
    ∙ ap (λ names. inputs ++ names) (sym (map-append (λ (m : Node). m.name) (take i nodes) (n ∷ [])) ∙ ap node_names (sym (front_more nodes i n within is)))

-- ---- groups, of which the latest stands first

pub back_more : {A : Type 0} (items : List A) (i : ℕ) (item : A) → i < length items → item ≡ get_or items i item
    → reverse (take (i + 1) items) ≡ item ∷ reverse (take i items)
back_more items i item within is =
    ap reverse (front_more items i item within is) ∙ reverse-append (take i items) (item ∷ [])

-- what stands behind an item, as a slice
pub behind_is : {A : Type 0} (xs : List A) (n : ℕ) → take (length xs - n) (drop n xs) ≡ drop n xs
behind_is xs n = take_all (length xs - n) (drop n xs) (omega (arith, length-drop n xs))

pub group_told : (groups : List Group) (k at : ℕ) (before : List Group) (g : Group) (e : GraphFault) → k < length groups
    → at ≡ length groups - 1 - k → g ≡ get_or groups at g → before ≡ drop (at + 1) groups
    → Tells (group_fault (inside (codes "groups") k) before g) e
    → Tells (groups_fault k (drop (length groups - k) groups) (reverse (take (length groups - k) groups))) e
group_told groups k at before g e low at_is is before_is h =
    let within : at < length groups = omega arith in
    let count : length groups - k ≡ at + 1 = omega arith in
    subst (λ n. Tells (groups_fault k (drop n groups) (reverse (take n groups))) e) (sym count)
    (subst (λ gs. Tells (groups_fault k (drop (at + 1) groups) gs) e) (sym (back_more groups at g within is))
    (tells_or (group_fault (inside (codes "groups") k) (drop (at + 1) groups) g) (groups_fault (k + 1) (g ∷ drop (at + 1) groups) (reverse (take at groups))) e
    (subst (λ b. Tells (group_fault (inside (codes "groups") k) b g) e) before_is h)))
