-- The posts of the nodes of a graph, and what plug-ins are to be started for.
use Rattle.std.proofs.Common.{◌≡◌, ◌≢◌, ◌<◌, ◌≤◌, ◌++◌, ◌+◌, ℕ, ◌==◌, zero, suc, Bool, true, false, cond, Option, Some, None, List, [], ◌∷◌, slice_index_or, map, take, set, length, refl, sym, ap, subst, ◌∙◌, arith, All, AllPairs, inl, inr}
use Rattle.std.specs.Prelude.{slice_get}
use Rattle.std.specs.List.{Contains}
use Rattle.std.specs.Option.{option_map, option_map_or}
use Rattle.std.specs.Global.{Vec}
use Rattle.std.proofs.lemmas.Bool.{cases_lt, eqb-false}
use Rattle.std.proofs.lemmas.Option.{none-some, same_Some, slice_get-map, slice_get_read}
use Rattle.std.proofs.lemmas.List.{append-nil, length-append}
use Rattle.std.proofs.lemmas.List.Elements.{Contains-get_or, Contains-append_cases}
use Rattle.std.proofs.lemmas.List.Quantifiers.{all_pairs_push}
use borrow.Author.Tests.{eqb-true}
use Rattle.fx_effect.specs.ShapeTests.{context_listed}
use Rattle.fx_effect.specs.Meaning.{Meaning}
use Rattle.fx_graph.specs.Shown.{Does, Source, Effect, Shown, does_of, shown}
use Rattle.fx_graph.specs.Nodes.{Form}
use Rattle.fx_graph.specs.Kept.{IsDoing, AreNodes}
use Rattle.fx_graph.specs.declared.node.Node.{Node}
use Rattle.fx_life.specs.declared.uses.Use.{Use}
use Rattle.fx_life.specs.declared.uses.Post.{Post}
use Rattle.fx_life.specs.Posts.{Used, used_by, use_by, post_at, IsUsedAt, uses_at, added, IsPosted, ArePosted}
use Rattle.fx_life.proofs.Places.{get_kept, get_last, get_set, get_set_other}

-- what an effect is used for is the list at its number
pub uses_here : (uses : List (Vec Use)) (n : ℕ) (mine : Vec Use) → n < length uses → mine ≡ slice_index_or uses n mine
    → uses_at uses n ≡ mine.items
uses_here uses n mine low is =
    ap (λ o. option_map_or (λ (v : Vec Use). v.items) o []) (slice_get_read uses (length uses) n mine refl low is)

-- ---- one more node

module _ {E : Type 0} (number : E → ℕ) (k : ℕ) where
  -- what is added is the node's use of an effect of the number
  from_added : (n : ℕ) (used : Option (Used E)) (u : Use) → Contains (added number k n used) u
      → (w : Used E) × (used ≡ Some w) × (number w.effect ≡ n) × (u ≡ use_by k w)
  from_added n None u (i, low, is) = absurd (omega (arith, low))
  from_added n (Some w) u there = by (number w.effect == n) refl there where
    by : (b : Bool) → (number w.effect == n) ≡ b
        → Contains (cond b (use_by k w ∷ []) []) u
        → (v : Used E) × (Some w ≡ Some v) × (number v.effect ≡ n) × (u ≡ use_by k v)
    by true is (zero, low, same) = (w, refl, eqb-true (number w.effect) n is, sym same)
    by true is (suc i, low, same) = absurd (omega (arith, low))
    by false is (i, low, same) = absurd (omega (arith, low))

  few_added : (n : ℕ) (used : Option (Used E)) → length (added number k n used) ≤ 1
  few_added n None = omega arith
  few_added n (Some w) = by (number w.effect == n) where
    by : (b : Bool) → length {A = Use} (cond b (use_by k w ∷ []) []) ≤ 1
    by true = omega arith
    by false = omega arith

  apart_added : (n : ℕ) (used : Option (Used E)) (xs : List Use) → AllPairs (λ a b. a.node ≢ b.node) xs
      → ((i : ℕ) (d : Use) → i < length xs → (slice_index_or xs i d).node < k)
      → AllPairs (λ a b. a.node ≢ b.node) (xs ++ added number k n used)
  apart_added n None xs apart low = subst (AllPairs (λ (a b : Use). a.node ≢ b.node)) (sym (append-nil xs)) apart
  apart_added n (Some w) xs apart low = by (number w.effect == n) where
    by : (b : Bool)
        → AllPairs (λ (a b : Use). a.node ≢ b.node) (xs ++ cond b (use_by k w ∷ []) [])
    by true =
        all_pairs_push (λ (a b : Use). a.node ≢ b.node) xs (use_by k w) apart
        (λ i d inside same. let below = low i d inside in omega (arith, below, same))
    by false = subst (AllPairs (λ (a b : Use). a.node ≢ b.node)) (sym (append-nil xs)) apart

  own_added : (w : Used E) → added number k (number w.effect) (Some w) ≡ use_by k w ∷ []
  own_added w = rw (same (number w.effect)) refl
    where
      same : (n : ℕ) → (n == n) ≡ true
      same n = grind arith

  -- the effect's list with one more use
  pub uses_grown : (w : Used E) (used : Option (Used E)) (i : ℕ) (uses : List (Vec Use)) (mine after : Vec Use)
      → used ≡ Some w → i ≡ number w.effect → i < length uses → uses_at uses i ≡ mine.items
      → after.items ≡ mine.items ++ use_by k w ∷ [] → (n : ℕ)
      → uses_at (set uses i after) n ≡ uses_at uses n ++ added number k n used
  uses_grown w used i uses mine after is at low here grown n =
      subst (λ o. uses_at (set uses i after) n ≡ uses_at uses n ++ added number k n o) (sym is)
      (subst (λ m. uses_at (set uses i after) n ≡ uses_at uses n ++ cond (m == n) (one ∷ []) []) at (by (i == n) refl))
    where
      one : Use
      one = use_by k w

      items : Option (Vec Use) → List Use
      items o = option_map_or (λ (v : Vec Use). v.items) o []

      by : (b : Bool) → (i == n) ≡ b → uses_at (set uses i after) n ≡ uses_at uses n ++ cond b (one ∷ []) []
      by true same =
          subst (λ m. uses_at (set uses i after) m ≡ uses_at uses m ++ one ∷ []) (eqb-true i n same)
          (ap items (get_set uses i after low) ∙ grown ∙ ap (λ l. l ++ one ∷ []) (sym here))
      by false other =
          ap items (get_set_other uses i n after (λ same. eqb-false i n other (sym same)))
          ∙ sym (append-nil (uses_at uses n))

  -- the post behind the effect's earlier uses
  pub post_made : (w v : Used E) (used : Option (Used E)) (i place : ℕ) (uses : List (Vec Use)) (mine : Vec Use)
      → used ≡ Some w → used ≡ Some v → i ≡ number w.effect → uses_at uses i ≡ mine.items → place ≡ length mine.items
      → post_at i place ≡ post_at (number v.effect) (length (uses_at uses (number v.effect)))
  post_made w v used i place uses mine is also at here long =
      ap (post_at i) (long ∙ ap length (sym here))
      ∙ ap (λ n. post_at n (length (uses_at uses n)))
      (at ∙ ap (λ (u : Used E). number u.effect) (same_Some w v (sym is ∙ also)))

-- what a step does
pub record PostedNext {E : Type 0} (number : E → ℕ) (k : ℕ) (uses after : List (Vec Use)) (node : Node E)
    (post : Option Post) : Type 0 where
  pub adds : (n : ℕ) → uses_at after n ≡ uses_at uses n ++ added number k n (used_by (does_of node.work))
  pub stands : (used : Used E) → used_by (does_of node.work) ≡ Some used
      → post ≡ post_at (number used.effect) (length (uses_at uses (number used.effect)))

module _ {E : Type 0} (number : E → ℕ) (nodes : List (Node E)) (k : ℕ) (posts : List (Option Post))
    (uses after : List (Vec Use)) (node : Node E) (post : Option Post) where
  own : (used : Used E) → slice_get nodes k ≡ Some node → IsUsedAt nodes k used
      → used_by (does_of node.work) ≡ Some used
  own used there (other, at, is) =
      subst (λ (m : Node E). used_by (does_of m.work) ≡ Some used) (same_Some other node (sym at ∙ there)) is

  posted_now : (used : Used E) → length posts ≡ k → PostedNext number k uses after node post
      → used_by (does_of node.work) ≡ Some used
      → IsPosted number (posts ++ post ∷ []) after k used
  posted_now used long next is =
      let n = number used.effect in
      let before = uses_at uses n in
      let grown : uses_at after n ≡ before ++ use_by k used ∷ [] =
      next.adds n ∙ ap (λ o. before ++ added number k n o) is ∙ ap (λ l. before ++ l) (own_added number k used) in (
        length before,
        get_last posts post k long ∙ ap (λ s. Some s) (next.stands used is),
        ap (λ l. slice_get l (length before)) grown
            ∙ get_last before (use_by k used) (length before) refl,
      )

  posted_still : (j : ℕ) (used : Used E) → PostedNext number k uses after node post → IsPosted number posts uses j used
      → IsPosted number (posts ++ post ∷ []) after j used
  posted_still j used next (place, at_post, there) =
      let n = number used.effect in
      let more = added number k n (used_by (does_of node.work)) in (
        place,
        get_kept posts (post ∷ []) j (post_at n place) at_post,
        ap (λ l. slice_get l place) (next.adds n)
            ∙ get_kept (uses_at uses n) more place (use_by j used) there,
      )

  -- one more node has its post
  pub posted_more : slice_get nodes k ≡ Some node → ArePosted number nodes k posts uses
      → PostedNext number k uses after node post → ArePosted number nodes (k + 1) (posts ++ post ∷ []) after
  posted_more there are next =
      record {
        length_is = length-append posts (post ∷ []) ∙ ap (λ n. n + 1) are.length_is;
        posted = λ j used low at. elim (cases_lt j k) [
          | inl before ↦ posted_still j used next (are.posted j used before at)
          | inr behind ↦
              let is : j ≡ k = omega (arith, low, behind) in
              subst (λ i. IsPosted number (posts ++ post ∷ []) after i used) (sym is)
              (posted_now used are.length_is next (own used there (subst (λ i. IsUsedAt nodes i used) is at)))
        ];
        used = λ n u inside.
            elim (Contains-append_cases (uses_at uses n) (added number k n (used_by (does_of node.work))) u
            (subst (λ l. Contains l u) (next.adds n) inside)) [
              | inl before ↦
                  let old = are.used n u before in let low = old.1 in (old.0, omega (arith, low), old.2, old.3, old.4)
              | inr now ↦
                  let new = from_added number k n (used_by (does_of node.work)) u now in
                  let is : u.node ≡ k = ap (λ (v : Use). v.node) new.3 in (
                    new.0,
                    omega (arith, is),
                    subst (λ i. IsUsedAt nodes i new.0) (sym is) (node, there, new.1),
                    new.2,
                    sym (ap (λ (v : Use). v.context) new.3),
                  )
            ];
        apart = λ n.
            subst (AllPairs (λ (a b : Use). a.node ≢ b.node)) (sym (next.adds n))
            (apart_added number k n (used_by (does_of node.work)) (uses_at uses n) (are.apart n)
            (λ i d inside. (are.used n (slice_index_or (uses_at uses n) i d)
            (Contains-get_or (uses_at uses n) i d inside)).1));
        few = λ n.
            let long = length-append (uses_at uses n) (added number k n (used_by (does_of node.work))) in
            let one = few_added number k n (used_by (does_of node.work)) in
            let before = are.few n in
            let is = ap length (next.adds n) in
            omega (arith, is, long, one, before);
      }

-- no node has its post yet
pub none_posted : {E : Type 0} (number : E → ℕ) (nodes : List (Node E)) (uses : List (Vec Use))
    → ((n : ℕ) → uses_at uses n ≡ []) → ArePosted number nodes 0 [] uses
none_posted number nodes uses none =
    record {
      length_is = refl;
      posted = λ j used low at. absurd (omega (arith, low));
      used = λ n u inside. let low = (subst (λ l. Contains l u) (none n) inside).1 in absurd (omega (arith, low));
      apart =
          λ n. subst (AllPairs (λ (a b : Use). a.node ≢ b.node)) (sym (none n))
          (λ i j d before inside. absurd (omega (arith, inside)));
      few = λ n. let is = ap length (none n) in omega (arith, is);
    }

-- ---- what plug-ins are started for

-- a node's use is in a context that its effect supports
pub used_in : {E : Type 0} (meaning : E → Meaning) (project form : Form) (before : List (Shown E)) (does : Does E)
    (used : Used E)
    → IsDoing meaning project before form does → used_by does ≡ Some used
    → Contains (meaning used.effect).shape.contexts used.context
used_in meaning project form before (Source pattern first last hold) used is by = absurd (none-some used by)
used_in {E} meaning project form before (Effect e c clips names optional masks params) used is by =
    subst (λ (w : Used E). Contains (meaning w.effect).shape.contexts w.context)
    (same_Some (record { effect = e; context = c }) used by)
    (context_listed c (meaning e).shape.contexts is.0.supported)

pub supported_in : {E : Type 0} (meaning : E → Meaning) (project : Form) (nodes : List (Node E))
    → AreNodes meaning project (map shown nodes) → (k : ℕ) (used : Used E) → IsUsedAt nodes k used
    → Contains (meaning used.effect).shape.contexts used.context
supported_in meaning project nodes kept k used (node, there, is) =
    used_in meaning project (node.depth, node.components) (take k (map shown nodes)) (does_of node.work) used
    (kept k (shown node) (slice_get-map shown nodes k ∙ ap (option_map shown) there)) is

-- and so is each use of what an effect of its number is started for
pub all_supported : {E : Type 0} (number : E → ℕ) (meaning : E → Meaning) (nodes : List (Node E)) (count : ℕ)
    (posts : List (Option Post)) (uses : List (Vec Use))
    → ((a b : E) → number a ≡ number b → meaning a ≡ meaning b)
    → ((k : ℕ) (used : Used E) → IsUsedAt nodes k used → Contains (meaning used.effect).shape.contexts used.context)
    → ArePosted number nodes count posts uses → (e : E)
    → All (λ u. Contains (meaning e).shape.contexts u.context) (uses_at uses (number e))
all_supported number meaning nodes count posts uses one_meaning supported are e i d inside =
    let u = slice_index_or (uses_at uses (number e)) i d in
    let of = are.used (number e) u (Contains-get_or (uses_at uses (number e)) i d inside) in
    subst (λ (m : Meaning). Contains m.shape.contexts u.context) (one_meaning of.0.effect e of.3)
    (subst (Contains (meaning of.0.effect).shape.contexts) of.4 (supported u.node of.0 of.2))
