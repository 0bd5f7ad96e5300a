-- The live instances of a plug-in and their sequences.
use Rattle.std.proofs.Common.{◌≡◌, ◌≢◌, ◌<◌, ◌++◌, ◌+◌, ℕ, ◌==◌, not, zero, suc, Bool, true, false, Some, List, [], ◌∷◌, slice_index_or, map, reverse, take, length, ◌-◌, refl, sym, ap, subst, ◌∙◌, arith, AllPairs, inl, inr}
use Rattle.std.specs.List.{Contains}
use Rattle.std.proofs.lemmas.List.{append-nil, append_assoc, map-append, length-append, length-map, length-reverse, length-take-le, reverse-append, get_or-reverse, get_or-map, get_or-take, take_more, get_or_append_left, get_or_push}
use Rattle.std.proofs.lemmas.List.Elements.{filter-append, Contains-append_right, Contains-append_left, Contains-push, Contains-get_or, All-contains, All-push, All-pop, All-weaker}
use Rattle.std.proofs.lemmas.List.Quantifiers.{all_pairs_push}
use Rattle.std.proofs.lemmas.Option.{slice_get_read, slice_get-map}
use Rattle.std.specs.Option.{option_map}
use Rattle.std.specs.Prelude.{slice_get}
use Rattle.fx_life.specs.Plugin.{MadeFor, Rendering, without}
use Rattle.fx_effect.specs.declared.action.Context.{Context}
use Rattle.fx_life.specs.declared.uses.Use.{Use}
use Rattle.fx_life.proofs.Places.{there_at}
use Rattle.fx_life.specs.Running.{made, begun, made_for, rendering, members, planned, AreLive, AreUsed, IsWith}

-- ---- nodes

kept : (n m : ℕ) (ms : List ℕ) (b : Bool) → (m == n) ≡ b → (Contains (m ∷ ms) n → ⊥) → without n ms ≡ ms
    → without n (m ∷ ms) ≡ m ∷ ms
kept n m ms true is absent rest = absurd (absent (0, omega arith, grind arith))
kept n m ms false is absent rest = rw is (ap (λ l. m ∷ l) rest)

-- a node that isn't there takes none away
without_absent : (n : ℕ) (nodes : List ℕ) → (Contains nodes n → ⊥) → without n nodes ≡ nodes
without_absent n [] absent = refl
without_absent n (m ∷ ms) absent =
    kept n m ms (m == n) refl absent
    (without_absent n ms (λ inside. absent (Contains-append_right (m ∷ []) ms n inside)))

same : (k : ℕ) → (k == k) ≡ true
same k = grind arith

-- and neither does it where it was the last one and goes
pub without_last : (n : ℕ) (nodes : List ℕ) → (Contains nodes n → ⊥) → without n (nodes ++ n ∷ []) ≡ nodes
without_last n nodes absent =
    filter-append (λ m. not (m == n)) nodes (n ∷ [])
    ∙ rw (same n) (append-nil (without n nodes) ∙ without_absent n nodes absent)

-- a further one
apart_more : {A : Type 0} (n : A) (nodes : List A) → AllPairs (λ a b. a ≢ b) nodes → (Contains nodes n → ⊥)
    → AllPairs (λ a b. a ≢ b) (nodes ++ n ∷ [])
apart_more n nodes apart absent =
    all_pairs_push (λ a b. a ≢ b) nodes n apart
    (λ k d inside same. absent (subst (Contains nodes) same (Contains-get_or nodes k d inside)))

-- all but the last one
apart_fewer : (n : ℕ) (nodes : List ℕ) → AllPairs (λ a b. a ≢ b) (nodes ++ n ∷ []) → AllPairs (λ a b. a ≢ b) nodes
apart_fewer n nodes apart i j d before inside =
    let long = length-append nodes (n ∷ []) in
    λ same. apart i j d before (omega (arith, long))
    (get_or_append_left nodes (n ∷ []) d i (omega arith)
    ∙ same
    ∙ sym (get_or_append_left nodes (n ∷ []) d j inside))

absent_before : (n : ℕ) (nodes : List ℕ) → AllPairs (λ a b. a ≢ b) (nodes ++ n ∷ []) → Contains nodes n → ⊥
absent_before n nodes apart inside =
    let long = length-append nodes (n ∷ []) in
    apart inside.0 (length nodes) n inside.1 (omega (arith, long))
    (get_or_append_left nodes (n ∷ []) n inside.0 inside.1 ∙ inside.2 ∙ sym (get_or_push nodes n n (length nodes) refl))

-- ---- instances

-- a further instance
pub more_live : (number : ℕ) (live : List ℕ) (ms : List MadeFor) (m : MadeFor) → AreLive number live ms
    → (Contains live m.node → ⊥) → m.plugin ≡ number → AreLive number (live ++ m.node ∷ []) (ms ++ m ∷ [])
more_live number live ms m are absent is =
    record {
      nodes = ap (λ l. l ++ m.node ∷ []) are.nodes ∙ sym (map-append (λ r. r.node) ms (m ∷ []));
      apart = apart_more m.node live are.apart absent;
      plugin = All-push (λ r. r.plugin ≡ number) ms m are.plugin is;
    }

node_inside : (ms : List MadeFor) (m : MadeFor) → Contains ms m → Contains (map (λ (r : MadeFor). r.node) ms) m.node
node_inside [] m (k, low, is) = absurd (omega arith)
node_inside (r ∷ ms) m (zero, low, is) = (0, omega arith, ap (λ (r : MadeFor). r.node) is)
node_inside (r ∷ ms) m (suc k, low, is) =
    Contains-append_right (r.node ∷ []) (map (λ (r : MadeFor). r.node) ms) m.node
    (node_inside ms m (k, omega arith, is))

-- what is known of one
pub record IsOne (number : ℕ) (live : List ℕ) (m : MadeFor) : Type 0 where
  pub plugin : m.plugin ≡ number
  pub there : Contains live m.node

pub one_of : (number : ℕ) (live : List ℕ) (ms : List MadeFor) (m : MadeFor) → AreLive number live ms
    → Contains ms m → IsOne number live m
one_of number live ms m are inside =
    record {
      plugin = All-contains (λ r. r.plugin ≡ number) ms m are.plugin inside;
      there = subst (λ l. Contains l m.node) (sym are.nodes) (node_inside ms m inside);
    }

-- all but the last one, which is destroyed
pub fewer_live : (number : ℕ) (live : List ℕ) (ms : List MadeFor) (m : MadeFor) → AreLive number live (ms ++ m ∷ [])
    → AreLive number (without m.node live) ms
fewer_live number live ms m are =
    let nodes : live ≡ map (λ r. r.node) ms ++ m.node ∷ [] = are.nodes ∙ map-append (λ r. r.node) ms (m ∷ []) in
    let apart = subst (AllPairs (λ a b. a ≢ b)) nodes are.apart in
    let plugins = All-pop (λ r. r.plugin ≡ number) (ms ++ m ∷ []) ms (Some m) refl are.plugin in
    let left : without m.node live ≡ map (λ r. r.node) ms =
    ap (without m.node) nodes
    ∙ without_last m.node (map (λ r. r.node) ms) (absent_before m.node (map (λ r. r.node) ms) apart) in
    record {
      nodes = left;
      apart = subst (AllPairs (λ a b. a ≢ b)) (sym left) (apart_fewer m.node (map (λ r. r.node) ms) apart);
      plugin = plugins.0;
    }

-- where no sequence has begun the idle ones are all
pub all_idle : (number : ℕ) (live : List ℕ) (idle : List MadeFor) (ss : List Rendering) → ss ≡ [] → AreLive number live idle
    → AreLive number live (members idle ss)
all_idle number live idle ss none are =
    subst (AreLive number live) (sym (ap (members idle) none ∙ append-nil idle)) are

-- and at first there is none
pub none_live : (number : ℕ) (live : List ℕ) (idle : List MadeFor) (ss : List Rendering) → live ≡ [] → idle ≡ []
    → ss ≡ [] → AreLive number live (members idle ss)
none_live number live idle ss none no_idle no_sequence =
    rw (none, no_idle, no_sequence) record {
      nodes = refl;
      apart = λ i j d before inside. absurd (omega arith);
      plugin = λ k d inside. absurd (omega arith);
    }

last_made : (ss : List Rendering) (s : Rendering) → map made (reverse (ss ++ s ∷ [])) ≡ made s ∷ map made (reverse ss)
last_made ss s = ap (map made) (reverse-append ss (s ∷ []))

-- an instance that begins its sequence, and one that ends it, stays in its place
pub moved : (ms : List MadeFor) (ss : List Rendering) (s : Rendering)
    → members ms (ss ++ s ∷ []) ≡ members (ms ++ made s ∷ []) ss
moved ms ss s =
    ap (λ l. ms ++ l) (last_made ss s) ∙ sym (append_assoc ms (made s ∷ []) (map made (reverse ss)))

-- an instance begins its sequence
pub begins : (idle before : List MadeFor) (ss after : List Rendering) (m : MadeFor) (s : Rendering)
    → idle ≡ before ++ m ∷ [] → after ≡ ss ++ s ∷ [] → made s ≡ m → members before after ≡ members idle ss
begins idle before ss after m s is grown same =
    ap (λ l. members before l) grown
    ∙ moved before ss s
    ∙ ap (λ n. members (before ++ n ∷ []) ss) same
    ∙ ap (λ l. members l ss) (sym is)

-- one more
pub longer : {A : Type 0} (xs ys : List A) (x : A) → ys ≡ xs ++ x ∷ [] → length ys ≡ length xs + 1
longer xs ys x is = ap length is ∙ length-append xs (x ∷ [])

pub last_idle : (ms : List MadeFor) (m : MadeFor) (ss : List Rendering) → Contains (members (ms ++ m ∷ []) ss) m
last_idle ms m ss = Contains-append_left (ms ++ m ∷ []) (map made (reverse ss)) m (Contains-push ms m)

-- where none is idle there is a sequence for each live instance, and each of these is a member
pub as_member : (ss : List Rendering) (k : ℕ) (s : Rendering) → slice_get (reverse ss) k ≡ Some s
    → Contains (members [] ss) (made s)
as_member ss k s there =
    there_at (map made (reverse ss)) k (made s) (slice_get-map made (reverse ss) k ∙ ap (option_map made) there)

-- what is read at a place from the end stands at that place of the sequences in order
pub read_from_end : (ss : List Rendering) (k n : ℕ) (s : Rendering) → k < length (reverse ss) → n ≡ length ss
    → s ≡ slice_index_or ss (n - 1 - k) s → slice_get (reverse ss) k ≡ Some s
read_from_end ss k n s inside long read =
    let turned = length-reverse ss in
    let low : k < length ss = omega (arith, inside, turned) in
    let at = subst (λ m. s ≡ slice_index_or ss (m - 1 - k) s) long read in
    slice_get_read (reverse ss) (length ss) k s (sym turned) low (at ∙ sym (get_or-reverse ss k s low))

-- ---- uses

-- a further instance begins its sequence, and its plan is kept
pub plan_kept : (first last : ℕ) (idle before : List MadeFor) (ss after : List Rendering) (m : MadeFor) (s : Rendering)
    → idle ≡ before ++ m ∷ [] → after ≡ ss ++ s ∷ [] → s ≡ begun first last m
    → planned first last before after ≡ planned first last idle ss
plan_kept first last idle before ss after m s is grown same =
    ap (λ l. map (begun first last) before ++ reverse l) grown
    ∙ ap (λ l. map (begun first last) before ++ l) (reverse-append ss (s ∷ []))
    ∙ ap (λ (r : Rendering). map (begun first last) before ++ r ∷ reverse ss) same
    ∙ sym (append_assoc (map (begun first last) before) (begun first last m ∷ []) (reverse ss))
    ∙ ap (λ l. l ++ reverse ss) (sym (map-append (begun first last) before (m ∷ [])))
    ∙ ap (λ l. map (begun first last) l ++ reverse ss) (sym is)

same_map : (number first last : ℕ) (uses : List Use)
    → map (begun first last) (map (made_for number) uses) ≡ map (rendering number first last) uses
same_map number first last [] = refl
same_map number first last (u ∷ uses) =
    ap (λ l. rendering number first last u ∷ l) (same_map number first last uses)

-- once all have begun each use has its sequence
pub all_begun : (number first last : ℕ) (uses : List Use) (made : List MadeFor) (ss : List Rendering)
    → made ≡ map (made_for number) uses → planned first last [] ss ≡ planned first last made []
    → reverse ss ≡ map (rendering number first last) uses
all_begun number first last uses made ss is kept =
    kept
    ∙ append-nil (map (begun first last) made)
    ∙ ap (map (begun first last)) is
    ∙ same_map number first last uses

-- one more use
pub made_more : (number n : ℕ) (uses : List Use) (k : ℕ) (d : Use) (before : List MadeFor) (m : MadeFor)
    → k < length uses → before ≡ map (made_for number) (take k uses) → n ≡ number
    → m ≡ made_for n (slice_index_or uses k d) → before ++ m ∷ [] ≡ map (made_for number) (take (k + 1) uses)
made_more number n uses k d before m low so_far is same =
    let u = slice_index_or uses k d in
    ap (λ l. l ++ m ∷ []) so_far
    ∙ ap (λ w. map (made_for number) (take k uses) ++ w ∷ []) (same ∙ ap (λ e. made_for e u) is)
    ∙ sym (map-append (made_for number) (take k uses) (u ∷ []))
    ∙ ap (map (made_for number)) (sym (take_more uses k d low))

nodes_of : (number : ℕ) (uses : List Use)
    → map (λ (m : MadeFor). m.node) (map (made_for number) uses) ≡ map (λ (u : Use). u.node) uses
nodes_of number [] = refl
nodes_of number (u ∷ uses) = ap (λ l. u.node ∷ l) (nodes_of number uses)

-- its node has no instance yet
pub absent_use : (number : ℕ) (uses : List Use) (k : ℕ) (d : Use) (live : List ℕ) (ms : List MadeFor)
    → AllPairs (λ a b. a.node ≢ b.node) uses → k < length uses → AreLive number live ms
    → ms ≡ map (made_for number) (take k uses) → Contains live (slice_index_or uses k d).node → ⊥
absent_use number uses k d live ms apart low are made (j, inside, same) =
    let u = slice_index_or uses k d in
    let nodes : live ≡ map (λ (w : Use). w.node) (take k uses) =
    are.nodes ∙ ap (map (λ (m : MadeFor). m.node)) made ∙ nodes_of number (take k uses) in
    let long = length-take-le k uses (omega (arith, low)) in
    let count : length live ≡ length (take k uses) = ap length nodes ∙ length-map (take k uses) (λ (w : Use). w.node) in
    let before : j < k = omega (arith, long, count, inside) in
    let there : slice_index_or (map (λ (w : Use). w.node) (take k uses)) j u.node ≡ u.node =
    ap (λ l. slice_index_or l j u.node) (sym nodes) ∙ same in
    apart j k d before low
    (ap (λ (w : Use). w.node) (sym (get_or-take k uses j d before))
    ∙ sym (get_or-map (λ (w : Use). w.node) (take k uses) j d u.node (omega (arith, inside, count)))
    ∙ there)

pub absent_made : (number n : ℕ) (uses : List Use) (k : ℕ) (d : Use) (live : List ℕ) (ms : List MadeFor) (m : MadeFor)
    → AllPairs (λ a b. a.node ≢ b.node) uses → k < length uses → AreLive number live ms
    → ms ≡ map (made_for number) (take k uses) → m ≡ made_for n (slice_index_or uses k d) → Contains live m.node → ⊥
absent_made number n uses k d live ms m apart low are made same there =
    absent_use number uses k d live ms apart low are made
    (subst (Contains live) (ap (λ (w : MadeFor). w.node) same) there)

-- ---- contexts

more_used : (uses : List Use) (u : Use) (c : Context) → Contains (map (λ (w : Use). w.context) uses) c
    → Contains (map (λ (w : Use). w.context) (uses ++ u ∷ [])) c
more_used uses u c inside =
    subst (λ l. Contains l c) (sym (map-append (λ (w : Use). w.context) uses (u ∷ [])))
    (Contains-append_left (map (λ (w : Use). w.context) uses) (u.context ∷ []) c inside)

last_used : (uses : List Use) (u : Use) → Contains (map (λ (w : Use). w.context) (uses ++ u ∷ [])) u.context
last_used uses u =
    subst (λ l. Contains l u.context) (sym (map-append (λ (w : Use). w.context) uses (u ∷ [])))
    (Contains-push (map (λ (w : Use). w.context) uses) u.context)

stays_used : (contexts : List Context) (uses : List Use) (u : Use) → AreUsed contexts uses → Contains contexts u.context
    → AreUsed contexts (uses ++ u ∷ [])
stays_used contexts uses u are there =
    record {
      once = are.once;
      used = All-weaker (Contains (map (λ (w : Use). w.context) uses))
          (Contains (map (λ (w : Use). w.context) (uses ++ u ∷ []))) (λ c. more_used uses u c) contexts are.used;
      each = All-push (λ (w : Use). Contains contexts w.context) uses u are.each there;
    }

grows_used : (contexts : List Context) (uses : List Use) (u : Use) → AreUsed contexts uses
    → (Contains contexts u.context → ⊥) → AreUsed (contexts ++ u.context ∷ []) (uses ++ u ∷ [])
grows_used contexts uses u are absent =
    let more = contexts ++ u.context ∷ [] in
    record {
      once = apart_more u.context contexts are.once absent;
      used = All-push (Contains (map (λ (w : Use). w.context) (uses ++ u ∷ []))) contexts u.context
          (All-weaker (Contains (map (λ (w : Use). w.context) uses))
          (Contains (map (λ (w : Use). w.context) (uses ++ u ∷ []))) (λ c. more_used uses u c) contexts are.used)
          (last_used uses u);
      each = All-push (λ (w : Use). Contains more w.context) uses u
          (All-weaker (λ (w : Use). Contains contexts w.context) (λ (w : Use). Contains more w.context)
          (λ w. Contains-append_left contexts (u.context ∷ []) w.context) uses are.each)
          (Contains-push contexts u.context);
    }

-- one more use
pub used_more : (contexts after : List Context) (uses : List Use) (k : ℕ) (d : Use) → k < length uses
    → AreUsed contexts (take k uses) → IsWith contexts (slice_index_or uses k d).context after
    → AreUsed after (take (k + 1) uses)
used_more contexts after uses k d low are more =
    let u = slice_index_or uses k d in
    subst (AreUsed after) (sym (take_more uses k d low))
    (elim more [
      | inl (same, there) ↦
          subst (λ cs. AreUsed cs (take k uses ++ u ∷ [])) (sym same) (stays_used contexts (take k uses) u are there)
      | inr (grown, absent) ↦
          subst (λ cs. AreUsed cs (take k uses ++ u ∷ [])) (sym grown) (grows_used contexts (take k uses) u are absent)
    ])
