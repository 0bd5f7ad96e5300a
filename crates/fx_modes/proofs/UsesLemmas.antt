-- The source frames that a run uses are determined by the graph, its takes and its frames.
use Rattle.std.proofs.Common.{◌≡◌, ◌<◌, ◌*◌, ℕ, zero, suc, ℤ, pos, List, [], ◌∷◌, length, map, All, Contains, slice_get, Option, Some, None, refl, sym, ap, subst, ◌∙◌, arith, inl, inr, AllPairs}
use Rattle.std.proofs.lemmas.Int.{ints}
use Rattle.std.proofs.lemmas.Option.{none-some}
use Rattle.std.proofs.lemmas.List.{length-map}
use Rattle.std.proofs.lemmas.List.Elements.{All-contains}
use Rattle.fx_base.specs.Bounds.{Bounds}
use Rattle.fx_pixel.specs.declared.Depth.{Depth}
use Rattle.fx_pixel.specs.declared.Components.{Components}
use Rattle.fx_seq.specs.declared.used.Use.{Use}
use Rattle.fx_seq.specs.declared.wanted.Wanted.{Wanted}
use Rattle.fx_graph.specs.Shown.{Does, Shown}
use Rattle.fx_graph.specs.Shown as does
use Rattle.fx_scene.specs.Nodes.{Node}
use Rattle.fx_scene.specs.Scenes.{graph_nodes, no_images, node_in, node_of, nodes_of}
use Rattle.fx_scene.specs.Takes.{graph_of_take}
use Rattle.fx_scene.specs.Uses.{AreUses, IsUse, frame_at, take_at}
use Rattle.fx_scene.specs.Wants.{IsBefore, IsNamedBy, IsNamedIn, IsWanted, Shows}
use Rattle.fx_scene.specs.declared.take.Edit.{Edit}
use Rattle.fx_scene.proofs.GraphLemmas.{node_is}
use Rattle.fx_scene.proofs.Members.{In, in_of}
use Rattle.fx_scene.proofs.WantLemmas.{contains_of, shown_natural}
use Rattle.fx_shipped.specs.declared.shipped.Shipped.{Shipped}
use Rattle.fx_shipped.specs.Shipped.{meaning_of}
use Rattle.fx_takes.specs.Shown.{EditShown, edit_shown}
use Rattle.fx_modes.specs.Graphs.{Graph}
use Rattle.fx_modes.specs.Reels.{Reel, frame_in, moments_in, take_in, takes_in, wanting_in}
use Rattle.fx_modes.specs.Files.{AreUsesOf, wanted_of}
use Rattle.fx_modes.proofs.TakeLemmas.{IsSource, Stems, from_take, nodes_shown, shown_nodes}

-- ---- lists in order

-- each use stands before those behind it
abbrev Rises : List Use → Type 0
Rises [] = Unit {0}
Rises (u ∷ us) = ((v : Use) → In us v → IsBefore u.wanted v.wanted) × Rises us

not_both : (v w : Wanted) → IsBefore v w → IsBefore w v → ⊥
not_both v w (inl a) (inl b) = omega (arith, a, b)
not_both v w (inl a) (inr b) = let same = b.0 in omega (arith, a, same)
not_both v w (inr a) (inl b) = let same = a.0 in omega (arith, b, same)
not_both v w (inr a) (inr b) = let low = a.1 in let high = b.1 in omega (arith, ints, low, high)

wanted_in : (us : List Use) (u : Use) → In us u → In (wanted_of us) u.wanted
wanted_in [] u i = absurd i
wanted_in (v ∷ us) u (inl e) = inl (ap (λ (x : Use). x.wanted) e)
wanted_in (v ∷ us) u (inr i) = inr (wanted_in us u i)

rises_of : (us : List Use) → AllPairs IsBefore (wanted_of us) → Rises us
rises_of [] pairs = tt
rises_of (u ∷ us) pairs = (
  (λ v i. let c = contains_of (wanted_of us) v.wanted (wanted_in us v i) in let low = c.1 in subst (IsBefore u.wanted) c.2 (pairs 0 (suc c.0) v.wanted (omega arith) (omega (arith, low)))),
  rises_of us (λ i j d low high. pairs (suc i) (suc j) d (omega (arith, low)) (omega (arith, high))),
)

head_same : (u v : Use) (us vs : List Use) → Rises (u ∷ us) → Rises (v ∷ vs) → In (v ∷ vs) u → In (u ∷ us) v → u ≡ v
head_same u v us vs a b (inl e) back = sym e
head_same u v us vs a b (inr i) (inl e) = e
head_same u v us vs a b (inr i) (inr j) = absurd (not_both u.wanted v.wanted (a.0 v j) (b.0 u i))

-- what stands behind one head stands behind the other
behind : (u v : Use) (us vs : List Use) → Rises (u ∷ us) → u ≡ v → (x : Use) → In us x → In (v ∷ vs) x → In vs x
behind u v us vs a same x i (inl e) =
    let low = subst (λ (y : Use). IsBefore u.wanted y.wanted) (sym e ∙ sym same) (a.0 x i) in absurd (not_both u.wanted u.wanted low low)
behind u v us vs a same x i (inr j) = j

same_list : (us vs : List Use) → Rises us → Rises vs → ((x : Use) → In us x → In vs x) → ((x : Use) → In vs x → In us x) → us ≡ vs
same_list [] [] a b there back = refl
same_list [] (v ∷ vs) a b there back = absurd (back v (inl refl))
same_list (u ∷ us) [] a b there back = absurd (there u (inl refl))
same_list (u ∷ us) (v ∷ vs) a b there back =
    let e : u ≡ v = head_same u v us vs a b (there u (inl refl)) (back v (inl refl)) in
    let rest : us ≡ vs =
    same_list us vs a.1 b.1 (λ x i. behind u v us vs a e x i (there x (inr i))) (λ x i. behind v u vs us b (sym e) x i (back x (inr i))) in
    ap (λ x. x ∷ us) e ∙ ap (λ xs. v ∷ xs) rest

-- what is wanted is so by a use
pub from_wanted : (us : List Use) (w : Wanted) → Contains (wanted_of us) w → (u : Use) × Contains us u × (u.wanted ≡ w)
from_wanted [] w at = absurd (omega (arith, at.1))
from_wanted (u ∷ us) w (zero, low, e) = (u, (0, omega arith, refl), e)
from_wanted (u ∷ us) w (suc k, low, e) =
    let r = from_wanted us w (k, omega (arith, low), e) in
    let under = r.1.1 in
    (r.0, (suc r.1.0, omega (arith, under), r.1.2), r.2)

-- ---- names

shows_none : (g : Graph) (k : ℕ) (t f : ℤ) → slice_get g.nodes k ≡ None → Shows (graph_nodes meaning_of g no_images k) t f → ⊥
unfolding nodes_of
shows_none g k t f none shows =
    none-some f (subst (λ (o : Option (Shown Shipped)). Shows (node_in meaning_of g.project (no_images k) o) t f) none shows)

one_name_by : (project : Bounds) (k : ℕ) (d : Depth) (c : Components) (work : Does Shipped) (v w : Wanted) (t : ℤ)
    → v.frame ≡ w.frame → Shows (node_of meaning_of project (no_images k) d c work) t v.frame
    → IsNamedBy work v → IsNamedBy work w → v.name ≡ w.name
one_name_by project k d c (does.Source pattern first last hold) v w t same shows a b =
    let n = shown_natural first last hold t v.frame shows in
    a n.0 n.1 ∙ sym (b n.0 (sym same ∙ n.1))
one_name_by project k d c (does.Effect e context clips names optional masks params) v w t same shows a b = absurd shows

-- entries of one node's frame have one name: at each take a source is as it is written
pub one_name : (g : Graph) (takes : List (List Edit)) (i : ℕ) (v w : Wanted) (t : ℤ) → v.node ≡ w.node → v.frame ≡ w.frame
    → Shows (graph_nodes meaning_of (graph_of_take g takes i) no_images v.node) t v.frame → IsNamedIn g v → IsNamedIn g w → v.name ≡ w.name
one_name g takes i v w t node frame shows a b = by_node (slice_get h.nodes v.node) refl
  where
    h : Graph
    h = graph_of_take g takes i

    by_work : (n m : Shown Shipped) (work : Does Shipped) → n.does ≡ work → slice_get g.nodes v.node ≡ Some m → Stems m n
        → Shows (node_of meaning_of g.project (no_images v.node) n.depth n.components work) t v.frame → v.name ≡ w.name
    by_work n m (does.Source pattern first last hold) is there stems shown =
        let same : m ≡ n = stems.source (subst IsSource (sym is) tt) in
        let here : slice_get g.nodes v.node ≡ Some n = there ∙ ap (λ (x : Shown Shipped). Some x) same in
        one_name_by g.project v.node n.depth n.components (does.Source pattern first last hold) v w t frame shown
        (subst (λ (d : Does Shipped). IsNamedBy d v) is (a n here))
        (subst (λ (d : Does Shipped). IsNamedBy d w) is (b n (ap (slice_get g.nodes) (sym node) ∙ here)))
    by_work n m (does.Effect e context clips names optional masks params) is there stems shown = absurd shown

    by_node : (o : Option (Shown Shipped)) → slice_get h.nodes v.node ≡ o → v.name ≡ w.name
    by_node None none = absurd (shows_none h v.node t v.frame none shows)
    by_node (Some n) there =
        let from = from_take g.nodes takes i v.node n there in
        by_work n from.node n.does refl from.there from.stems
        (subst (λ (s : Node). Shows s t v.frame) (node_is meaning_of h no_images v.node n n.does there refl) shows)

-- ---- two lists of what is used

same_wanted : (v w : Wanted) → v.node ≡ w.node → v.frame ≡ w.frame → v.name ≡ w.name → v ≡ w
same_wanted v w node frame name =
    let first : v ≡ record v { node = w.node } = ap (λ n. record v { node = n }) node in
    let second : record v { node = w.node } ≡ record w { name = v.name } = ap (λ f. record { node = w.node; frame = f; name = v.name }) frame in
    first ∙ second ∙ ap (λ n. record w { name = n }) name

same_use : (u v : Use) → u.wanted ≡ v.wanted → u.from ≡ v.from → u.until ≡ v.until → u ≡ v
same_use u v wanted from until =
    let first : u ≡ record u { wanted = v.wanted } = ap (λ w. record u { wanted = w }) wanted in
    let second : record u { wanted = v.wanted } ≡ record v { until = u.until } = ap (λ m. record { wanted = v.wanted; from = m; until = u.until }) from in
    first ∙ second ∙ ap (λ m. record v { until = m }) until

neither : (m n : ℕ) → (m < n → ⊥) → (n < m → ⊥) → m ≡ n
neither m n low high = omega (arith, low, high)

module _ (r : Reel) where
  abbrev W : ℕ → ℕ → ℤ → Type 0
  W = wanting_in r

  abbrev n : ℕ
  n = moments_in r

  -- uses of one node's frame have the same moments
  same_moments : (u v : Use) → IsUse W n u → IsUse W n v → u.wanted.node ≡ v.wanted.node → u.wanted.frame ≡ v.wanted.frame
      → (u.from ≡ v.from) × (u.until ≡ v.until)
  same_moments u v p q node frame = (
    neither u.from v.from (λ low. q.none_before u.from low (to u.from p.first)) (λ low. p.none_before v.from low (back v.from q.first)),
    neither u.until v.until (λ low. p.none_after v.until low q.end (back v.until q.last)) (λ low. q.none_after u.until low p.end (to u.until p.last)),
  )
    where
      to : (j : ℕ) → W j u.wanted.node u.wanted.frame → W j v.wanted.node v.wanted.frame
      to j w = subst (λ (f : ℤ). W j v.wanted.node f) frame (subst (λ (k : ℕ). W j k u.wanted.frame) node w)

      back : (j : ℕ) → W j v.wanted.node v.wanted.frame → W j u.wanted.node u.wanted.frame
      back j w = subst (λ (f : ℤ). W j u.wanted.node f) (sym frame) (subst (λ (k : ℕ). W j k v.wanted.frame) (sym node) w)

  member : (us vs : List Use) → AreUsesOf r us → AreUsesOf r vs → (x : Use) → In us x → In vs x
  member us vs p q x i =
      let c = contains_of us x i in
      let is = p.moments.each x c in
      let order = is.order in
      let end = is.end in
      let found = q.moments.all x.from x.wanted.node x.wanted.frame (omega (arith, order, end)) is.first in
      let y = found.use_ in
      let there = is.first in
      let name = one_name r.graph r.edits (take_in r x.from) x.wanted y.wanted there.at (sym found.node) (sym found.frame) there.shows
      (All-contains (λ (u : Use). IsNamedIn r.graph u.wanted) us x p.names c) (All-contains (λ (u : Use). IsNamedIn r.graph u.wanted) vs y q.names found.listed) in
      let moments = same_moments x y is (q.moments.each y found.listed) (sym found.node) (sym found.frame) in
      let same : x ≡ y = same_use x y (same_wanted x.wanted y.wanted (sym found.node) (sym found.frame) name) moments.0 moments.1 in
      subst (In vs) (sym same) (in_of vs y found.listed)

  -- they are one
  same_uses : (us vs : List Use) → AreUsesOf r us → AreUsesOf r vs → us ≡ vs
  same_uses us vs p q =
      same_list us vs (rises_of us p.moments.order) (rises_of vs q.moments.order) (member us vs p q) (member vs us q p)

-- ---- reels that render the same

-- the same frames of the same graph, with takes whose edits show the same
pub record SameReel (r s : Reel) : Type 0 where
  pub graph : r.graph ≡ s.graph
  pub edits : map (map edit_shown) r.edits ≡ map (map edit_shown) s.edits
  pub first : r.first ≡ s.first
  pub count : r.count ≡ s.count

-- what moment j of such a reel wants, by what its edits show
abbrev Wants : Graph → List (List EditShown) → ℕ → ℕ → ℕ → ℕ → ℤ → Type 0
Wants g takes a n j k f =
    let t = pos (frame_at a n j) in
    IsWanted (graph_nodes meaning_of (record g { nodes = shown_nodes g.nodes takes (take_at n j) }) no_images) g.output t t k f

abbrev WantsOver : Reel → ℕ → ℕ → ℤ → List (Shown Shipped) → Type 0
WantsOver r j k f nodes =
    let t = pos (frame_in r j) in IsWanted (graph_nodes meaning_of (record r.graph { nodes = nodes }) no_images) r.graph.output t t k f

wants_shown : (r : Reel) (j k : ℕ) (f : ℤ) → wanting_in r j k f
    → Wants r.graph (map (map edit_shown) r.edits) r.first r.count j k f
wants_shown r j k f w = subst (WantsOver r j k f) (nodes_shown r.graph.nodes r.edits (take_in r j)) w

shown_wants : (r : Reel) (j k : ℕ) (f : ℤ) → Wants r.graph (map (map edit_shown) r.edits) r.first r.count j k f
    → wanting_in r j k f
shown_wants r j k f w = subst (WantsOver r j k f) (sym (nodes_shown r.graph.nodes r.edits (take_in r j))) w

same_wants : (r s : Reel) → SameReel r s → (j k : ℕ) (f : ℤ) → wanting_in r j k f → wanting_in s j k f
same_wants r s same j k f w =
    shown_wants s j k f
    (subst (λ (n : ℕ). Wants s.graph (map (map edit_shown) s.edits) s.first n j k f) same.count
    (subst (λ (a : ℕ). Wants s.graph (map (map edit_shown) s.edits) a r.count j k f) same.first
    (subst (λ (es : List (List EditShown)). Wants s.graph es r.first r.count j k f) same.edits
    (subst (λ (g : Graph). Wants g (map (map edit_shown) r.edits) r.first r.count j k f) same.graph (wants_shown r j k f w)))))

pub other_way : (r s : Reel) → SameReel r s → SameReel s r
other_way r s same = record { graph = sym same.graph; edits = sym same.edits; first = sym same.first; count = sym same.count }

pub same_takes : (r s : Reel) → SameReel r s → takes_in r ≡ takes_in s
same_takes r s same =
    let a : length (map (map edit_shown) r.edits) ≡ length r.edits = length-map r.edits (map edit_shown) in
    let b : length (map (map edit_shown) s.edits) ≡ length s.edits = length-map s.edits (map edit_shown) in
    let long : length (map (map edit_shown) r.edits) ≡ length (map (map edit_shown) s.edits) = ap length same.edits in
    omega (arith, a, b, long)

pub same_count : (r s : Reel) → SameReel r s → moments_in r ≡ moments_in s
same_count r s same = ap (λ n. n * takes_in r) same.count ∙ ap (λ n. s.count * n) (same_takes r s same)

uses_as : (r s : Reel) → SameReel r s → (us : List Use) → AreUsesOf r us → AreUsesOf s us
uses_as r s same us are =
    record {
      moments = subst (λ (n : ℕ). AreUses (wanting_in s) n us) (same_count r s same)
          (record {
            each = λ u c.
                let is = are.moments.each u c in
                record {
                  order = is.order;
                  end = is.end;
                  first = there u.from u.wanted.node u.wanted.frame is.first;
                  last = there u.until u.wanted.node u.wanted.frame is.last;
                  none_before = λ i low w. is.none_before i low (back i u.wanted.node u.wanted.frame w);
                  none_after = λ i low high w. is.none_after i low high (back i u.wanted.node u.wanted.frame w);
                };
            all = λ j k f low w. are.moments.all j k f low (back j k f w);
            order = are.moments.order;
          });
      names = subst (λ (g : Graph). All (λ u. IsNamedIn g u.wanted) us) same.graph are.names;
    }
  where
    there : (j k : ℕ) (f : ℤ) → wanting_in r j k f → wanting_in s j k f
    there = same_wants r s same

    back : (j k : ℕ) (f : ℤ) → wanting_in s j k f → wanting_in r j k f
    back = same_wants s r (other_way r s same)

-- their uses are one
pub uses_once : (r s : Reel) (us vs : List Use) → SameReel r s → AreUsesOf r us → AreUsesOf s vs → us ≡ vs
uses_once r s us vs same p q = same_uses s us vs (uses_as r s same us p) q
