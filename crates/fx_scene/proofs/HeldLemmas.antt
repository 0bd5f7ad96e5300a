-- What is held suffices for what is reached.
use Rattle.std.proofs.Common.{◌≡◌, ℕ, ◌<◌, ◌≤◌, ℤ, ◌≤ℤ◌, Bool, true, List, [], ◌∷◌, map, length, slice_get, inl, inr, Option, Some, None, IsSome, refl, sym, ap, ◌∙◌, subst, arith}
use Rattle.std.proofs.lemmas.Int.{ints}
use mathlib.Core.Path.{fun_ext}
use Rattle.std.specs.List.{range_with_len}
use Rattle.std.specs.Ordering.{int_eq}
use Rattle.fx_base.specs.Bounds.{Bounds}
use Rattle.fx_base.specs.declared.limits.TheConstants.{MOST_NODES}
use Rattle.fx_pixel.specs.declared.Depth.{Depth}
use Rattle.fx_pixel.specs.declared.Components.{Components}
use Rattle.fx_image.specs.Image.{Image}
use Rattle.fx_effect.specs.Laws.{Laws}
use Rattle.fx_effect.specs.Meaning.{Meaning}
use Rattle.fx_effect.specs.Shape.{IsProject}
use Rattle.fx_graph.specs.Shown.{Does, GraphShown, Shown}
use Rattle.fx_graph.specs.Shown as does
use Rattle.fx_graph.specs.Nodes.{Form}
use Rattle.fx_graph.specs.Kept as kept
use Rattle.fx_scene.specs.Areas.{area, clip_area, clip_areas, hull_all, image_area, node_area, source_area}
use Rattle.fx_scene.specs.Depends.{AgreeOnWanted, AreImages, AreSame}
use Rattle.fx_scene.specs.Frames.{frames_of, has_frame, in_some}
use Rattle.fx_scene.specs.Nodes.{AreNodes, Effect, EffectNode, IsNode, Node, Nodes, Source, clip_node}
use Rattle.fx_scene.specs.Reach.{IsReached, IsReadBy}
use Rattle.fx_scene.specs.Scenes.{Images, effect_node, graph_nodes, no_images, node_in, node_of, nodes_of, shown_frame, source_node}
use Rattle.fx_scene.specs.Wants.{IsWanted, Shows}
use Rattle.fx_scene.proofs.DependLemmas.{value_depends}
use Rattle.fx_scene.proofs.Equations.{area_is}
use Rattle.fx_scene.proofs.Members.{In, map_same}
use Rattle.fx_scene.proofs.NearLemmas.{listed_frames}
use Rattle.fx_scene.proofs.NodesLemmas.{are_nodes}
use Rattle.fx_scene.proofs.OpenLemmas.{own_frame}
use Rattle.fx_scene.proofs.Places.{by_place}
use Rattle.std.proofs.lemmas.Bool.{or_left, or_right}
use Rattle.fx_scene.specs.Holds.{HeldSuffice}
use Rattle.fx_scene.specs.Right.{HasGrown, HasWanted}
use Rattle.fx_scene.proofs.RightLemmas.{none_are, same_some}

-- ---- what is reached from a node that is reached

int_one : (t u : ℤ) → u ≤ℤ t → t ≤ℤ u → t ≡ u
int_one t u a b = omega (arith, ints)

pub reached_more : (nodes : Nodes) (output n m : ℕ) (first last u v : ℤ) → IsReached nodes output first last n u
    → IsReached nodes n u u m v → IsReached nodes output first last m v
reached_more nodes output n m first last u v p q s closed =
    q s (record {
      start = λ t low high. subst (λ (w : ℤ). s n w ≡ true) (sym (int_one t u low high)) (p s closed);
      reads = closed.reads;
    })

pub wanted_more : (nodes : Nodes) (output n k : ℕ) (first last u f : ℤ) → IsReached nodes output first last n u
    → IsWanted nodes n u u k f → IsWanted nodes output first last k f
wanted_more nodes output n k first last u f p w =
    record { at = w.at; reached = reached_more nodes output n k first last u w.at p w.reached; shows = w.shows }

-- ---- areas

pub is_listed : (fs : List ℤ) (f : ℤ) → In fs f → has_frame fs f ≡ true
is_listed [] f h = absurd h
is_listed (g ∷ fs) f h = elim h [
  | inl e ↦ or_left (int_eq g f) (has_frame fs f) (subst (λ (k : ℤ). int_eq k f ≡ true) (sym e) (own_frame f))
  | inr i ↦ or_right (int_eq g f) (has_frame fs f) (is_listed fs f i)
]

module _ {E : Type 0} (meaning : E → Meaning) (g : GraphShown E) where
  abbrev over : Images → Nodes
  over images = graph_nodes meaning g images

  here : (images : Images) (k : ℕ) (o : Option (Shown E)) → slice_get g.nodes k ≡ o
      → over images k ≡ node_in meaning g.project (images k) o
  unfolding nodes_of
  here images k o e = ap (node_in meaning g.project (images k)) e

  image_same : (p q : Option Image) → AreSame p q → image_area p ≡ image_area q
  image_same None None same = refl
  image_same None (Some j) same = absurd same
  image_same (Some i) None same = absurd same
  image_same (Some i) (Some j) same = same.rect

  source_same : (a b : Images) (k : ℕ) (d : Depth) (c : Components) (first last : ℕ) (hold : Bool) (r : Option ℤ)
      → ((f : ℤ) → r ≡ Some f → AreSame (a k f) (b k f))
      → source_area (source_node (a k) d c first last hold) r ≡ source_area (source_node (b k) d c first last hold) r
  source_same a b k d c first last hold None h = refl
  source_same a b k d c first last hold (Some f) h = image_same (a k f) (b k f) (h f refl)

  clip_same : (f h : ℕ → ℤ → Bounds) (spans : List (ℤ × ℤ)) (o : Option ℕ)
      → ((m : ℕ) (t : ℤ) → o ≡ Some m → in_some spans t ≡ true → f m t ≡ h m t)
      → clip_area f spans o ≡ clip_area h spans o
  clip_same f h spans None same = refl
  clip_same f h spans (Some m) same =
      ap hull_all (map_same (f m) (h m) (λ t. in_some spans t ≡ true) (λ t i. same m t refl i) (frames_of spans)
      (λ t i. listed_frames spans t (is_listed (frames_of spans) t i)))

  work_same : (a b : Images) (k : ℕ) (d : Depth) (c : Components) (work : Does E) (t : ℤ)
      → ((f : ℤ) → Shows (node_of meaning g.project (no_images k) d c work) t f → AreSame (a k f) (b k f))
      → ((m : ℕ) (f : ℤ) → IsReadBy (node_of meaning g.project (no_images k) d c work) t m f
      → area (over a) m f ≡ area (over b) m f)
      → node_area (area (over a)) (node_of meaning g.project (a k) d c work) t
      ≡ node_area (area (over b)) (node_of meaning g.project (b k) d c work) t
  work_same a b k d c (does.Source pattern first last hold) t shows reads =
      source_same a b k d c first last hold (shown_frame first last hold t) shows
  work_same a b k d c (does.Effect e context clips names optional masks params) t shows reads =
      let o = effect_node (meaning e) g.project d c context clips params in
      ap (λ (areas : ℕ → Bounds). o.meaning.rod o.context (o.values t) (map areas (range_with_len 0 (length o.clips))))
      (fun_ext (λ (i : ℕ). clip_same (area (over a)) (area (over b)) (o.meaning.spans (o.values t) i) (clip_node o i)
      (λ m f is in_. reads m f (record { clip = i; node = is; frame = in_ }))))

  in_same : (a b : Images) (k : ℕ) (o : Option (Shown E)) (t : ℤ)
      → ((f : ℤ) → Shows (node_in meaning g.project (no_images k) o) t f → AreSame (a k f) (b k f))
      → ((m : ℕ) (f : ℤ) → IsReadBy (node_in meaning g.project (no_images k) o) t m f
      → area (over a) m f ≡ area (over b) m f)
      → node_area (area (over a)) (node_in meaning g.project (a k) o) t
      ≡ node_area (area (over b)) (node_in meaning g.project (b k) o) t
  in_same a b k None t shows reads = refl
  in_same a b k (Some n) t shows reads = work_same a b k n.depth n.components n.does t shows reads

  module _ (a b : Images) (root : ℕ) (first last : ℤ) (are_a : AreNodes (over a)) (are_b : AreNodes (over b))
      (are_none : AreNodes (over no_images)) (agree : AgreeOnWanted meaning g root first last a b) where
    lower : (k m : ℕ) (t f : ℤ) (node : Node) → IsNode k node → IsReadBy node t m f → m < k
    lower k m t f (Source s) i h = absurd h
    lower k m t f (Effect o) i h = i.earlier h.clip m h.node

    pub area_same : (k : ℕ) → (t : ℤ) → IsReached (over no_images) root first last k t → area (over a) k t ≡ area (over b) k t
    area_same = by_place (λ k. (t : ℤ) → IsReached (over no_images) root first last k t → area (over a) k t ≡ area (over b) k t)
        (λ k before t r.
        ap (λ (v : ℤ → Bounds). v t) (area_is (over a) are_a k)
        ∙ by k before t r (slice_get g.nodes k) refl
        ∙ sym (ap (λ (v : ℤ → Bounds). v t) (area_is (over b) are_b k)))
      where
        by : (k : ℕ) → ((m : ℕ) → m < k → (t : ℤ) → IsReached (over no_images) root first last m t → area (over a) m t ≡ area (over b) m t)
            → (t : ℤ) → IsReached (over no_images) root first last k t → (o : Option (Shown E)) → slice_get g.nodes k ≡ o
            → node_area (area (over a)) (over a k) t ≡ node_area (area (over b)) (over b k) t
        by k before t r o e =
            let none = here no_images k o e in
            ap (λ (node : Node). node_area (area (over a)) node t) (here a k o e)
            ∙ in_same a b k o t
            (λ f s. agree k f (record { at = t; reached = r; shows = subst (λ (node : Node). Shows node t f) (sym none) s }))
            (λ m f h.
            let there = subst (λ (node : Node). IsReadBy node t m f) (sym none) h in
            before m (lower k m t f (over no_images k) (are_none k) there) f (λ s closed. closed.reads k t (r s closed) m f there))
            ∙ sym (ap (λ (node : Node). node_area (area (over b)) node t) (here b k o e))

  -- ---- what is held

  module _ (form : Form) (laws : (e : E) → Laws (meaning e)) (is : IsProject g.project) (few : length g.nodes ≤ MOST_NODES)
      (are : kept.AreNodes meaning form g.nodes) where
    are_over : (images : Images) → AreImages images → AreNodes (over images)
    are_over images h = are_nodes meaning g.project form g.nodes images laws is few h are

    pub held_suffice : HeldSuffice meaning g
    held_suffice held all t is_held is_all grown holds n u r =
        let own : HasWanted meaning g held n u = λ k f w. holds k f (wanted_more (over no_images) g.output n k t t u f r w) in
        let agree : AgreeOnWanted meaning g n u u held all = λ k f w. same_some meaning (held k f) (all k f) (grown k f) (own k f w) in (
          own,
          (λ x y. value_depends meaning g form laws is few are n u u held all is_held is_all agree u x y (omega (arith, ints)) (omega (arith, ints))),
          area_same held all n u u (are_over held is_held) (are_over all is_all) (are_over no_images none_are) agree n u
              (λ s closed. closed.start u (omega (arith, ints)) (omega (arith, ints))),
        )
