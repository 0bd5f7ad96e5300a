-- Values depend on the wanted frames alone.
use Rattle.std.proofs.Common.{◌≡◌, ℕ, ◌<◌, ◌≤◌, ℤ, pos, ◌≤ℤ◌, ◌+ℤ◌, Bool, true, false, List, map, length, slice_get, Option, Some, None, refl, sym, ap, ◌∙◌, subst, All}
use mathlib.Core.Path.{fun_ext}
use Rattle.std.proofs.lemmas.Option.{none-some}
use Rattle.fx_base.specs.Bounds.{Bounds}
use Rattle.fx_base.specs.declared.limits.TheConstants.{MOST_NODES}
use Rattle.fx_pixel.specs.declared.Depth.{Depth}
use Rattle.fx_pixel.specs.declared.Components.{Components}
use Rattle.fx_pixel.specs.declared.Pixel.{Pixel}
use Rattle.fx_pixel.specs.Pixel.{convert, greatest}
use Rattle.fx_pam.specs.Laws.{components_for}
use Rattle.fx_image.specs.Image.{Image, pixel_at}
use Rattle.fx_effect.specs.Tap.{Tap}
use Rattle.fx_effect.specs.Shape.{IsProject}
use Rattle.fx_effect.specs.Laws.{Laws, IsCovered}
use Rattle.fx_effect.specs.Meaning.{Meaning}
use Rattle.fx_graph.specs.Shown.{Does, GraphShown, Shown}
use Rattle.fx_graph.specs.Shown as does
use Rattle.fx_graph.specs.Nodes.{Form}
use Rattle.fx_graph.specs.Kept as kept
use Rattle.fx_scene.specs.Depends.{AgreeOnWanted, AreImages, AreSame, PicturesDependOnWanted, ValueDependsOnWanted}
use Rattle.fx_scene.specs.Frames.{in_some}
use Rattle.fx_scene.specs.Nodes.{AreNodes, Effect, EffectNode, IsEffectNode, IsNode, Node, Nodes, Source, clip_node, depth_at, node_depth, seen}
use Rattle.fx_scene.specs.Reach.{IsReached, IsReadBy}
use Rattle.fx_scene.specs.Scenes.{Images, effect_node, graph_nodes, no_images, node_in, node_of, nodes_of, picture, shown_frame, source_node}
use Rattle.fx_scene.specs.Value.{Pixels, clip_value, frame_pixel, node_value, source_pixel, tap_value, value}
use Rattle.fx_scene.specs.Wants.{IsWanted, Shows}
use Rattle.fx_scene.proofs.Equations.{value_is}
use Rattle.fx_scene.proofs.Members.{In, all_in, in_of, in_some_at, map_same}
use Rattle.fx_scene.proofs.NodesLemmas.{are_nodes}
use Rattle.fx_scene.proofs.Outside.{dot, in_dot}
use Rattle.fx_scene.proofs.Places.{by_place}

module _ {E : Type 0} (meaning : E → Meaning) (g : GraphShown E) where
  abbrev over : Images → Nodes
  over images = graph_nodes meaning g images

  node_here : (images : Images) (k : ℕ) (o : Option (Shown E)) → slice_get g.nodes k ≡ o
      → over images k ≡ node_in meaning g.project (images k) o
  unfolding nodes_of
  node_here images k o e = ap (node_in meaning g.project (images k)) e

  work_depth : (f h : ℤ → Option Image) (d : Depth) (c : Components) (work : Does E)
      → node_depth (node_of meaning g.project f d c work) ≡ node_depth (node_of meaning g.project h d c work)
  work_depth f h d c (does.Source pattern first last hold) = refl
  work_depth f h d c (does.Effect e context clips names optional masks params) = refl

  same_depth : (a b : Images) (k : ℕ) → depth_at (over a) k ≡ depth_at (over b) k
  same_depth a b k = by_node (slice_get g.nodes k) refl
    where
      in_both : (o : Option (Shown E)) → node_depth (node_in meaning g.project (a k) o) ≡ node_depth (node_in meaning g.project (b k) o)
      in_both None = refl
      in_both (Some n) = work_depth (a k) (b k) n.depth n.components n.does

      by_node : (o : Option (Shown E)) → slice_get g.nodes k ≡ o → depth_at (over a) k ≡ depth_at (over b) k
      by_node o e = ap node_depth (node_here a k o e) ∙ in_both o ∙ sym (ap node_depth (node_here b k o e))

  -- ---- what is read is the same over any images

  work_reads : (f h : ℤ → Option Image) (d : Depth) (c : Components) (work : Does E) (t : ℤ) (m : ℕ) (u : ℤ)
      → IsReadBy (node_of meaning g.project f d c work) t m u → IsReadBy (node_of meaning g.project h d c work) t m u
  work_reads f h d c (does.Source pattern first last hold) t m u r = r
  work_reads f h d c (does.Effect e context clips names optional masks params) t m u r = r

  pub same_reads : (a b : Images) (k : ℕ) (t : ℤ) (m : ℕ) (u : ℤ) → IsReadBy (over a k) t m u → IsReadBy (over b k) t m u
  same_reads a b k t m u r = by_node (slice_get g.nodes k) refl
    where
      in_both : (o : Option (Shown E)) → IsReadBy (node_in meaning g.project (a k) o) t m u
          → IsReadBy (node_in meaning g.project (b k) o) t m u
      in_both None h = h
      in_both (Some n) h = work_reads (a k) (b k) n.depth n.components n.does t m u h

      by_node : (o : Option (Shown E)) → slice_get g.nodes k ≡ o → IsReadBy (over b k) t m u
      by_node o e =
          subst (λ (node : Node). IsReadBy node t m u) (sym (node_here b k o e))
          (in_both o (subst (λ (node : Node). IsReadBy node t m u) (node_here a k o e) r))

  -- ---- one node

  -- the pixel that a tap reads is the same in both
  clip_same : (a b : Images) (to : Depth) (c : Components) (o : Option ℕ) (f x y : ℤ)
      → ((m : ℕ) → o ≡ Some m → value (over a) m f x y ≡ value (over b) m f x y)
      → clip_value (depth_at (over a)) (value (over a)) to c o f x y ≡ clip_value (depth_at (over b)) (value (over b)) to c o f x y
  clip_same a b to c None f x y h = refl
  clip_same a b to c (Some m) f x y h =
      ap (λ (d : Depth). convert d to c (value (over a) m f x y)) (same_depth a b m)
      ∙ ap (convert (depth_at (over b) m) to c) (h m refl)

  covered_frame : (clips : ℕ) (spans : ℕ → List (ℤ × ℤ)) (roi : ℕ → Bounds) (p : Tap) → IsCovered clips spans roi p
      → in_some (spans p.clip) p.frame ≡ true
  covered_frame clips spans roi p c =
      in_some_at (spans p.clip) c.span p.frame (in_of (spans p.clip) c.span c.listed) c.at_frame.0 c.at_frame.1

  effect_same : (a b : Images) (k : ℕ) (o : EffectNode) (t x y : ℤ) → IsEffectNode k o
      → ((m : ℕ) (f u v : ℤ) → IsReadBy (Effect o) t m f → value (over a) m f u v ≡ value (over b) m f u v)
      → node_value (depth_at (over a)) (value (over a)) (Effect o) t x y
      ≡ node_value (depth_at (over b)) (value (over b)) (Effect o) t x y
  effect_same a b k o t x y i h =
      let v = o.values t in
      let taps = o.meaning.taps v x y in
      let covered = i.laws.interest_holds_taps o.context v (dot x y) x y (i.lawful t) (in_dot x y) in
      ap (o.meaning.mix v o.components (greatest o.depth) x y)
      (map_same (tap_value (depth_at (over a)) (value (over a)) o) (tap_value (depth_at (over b)) (value (over b)) o)
      (λ p. in_some (o.meaning.spans v p.clip) p.frame ≡ true)
      (λ p f. clip_same a b o.depth (seen o p.clip) (clip_node o p.clip) p.frame p.x p.y
      (λ m e. h m p.frame p.x p.y (record { clip = p.clip; node = e; frame = f })))
      taps
      (λ p n. covered_frame (length v.connected) (o.meaning.spans v) (o.meaning.roi v (dot x y)) p
      (all_in (IsCovered (length v.connected) (o.meaning.spans v) (o.meaning.roi v (dot x y))) taps p covered n)))

  source_same : (a b : Images) (k : ℕ) (d : Depth) (c : Components) (first last : ℕ) (hold : Bool) (t x y : ℤ) (r : Option ℤ)
      → ((f : ℤ) → r ≡ Some f → AreSame (a k f) (b k f))
      → source_pixel (source_node (a k) d c first last hold) r x y ≡ source_pixel (source_node (b k) d c first last hold) r x y
  source_same a b k d c first last hold t x y None h = refl
  source_same a b k d c first last hold t x y (Some f) h = frame_same (a k f) (b k f) (h f refl)
    where
      frame_same : (p q : Option Image) → AreSame p q
          → frame_pixel (source_node (a k) d c first last hold) p x y ≡ frame_pixel (source_node (b k) d c first last hold) q x y
      frame_same None None same = refl
      frame_same None (Some j) same = absurd same
      frame_same (Some i) None same = absurd same
      frame_same (Some i) (Some j) same =
          ap (λ (e : Depth). convert e d c (pixel_at i x y)) same.depth ∙ ap (convert j.depth d c) (same.pixels x y)

  -- what a node does is the same in both, where the values that it reads and the frames that it shows are
  work_same : (a b : Images) (k : ℕ) (d : Depth) (c : Components) (work : Does E) (t x y : ℤ)
      → IsNode k (node_of meaning g.project (a k) d c work)
      → ((f : ℤ) → Shows (node_of meaning g.project (no_images k) d c work) t f → AreSame (a k f) (b k f))
      → ((m : ℕ) (f u v : ℤ) → IsReadBy (node_of meaning g.project (no_images k) d c work) t m f
      → value (over a) m f u v ≡ value (over b) m f u v)
      → node_value (depth_at (over a)) (value (over a)) (node_of meaning g.project (a k) d c work) t x y
      ≡ node_value (depth_at (over b)) (value (over b)) (node_of meaning g.project (b k) d c work) t x y
  work_same a b k d c (does.Source pattern first last hold) t x y i shows reads =
      source_same a b k d c first last hold t x y (shown_frame first last hold t) shows
  work_same a b k d c (does.Effect e context clips names optional masks params) t x y i shows reads =
      effect_same a b k (effect_node (meaning e) g.project d c context clips params) t x y i reads

  in_same : (a b : Images) (k : ℕ) (o : Option (Shown E)) (t x y : ℤ)
      → IsNode k (node_in meaning g.project (a k) o)
      → ((f : ℤ) → Shows (node_in meaning g.project (no_images k) o) t f → AreSame (a k f) (b k f))
      → ((m : ℕ) (f u v : ℤ) → IsReadBy (node_in meaning g.project (no_images k) o) t m f
      → value (over a) m f u v ≡ value (over b) m f u v)
      → node_value (depth_at (over a)) (value (over a)) (node_in meaning g.project (a k) o) t x y
      ≡ node_value (depth_at (over b)) (value (over b)) (node_in meaning g.project (b k) o) t x y
  in_same a b k None t x y i shows reads = refl
  in_same a b k (Some n) t x y i shows reads = work_same a b k n.depth n.components n.does t x y i shows reads

  -- ---- all nodes that are reached

  module _ (a b : Images) (root : ℕ) (first last : ℤ) (are_a : AreNodes (over a)) (are_b : AreNodes (over b))
      (are_none : AreNodes (over no_images)) (agree : AgreeOnWanted meaning g root first last a b) where
    abbrev SameAt : ℕ → Type 0
    SameAt k =
        (t : ℤ) → IsReached (over no_images) root first last k t → (x y : ℤ) → value (over a) k t x y ≡ value (over b) k t x y

    same_step : (k : ℕ) → ((m : ℕ) → m < k → SameAt m) → SameAt k
    same_step k before t r x y =
        ap (λ (v : Pixels). v t x y) (value_is (over a) are_a k)
        ∙ by_node (slice_get g.nodes k) refl
        ∙ sym (ap (λ (v : Pixels). v t x y) (value_is (over b) are_b k))
      where
        shown_same : (o : Option (Shown E)) → slice_get g.nodes k ≡ o → (f : ℤ)
            → Shows (node_in meaning g.project (no_images k) o) t f → AreSame (a k f) (b k f)
        shown_same o e f s =
            agree k f (record { at = t; reached = r; shows = subst (λ (node : Node). Shows node t f) (sym (node_here no_images k o e)) s })

        lower : (m : ℕ) (f : ℤ) (node : Node) → IsNode k node → IsReadBy node t m f → m < k
        lower m f (Source s) i h = absurd h
        lower m f (Effect o) i h = i.earlier h.clip m h.node

        read_same : (o : Option (Shown E)) → slice_get g.nodes k ≡ o → (m : ℕ) (f u v : ℤ)
            → IsReadBy (node_in meaning g.project (no_images k) o) t m f → value (over a) m f u v ≡ value (over b) m f u v
        read_same o e m f u v h =
            let there = subst (λ (node : Node). IsReadBy node t m f) (sym (node_here no_images k o e)) h in
            before m (lower m f (over no_images k) (are_none k) there) f (λ s closed. closed.reads k t (r s closed) m f there) u v

        by_node : (o : Option (Shown E)) → slice_get g.nodes k ≡ o
            → node_value (depth_at (over a)) (value (over a)) (over a k) t x y
            ≡ node_value (depth_at (over b)) (value (over b)) (over b k) t x y
        by_node o e =
            ap (λ (node : Node). node_value (depth_at (over a)) (value (over a)) node t x y) (node_here a k o e)
            ∙ in_same a b k o t x y (subst (λ (node : Node). IsNode k node) (node_here a k o e) (are_a k)) (shown_same o e) (read_same o e)
            ∙ sym (ap (λ (node : Node). node_value (depth_at (over b)) (value (over b)) node t x y) (node_here b k o e))

  module _ (form : Form) (laws : (e : E) → Laws (meaning e)) (is : IsProject g.project) (few : length g.nodes ≤ MOST_NODES)
      (are : kept.AreNodes meaning form g.nodes) where
    over_are : (images : Images) → AreImages images → AreNodes (over images)
    over_are images h = are_nodes meaning g.project form g.nodes images laws is few h are

    no_pictures : AreImages no_images
    no_pictures k f image h = absurd (none-some image h)

    pub value_depends : ValueDependsOnWanted meaning g
    value_depends n first last a b is_a is_b agree t x y low high =
        by_place (SameAt a b n first last (over_are a is_a) (over_are b is_b) (over_are no_images no_pictures) agree)
        (same_step a b n first last (over_are a is_a) (over_are b is_b) (over_are no_images no_pictures) agree) n t
        (λ s closed. closed.start t low high) x y

    pub pictures_depend : PicturesDependOnWanted meaning g
    pictures_depend first last a b is_a is_b agree t low high =
        ap (λ (px : ℤ → ℤ → Pixel).
        record { rect = g.project; depth = g.depth; components = components_for g.format; pixel = px })
        (fun_ext (λ (x : ℤ). fun_ext (λ (y : ℤ).
        ap (λ (d : Depth). convert d g.depth (components_for g.format) (value (over a) g.output t x y)) (same_depth a b g.output)
        ∙ ap (convert (depth_at (over b) g.output) g.depth (components_for g.format))
        (value_depends g.output first last a b is_a is_b agree t x y low high))))
