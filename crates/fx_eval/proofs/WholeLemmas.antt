-- Whole nodes, and the pictures that they show.
use Rattle.std.proofs.Common.{◌≡◌, ℕ, ◌<◌, ◌+◌, ℤ, List, [], ◌∷◌, ◌++◌, map, length, take, drop, get_or, Bool, true, false, refl, arith, sym, ap, ◌∙◌, subst, Option, Some, None}
use Rattle.std.proofs.lemmas.List.{drop_more, length-map, map-append, take_more}
use Rattle.std.proofs.lemmas.List.FromFn.{get_or-map-range_with_len, length-map-range_with_len, map-range_with_len_more}
use Rattle.std.proofs.lemmas.List.{get_or-map}
use Rattle.std.proofs.lemmas.List.Elements.{All-nil, All-cons, All-append}
use Rattle.std.specs.List.{All, range_with_len}
use Rattle.std.specs.Arc.{arc_value}
use Rattle.std.specs.BTreeMap.{BTreeMap}
use Rattle.std.specs.declared.alloc.Global.{Global}
use Rattle.std.specs.declared.sync.Arc.{Arc}
use Rattle.std.specs.declared.vec.Vec.{Vec}
use Rattle.fx_base.specs.Bounds.{Bounds}
use Rattle.fx_base.specs.Rect.{Holds, hull, within}
use Rattle.fx_pixel.specs.declared.Depth.{Depth}
use Rattle.fx_pixel.specs.declared.Components.{Components}
use Rattle.fx_pixel.specs.declared.Components.TheVariants.{Rgba}
use Rattle.fx_pixel.specs.declared.Pixel.{Pixel}
use Rattle.fx_pixel.specs.Pixel.{convert, zero as zero_pixel}
use Rattle.fx_pam.specs.Laws.{components_for}
use Rattle.fx_image.specs.Image.{SameImage, pixel_at}
use Rattle.fx_image.specs.Stored.{Stored, image_of, shown}
use Rattle.fx_effect.specs.Given.{Given, row_pixel}
use Rattle.fx_effect.specs.Meaning.{Meaning, rendered}
use Rattle.fx_effect.specs.declared.values.Values.{Values}
use Rattle.fx_graph.specs.Shown.{GraphShown}
use Rattle.fx_scene.specs.Nodes.{AreNodes, Effect, EffectNode, Node, Nodes, Source, SourceFrames, clip_node, depth_at, seen}
use Rattle.fx_scene.specs.Areas.{area, clip_area, clip_areas, hull_all, hull_with, node_area, source_area}
use Rattle.fx_scene.specs.Frames.{clip_frames, frames_of, has_frame, items_of}
use Rattle.fx_scene.specs.Scenes.{Images, graph_nodes, picture}
use Rattle.fx_scene.specs.Value.{value}
use Rattle.fx_scene.specs.declared.reaching.NodeFrame.{NodeFrame}
use Rattle.fx_scene.proofs.Equations.{area_is}
use Rattle.fx_scene.proofs.Members.{all_in, all_from}
use Rattle.fx_eval.specs.declared.whole.Whole.{Whole}
use Rattle.fx_eval.specs.Cuts.{IsCut}
use Rattle.fx_eval.specs.Wholes.{AreWhole, HasRegion, IsImageOf, IsMade, IsReady, IsWhole, images_made, look, rect_of}
use Rattle.fx_eval.specs.Inputs.{Adds, AreMade, IsOne, Reads, blank}
use Rattle.fx_life.specs.Filled.{IsFilled}
use Rattle.fx_scene.specs.Windows.{IsWindowOf}
use Rattle.fx_eval.specs.Filled.{AreWindows}
use Rattle.fx_scene.proofs.NearLemmas.{listed, listed_frames}
use Rattle.fx_eval.proofs.PieceLemmas.{read_is, source_area_is, window_image}

-- ---- what is kept

pub whole_area : (nodes : Nodes) (made : BTreeMap NodeFrame Whole) (n : ℕ) (f : ℤ) (w : Whole) → AreWhole nodes made
    → look made n f ≡ Some w → w.area ≡ area nodes n f
whole_area nodes made n f w are there = (are n f w there).area_is

-- ---- lists

pub each_more : {X : Type 0} (P : X → Type 0) (xs ys : List X) (x : X) → ys ≡ xs ++ x ∷ [] → All P xs → P x → All P ys
each_more P xs ys x e a p = subst (All P) (sym e) (All-append P xs (x ∷ []) a (All-cons P x [] p (All-nil P)))

pub rects_more : (images now : List Stored) (image : Stored) (cuts : List Bounds) (i : ℕ) (r : Bounds) → i < length cuts
    → now ≡ images ++ image ∷ [] → image.rect ≡ r → r ≡ get_or cuts i r → map rect_of images ≡ take i cuts
    → map rect_of now ≡ take (i + 1) cuts
rects_more images now image cuts i r low pushed rect at h =
    ap (map rect_of) pushed ∙ map-append rect_of images (image ∷ [])
    ∙ ap (λ (rs : List Bounds). rs ++ image.rect ∷ []) h ∙ ap (λ (q : Bounds). take i cuts ++ q ∷ []) (rect ∙ at)
    ∙ sym (take_more cuts i r low)

-- what shared values are, with one more
pub values_more : {X : Type 0} (xs ys : List (Arc X Global)) (x : Arc X Global) → ys ≡ xs ++ x ∷ []
    → map arc_value ys ≡ map arc_value xs ++ arc_value x ∷ []
values_more {X} xs ys x pushed = ap (map arc_value) pushed ∙ map-append arc_value xs (x ∷ [])

-- ---- areas

pub effect_area : (nodes : Nodes) → AreNodes nodes → (k : ℕ) (o : EffectNode) → nodes k ≡ Effect o → (t : ℤ)
    → o.meaning.rod o.context (o.values t) (clip_areas (area nodes) o t) ≡ area nodes k t
effect_area nodes ok k o stands t =
    sym (ap (λ (a : ℤ → Bounds). a t) (area_is nodes ok k) ∙ ap (λ (q : Node). node_area (area nodes) q t) stands)

-- ---- what is read is made

-- the node of a clip is made there
pub clip_made : (o : EffectNode) (t : ℤ) (made : BTreeMap NodeFrame Whole) (c : ℕ) (clip : Option ℕ) (fs : List ℤ)
    → IsReady (Effect o) t made → clip ≡ clip_node o c → fs ≡ clip_frames o t c → AreMade made clip fs
clip_made o t made c None fs ready at is = tt
clip_made o t made c (Some m) fs ready at is =
    all_from (IsMade made m) fs (λ f i.
    ready m f (record {
      clip = c;
      node = sym at;
      frame = listed_frames (o.meaning.spans (o.values t) c) f (ap (λ (gs : List ℤ). has_frame gs f) (sym is) ∙ listed fs f i);
    }))

-- ---- whole nodes

pub source_whole : (nodes : Nodes) → AreNodes nodes → (k : ℕ) (t : ℤ) (s : SourceFrames) (w : Whole) → nodes k ≡ Source s
    → w.area ≡ source_area s (s.named t) → w.images.items ≡ [] → IsWhole nodes k t w
source_whole nodes ok k t s w stands is none =
    let none_made : images_made w ≡ [] = ap (λ (images : List (Arc Stored Global)). map arc_value images) none in
    record {
      area_is = is ∙ sym (source_area_is nodes ok k t s stands);
      right = subst (All (IsImageOf nodes k t)) (sym none_made) (All-nil (IsImageOf nodes k t));
      small = subst (λ (images : List Stored). All IsCut (map rect_of images)) (sym none_made) (All-nil IsCut);
      covers = subst (λ (q : Node). HasRegion q w.area (images_made w)) (sym stands) tt;
    }

-- windows of its area are the whole of an effect's node
pub windows_whole : (nodes : Nodes) → AreNodes nodes → (k : ℕ) (o : EffectNode) → nodes k ≡ Effect o → (t : ℤ)
    (ks : List Components) (given : Given) (w : Whole)
    → Adds nodes (clip_node o) (Reads o t (length o.clips)) (blank o.depth ks) given
    → ((clip : ℕ) → clip < length o.clips → get_or ks clip Rgba ≡ seen o clip)
    → w.area ≡ area nodes k t
    → AreWindows o.meaning (o.values t) given o.depth o.components w.area (images_made w) → IsWhole nodes k t w
windows_whole nodes ok k o stands t ks given w adds sees area_is windows =
    let images = images_made w in
    record {
      area_is = area_is;
      right = all_from (IsImageOf nodes k t) images (λ image i.
          window_image nodes ok k o stands t ks given image adds sees
          (all_in (λ z. IsWindowOf o.meaning (o.values t) given o.depth o.components z.rect z) images image windows.each i));
      small = windows.small;
      covers = subst (λ (q : Node). HasRegion q w.area images) (sym stands) windows.cover;
    }

-- ---- images that are written

pub filled_window : (s t : Stored) (m : Meaning) (v : Values) (given : Given) (depth : Depth) (c : Components) (region : Bounds)
    → s.rect ≡ region → s.depth ≡ depth → s.components ≡ c → IsFilled s t (rendered m v given s.depth s.components)
    → IsWindowOf m v given depth c region t
filled_window s t m v given depth c region rect deep samples filled =
    record {
      rect = filled.rect ∙ rect;
      depth_is = filled.depth ∙ deep;
      components_are = filled.components ∙ samples;
      pixels = λ x y inside.
          filled.pixels x y (rw rect inside) ∙ ap (λ (e : Depth). rendered m v given e s.components x y) deep
          ∙ ap (λ (e : Components). rendered m v given depth e x y) samples;
    }

-- ---- the picture

pub filled_picture : {E : Type 0} (meaning : E → Meaning) (g : GraphShown E) (images : Images) (t : ℤ) (old new : Stored)
    (given : Given) → AreNodes (graph_nodes meaning g images) → old.rect ≡ g.project → old.depth ≡ g.depth
    → old.components ≡ components_for g.format
    → Adds (graph_nodes meaning g images) (λ c. Some g.output) (IsOne 0 t) (blank old.depth (old.components ∷ [])) given
    → IsFilled old new (row_pixel given 0 t) → SameImage (image_of new) (picture meaning g images t)
filled_picture meaning g images t old new given ok rect depth components adds filled =
    let nodes = graph_nodes meaning g images in
    let shows : (x y : ℤ) → Holds g.project x y → shown new x y ≡ (picture meaning g images t).pixel x y = λ x y inside.
    filled.pixels x y (subst (λ (r : Bounds). Holds r x y) (sym rect) inside)
    ∙ read_is nodes ok (λ c. Some g.output) (IsOne 0 t) old.depth (old.components ∷ []) given adds old.components 0 t x y (refl, refl) refl
    ∙ ap (λ (d : Depth). convert (depth_at nodes g.output) d old.components (value nodes g.output t x y)) depth
    ∙ ap (λ (c : Components). convert (depth_at nodes g.output) g.depth c (value nodes g.output t x y)) components in
    record {
      rect = filled.rect ∙ rect;
      depth = filled.depth ∙ depth;
      components = filled.components ∙ components;
      pixels = λ x y. by_place x y (within g.project x y) refl shows;
    }
  where
    by_place : (x y : ℤ) (b : Bool) → within g.project x y ≡ b
        → ((x y : ℤ) → Holds g.project x y → shown new x y ≡ (picture meaning g images t).pixel x y)
        → shown new x y ≡ pixel_at (picture meaning g images t) x y
    by_place x y true e shows = rw e (shows x y e)
    by_place x y false e shows =
        (rw (filled.rect ∙ rect, e) refl) ∙ ap zero_pixel (filled.components ∙ components) ∙ (rw e refl)
