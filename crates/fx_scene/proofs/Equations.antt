-- The value, the area and the end of a node, by those of the nodes that its clips are.
use Rattle.std.proofs.Common.{◌≡◌, ℕ, ◌<◌, ◌+◌, ℤ, List, [], ◌∷◌, map, length, get_or, Bool, cond, refl, arith, sym, ap, ◌∙◌, subst, Option, Some, None}
use mathlib.Core.Path.{fun_ext}
use Rattle.std.specs.List.{range_with_len}
use Rattle.fx_base.specs.Bounds.{Bounds}
use Rattle.fx_base.specs.Rect.{meet, is_empty}
use Rattle.fx_pixel.specs.declared.Depth.{Depth}
use Rattle.fx_pixel.specs.declared.Components.{Components}
use Rattle.fx_pixel.specs.declared.Pixel.{Pixel}
use Rattle.fx_pixel.specs.Pixel.{convert}
use Rattle.fx_effect.specs.Tap.{Tap}
use Rattle.fx_effect.specs.Meaning.{mixed}
use Rattle.fx_scene.specs.Areas.{area, clip_area, no_area, node_area}
use Rattle.fx_scene.specs.Nodes.{AreNodes, Effect, IsNode, Node, Nodes, Source, clip_node, depth_at, seen}
use Rattle.fx_scene.specs.Table.{at_place, below}
use Rattle.fx_scene.specs.Value.{Pixels, clip_value, no_pixels, node_value, value}
use Rattle.fx_scene.proofs.TableLemmas.{below_is}

-- ---- the value

same_clip : (depths : ℕ → Depth) (to : Depth) (c : Components) (f g : ℕ → Pixels) (o : Option ℕ) → ((m : ℕ) → o ≡ Some m → f m ≡ g m) → clip_value depths f to c o ≡ clip_value depths g to c o
same_clip depths to c f g None h = refl
same_clip depths to c f g (Some m) h = ap {B = Pixels} (λ (v : Pixels) (t x y : ℤ). convert (depths m) to c (v t x y)) (h m refl)

same_node : (depths : ℕ → Depth) (k : ℕ) (f g : ℕ → Pixels) (node : Node) → IsNode k node → ((m : ℕ) → m < k → f m ≡ g m) → node_value depths f node ≡ node_value depths g node
same_node depths k f g (Source s) i h = refl
same_node depths k f g (Effect o) i h =
    ap {B = Pixels} (λ (v : Tap → Pixel) (t x y : ℤ). mixed o.meaning (o.values t) o.depth o.components v x y)
    (fun_ext (λ (p : Tap). ap (λ (c : Pixels). c p.frame p.x p.y) (same_clip depths o.depth (seen o p.clip) f g (clip_node o p.clip) (λ m e. h m (i.earlier p.clip m e)))))

-- the value of a node, by the values of the nodes that its clips are
pub value_is : (nodes : Nodes) → AreNodes nodes → (n : ℕ) → value nodes n ≡ node_value (depth_at nodes) (value nodes) (nodes n)
unfolding value
value_is nodes ok n = same_node (depth_at nodes) n (below no_pixels (λ before k. node_value (depth_at nodes) before (nodes k)) n) (at_place no_pixels (λ before k. node_value (depth_at nodes) before (nodes k))) (nodes n) (ok n) (λ m h. below_is no_pixels (λ before k. node_value (depth_at nodes) before (nodes k)) n m h)

-- ---- the area

same_clip_area : (f g : ℕ → ℤ → Bounds) (spans : List (ℤ × ℤ)) (o : Option ℕ) → ((m : ℕ) → o ≡ Some m → f m ≡ g m) → clip_area f spans o ≡ clip_area g spans o
same_clip_area f g spans None h = refl
same_clip_area f g spans (Some m) h = ap (λ (a : ℤ → Bounds). clip_area (λ j. a) spans (Some m)) (h m refl)

same_node_area : (k : ℕ) (f g : ℕ → ℤ → Bounds) (node : Node) → IsNode k node → ((m : ℕ) → m < k → f m ≡ g m) → node_area f node ≡ node_area g node
same_node_area k f g (Source s) i h = refl
same_node_area k f g (Effect o) i h =
    fun_ext (λ (t : ℤ). ap (λ (a : ℕ → Bounds). o.meaning.rod o.context (o.values t) (map a (range_with_len 0 (length o.clips))))
    (fun_ext (λ (c : ℕ). same_clip_area f g (o.meaning.spans (o.values t) c) (clip_node o c) (λ m e. h m (i.earlier c m e)))))

pub area_is : (nodes : Nodes) → AreNodes nodes → (n : ℕ) → area nodes n ≡ node_area (area nodes) (nodes n)
unfolding area
area_is nodes ok n = same_node_area n (below no_area (λ before k. node_area before (nodes k)) n) (at_place no_area (λ before k. node_area before (nodes k))) (nodes n) (ok n) (λ m h. below_is no_area (λ before k. node_area before (nodes k)) n m h)
