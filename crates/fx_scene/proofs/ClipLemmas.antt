-- The frames that are read of clips, and the hulls of their areas.
use Rattle.std.proofs.Common.{◌≡◌, ℕ, ◌<◌, ◌+◌, ℤ, List, [], ◌∷◌, ◌++◌, map, length, drop, get_or, arith, sym, ap, ◌∙◌, Option, Some}
use Rattle.std.proofs.lemmas.List.{drop_more, get_or-map, length-map}
use Rattle.std.proofs.lemmas.List.FromFn.{get_or-map-range_with_len, length-map-range_with_len, map-range_with_len_more}
use Rattle.std.specs.List.{range_with_len}
use Rattle.std.specs.declared.alloc.Global.{Global}
use Rattle.std.specs.declared.vec.Vec.{Vec}
use Rattle.fx_base.specs.Bounds.{Bounds}
use Rattle.fx_base.specs.Rect.{hull}
use Rattle.fx_scene.specs.Areas.{area, clip_area, hull_all, hull_with, node_area}
use Rattle.fx_scene.specs.Frames.{clip_frames, frames_of, items_of}
use Rattle.fx_scene.specs.Nodes.{AreNodes, EffectNode, Node, Nodes, clip_node}
use Rattle.fx_scene.specs.Sites.{AreReads}
use Rattle.fx_scene.proofs.Equations.{area_is}

-- ---- areas

pub hull_step : (A : ℤ → Bounds) (fs : List ℤ) (i : ℕ) (d : ℤ) (h a whole : Bounds) → i < length fs
    → a ≡ A (get_or fs i d) → hull_with h (map A (drop i fs)) ≡ whole
    → hull_with (hull h a) (map A (drop (i + 1) fs)) ≡ whole
hull_step A fs i d h a whole low is e =
    ap (λ (b : Bounds). hull_with (hull h b) (map A (drop (i + 1) fs))) is
    ∙ sym (ap (λ (gs : List ℤ). hull_with h (map A gs)) (drop_more fs i d low)) ∙ e

pub clip_area_by : (nodes : Nodes) (m : ℕ) (fs : List ℤ) (spans : List (ℤ × ℤ)) (a : Bounds)
    → a ≡ hull_all (map (area nodes m) fs) → fs ≡ frames_of spans → a ≡ clip_area (area nodes) spans (Some m)
clip_area_by nodes m fs spans a is e = is ∙ ap (λ (gs : List ℤ). hull_all (map (area nodes m) gs)) e

-- the area of a clip
abbrev pub area_at : Nodes → EffectNode → ℤ → ℕ → Bounds
area_at nodes o t c = clip_area (area nodes) (o.meaning.spans (o.values t) c) (clip_node o c)

pub areas_more : (nodes : Nodes) (o : EffectNode) (t : ℤ) (k : ℕ) (old new : List Bounds) (a : Bounds) (clip : Option ℕ)
    → new ≡ old ++ a ∷ [] → old ≡ map (area_at nodes o t) (range_with_len 0 k)
    → a ≡ clip_area (area nodes) (o.meaning.spans (o.values t) k) clip → clip ≡ clip_node o k
    → new ≡ map (area_at nodes o t) (range_with_len 0 (k + 1))
areas_more nodes o t k old new a clip pushed so is at =
    pushed ∙ ap (λ (rs : List Bounds). rs ++ a ∷ []) so
    ∙ ap (λ (r : Bounds). map (area_at nodes o t) (range_with_len 0 k) ++ r ∷ [])
    (is ∙ ap (clip_area (area nodes) (o.meaning.spans (o.values t) k)) at)
    ∙ sym (map-range_with_len_more (area_at nodes o t) 0 k k (omega arith))

-- by what stands at a place
pub area_by : (nodes : Nodes) → AreNodes nodes → (k : ℕ) (node : Node) → nodes k ≡ node → (t : ℤ)
    → node_area (area nodes) node t ≡ area nodes k t
area_by nodes ok k node stands t =
    sym (ap (λ (a : ℤ → Bounds). a t) (area_is nodes ok k) ∙ ap (λ (q : Node). node_area (area nodes) q t) stands)

-- ---- reads

-- what is read of a clip
pub reads_at : (o : EffectNode) (t : ℤ) (reads : List (Vec ℤ Global)) (c : ℕ) (v : Vec ℤ Global) → AreReads o t reads
    → c < length o.clips → c < length reads → v ≡ get_or reads c v → v.items ≡ clip_frames o t c
reads_at o t reads c v are low within there =
    ap items_of there
    ∙ sym (get_or-map items_of reads c v v.items within)
    ∙ ap (λ (fs : List (List ℤ)). get_or fs c v.items) are
    ∙ get_or-map-range_with_len (clip_frames o t) 0 (length o.clips) c c v.items low (omega arith)

pub reads_long : (o : EffectNode) (t : ℤ) (reads : List (Vec ℤ Global)) → AreReads o t reads
    → length reads ≡ length o.clips
reads_long o t reads are =
    sym (length-map reads items_of) ∙ ap (λ (fs : List (List ℤ)). length fs) are
    ∙ length-map-range_with_len (clip_frames o t) 0 (length o.clips)
