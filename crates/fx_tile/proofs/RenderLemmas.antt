-- Effects in their places of a graph: how they may be asked to render, and that a window is the value of the node.
use Rattle.std.proofs.Common.{◌≡◌, ℕ, ◌<◌, ℤ, List, map, length, get_or, Bool, sym, ap, ◌∙◌, subst, Option, is_some, arith}
use Rattle.std.specs.List.{All, Contains}
use Rattle.std.proofs.lemmas.List.{length-map}
use Rattle.std.proofs.lemmas.List.Elements.{All-contains_itself}
use Rattle.fx_base.specs.Bounds.{Bounds}
use Rattle.fx_base.specs.Rect.{Holds}
use Rattle.fx_pixel.specs.declared.Depth.{Depth}
use Rattle.fx_pixel.specs.declared.Components.{Components}
use Rattle.fx_pixel.specs.declared.Components.TheVariants.{Rgba}
use Rattle.fx_pixel.specs.Pixel.{greatest}
use Rattle.fx_image.specs.Stored.{Stored}
use Rattle.fx_effect.specs.Given.{Given, clip_components, input_pixel}
use Rattle.fx_effect.specs.Meaning.{Meaning, rendered}
use Rattle.fx_effect.specs.Tap.{Tap}
use Rattle.fx_effect.specs.declared.values.Values.{Values}
use Rattle.fx_graph.specs.Shown.{GraphShown}
use Rattle.fx_life.specs.Filled.{IsFilled}
use Rattle.fx_life.specs.Posts.{HasLife, Lives, Plays, used_by}
use Rattle.fx_scene.specs.Right.{IsTile}
use Rattle.fx_scene.specs.Nodes.{AreNodes, Effect, EffectNode as Effects, IsEffectNode, IsNode, Node, Nodes, depth_at, node_components, node_depth, seen}
use Rattle.fx_scene.specs.Value.{Pixels, node_value, tap_value, value}
use Rattle.fx_scene.proofs.Equations.{value_is}
use Rattle.fx_scene.proofs.Members.{In, all_in, map_same}
use Rattle.fx_scene.proofs.Outside.{Covered, dot, in_dot}
use Rattle.fx_scene.specs.declared.site.EffectNode.{EffectNode}
use Rattle.fx_region.specs.declared.ends.Need.{Need}
use Rattle.fx_region.specs.Needs.{need_shown, needs_pixel}
use Rattle.fx_scene.specs.Sites.{StandsIn}
use Rattle.fx_scene.specs.Windows.{IsWindowOf}
use Rattle.fx_region.specs.Suffice.{ShowsTaps}
use Rattle.fx_tile.specs.Inputs.{AreInputs}
use Rattle.fx_tile.proofs.PieceLemmas.{pieces_pixel}

-- its instance is in the life
pub has_instance : {E : Type 0} (g : GraphShown E) (number : E → ℕ) (life : Lives E) → HasLife number g life
    → (n : EffectNode E) → StandsIn g n → Plays number life n.place n.effect.now
has_instance g number life has n at =
    (has n.place at.node (record { effect = n.effect.now; context = n.context }) at.there (ap used_by at.does)).0

-- ---- windows that were rendered

pub filled_window : (s t : Stored) (m : Meaning) (v : Values) (given : Given) (depth : Depth) (c : Components) (region : Bounds)
    → s.rect ≡ region → s.depth ≡ depth → s.components ≡ c → IsFilled s t (rendered m v given s.depth s.components)
    → IsWindowOf m v given depth c region t
filled_window s t m v given depth c region rect deep samples filled =
    record {
      rect = filled.rect ∙ rect;
      depth_is = filled.depth ∙ deep;
      components_are = filled.components ∙ samples;
      pixels = λ x y inside.
          filled.pixels x y (rw rect inside) ∙ ap (λ (e : Depth). rendered m v given e s.components x y) deep
          ∙ ap (λ (e : Components). rendered m v given depth e x y) samples;
    }

-- ---- the value of the node

-- what a tap reads of pieces that show what it reads
tap_read : (nodes : Nodes) (o : Effects) (t : ℤ) (region : Bounds) (needs : List Need) (ks : List Components) (given : Given)
    → ShowsTaps nodes o t region (map need_shown needs) → AreInputs nodes o.depth ks needs given
    → (x y : ℤ) (p : Tap) → Holds region x y → Contains (o.meaning.taps (o.values t) x y) p → get_or ks p.clip Rgba ≡ seen o p.clip
    → input_pixel given p ≡ tap_value (depth_at nodes) (value nodes) o p
tap_read nodes o t region needs ks given shows are x y p inside listed sees =
    let comps : clip_components given p.clip ≡ seen o p.clip = ap (λ (cs : List Components). get_or cs p.clip Rgba) are.seen_is ∙ sees in
    pieces_pixel nodes needs given.pieces are.pieces given.depth (clip_components given p.clip) p
    ∙ ap (λ (d : Depth). needs_pixel nodes d (clip_components given p.clip) (map need_shown needs) p) are.depth_is
    ∙ ap (λ (c : Components). needs_pixel nodes o.depth c (map need_shown needs) p) comps
    ∙ shows.first x y p inside listed

-- the window of an effect's node, over pieces that show what it reads, is the image of its region
pub window_tile : (nodes : Nodes) → AreNodes nodes → (k : ℕ) (o : Effects) → nodes k ≡ Effect o → (t : ℤ) (region : Bounds)
    (needs : List Need) (ks : List Components) (given : Given) (image : Stored)
    → ShowsTaps nodes o t region (map need_shown needs) → AreInputs nodes o.depth ks needs given
    → ((clip : ℕ) → clip < length o.clips → get_or ks clip Rgba ≡ seen o clip)
    → IsWindowOf o.meaning (o.values t) given o.depth o.components region image → IsTile nodes k t region image
window_tile nodes ok k o stands t region needs ks given image shows are sees window =
    let i : IsEffectNode k o = subst (IsNode k) stands (ok k) in
    let clips = length-map o.clips (λ (c : Option ℕ). is_some c) in
    let flags : length (o.values t).connected ≡ length o.clips = ap (λ (bs : List Bool). length bs) (i.connected t) ∙ clips in
    record {
      rect = window.rect;
      depth = window.depth_is ∙ sym (ap node_depth stands);
      components = window.components_are ∙ sym (ap node_components stands);
      pixels = λ x y inside.
          let taps = o.meaning.taps (o.values t) x y in
          let all : All (Covered o t (dot x y)) taps = i.laws.interest_holds_taps o.context (o.values t) (dot x y) x y (i.lawful t) (in_dot x y) in
          window.pixels x y inside
          ∙ ap (o.meaning.mix (o.values t) o.components (greatest o.depth) x y)
          (map_same (input_pixel given) (tap_value (depth_at nodes) (value nodes) o) (λ p. In taps p)
          (λ p n.
          let covered = all_in (Covered o t (dot x y)) taps p all n in
          let clip = covered.clip in
          tap_read nodes o t region needs ks given shows are x y p inside (all_in (Contains taps) taps p (All-contains_itself taps) n)
          (sees p.clip (omega (arith, flags, clip))))
          taps (λ p n. n))
          ∙ ap (λ (q : Node). node_value (depth_at nodes) (value nodes) q t x y) (sym stands)
          ∙ ap (λ (v : Pixels). v t x y) (sym (value_is nodes ok k));
    }
