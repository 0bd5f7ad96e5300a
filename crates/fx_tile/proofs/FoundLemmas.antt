-- Each end of a region is found in an image of a source, or in an effect.
use Rattle.std.proofs.Common.{◌≡◌, ℕ, ◌<◌, ◌≤◌, ℤ, Bool, true, false, cond, Option, Some, None, refl, arith, sym, ap, ◌∙◌, subst, inl, inr, ◌⊎◌}
use Rattle.fx_base.specs.Bounds.{Bounds, none}
use Rattle.fx_base.specs.Rect.{IsWithin, is_empty, meet}
use Rattle.fx_base.proofs.RectLaws.{IsWithin-meet_first, IsWithin-meet_second}
use Rattle.fx_base.proofs.RectLemmas.{IsProper-from_test, holds_corner}
use Rattle.std.proofs.lemmas.Int.{ints}
use Rattle.fx_image.specs.Image.{Image}
use Rattle.fx_image.proofs.ImageLaws.{place_from}
use Rattle.fx_effect.specs.Asked.{IsWindow}
use Rattle.fx_effect.specs.declared.action.Identity.{Identity}
use Rattle.fx_effect.specs.declared.action.Identity.TheVariants.{No, Same}
use Rattle.fx_effect.specs.declared.steps.Step.{Step}
use Rattle.fx_scene.specs.Areas.{area, image_area, node_area, source_area}
use Rattle.fx_scene.specs.Nodes.{AreNodes, Effect, EffectNode, IsEffectNode, IsNode, Node, Nodes, Source, SourceFrames, clip_node}
use Rattle.fx_scene.proofs.Equations.{area_is}
use Rattle.fx_scene.proofs.Outside.{area_window}
use Rattle.fx_scene.proofs.Places.{by_place}
use Rattle.fx_region.specs.Ends.{EndShown, Frame, Render, Void, chosen, clip_end, cut_end, effect_end, effect_step, end_of, onward, source_end}
use Rattle.fx_region.proofs.ChoiceLaws.{chosen_either}
use Rattle.fx_region.proofs.EndLaws.{end_is}
use Rattle.fx_region.proofs.FollowLemmas.{cut_window}
use Rattle.fx_tile.specs.Founds.{IsFoundIn}
use Rattle.fx_tile.specs.Tiles.{IsSmall}
use Rattle.fx_tile.proofs.SizeLemmas.{chosen_size, chosen_whole}

module _ (nodes : Nodes) (ok : AreNodes nodes) where
  onward_found : (r : Bounds) (s : Step) (e : EndShown) → IsFoundIn nodes r e → IsFoundIn nodes r (onward s e)
  onward_found r s Void h = tt
  onward_found r s (Frame m f q through) h = h
  onward_found r s (Render m f q cut through) h = h

  wider_size : (q r w : Bounds) → IsWithin r w → IsWithin q r ⊎ IsSmall q → IsWithin q w ⊎ IsSmall q
  wider_size q r w in_w (inl inside) = inl (λ x y i. in_w x y (inside x y i))
  wider_size q r w in_w (inr small) = inr small

  -- what is found over a part is found over the whole
  pub wider : (r w : Bounds) (e : EndShown) → IsWithin r w → IsFoundIn nodes r e → IsFoundIn nodes w e
  wider r w Void in_w h = tt
  wider r w (Frame m f q through) in_w h =
      record { window = h.window; inside = λ x y i. in_w x y (h.inside x y i); source = h.source; there = h.there; image = h.image; shown = h.shown; within = h.within }
  wider r w (Render m f q cut through) in_w h =
      record { window = h.window; size = wider_size q r w in_w h.size; effect = h.effect; there = h.there; whole = h.whole }

  no_place : (r : Bounds) → is_empty r ≡ false → IsWithin r none → ⊥
  no_place r some inside =
      let proper = IsProper-from_test r some in
      let place = inside r.x1 r.y1 (holds_corner r proper.wide proper.high) in
      let at = place_from none r.x1 r.y1 place in
      let left = at.left in
      let right = at.right in
      omega (arith, ints, left, right)

  -- a region with a place that lies in the frame which a source shows
  source_found : (k : ℕ) (s : SourceFrames) (r : Bounds) (named : Option ℤ) → nodes k ≡ Source s → IsWindow r → is_empty r ≡ false
      → IsWithin r (source_area s named) → IsFoundIn nodes r (source_end k s named r)
  source_found k s r None there window some inside = tt
  source_found k s r (Some f) there window some inside = by (s.frames f) refl
    where
      by : (o : Option Image) → s.frames f ≡ o → IsFoundIn nodes r (source_end k s (Some f) r)
      by None e = absurd (no_place r some (subst (λ (o : Option Image). IsWithin r (image_area o)) e inside))
      by (Some image) e =
          record {
            window = window;
            inside = λ x y i. i;
            source = s;
            there = there;
            image = image;
            shown = e;
            within = subst (λ (o : Option Image). IsWithin r (image_area o)) e inside;
          }

  abbrev pub EndsFound : ℕ → Type 0
  EndsFound n = (t : ℤ) (r : Bounds) → n ≤ 1024 → IsFoundIn nodes r (end_of nodes n t r)

  clip_found : (k : ℕ) (o : EffectNode) (clip : Option ℕ) (f : ℤ) (r : Bounds) → k ≤ 1024
      → ((m : ℕ) → clip ≡ Some m → (m < k) × EndsFound m)
      → IsFoundIn nodes r (onward (effect_step o) (clip_end (end_of nodes) clip f r))
  clip_found k o None f r few h = tt
  clip_found k o (Some m) f r few h =
      let at = h m refl in
      let low = at.0 in
      onward_found r (effect_step o) (end_of nodes m f r) (at.1 f r (omega (arith, few, low)))

  effect_found : (k : ℕ) (o : EffectNode) → IsEffectNode k o → nodes k ≡ Effect o → ((m : ℕ) → m < k → EndsFound m) → (t : ℤ) (r : Bounds)
      → k ≤ 1024 → IsWindow r → (p : Identity) → IsFoundIn nodes r (effect_end (chosen nodes) (end_of nodes) k o t r p)
  effect_found k o i there h t r few window No =
      record {
        window = chosen_either IsWindow nodes k t r window (area_window nodes ok k t few);
        size = chosen_size nodes ok k o i there t r few;
        effect = o;
        there = there;
        whole = chosen_whole nodes k o there t r;
      }
  effect_found k o i there h t r few window (Same clip f) =
      clip_found k o (clip_node o clip) f r few (λ m is. (i.earlier clip m is, h m (i.earlier clip m is)))

  cut_found : (k : ℕ) (node : Node) → IsNode k node → nodes k ≡ node → ((m : ℕ) → m < k → EndsFound m) → (t : ℤ) (r : Bounds)
      → k ≤ 1024 → IsWindow r → is_empty r ≡ false → IsWithin r (area nodes k t)
      → IsFoundIn nodes r (cut_end (chosen nodes) (end_of nodes) k node t r)
  cut_found k (Source s) i there h t r few window some inside =
      source_found k s r (s.named t) there window some
      (subst (λ (a : Bounds). IsWithin r a) (ap (λ (areas : ℤ → Bounds). areas t) (area_is nodes ok k) ∙ ap (λ (n : Node). node_area (area nodes) n t) there) inside)
  cut_found k (Effect o) i there h t r few window some inside =
      effect_found k o i there h t r few window (o.meaning.same (o.values t) r)

  void_found : (r : Bounds) (b : Bool) (e : EndShown) → (b ≡ false → IsFoundIn nodes r e) → IsFoundIn nodes r (cond b Void e)
  void_found r true e h = tt
  void_found r false e h = h refl

  pub ends_found : (n : ℕ) → EndsFound n
  ends_found = by_place EndsFound (λ n h t r few.
      let cut = meet r (area nodes n t) in
      wider cut r (end_of nodes n t r) (IsWithin-meet_first r (area nodes n t))
      (subst (IsFoundIn nodes cut) (sym (end_is (chosen nodes) nodes ok n t r))
      (void_found cut (is_empty cut) (cut_end (chosen nodes) (end_of nodes) n (nodes n) t cut) (λ some.
      cut_found n (nodes n) (ok n) refl h t cut few (cut_window nodes ok n t r (area nodes n t) few refl) some (IsWithin-meet_second r (area nodes n t))))))
