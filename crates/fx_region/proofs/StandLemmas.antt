-- Ends of regions of nodes that are reached stand at nodes that are reached.
use Rattle.std.proofs.Common.{◌≡◌, ◌≢◌, ℕ, ◌<◌, ◌≤◌, ◌+◌, ℤ, List, [], ◌∷◌, length, Bool, true, false, cond, refl, arith, sym, subst, Option, Some, None, inl, inr, All}
use Rattle.std.proofs.lemmas.List.Elements.{All-nil, All-cons, All-append}
use Rattle.std.specs.List.{flat_map, range_with_len}
use Rattle.fx_base.specs.Bounds.{Bounds, none}
use Rattle.fx_base.specs.Grid.{tiles_of}
use Rattle.fx_base.specs.Rect.{Holds, IsWithin, is_empty, meet}
use Rattle.fx_base.proofs.RectLaws.{IsWithin-meet_second}
use Rattle.fx_base.proofs.RectLemmas.{IsProper-from_test, holds_corner, is_empty-holds, is_empty-none}
use Rattle.fx_effect.specs.declared.action.Identity.{Identity}
use Rattle.fx_effect.specs.declared.action.Identity.TheVariants.{No, Same}
use Rattle.fx_effect.specs.declared.steps.Step.{Step}
use Rattle.fx_scene.specs.Areas.{area}
use Rattle.fx_scene.specs.Frames.{clip_frames}
use Rattle.fx_scene.specs.Nodes.{AreNodes, Effect, EffectNode, IsEffectNode, IsNode, Node, Nodes, Source, SourceFrames, clip_node}
use Rattle.fx_scene.specs.Reach.{IsReadBy}
use Rattle.fx_scene.proofs.Members.{In}
use Rattle.fx_scene.proofs.Places.{by_place}
use Rattle.fx_region.specs.Ends.{EndShown, Frame, Render, Void, chosen, clip_end, cut_end, effect_end, effect_step, end_of, onward, source_end}
use Rattle.fx_region.specs.Follow.{GoesToRead, clip_stand}
use Rattle.fx_region.specs.Needs.{NeedShown, clip_needs, frame_needs, needed, needs_at, node_needs, tile_needs}
use Rattle.fx_region.specs.Stands.{NeedStands, StandsBelow}
use Rattle.fx_region.specs.Tables.{Has, HasReads, IsTable}
use Rattle.fx_region.specs.declared.regions.Regions.{Regions}
use Rattle.fx_region.proofs.ChoiceLaws.{chosen_either}
use Rattle.fx_region.proofs.EndLaws.{end_is}
use Rattle.fx_region.proofs.FollowLemmas.{same_read}
use Rattle.fx_scene.proofs.NearLemmas.{listed, listed_frames}

-- what is not empty is not the rectangle of no pixel
not_none : (r : Bounds) → is_empty r ≡ false → r ≢ none
not_none r some e = let empty = is_empty-none r e in cc

-- nor is what holds it
holding_none : (r a : Bounds) → is_empty r ≡ false → IsWithin r a → a ≢ none
holding_none r a some inside e =
    let proper = IsProper-from_test r some in
    is_empty-holds none r.x1 r.y1 refl
    (subst (λ (b : Bounds). Holds b r.x1 r.y1) e (inside r.x1 r.y1 (holds_corner r proper.wide proper.high)))

module _ (nodes : Nodes) (ok : AreNodes nodes) (regions : Regions) where
  higher : (m n : ℕ) (e : EndShown) → m ≤ n → StandsBelow nodes regions m e → StandsBelow nodes regions n e
  higher m n Void low h = tt
  higher m n (Frame k f r through) low h = omega (arith, low, h)
  higher m n (Render k f r cut through) low h =
      let e = h.earlier in
      record { earlier = omega (arith, low, e); reached = h.reached; some = h.some; inside = h.inside; holds = h.holds }

  onward_stands : (n : ℕ) (s : Step) (e : EndShown) → StandsBelow nodes regions n e
      → StandsBelow nodes regions n (onward s e)
  onward_stands n s Void h = tt
  onward_stands n s (Frame k f r through) h = h
  onward_stands n s (Render k f r cut through) h = h

  -- each end of a region of the node, where it is reached
  abbrev pub EndsStand : ℕ → Type 0
  EndsStand n = (t : ℤ) (r : Bounds) → Has regions n t → StandsBelow nodes regions (n + 1) (end_of nodes n t r)

  clip_stands : (k : ℕ) (o : EffectNode) (clip : Option ℕ) (f : ℤ) (r : Bounds)
      → ((m : ℕ) → clip ≡ Some m → (m < k) × EndsStand m × Has regions m f)
      → StandsBelow nodes regions (k + 1) (onward (effect_step o) (clip_end (end_of nodes) clip f r))
  clip_stands k o None f r h = tt
  clip_stands k o (Some m) f r h =
      let at = h m refl in
      let low = at.0 in
      onward_stands (k + 1) (effect_step o) (end_of nodes m f r)
      (higher (m + 1) (k + 1) (end_of nodes m f r) (omega (arith, low)) (at.1 f r at.2))

  -- what an identity goes on at is read
  goes_to : (o : EffectNode) (t : ℤ) (clip : Option ℕ) (f : ℤ) (m : ℕ) → clip ≡ Some m
      → GoesToRead (Effect o) t (clip_stand o.depth o.components clip f) → IsReadBy (Effect o) t m f
  goes_to o t clip f m is h =
      subst (λ (c : Option ℕ). GoesToRead (Effect o) t (clip_stand o.depth o.components c f)) is h

  effect_stands : (k : ℕ) (o : EffectNode) → IsEffectNode k o → ((m : ℕ) → m < k → EndsStand m) → (t : ℤ) (r : Bounds)
      → Has regions k t → HasReads regions (Effect o) t → is_empty r ≡ false → IsWithin r (area nodes k t)
      → (p : Identity) → o.meaning.same (o.values t) r ≡ p
      → StandsBelow nodes regions (k + 1) (effect_end (chosen nodes) (end_of nodes) k o t r p)
  effect_stands k o i h t r here reads some inside No e =
      record {
        earlier = omega arith;
        reached = here;
        some = chosen_either (λ q. q ≢ none) nodes k t r (not_none r some) (holding_none r (area nodes k t) some inside);
        inside = chosen_either (λ q. IsWithin q (area nodes k t)) nodes k t r inside (λ x y h. h);
        holds = chosen_either (IsWithin r) nodes k t r (λ x y h. h) inside;
      }
  effect_stands k o i h t r here reads some inside (Same clip f) e =
      clip_stands k o (clip_node o clip) f r (λ m is. (
        i.earlier clip m is,
        h m (i.earlier clip m is),
        reads m f (goes_to o t (clip_node o clip) f m is (same_read k o i t r clip f some e)),
      ))

  source_stands : (k : ℕ) (s : SourceFrames) (named : Option ℤ) (r : Bounds)
      → StandsBelow nodes regions (k + 1) (source_end k s named r)
  source_stands k s None r = tt
  source_stands k s (Some f) r = omega arith

  cut_stands : (k : ℕ) (node : Node) → IsNode k node → ((m : ℕ) → m < k → EndsStand m) → (t : ℤ) (r : Bounds)
      → Has regions k t → HasReads regions node t → is_empty r ≡ false → IsWithin r (area nodes k t)
      → StandsBelow nodes regions (k + 1) (cut_end (chosen nodes) (end_of nodes) k node t r)
  cut_stands k (Source s) i h t r here reads some inside = source_stands k s (s.named t) r
  cut_stands k (Effect o) i h t r here reads some inside =
      effect_stands k o i h t r here reads some inside (o.meaning.same (o.values t) r) refl

  void_stands : (n : ℕ) (b : Bool) (e : EndShown) → (b ≡ false → StandsBelow nodes regions n e)
      → StandsBelow nodes regions n (cond b Void e)
  void_stands n true e h = tt
  void_stands n false e h = h refl

  module _ (count : ℕ) (table : IsTable nodes count regions) where
    pub ends_stand : (n : ℕ) → EndsStand n
    ends_stand = by_place EndsStand (λ n h t r here.
        let r' = meet r (area nodes n t) in
        subst (StandsBelow nodes regions (n + 1)) (sym (end_is (chosen nodes) nodes ok n t r))
        (void_stands (n + 1) (is_empty r') (cut_end (chosen nodes) (end_of nodes) n (nodes n) t r') (λ some.
        cut_stands n (nodes n) (ok n) h t r' here (table.reads n t here) some (IsWithin-meet_second r (area nodes n t)))))

    -- ---- needs

    all_flat : {X : Type 0} (P : NeedShown → Type 0) (F : X → List NeedShown) (xs : List X)
        → ((x : X) → In xs x → All P (F x)) → All P (flat_map F xs)
    all_flat P F [] h = All-nil P
    all_flat P F (x ∷ xs) h =
        All-append P (F x) (flat_map F xs) (h x (inl refl)) (all_flat P F xs (λ y i. h y (inr i)))

    needed_stand : (n c : ℕ) (f : ℤ) (e : EndShown) → StandsBelow nodes regions n e → All (NeedStands nodes regions n) (needed c f e)
    needed_stand n c f Void h = All-nil (NeedStands nodes regions n)
    needed_stand n c f (Frame k g r through) h =
        All-cons (NeedStands nodes regions n) (record { clip = c; frame = f; end = Frame k g r through }) [] h (All-nil (NeedStands nodes regions n))
    needed_stand n c f (Render k g r cut through) h =
        All-cons (NeedStands nodes regions n) (record { clip = c; frame = f; end = Render k g r cut through }) [] h (All-nil (NeedStands nodes regions n))

    clip_needs_stand : (n side : ℕ) (interest : Bounds) (c : ℕ) (frames : List ℤ) (clip : Option ℕ)
        → ((m : ℕ) (f : ℤ) → clip ≡ Some m → In frames f → (m < n) × Has regions m f)
        → All (NeedStands nodes regions n) (clip_needs (end_of nodes) (area nodes) side interest c frames clip)
    clip_needs_stand n side interest c frames None h = All-nil (NeedStands nodes regions n)
    clip_needs_stand n side interest c frames (Some m) h =
        all_flat (NeedStands nodes regions n) (frame_needs (end_of nodes) (area nodes) side interest c m) frames (λ f i.
        let at = h m f refl i in
        let low = at.0 in
        all_flat (NeedStands nodes regions n) (tile_needs (end_of nodes) (area nodes) c m f) (tiles_of side (meet interest (area nodes m f)))
        (λ tile j. needed_stand n c f (end_of nodes m f (meet tile (area nodes m f)))
        (higher (m + 1) n (end_of nodes m f (meet tile (area nodes m f))) (omega (arith, low))
        (ends_stand m f (meet tile (area nodes m f)) at.1))))

    -- each stands at a node before the one that needs it
    pub needs_stand : (n side : ℕ) (node : Node) → IsNode n node → (t : ℤ) (r : Bounds) → HasReads regions node t
        → All (NeedStands nodes regions n) (node_needs (end_of nodes) (area nodes) side node t r)
    needs_stand n side (Source s) i t r reads = All-nil (NeedStands nodes regions n)
    needs_stand n side (Effect o) i t r reads =
        all_flat (NeedStands nodes regions n) (needs_at (end_of nodes) (area nodes) side o t r) (range_with_len 0 (length o.clips)) (λ c j.
        clip_needs_stand n side (o.meaning.roi (o.values t) r c) c (clip_frames o t c) (clip_node o c) (λ m f is k. (
          i.earlier c m is,
          reads m f (record {
            clip = c;
            node = is;
            frame = listed_frames (o.meaning.spans (o.values t) c) f (listed (clip_frames o t c) f k);
          }),
        )))
