-- What a region of an effect needs shows the value of each tap of its pixels.
use Rattle.std.proofs.Common.{◌≡◌, ℕ, suc, ◌<◌, ◌⊎◌, ℤ, List, [], ◌∷◌, length, Bool, true, false, cond, nat_eq, ◌&&◌, refl, arith, sym, ap, ◌∙◌, subst, Option, Some, None, inl, inr}
use Rattle.std.proofs.lemmas.Bool.{cases_Bool, cases_lt, and_parts, and_from}
use Rattle.std.proofs.lemmas.Bool.Decides.{nat_tests, Decides-int_eq}
use Rattle.std.proofs.lemmas.Int.{ints}
use Rattle.std.proofs.lemmas.List.{get_or_past}
use Rattle.std.proofs.lemmas.List.Elements.{All-nil, All-cons, All-head, All-tail}
use Rattle.std.specs.List.{All, Contains, flat_map, range_with_len}
use Rattle.std.specs.Ordering.{int_eq}
use Rattle.fx_base.specs.Bounds.{Bounds}
use Rattle.fx_base.specs.Grid.{tile_at, tile_of, tiles_of}
use Rattle.fx_base.specs.Rect.{Holds, meet, within}
use Rattle.fx_base.proofs.GridLaws.{Contains-tiles_of, Holds-tile_at}
use Rattle.fx_base.proofs.RectLemmas.{within-meet}
use Rattle.fx_pixel.specs.declared.Depth.{Depth}
use Rattle.fx_pixel.specs.declared.Components.{Components}
use Rattle.fx_pixel.specs.declared.Pixel.{Pixel}
use Rattle.fx_pixel.specs.Pixel.{convert, zero as zero_pixel}
use Rattle.fx_pixel.specs.PixelLaws.{convert_zero}
use Rattle.fx_effect.specs.Tap.{Tap, tap}
use Rattle.fx_scene.specs.Areas.{area}
use Rattle.fx_scene.specs.Frames.{clip_frames}
use Rattle.fx_scene.specs.Nodes.{AreNodes, Effect, EffectNode, IsEffectNode, IsNode, Nodes, clip_node, components_at, depth_at, seen}
use Rattle.fx_scene.specs.Value.{clip_value, tap_value, value}
use Rattle.fx_scene.proofs.Members.{All-flat, In, contained, all_in, in_flat, in_of, in_range}
use Rattle.fx_scene.proofs.Outside.{Covered, in_frames, not_within, outside_zero}
use Rattle.fx_region.specs.Ends.{Choice, EndShown, Frame, IsChoice, Render, Void, end_by, end_holds, end_pixel}
use Rattle.fx_region.specs.Needs.{NeedShown, clip_needs, frame_needs, need_holds, needed, needs_at, needs_pixel, node_needs, tile_needs}
use Rattle.fx_region.specs.Suffice.{NeedsSuffice, ShowsTaps}
use Rattle.fx_region.proofs.EndLaws.{end_inside, end_shows}

meet_in : (a b : Bounds) (x y : ℤ) → Holds a x y → Holds b x y → Holds (meet a b) x y
meet_in a b x y h k = within-meet a b x y ∙ and_from _ _ h k

-- ---- a need of that clip and frame has the place

-- one of the list has the place that the tap reads
abbrev pub Found : List NeedShown → Tap → Type 0
Found ns p = (n : NeedShown) × In ns n × (need_holds n p ≡ true)

-- the pixel is zero, or one of them has the place
abbrev pub ZeroOrFound : Components → Pixel → List NeedShown → Tap → Type 0
ZeroOrFound k q ns p = (q ≡ zero_pixel k) ⊎ Found ns p

same_nat : (a : ℕ) → nat_eq a a ≡ true
same_nat a = grind (arith, nat_tests)

same_int : (a : ℤ) → int_eq a a ≡ true
same_int a = grind (arith, ints, Decides-int_eq)

nat_same : (a b : ℕ) → nat_eq a b ≡ true → a ≡ b
nat_same a b e = grind (arith, nat_tests)

int_same : (a b : ℤ) → int_eq a b ≡ true → a ≡ b
int_same a b e = (Decides-int_eq a b).0 e

-- a need of the tap's own clip and frame has its place where the end has it
own_holds : (c : ℕ) (f : ℤ) (e : EndShown) (x y : ℤ) → end_holds e x y ≡ true
    → need_holds (record { clip = c; frame = f; end = e }) (tap c f x y) ≡ true
own_holds c f e x y held = rw (same_nat c, same_int f, held) refl

needed_found : (nodes : Nodes) (d : Depth) (k : Components) (c : ℕ) (f : ℤ) (e : EndShown) (x y : ℤ)
    → ZeroOrFound k (end_pixel nodes e d k x y) (needed c f e) (tap c f x y)
needed_found nodes d k c f Void x y = inl refl
needed_found nodes d k c f (Frame node frame region through) x y = elim (cases_Bool (within region x y)) [
  | inl e ↦
      let end : EndShown = Frame node frame region through in
      inr (record { clip = c; frame = f; end = end }, inl refl, own_holds c f end x y e)
  | inr e ↦ inl (rw e refl)
]
needed_found nodes d k c f (Render node frame region cut through) x y = elim (cases_Bool (within cut x y)) [
  | inl e ↦
      let end : EndShown = Render node frame region cut through in
      inr (record { clip = c; frame = f; end = end }, inl refl, own_holds c f end x y e)
  | inr e ↦ inl (rw e refl)
]

found_in : {X : Type 0} (g : X → List NeedShown) (xs : List X) (z : X) (k : Components) (q : Pixel) (p : Tap) → In xs z
    → ZeroOrFound k q (g z) p → ZeroOrFound k q (flat_map g xs) p
found_in g xs z k q p i h = elim h [
  | inl e ↦ inl e
  | inr n ↦ inr (n.0, in_flat g xs z n.0 i n.1, n.2)
]

module _ (choose : Choice) (nodes : Nodes) (ok : AreNodes nodes) (choice : IsChoice nodes choose) where
  -- ---- each need shows its clip's value where it has the place

  -- the value of a clip, at the depth of the effect and the components of the clip
  abbrev pub clip_at : EffectNode → ℕ → ℤ → ℤ → ℤ → Pixel
  clip_at o c f x y = clip_value (depth_at nodes) (value nodes) o.depth (seen o c) (clip_node o c) f x y

  abbrev pub IsTrueNeed : EffectNode → NeedShown → Type 0
  IsTrueNeed o n =
      (x y : ℤ) → end_holds n.end x y ≡ true
      → end_pixel nodes n.end o.depth (seen o n.clip) x y ≡ clip_at o n.clip n.frame x y

  needed_true : (o : EffectNode) (c : ℕ) (f : ℤ) (e : EndShown)
      → ((x y : ℤ) → end_holds e x y ≡ true → end_pixel nodes e o.depth (seen o c) x y ≡ clip_at o c f x y)
      → All (IsTrueNeed o) (needed c f e)
  needed_true o c f Void h = All-nil (IsTrueNeed o)
  needed_true o c f (Frame node frame region through) h =
      All-cons (IsTrueNeed o) (record { clip = c; frame = f; end = Frame node frame region through }) [] h (All-nil (IsTrueNeed o))
  needed_true o c f (Render node frame region cut through) h =
      All-cons (IsTrueNeed o) (record { clip = c; frame = f; end = Render node frame region cut through }) [] h (All-nil (IsTrueNeed o))

  end_true : (m : ℕ) (f : ℤ) (r : Bounds) (d : Depth) (k : Components) (x y : ℤ)
      → end_holds (end_by choose nodes m f r) x y ≡ true
      → end_pixel nodes (end_by choose nodes m f r) d k x y ≡ convert (depth_at nodes m) d k (value nodes m f x y)
  end_true m f r d k x y h =
      end_shows choose nodes ok choice m f r d k x y ∙ (let e = end_inside choose nodes ok m f r x y h in rw e refl)

  clip_true : (o : EffectNode) (side : ℕ) (interest : Bounds) (c : ℕ) (frames : List ℤ) (p : Option ℕ)
      → clip_node o c ≡ p → All (IsTrueNeed o) (clip_needs (end_by choose nodes) (area nodes) side interest c frames p)
  clip_true o side interest c frames None e = All-nil (IsTrueNeed o)
  clip_true o side interest c frames (Some m) e =
      let ends = end_by choose nodes in
      let areas = area nodes in
      All-flat (IsTrueNeed o) (frame_needs ends areas side interest c m) (λ f.
      All-flat (IsTrueNeed o) (tile_needs ends areas c m f) (λ b.
      needed_true o c f (ends m f (meet b (areas m f))) (λ x y h.
      end_true m f (meet b (areas m f)) o.depth (seen o c) x y h
      ∙ ap (λ (q : Option ℕ). clip_value (depth_at nodes) (value nodes) o.depth (seen o c) q f x y) (sym e)))
      (tiles_of side (meet interest (areas m f))))
      frames

  needs_true : (o : EffectNode) (side : ℕ) (t : ℤ) (r : Bounds)
      → All (IsTrueNeed o) (node_needs (end_by choose nodes) (area nodes) side (Effect o) t r)
  needs_true o side t r =
      All-flat (IsTrueNeed o) (needs_at (end_by choose nodes) (area nodes) side o t r)
      (λ c. clip_true o side (o.meaning.roi (o.values t) r c) c (clip_frames o t c) (clip_node o c) refl)
      (range_with_len 0 (length o.clips))

  -- ---- each tap that isn't zero lies in a need

  tile_found : (d : Depth) (k : Components) (side c m : ℕ) (f : ℤ) (interest : Bounds) (x y : ℤ) → 0 < side
      → Holds interest x y → Holds (area nodes m f) x y
      → ZeroOrFound k (convert (depth_at nodes m) d k (value nodes m f x y))
      (frame_needs (end_by choose nodes) (area nodes) side interest c m f) (tap c f x y)
  tile_found d k side c m f interest x y some w a =
      let b = tile_at side (tile_of side x) (tile_of side y) in
      let r = meet b (area nodes m f) in
      let inside : within r x y ≡ true = meet_in b (area nodes m f) x y (Holds-tile_at side x y some) a in
      let shows : end_pixel nodes (end_by choose nodes m f r) d k x y ≡ convert (depth_at nodes m) d k (value nodes m f x y) =
      end_shows choose nodes ok choice m f r d k x y ∙ (rw inside refl) in
      let wanted = meet interest (area nodes m f) in
      found_in (tile_needs (end_by choose nodes) (area nodes) c m f) (tiles_of side wanted) b k
      (convert (depth_at nodes m) d k (value nodes m f x y)) (tap c f x y)
      (in_of (tiles_of side wanted) b (Contains-tiles_of side wanted x y some (meet_in interest (area nodes m f) x y w a)))
      (subst (λ (q : Pixel). ZeroOrFound k q (tile_needs (end_by choose nodes) (area nodes) c m f b) (tap c f x y)) shows
      (needed_found nodes d k c f (end_by choose nodes m f r) x y))

  frame_found : (d : Depth) (k : Components) (side c m : ℕ) (f : ℤ) (interest : Bounds) (x y : ℤ) → 0 < side
      → Holds interest x y
      → ZeroOrFound k (convert (depth_at nodes m) d k (value nodes m f x y))
      (frame_needs (end_by choose nodes) (area nodes) side interest c m f) (tap c f x y)
  frame_found d k side c m f interest x y some w = elim (cases_Bool (within (area nodes m f) x y)) [
    | inl e ↦ tile_found d k side c m f interest x y some w e
    | inr e ↦ inl (ap (convert (depth_at nodes m) d k) (outside_zero nodes ok m f x y (not_within (area nodes m f) x y e)) ∙ convert_zero (depth_at nodes m) d (components_at nodes m) k)
  ]

  clip_found : (d : Depth) (k : Components) (side c : ℕ) (f : ℤ) (interest : Bounds) (frames : List ℤ) (o : Option ℕ)
      (x y : ℤ) → 0 < side → Holds interest x y → In frames f
      → ZeroOrFound k (clip_value (depth_at nodes) (value nodes) d k o f x y)
      (clip_needs (end_by choose nodes) (area nodes) side interest c frames o) (tap c f x y)
  clip_found d k side c f interest frames None x y some w i = inl refl
  clip_found d k side c f interest frames (Some m) x y some w i =
      found_in (frame_needs (end_by choose nodes) (area nodes) side interest c m) frames f k
      (convert (depth_at nodes m) d k (value nodes m f x y)) (tap c f x y) i
      (frame_found d k side c m f interest x y some w)

  past_zero : (d : Depth) (k : Components) (o : Option ℕ) (f x y : ℤ) → o ≡ None
      → clip_value (depth_at nodes) (value nodes) d k o f x y ≡ zero_pixel k
  past_zero d k o f x y e = ap (λ (q : Option ℕ). clip_value (depth_at nodes) (value nodes) d k q f x y) e

  tap_found : (side k : ℕ) (o : EffectNode) → IsEffectNode k o → (t : ℤ) (r : Bounds) (p : Tap) → 0 < side
      → Covered o t r p
      → ZeroOrFound (seen o p.clip) (tap_value (depth_at nodes) (value nodes) o p)
      (node_needs (end_by choose nodes) (area nodes) side (Effect o) t r) p
  tap_found side k o i t r p some c = elim (cases_lt p.clip (length o.clips)) [
    | inl b ↦
        found_in (needs_at (end_by choose nodes) (area nodes) side o t r) (range_with_len 0 (length o.clips)) p.clip
        (seen o p.clip) (tap_value (depth_at nodes) (value nodes) o p) p
        (in_range 0 (length o.clips) p.clip (omega arith) (omega arith))
        (clip_found o.depth (seen o p.clip) side p.clip p.frame (o.meaning.roi (o.values t) r p.clip)
        (clip_frames o t p.clip) (clip_node o p.clip) p.x p.y some c.in_region (in_frames o t r p c))
    | inr b ↦ inl (past_zero o.depth (seen o p.clip) (clip_node o p.clip) p.frame p.x p.y (get_or_past o.clips p.clip None b))
  ]

  -- ---- so the first need that has the place has the value of the tap

  first_by : (o : EffectNode) (n : NeedShown) (rest : Pixel) (p : Tap) (b : Bool) → need_holds n p ≡ b → IsTrueNeed o n
      → (b ≡ false → rest ≡ tap_value (depth_at nodes) (value nodes) o p)
      → cond b (end_pixel nodes n.end o.depth (seen o p.clip) p.x p.y) rest ≡ tap_value (depth_at nodes) (value nodes) o p
  first_by o n rest p true e h r =
      let both = and_parts (nat_eq n.clip p.clip && int_eq n.frame p.frame) (end_holds n.end p.x p.y) e in
      let own = and_parts (nat_eq n.clip p.clip) (int_eq n.frame p.frame) both.0 in
      ap (λ (d : ℕ). end_pixel nodes n.end o.depth (seen o d) p.x p.y) (sym (nat_same n.clip p.clip own.0))
      ∙ h p.x p.y both.1 ∙ ap (λ (d : ℕ). clip_at o d n.frame p.x p.y) (nat_same n.clip p.clip own.0)
      ∙ ap (λ (g : ℤ). clip_at o p.clip g p.x p.y) (int_same n.frame p.frame own.1)
  first_by o n rest p false e h r = r refl

  later : (k : Components) (v : Pixel) (n : NeedShown) (ns : List NeedShown) (p : Tap) → need_holds n p ≡ false
      → ZeroOrFound k v (n ∷ ns) p → ZeroOrFound k v ns p
  later k v n ns p e h = elim h [
    | inl z ↦ inl z
    | inr d ↦ elim (d.1) [
      | inl q ↦ absurd (let held = d.2 in let not = ap (λ (z : NeedShown). need_holds z p) q in cc)
      | inr j ↦ inr (d.0, j, d.2)
    ]
  ]

  none_found : (k : Components) (v : Pixel) (p : Tap) → ZeroOrFound k v [] p → zero_pixel k ≡ v
  none_found k v p h = elim h [ inl e ↦ sym e | inr d ↦ absurd d.1 ]

  first_is : (o : EffectNode) (ns : List NeedShown) (p : Tap) → All (IsTrueNeed o) ns
      → ZeroOrFound (seen o p.clip) (tap_value (depth_at nodes) (value nodes) o p) ns p
      → needs_pixel nodes o.depth (seen o p.clip) ns p ≡ tap_value (depth_at nodes) (value nodes) o p
  first_is o [] p a h = none_found (seen o p.clip) (tap_value (depth_at nodes) (value nodes) o p) p h
  first_is o (n ∷ ns) p a h =
      first_by o n (needs_pixel nodes o.depth (seen o p.clip) ns p) p (need_holds n p) refl (All-head (IsTrueNeed o) n ns a)
      (λ e. first_is o ns p (All-tail (IsTrueNeed o) n ns a)
      (later (seen o p.clip) (tap_value (depth_at nodes) (value nodes) o p) n ns p e h))

  -- a tap of a pixel of the region lies in the interest
  covered : (k : ℕ) (o : EffectNode) → IsEffectNode k o → (t : ℤ) (r : Bounds) (x y : ℤ) (p : Tap) → Holds r x y
      → Contains (o.meaning.taps (o.values t) x y) p → Covered o t r p
  covered k o i t r x y p w there =
      all_in (Covered o t r) (o.meaning.taps (o.values t) x y) p
      (i.laws.interest_holds_taps o.context (o.values t) r x y (i.lawful t) w)
      (in_of (o.meaning.taps (o.values t) x y) p there)

  -- the needs of a region show each tap of its pixels
  pub shows_taps : (side n : ℕ) (o : EffectNode) (t : ℤ) (r : Bounds) → 0 < side → nodes n ≡ Effect o
      → ShowsTaps nodes o t r (node_needs (end_by choose nodes) (area nodes) side (Effect o) t r)
  shows_taps side n o t r some is =
      let needs = node_needs (end_by choose nodes) (area nodes) side (Effect o) t r in
      let i = subst (IsNode n) is (ok n) in
      record {
        found = λ x y p w there. elim (tap_found side n o i t r p some (covered n o i t r x y p w there)) [
          | inl e ↦ inl e
          | inr f ↦ inr (record { need = f.0; listed = contained needs f.0 f.1; holds = f.2 })
        ];
        first = λ x y p w there.
            first_is o needs p (needs_true o side t r) (tap_found side n o i t r p some (covered n o i t r x y p w there));
      }

pub needs_suffice : (nodes : Nodes) → AreNodes nodes → NeedsSuffice nodes
needs_suffice nodes ok choose choice side n o t r some is = shows_taps choose nodes ok choice side n o t r some is
