-- An end shows the value over the region that was asked for, and zero elsewhere.
use Rattle.std.proofs.Common.{◌≡◌, ℕ, ◌<◌, ℤ, List, [], ◌∷◌, ◌++◌, get_or, Bool, true, false, cond, ◌&&◌, refl, sym, ap, ◌∙◌, Option, Some, None, inl, inr}
use Rattle.std.proofs.lemmas.Bool.{cases_Bool, and_parts}
use Rattle.fx_base.specs.Bounds.{Bounds}
use Rattle.fx_base.specs.Rect.{Holds, IsWithin, is_empty, meet, within}
use Rattle.fx_base.proofs.RectLaws.{IsWithin-meet_second}
use Rattle.fx_base.proofs.RectLemmas.{is_empty-holds, within-meet}
use Rattle.fx_pixel.specs.declared.Depth.{Depth}
use Rattle.fx_pixel.specs.declared.Depth.TheVariants.{Byte, Short}
use Rattle.fx_pixel.specs.declared.Components.{Components}
use Rattle.fx_pixel.specs.declared.Components.TheVariants as components
use Rattle.fx_pixel.specs.declared.Pixel.{Pixel}
use Rattle.fx_pixel.specs.declared.Pixel.TheVariants.{Rgba, Alpha}
use Rattle.fx_pixel.specs.Pixel.{convert, components_of, zero as zero_pixel}
use Rattle.fx_pixel.specs.PixelLaws.{convert_zero}
use Rattle.fx_image.specs.Image.{Image, pixel_at}
use Rattle.fx_effect.specs.Given.{converted}
use Rattle.fx_effect.specs.Shape.{clip_names, is_mask}
use Rattle.fx_effect.specs.Tap.{tap}
use Rattle.fx_effect.specs.declared.action.Identity.{Identity}
use Rattle.fx_effect.specs.declared.action.Identity.TheVariants.{No, Same}
use Rattle.fx_effect.specs.declared.steps.Step.{Step}
use Rattle.fx_scene.specs.Areas.{area}
use Rattle.fx_scene.specs.Nodes.{AreNodes, Effect, EffectNode, IsEffectNode, IsNode, Node, Nodes, Source, SourceFrames, clip_node, components_at, depth_at, node_depth, seen}
use Rattle.fx_scene.specs.Table.{at_place, below}
use Rattle.fx_scene.specs.Value.{Pixels, clip_value, frame_pixel, node_value, source_pixel, tap_value, value}
use Rattle.fx_scene.proofs.Equations.{value_is}
use Rattle.fx_scene.proofs.Outside.{given, not_in, not_within, outside_zero, value_formed}
use Rattle.fx_scene.proofs.Places.{by_place}
use Rattle.fx_scene.proofs.TableLemmas.{below_is}
use Rattle.fx_region.specs.Ends.{Choice, EndShown, Ends, Frame, IsChoice, Render, Void, clip_end, cut_end, effect_end, effect_step, end_by, end_holds, end_pixel, frame_through, image_through, no_end, node_end, onward, render_through, source_end, source_step}
use Rattle.fx_region.specs.Suffice.{EndsSuffice, ShowsEnd}

-- ---- the end of a node by those of the nodes that its clips are

same_clip_end : (f g : Ends) (o : Option ℕ) → ((m : ℕ) → o ≡ Some m → f m ≡ g m) → clip_end f o ≡ clip_end g o
same_clip_end f g None h = refl
same_clip_end f g (Some m) h = h m refl

same_effect_end : (choose : Choice) (k : ℕ) (f g : Ends) (o : EffectNode) → IsEffectNode k o
    → ((m : ℕ) → m < k → f m ≡ g m) → (t : ℤ) (r : Bounds) (p : Identity)
    → effect_end choose f k o t r p ≡ effect_end choose g k o t r p
same_effect_end choose k f g o i h t r No = refl
same_effect_end choose k f g o i h t r (Same clip frame) =
    ap (λ (e : ℤ → Bounds → EndShown). onward (effect_step o) (e frame r))
    (same_clip_end f g (clip_node o clip) (λ m e. h m (i.earlier clip m e)))

same_end : (choose : Choice) (k : ℕ) (f g : Ends) (node : Node) → IsNode k node → ((m : ℕ) → m < k → f m ≡ g m)
    → (t : ℤ) (r : Bounds) → node_end choose f k node t r ≡ node_end choose g k node t r
same_end choose k f g (Source s) i h t r = refl
same_end choose k f g (Effect o) i h t r =
    ap (λ (e : EndShown). cond (is_empty r) Void e)
    (same_effect_end choose k f g o i h t r (o.meaning.same (o.values t) r))

pub end_is : (choose : Choice) (nodes : Nodes) → AreNodes nodes → (n : ℕ) (t : ℤ) (r : Bounds)
    → end_by choose nodes n t r ≡ node_end choose (end_by choose nodes) n (nodes n) t (meet r (area nodes n t))
unfolding end_by
end_is choose nodes ok n t r =
    let step : Ends → Ends = λ before k t r. node_end choose before k (nodes k) t (meet r (area nodes k t)) in
    same_end choose n (below no_end step n) (at_place no_end step) (nodes n) (ok n) (λ m h. below_is no_end step n m h) t
    (meet r (area nodes n t))

-- ---- its places lie within the region that was asked for

abbrev pub Inside : (ℤ → Bounds → EndShown) → Type 0
Inside e = (t : ℤ) (r : Bounds) (x y : ℤ) → end_holds (e t r) x y ≡ true → within r x y ≡ true

clip_inside : (ends : Ends) (o : Option ℕ) → ((m : ℕ) → o ≡ Some m → Inside (ends m)) → Inside (clip_end ends o)
clip_inside ends None h t r x y e = absurd cc
clip_inside ends (Some m) h t r x y e = h m refl t r x y e

onward_holds : (s : Step) (e : EndShown) (x y : ℤ) → end_holds (onward s e) x y ≡ end_holds e x y
onward_holds s Void x y = refl
onward_holds s (Frame node frame region through) x y = refl
onward_holds s (Render node frame region cut through) x y = refl

effect_inside : (choose : Choice) (k : ℕ) (ends : Ends) (o : EffectNode) → IsEffectNode k o
    → ((m : ℕ) → m < k → Inside (ends m)) → (t : ℤ) (r : Bounds) (p : Identity) (x y : ℤ)
    → end_holds (effect_end choose ends k o t r p) x y ≡ true → within r x y ≡ true
effect_inside choose k ends o i h t r No x y e = e
effect_inside choose k ends o i h t r (Same clip frame) x y e =
    clip_inside ends (clip_node o clip) (λ m q. h m (i.earlier clip m q)) frame r x y
    (sym (onward_holds (effect_step o) (clip_end ends (clip_node o clip) frame r) x y) ∙ e)

source_inside : (k : ℕ) (s : SourceFrames) (o : Option ℤ) (r : Bounds) (x y : ℤ)
    → end_holds (source_end k s o r) x y ≡ true → within r x y ≡ true
source_inside k s None r x y e = absurd cc
source_inside k s (Some f) r x y e = e

cut_inside : (choose : Choice) (k : ℕ) (ends : Ends) (node : Node) → IsNode k node → ((m : ℕ) → m < k → Inside (ends m))
    → Inside (cut_end choose ends k node)
cut_inside choose k ends (Source s) i h t r x y e = source_inside k s (s.named t) r x y e
cut_inside choose k ends (Effect o) i h t r x y e =
    effect_inside choose k ends o i h t r (o.meaning.same (o.values t) r) x y e

void_inside : (b : Bool) (end : EndShown) (r : Bounds) (x y : ℤ) → (end_holds end x y ≡ true → within r x y ≡ true)
    → end_holds (cond b Void end) x y ≡ true → within r x y ≡ true
void_inside true end r x y h e = absurd cc
void_inside false end r x y h e = h e

meet_inside : (a b : Bounds) (x y : ℤ) → within (meet a b) x y ≡ true → within a x y ≡ true
meet_inside a b x y h = (and_parts (within a x y) (within b x y) (sym (within-meet a b x y) ∙ h)).0

pub end_inside : (choose : Choice) (nodes : Nodes) → AreNodes nodes → (n : ℕ) → Inside (end_by choose nodes n)
end_inside choose nodes ok = by_place (λ n. Inside (end_by choose nodes n)) (λ n h t r x y e.
    let r' = meet r (area nodes n t) in
    let ends = end_by choose nodes in
    let e' : end_holds (node_end choose ends n (nodes n) t r') x y ≡ true =
    ap (λ (q : EndShown). end_holds q x y) (sym (end_is choose nodes ok n t r)) ∙ e in
    meet_inside r (area nodes n t) x y
    (void_inside (is_empty r') (cut_end choose ends n (nodes n) t r') r' x y
    (cut_inside choose n ends (nodes n) (ok n) h t r' x y) e'))

-- ---- conversions

convert_cond : (from to : Depth) (c d : Components) (b : Bool) (p : Pixel)
    → convert from to d (cond b p (zero_pixel c)) ≡ cond b (convert from to d p) (zero_pixel d)
convert_cond from to c d true p = refl
convert_cond from to c d false p = convert_zero from to c d

-- one more step is one more conversion
converted_more : (from : Depth) (steps : List Step) (s : Step) (to : Depth) (c : Components) (p : Pixel)
    → converted from (steps ++ s ∷ []) to c p ≡ convert s.depth to c (converted from steps s.depth s.components p)
converted_more from [] s to c p = refl
converted_more from (r ∷ steps) s to c p =
    converted_more r.depth steps s to c (convert from r.depth r.components p)

-- a pixel of a depth and components stays as it is
convert_same : (d : Depth) (c : Components) (p : Pixel) → components_of p ≡ c → convert d d c p ≡ p
convert_same Byte components.Rgba (Rgba r g b a) e = refl
convert_same Byte components.Rgba (Alpha a) e = absurd cc
convert_same Byte components.Alpha (Rgba r g b a) e = absurd cc
convert_same Byte components.Alpha (Alpha a) e = refl
convert_same Short components.Rgba (Rgba r g b a) e = refl
convert_same Short components.Rgba (Alpha a) e = absurd cc
convert_same Short components.Alpha (Rgba r g b a) e = absurd cc
convert_same Short components.Alpha (Alpha a) e = refl

-- ---- what an end shows

-- a pixel within a region, and zero elsewhere
abbrev pub cut_to : Bounds → Components → Pixel → ℤ → ℤ → Pixel
cut_to r c p x y = cond (within r x y) p (zero_pixel c)

-- the ends show these values of a depth over the region that is asked for, and zero elsewhere
abbrev pub Shows : Nodes → Depth → Pixels → (ℤ → Bounds → EndShown) → Type 0
Shows nodes d v e =
    (t : ℤ) (r : Bounds) (to : Depth) (c : Components) (x y : ℤ)
    → end_pixel nodes (e t r) to c x y ≡ cut_to r c (convert d to c (v t x y)) x y

cut_zero : (r : Bounds) (c : Components) (x y : ℤ) → cut_to r c (zero_pixel c) x y ≡ zero_pixel c
cut_zero r c x y = elim (cases_Bool (within r x y)) [ inl e ↦ rw e refl | inr e ↦ rw e refl ]

cut_same : (r : Bounds) (c : Components) (p q : Pixel) (x y : ℤ) → (Holds r x y → p ≡ q)
    → cut_to r c p x y ≡ cut_to r c q x y
cut_same r c p q x y h = elim (cases_Bool (within r x y)) [ inl e ↦ rw e (h e) | inr e ↦ rw e refl ]

frame_more : (node : Node) (f : ℤ) (through : List Step) (s : Step) (to : Depth) (c : Components) (x y : ℤ)
    → frame_through node f (through ++ s ∷ []) to c x y
    ≡ convert s.depth to c (frame_through node f through s.depth s.components x y)
frame_more (Effect o) f through s to c x y = sym (convert_zero s.depth to s.components c)
frame_more (Source r) f through s to c x y = by_image (r.frames f)
  where
    by_image : (o : Option Image) → image_through o (through ++ s ∷ []) to c x y
        ≡ convert s.depth to c (image_through o through s.depth s.components x y)
    by_image None = sym (convert_zero s.depth to s.components c)
    by_image (Some image) = converted_more image.depth through s to c (pixel_at image x y)

render_more : (nodes : Nodes) (node : ℕ) (f : ℤ) (region : Bounds) (through : List Step) (s : Step) (to : Depth)
    (c : Components) (x y : ℤ)
    → render_through nodes node f region (through ++ s ∷ []) to c x y
    ≡ convert s.depth to c (render_through nodes node f region through s.depth s.components x y)
render_more nodes node f region through s to c x y =
    ap (λ (q : Pixel). cut_to region c q x y)
    (converted_more (depth_at nodes node) through s to c (value nodes node f x y))
    ∙ sym (convert_cond s.depth to s.components c (within region x y)
    (converted (depth_at nodes node) through s.depth s.components (value nodes node f x y)))

onward_pixel : (nodes : Nodes) (s : Step) (e : EndShown) (to : Depth) (c : Components) (x y : ℤ)
    → end_pixel nodes (onward s e) to c x y ≡ convert s.depth to c (end_pixel nodes e s.depth s.components x y)
onward_pixel nodes s Void to c x y = sym (convert_zero s.depth to s.components c)
onward_pixel nodes s (Frame node frame region through) to c x y =
    ap (λ (q : Pixel). cut_to region c q x y) (frame_more (nodes node) frame through s to c x y)
    ∙ sym (convert_cond s.depth to s.components c (within region x y)
    (frame_through (nodes node) frame through s.depth s.components x y))
onward_pixel nodes s (Render node frame region cut through) to c x y =
    ap (λ (q : Pixel). cut_to cut c q x y) (render_more nodes node frame region through s to c x y)
    ∙ sym (convert_cond s.depth to s.components c (within cut x y)
    (render_through nodes node frame region through s.depth s.components x y))

frame_shows : (s : SourceFrames) (o : Option Image) (to : Depth) (c : Components) (x y : ℤ)
    → image_through o (source_step s ∷ []) to c x y ≡ convert s.depth to c (frame_pixel s o x y)
frame_shows s None to c x y = sym (convert_zero s.depth to s.components c)
frame_shows s (Some image) to c x y = refl

source_shows : (nodes : Nodes) (k : ℕ) (s : SourceFrames) → nodes k ≡ Source s → (o : Option ℤ) (r : Bounds) (to : Depth)
    (c : Components) (x y : ℤ)
    → end_pixel nodes (source_end k s o r) to c x y ≡ cut_to r c (convert s.depth to c (source_pixel s o x y)) x y
source_shows nodes k s e None r to c x y =
    sym (ap (λ (q : Pixel). cut_to r c q x y) (convert_zero s.depth to s.components c) ∙ cut_zero r c x y)
source_shows nodes k s e (Some f) r to c x y =
    ap (λ (q : Node). cut_to r c (frame_through q f (source_step s ∷ []) to c x y) x y) e
    ∙ ap (λ (q : Pixel). cut_to r c q x y) (frame_shows s (s.frames f) to c x y)

clip_shows : (nodes : Nodes) (ends : Ends) (values : ℕ → Pixels) (s : Step) (o : Option ℕ) (t : ℤ) (r : Bounds)
    (to : Depth) (c : Components) (x y : ℤ)
    → ((m : ℕ) → o ≡ Some m → Shows nodes (depth_at nodes m) (values m) (ends m))
    → end_pixel nodes (onward s (clip_end ends o t r)) to c x y
    ≡ cut_to r c (convert s.depth to c (clip_value (depth_at nodes) values s.depth s.components o t x y)) x y
clip_shows nodes ends values s None t r to c x y h =
    sym (ap (λ (q : Pixel). cut_to r c q x y) (convert_zero s.depth to s.components c) ∙ cut_zero r c x y)
clip_shows nodes ends values s (Some m) t r to c x y h =
    onward_pixel nodes s (ends m t r) to c x y
    ∙ ap (convert s.depth to c) (h m refl t r s.depth s.components x y)
    ∙ convert_cond s.depth to s.components c (within r x y)
    (convert (depth_at nodes m) s.depth s.components (values m t x y))

-- a clip that isn't a mask is seen in the effect's components
plain : (o : EffectNode) (clip : ℕ) → is_mask (get_or (clip_names o.meaning.shape o.context) clip []) ≡ false
    → seen o clip ≡ o.components
plain o clip e = rw e refl

module _ (choose : Choice) (nodes : Nodes) (ok : AreNodes nodes) (is : IsChoice nodes choose) where
  effect_shows : (k : ℕ) (ends : Ends) (o : EffectNode) → IsEffectNode k o → nodes k ≡ Effect o
      → value nodes k ≡ node_value (depth_at nodes) (value nodes) (Effect o)
      → ((m : ℕ) → m < k → Shows nodes (depth_at nodes m) (value nodes m) (ends m))
      → (t : ℤ) (r : Bounds) → IsWithin r (area nodes k t) → (p : Identity) → o.meaning.same (o.values t) r ≡ p
      → (to : Depth) (c : Components) (x y : ℤ)
      → end_pixel nodes (effect_end choose ends k o t r p) to c x y
      ≡ cut_to r c (convert o.depth to c (node_value (depth_at nodes) (value nodes) (Effect o) t x y)) x y
  effect_shows k ends o i e v h t r inside No s to c x y =
      cut_same r c (render_through nodes k t (choose k t r) [] to c x y)
      (convert (depth_at nodes k) to c (value nodes k t x y)) x y
      (λ w. let held : within (choose k t r) x y ≡ true = is k t r inside x y w in rw held refl)
      ∙ ap (λ (f : Pixels). cut_to r c (convert (depth_at nodes k) to c (f t x y)) x y) v
      ∙ ap (λ (q : Node). cut_to r c (convert (node_depth q) to c (node_value (depth_at nodes) (value nodes) (Effect o) t x y)) x y) e
  effect_shows k ends o i e v h t r inside (Same clip frame) s to c x y =
      let same = i.laws.identity_is_tap o.context (o.values t) r clip frame o.depth o.components
      (tap_value (depth_at nodes) (value nodes) o) (given nodes k (value nodes) o i (λ m l. value_formed nodes ok m) t) s in
      clip_shows nodes ends (value nodes) (effect_step o) (clip_node o clip) frame r to c x y
      (λ m q. h m (i.earlier clip m q))
      ∙ ap (λ (d : Components). cut_to r c (convert o.depth to c (clip_value (depth_at nodes) (value nodes) o.depth d (clip_node o clip) frame x y)) x y)
      (sym (plain o clip same.no_mask))
      ∙ cut_same r c (convert o.depth to c (tap_value (depth_at nodes) (value nodes) o (tap clip frame x y)))
      (convert o.depth to c (node_value (depth_at nodes) (value nodes) (Effect o) t x y)) x y
      (λ w. ap (convert o.depth to c) (sym (same.pixels x y w)))

  node_shows : (k : ℕ) (ends : Ends) (node : Node) → IsNode k node → nodes k ≡ node
      → value nodes k ≡ node_value (depth_at nodes) (value nodes) node
      → ((m : ℕ) → m < k → Shows nodes (depth_at nodes m) (value nodes m) (ends m))
      → (t : ℤ) (r : Bounds) → IsWithin r (area nodes k t) → (to : Depth) (c : Components) (x y : ℤ)
      → end_pixel nodes (cut_end choose ends k node t r) to c x y
      ≡ cut_to r c (convert (node_depth node) to c (node_value (depth_at nodes) (value nodes) node t x y)) x y
  node_shows k ends (Source s) i e v h t r inside to c x y = source_shows nodes k s e (s.named t) r to c x y
  node_shows k ends (Effect o) i e v h t r inside to c x y =
      effect_shows k ends o i e v h t r inside (o.meaning.same (o.values t) r) refl to c x y

  void_shows : (r : Bounds) (b : Bool) (end : EndShown) (to : Depth) (c : Components) (p : Pixel) (x y : ℤ)
      → is_empty r ≡ b → end_pixel nodes end to c x y ≡ cut_to r c p x y
      → end_pixel nodes (cond b Void end) to c x y ≡ cut_to r c p x y
  void_shows r true end to c p x y e h = rw (not_in r x y (is_empty-holds r x y e)) refl
  void_shows r false end to c p x y e h = h

  cut_meet : (a b d : Bool) (c : Components) (p : Pixel) → (b ≡ false → p ≡ zero_pixel c) → d ≡ a && b
      → cond d p (zero_pixel c) ≡ cond a p (zero_pixel c)
  cut_meet true true d c p h e = rw e refl
  cut_meet true false d c p h e = rw e (sym (h refl))
  cut_meet false b d c p h e = rw e refl

  cut_area : (n : ℕ) (t : ℤ) (r : Bounds) (to : Depth) (c : Components) (x y : ℤ)
      → cut_to (meet r (area nodes n t)) c (convert (depth_at nodes n) to c (value nodes n t x y)) x y
      ≡ cut_to r c (convert (depth_at nodes n) to c (value nodes n t x y)) x y
  cut_area n t r to c x y =
      cut_meet (within r x y) (within (area nodes n t) x y) (within (meet r (area nodes n t)) x y) c
      (convert (depth_at nodes n) to c (value nodes n t x y))
      (λ e. ap (convert (depth_at nodes n) to c) (outside_zero nodes ok n t x y (not_within (area nodes n t) x y e))
      ∙ convert_zero (depth_at nodes n) to (components_at nodes n) c)
      (within-meet r (area nodes n t) x y)

  -- each end shows the value over the region that was asked for, and zero elsewhere
  pub end_shows : (n : ℕ) → Shows nodes (depth_at nodes n) (value nodes n) (end_by choose nodes n)
  end_shows = by_place (λ n. Shows nodes (depth_at nodes n) (value nodes n) (end_by choose nodes n)) (λ n h t r to c x y.
      let r' = meet r (area nodes n t) in
      let ends = end_by choose nodes in
      ap (λ (q : EndShown). end_pixel nodes q to c x y) (end_is choose nodes ok n t r)
      ∙ void_shows r' (is_empty r') (cut_end choose ends n (nodes n) t r') to c
      (convert (depth_at nodes n) to c (value nodes n t x y)) x y refl
      (node_shows n ends (nodes n) (ok n) refl (value_is nodes ok n) h t r' (IsWithin-meet_second r (area nodes n t)) to c x y
      ∙ ap (λ (f : Pixels). cut_to r' c (convert (depth_at nodes n) to c (f t x y)) x y) (sym (value_is nodes ok n)))
      ∙ cut_area n t r to c x y)

  -- ---- in the subject's words

  no_pixel : (e : EndShown) (to : Depth) (c : Components) (x y : ℤ) → end_holds e x y ≡ false
      → end_pixel nodes e to c x y ≡ zero_pixel c
  no_pixel Void to c x y e = refl
  no_pixel (Frame node frame region through) to c x y e = rw e refl
  no_pixel (Render node frame region cut through) to c x y e = rw e refl

  own_form : (n : ℕ) (t x y : ℤ)
      → convert (depth_at nodes n) (depth_at nodes n) (components_at nodes n) (value nodes n t x y) ≡ value nodes n t x y
  own_form n t x y =
      convert_same (depth_at nodes n) (components_at nodes n) (value nodes n t x y) (value_formed nodes ok n t x y).1

  pub shows_end : (n : ℕ) (t : ℤ) (r : Bounds) → ShowsEnd nodes n t r (end_by choose nodes n t r)
  shows_end n t r =
      let e = end_by choose nodes n t r in
      let pixels : (to : Depth) (c : Components) (x y : ℤ) → end_holds e x y ≡ true
      → end_pixel nodes e to c x y ≡ convert (depth_at nodes n) to c (value nodes n t x y) = λ to c x y held.
      end_shows n t r to c x y ∙ (let w = end_inside choose nodes ok n t r x y held in rw w refl) in
      record {
        inside = λ x y held. end_inside choose nodes ok n t r x y held;
        shown = λ x y held. sym (pixels (depth_at nodes n) (components_at nodes n) x y held ∙ own_form n t x y);
        pixels = pixels;
        zero = λ x y w out.
            sym (own_form n t x y)
            ∙ sym (end_shows n t r (depth_at nodes n) (components_at nodes n) x y ∙ (rw w refl))
            ∙ no_pixel e (depth_at nodes n) (components_at nodes n) x y out;
      }

pub ends_suffice : (nodes : Nodes) → AreNodes nodes → EndsSuffice nodes
ends_suffice nodes ok choose is n t r = shows_end choose nodes ok is n t r
