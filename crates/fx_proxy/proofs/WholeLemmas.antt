-- At the whole size all stays as it is.
use Rattle.std.proofs.Common.{◌≡◌, ◌≤◌, ℕ, suc, ◌+◌, ◌-◌, ◌/◌, ℤ, pos, negsuc, ◌*ℤ◌, true, false, List, [], ◌∷◌, map, Option, Some, None, slice_get, refl, sym, ap, subst, ◌∙◌, arith, inl, inr}
use Rattle.std.specs.Int.{int_gap}
use Rattle.std.specs.List.{AllByRecursion}
use Rattle.std.specs.Prelude.{option_map}
use Rattle.std.proofs.Math.Nat.{div-one}
use Rattle.std.proofs.lemmas.Bool.{cases_Bool}
use Rattle.std.proofs.lemmas.Int.{ints}
use Rattle.std.proofs.lemmas.List.Sums.{sum_by-cons}
use Rattle.fx_base.specs.Bounds.{Bounds}
use Rattle.fx_base.specs.Rect.{rows, within}
use Rattle.fx_effect.specs.Meaning.{Meaning}
use Rattle.fx_effect.specs.Shape.{IsProject}
use Rattle.fx_graph.specs.Edits.{HasParam}
use Rattle.fx_graph.specs.Kept.{AreNodes, IsDoing}
use Rattle.fx_graph.specs.Nodes.{Form}
use Rattle.fx_graph.specs.Shown.{Does, Effect, GraphShown, Shown, Source}
use Rattle.fx_image.specs.Image.{Image, PixelsFit, SameImage, pixel_at}
use Rattle.fx_kernel.specs.Samples.{mean_of, nth, rounded, sum_of}
use Rattle.fx_params.specs.declared.def.ParamDef.{ParamDef}
use Rattle.fx_params.specs.Parameter.{IsSound, Parameter}
use Rattle.fx_pixel.specs.declared.Components.{Components}
use Rattle.fx_pixel.specs.declared.Components.TheVariants as components
use Rattle.fx_pixel.specs.declared.Pixel.{Pixel}
use Rattle.fx_pixel.specs.declared.Pixel.TheVariants as pixels
use Rattle.fx_pixel.specs.Pixel.{components_of, zero as clear}
use Rattle.fx_scene.specs.Depends.{AreSame}
use Rattle.fx_scene.specs.Scenes.{Images}
use Rattle.fx_scene.specs.Takes.{AreEdits, IsEdit, edits_of}
use Rattle.fx_scene.specs.declared.take.Edit.{Edit}
use Rattle.fx_scene.specs.declared.take.Take.{Take}
use Rattle.fx_takes.specs.Shown.{EditShown, TakeShown, edit_shown, take_shown}
use Rattle.fx_proxy.specs.Lengths.{HasLength}
use Rattle.fx_proxy.specs.Needs.{AreWhole, SameRendered}
use Rattle.fx_proxy.specs.Proxy.{proxy, rendered_of}
use Rattle.fx_proxy.specs.Reduced.{IsWhole, block, over, reduced, reduced_pixel, reduced_rect}
use Rattle.fx_proxy.specs.Scaled.{AreLengths, DoesLengths, scaled_does, scaled_edit, scaled_graph, scaled_node, scaled_take, scaled_value, value_for}
use Rattle.fx_proxy.proofs.LengthLemmas.{param_whole}
use Rattle.fx_proxy.proofs.ScaledLemmas.{length_there, params_whole, project_is_whole}

-- ---- rectangles

over_one : (n : ℕ) → over 1 n ≡ n
over_one n = let back : n + 1 - 1 ≡ n = omega arith in ap (λ (m : ℕ). m / 1) back ∙ div-one n

side_is : (a b : ℤ) → a ≡ pos 0 → 1 ≤ int_gap a b → pos (over 1 (int_gap a b)) ≡ b
side_is a b left some = ap pos (over_one (int_gap a b)) ∙ by b (subst (λ (x : ℤ). 1 ≤ int_gap x b) left some) ∙ refl
  where
    by : (b : ℤ) → 1 ≤ int_gap (pos 0) b → pos (int_gap a b) ≡ b
    by b some = ap (λ (x : ℤ). pos (int_gap x b)) left ∙ on b some
      where
        on : (b : ℤ) → 1 ≤ int_gap (pos 0) b → pos (int_gap (pos 0) b) ≡ b
        on (pos n) some = omega (arith, ints)
        on (negsuc n) some = absurd (omega (arith, some))

rect_whole : (r : Bounds) → IsWhole r → reduced_rect 1 r ≡ r
rect_whole r h =
    ap (λ (x : ℤ). record { x1 = pos 0; y1 = pos 0; x2 = x; y2 = pos (over 1 (rows r)) }) (side_is r.x1 r.x2 h.left h.wide)
    ∙ ap (λ (y : ℤ). record { x1 = pos 0; y1 = pos 0; x2 = r.x2; y2 = y }) (side_is r.y1 r.y2 h.bottom h.high)
    ∙ ap (λ (x : ℤ). record { x1 = x; y1 = pos 0; x2 = r.x2; y2 = r.y2 }) (sym h.left)
    ∙ ap (λ (y : ℤ). record { x1 = r.x1; y1 = y; x2 = r.x2; y2 = r.y2 }) (sym h.bottom)

-- ---- images

one_sample : (p : Pixel) (k : ℕ) → rounded (sum_of k (p ∷ [])) 1 ≡ nth p k
one_sample p k = omega (arith, sum_by-cons (λ x. nth x k) p [])

one_pixel : (c : Components) (p : Pixel) → components_of p ≡ c → mean_of c 1 (p ∷ []) ≡ p
one_pixel components.Rgba (pixels.Rgba r g b a) is =
    let p = pixels.Rgba r g b a in
    let f = λ (k : ℕ). rounded (sum_of k (p ∷ [])) 1 in
    ap (λ (x : ℕ). pixels.Rgba x (f 1) (f 2) (f 3)) (one_sample p 0) ∙ ap (λ (x : ℕ). pixels.Rgba r x (f 2) (f 3)) (one_sample p 1)
    ∙ ap (λ (x : ℕ). pixels.Rgba r g x (f 3)) (one_sample p 2) ∙ ap (λ (x : ℕ). pixels.Rgba r g b x) (one_sample p 3)
one_pixel components.Rgba (pixels.Alpha a) is = absurd cc
one_pixel components.Alpha (pixels.Rgba r g b a) is = absurd cc
one_pixel components.Alpha (pixels.Alpha a) is = ap (λ (x : ℕ). pixels.Alpha x) (one_sample (pixels.Alpha a) 0)

one_times : (x : ℤ) → pos 1 *ℤ x ≡ x
one_times x = omega (arith, ints)

one_block : {X : Type 0} (at : ℤ → ℤ → X) (x y : ℤ) → block at 1 x y ≡ at x y ∷ []
one_block at x y = rw (one_times x, one_times y) refl

image_whole : (image : Image) → IsWhole image.rect → PixelsFit image → SameImage (reduced 1 image) image
image_whole image whole fit =
    record { rect = rect_whole image.rect whole; depth = refl; components = refl; pixels = λ x y. at x y }
  where
    at : (x y : ℤ) → pixel_at (reduced 1 image) x y ≡ pixel_at image x y
    at x y = elim (cases_Bool (within image.rect x y)) [
      | inl there ↦
          let here : within (reduced_rect 1 image.rect) x y ≡ true = ap (λ (b : Bounds). within b x y) (rect_whole image.rect whole) ∙ there in
          let left : pixel_at (reduced 1 image) x y ≡ reduced_pixel 1 image x y = rw here refl in
          left ∙ ap (mean_of image.components 1) (one_block (pixel_at image) x y)
          ∙ one_pixel image.components (pixel_at image x y) (fit.components x y)
      | inr gone ↦
          let out : within (reduced_rect 1 image.rect) x y ≡ false = ap (λ (b : Bounds). within b x y) (rect_whole image.rect whole) ∙ gone in
          let left : pixel_at (reduced 1 image) x y ≡ clear image.components = rw out refl in
          let right : pixel_at image x y ≡ clear image.components = rw gone refl in
          left ∙ sym right
    ]

pub image_back : (image : Image) → IsWhole image.rect → PixelsFit image → SameImage image (reduced 1 image)
image_back image whole fit =
    let same = image_whole image whole fit in
    record { rect = sym same.rect; depth = refl; components = refl; pixels = λ x y. sym (same.pixels x y) }

images_whole : (o : Option Image) → ((image : Image) → o ≡ Some image → IsWhole image.rect × PixelsFit image)
    → AreSame (option_map (reduced 1) o) o
images_whole None are = tt
images_whole (Some image) are = let h = are image refl in image_whole image h.0 h.1

-- ---- the graph

same_each : {X : Type 0} (f : X → X) (xs : List X) → ((k : ℕ) (x : X) → slice_get xs k ≡ Some x → f x ≡ x) → map f xs ≡ xs
same_each f [] same = refl
same_each f (x ∷ xs) same =
    ap (λ y. y ∷ map f xs) (same 0 x refl) ∙ ap (λ ys. x ∷ ys) (same_each f xs (λ k y there. same (suc k) y there))

module _ {E : Type 0} (meaning : E → Meaning) (number : E → ℕ) where
  does_whole : (project form : Form) (before : List (Shown E)) (does : Does E) → DoesLengths number does
      → IsDoing meaning project before form does → scaled_does number 1 does ≡ does
  does_whole project form before (Source pattern first last hold) has h = refl
  does_whole project form before (Effect e c clips names optional masks params) has h =
      ap (λ (ps : List Parameter). Effect e c clips names optional masks ps) (params_whole (number e) 0 params has h.0.sound)

  graph_whole : (g : GraphShown E) → IsProject g.project → AreLengths number g.nodes
      → AreNodes meaning (g.depth, g.components) g.nodes → scaled_graph number 1 g ≡ g
  graph_whole g is has are =
      ap (λ (r : Bounds). record g { project = r; nodes = map (scaled_node number 1) g.nodes }) (rect_whole g.project (project_is_whole g.project is))
      ∙ ap (λ (ns : List (Shown E)). record g { nodes = ns })
      (same_each (scaled_node number 1) g.nodes (λ k n there.
      ap (λ (d : Does E). record n { does = d }) (does_whole (g.depth, g.components) _ _ n.does (has k n there) (are k n there))))

-- ---- takes

module _ {E : Type 0} (number : E → ℕ) (nodes : List (Shown E)) (has : AreLengths number nodes) where
  value_whole : (does : Does E) → DoesLengths number does → (place : ℕ) (value : Parameter) → HasParam does place value.def
      → IsSound value → scaled_value number 1 place value does ≡ value
  value_whole (Source pattern first last hold) lengths place value of s = absurd of
  value_whole (Effect e c clips names optional masks params) lengths place value of s =
      let zero_i : 0 + place ≡ place = omega arith in
      let there : HasLength (number e) place of.0 =
      subst (λ (n : ℕ). HasLength (number e) n of.0) zero_i (length_there (number e) 0 place params of.0 lengths of.1) in
      param_whole (number e) place value (λ is. there is ∙ ap (λ (d : ParamDef). Some d) of.2) s

  edit_whole : (e : Edit) → IsEdit nodes e → scaled_edit number 1 nodes (edit_shown e) ≡ edit_shown e
  edit_whole e of =
      let there = ap (value_for number 1 e.param e.value) of.there in
      ap (λ (v : Parameter). record { node = e.node; param = e.param; value = v })
      (there ∙ value_whole of.node.does (has e.node of.node of.there) e.param e.value of.param e.sound)

  edits_whole : (es : List Edit) → AllByRecursion (IsEdit nodes) es
      → map (scaled_edit number 1 nodes) (map edit_shown es) ≡ map edit_shown es
  edits_whole [] of = refl
  edits_whole (e ∷ es) of =
      ap (λ (x : EditShown). x ∷ map (scaled_edit number 1 nodes) (map edit_shown es)) (edit_whole e of.0)
      ∙ ap (λ (xs : List EditShown). edit_shown e ∷ xs) (edits_whole es of.1)

  takes_whole : (takes : List Take) → AreEdits nodes (edits_of takes)
      → map (scaled_take number 1 nodes) (map take_shown takes) ≡ map take_shown takes
  takes_whole [] are = refl
  takes_whole (t ∷ ts) are =
      ap (λ (es : List EditShown). record { file = t.file; edits = es } ∷ map (scaled_take number 1 nodes) (map take_shown ts)) (edits_whole t.edits.items (are 0))
      ∙ ap (λ (xs : List TakeShown). take_shown t ∷ xs) (takes_whole ts (λ k. are (suc k)))

pub rendered_whole : {E : Type 0} (meaning : E → Meaning) (number : E → ℕ) (g : GraphShown E) (takes : List Take) (images : Images)
    → IsProject g.project → AreLengths number g.nodes → AreNodes meaning (g.depth, g.components) g.nodes
    → AreEdits g.nodes (edits_of takes) → AreWhole images
    → (let s = rendered_of g (map take_shown takes) images in SameRendered (proxy number s 1) s)
rendered_whole meaning number g takes images is has are edits whole =
    record {
      graph = graph_whole meaning number g is has are;
      takes = takes_whole number g.nodes has takes edits;
      images = λ n f. images_whole (images n f) (whole n f);
    }
