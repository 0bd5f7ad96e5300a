-- What pieces show.
use Rattle.std.proofs.Common.{◌≡◌, ℕ, ◌<◌, ◌+◌, ℤ, List, [], ◌∷◌, ◌++◌, map, length, take, get_or, Bool, true, false, cond, nat_eq, ◌||◌, refl, arith, sym, ap, ◌∙◌, subst, Option, Some, None, is_some}
use Rattle.std.proofs.lemmas.Bool.{cases_Bool, cases_eq, and_parts, or_right}
use Rattle.std.proofs.lemmas.Bool.Decides.{nat_tests, Decides-int_eq}
use Rattle.std.proofs.lemmas.List.{append-nil, length-map, take_more}
use Rattle.std.proofs.lemmas.List.Elements.{All-nil, All-cons, All-head, All-tail, All-append, All-map}
use Rattle.std.proofs.lemmas.Int.{ints}
use Rattle.std.proofs.lemmas.Option.{same_Some}
use Rattle.std.specs.Ordering.{int_eq}
use Rattle.std.specs.List.{All}
use mathlib.Core.Logic.{◌⊎◌, inl, inr}
use Rattle.fx_base.specs.Bounds.{Bounds, none}
use Rattle.fx_base.specs.Rect.{Holds, within}
use Rattle.fx_base.proofs.RectLemmas.{is_empty-holds}
use Rattle.fx_pixel.specs.declared.Depth.{Depth}
use Rattle.fx_pixel.specs.declared.Components.{Components}
use Rattle.fx_pixel.specs.declared.Components.TheVariants.{Rgba}
use Rattle.fx_pixel.specs.declared.Pixel.{Pixel}
use Rattle.fx_pixel.specs.Pixel.{zero as zero_pixel, convert, greatest}
use Rattle.fx_pixel.specs.PixelLaws.{convert_zero}
use Rattle.fx_image.specs.Image.{Image}
use Rattle.fx_image.specs.Stored.{Stored, shown, image_of}
use Rattle.fx_effect.specs.Tap.{tap}
use Rattle.fx_effect.specs.Given.{Given, GivenPiece, first_pixel, piece_pixel, holds_tap, is_for, input_pixel, clip_components}
use Rattle.fx_effect.specs.declared.steps.Step.{Step}
use Rattle.fx_scene.specs.Nodes.{AreNodes, Effect, EffectNode, IsEffectNode, IsNode, Node, Nodes, Source, SourceFrames, clip_node, components_at, depth_at, node_components, node_depth, seen}
use Rattle.fx_scene.specs.Value.{Pixels, clip_value, frame_pixel, node_value, source_pixel, tap_value, value}
use Rattle.fx_scene.specs.Areas.{area, image_area, node_area, source_area}
use Rattle.fx_scene.specs.Frames.{clip_frames, has_frame}
use Rattle.fx_scene.proofs.Members.{In, all_in, all_from, map_same}
use Rattle.fx_scene.proofs.Equations.{area_is, value_is}
use Rattle.fx_scene.proofs.Outside.{Covered, dot, in_dot, in_frames, not_within, outside_zero}
use Rattle.fx_scene.specs.Windows.{IsWindowOf}
use Rattle.fx_scene.proofs.NearLemmas.{listed}
use Rattle.fx_eval.specs.declared.whole.Whole.{Whole}
use Rattle.fx_eval.specs.Cuts.{has_place}
use Rattle.fx_eval.specs.Wholes.{HasRegion, IsImageOf, IsWhole, images_made, rect_of}
use Rattle.fx_eval.specs.Inputs.{Adds, IsOne, IsSomeOf, IsTruePiece, Reads, blank, has_piece, piece_of}

-- ---- equal numbers

same_nat : (a b : ℕ) → a ≡ b → nat_eq a b ≡ true
same_nat a b e = grind (arith, nat_tests)

same_int : (a b : ℤ) → a ≡ b → int_eq a b ≡ true
same_int a b e = grind (arith, ints, Decides-int_eq)

pub nat_same : (a b : ℕ) → nat_eq a b ≡ true → a ≡ b
nat_same a b e = grind (arith, nat_tests)

pub int_same : (a b : ℤ) → int_eq a b ≡ true → a ≡ b
int_same a b e = (Decides-int_eq a b).0 e

-- ---- pieces that are added

left_by : (b u v : Bool) → (u ≡ true → v ≡ true) → b || u ≡ true → b || v ≡ true
left_by true u v k h = refl
left_by false u v k h = k h

has_left : (ps qs : List GivenPiece) (c : ℕ) (f x y : ℤ) → has_piece ps c f x y ≡ true → has_piece (ps ++ qs) c f x y ≡ true
has_left [] qs c f x y h = absurd cc
has_left (p ∷ ps) qs c f x y h =
    left_by (holds_tap p (tap c f x y)) (has_piece ps c f x y) (has_piece (ps ++ qs) c f x y) (has_left ps qs c f x y) h

has_right : (ps qs : List GivenPiece) (c : ℕ) (f x y : ℤ) → has_piece qs c f x y ≡ true → has_piece (ps ++ qs) c f x y ≡ true
has_right [] qs c f x y h = h
has_right (p ∷ ps) qs c f x y h = or_right (holds_tap p (tap c f x y)) (has_piece (ps ++ qs) c f x y) (has_right ps qs c f x y h)

more_of : (ps qs rs : List GivenPiece) → (ps ++ qs) ++ rs ≡ ps ++ (qs ++ rs)
more_of [] qs rs = refl
more_of (p ∷ ps) qs rs = ap (λ (ts : List GivenPiece). p ∷ ts) (more_of ps qs rs)

pub adds_none : (nodes : Nodes) (node : ℕ → Option ℕ) (W : ℕ → ℤ → Type 0) (g : Given)
    → ((c m : ℕ) (f : ℤ) → W c f → node c ≡ Some m → (x y : ℤ) → Holds (area nodes m f) x y → ⊥) → Adds nodes node W g g
adds_none nodes node W g never =
    record {
      added = [];
      is = ap (λ (ps : List GivenPiece). record g { pieces = ps }) (sym (append-nil g.pieces));
      right = All-nil (IsTruePiece nodes node);
      covers = λ c m f w is x y inside. absurd (never c m f w is x y inside);
    }

pub adds_more : (nodes : Nodes) (node : ℕ → Option ℕ) (V W : ℕ → ℤ → Type 0) (a b c : Given) → Adds nodes node V a b
    → Adds nodes node W b c → Adds nodes node (λ d g. V d g ⊎ W d g) a c
adds_more nodes node V W a b c u v =
    record {
      added = u.added ++ v.added;
      is =
          v.is ∙ ap (λ (g : Given). record g { pieces = g.pieces ++ v.added }) u.is
          ∙ ap (λ (ps : List GivenPiece). record a { pieces = ps }) (more_of a.pieces u.added v.added);
      right = All-append (IsTruePiece nodes node) u.added v.added u.right v.right;
      covers = λ d m f w is x y inside. elim w [
        | inl p ↦ has_left u.added v.added d f x y (u.covers d m f p is x y inside)
        | inr q ↦ has_right u.added v.added d f x y (v.covers d m f q is x y inside)
      ];
    }

pub adds_less : (nodes : Nodes) (node : ℕ → Option ℕ) (V W : ℕ → ℤ → Type 0) (a b : Given)
    → ((c : ℕ) (f : ℤ) → V c f → W c f) → Adds nodes node W a b → Adds nodes node V a b
adds_less nodes node V W a b fewer u =
    record {
      added = u.added;
      is = u.is;
      right = u.right;
      covers = λ d m f v is x y inside. u.covers d m f (fewer d f v) is x y inside;
    }

-- ---- the first piece that has a place

first_by : (nodes : Nodes) (node : ℕ → Option ℕ) (to : Depth) (k : Components) (p : GivenPiece) (rest v : Pixel) (c : ℕ)
    (f x y : ℤ) (b : Bool) → holds_tap p (tap c f x y) ≡ b → v ≡ clip_value (depth_at nodes) (value nodes) to k (node c) f x y
    → IsTruePiece nodes node p → (b ≡ false → rest ≡ v) → cond b (piece_pixel to k p x y) rest ≡ v
first_by nodes node to k p rest v c f x y true e is h later =
    let both = and_parts (is_for p c f) (within p.rect x y) e in
    let same = and_parts (nat_eq p.clip c) (int_eq p.frame f) both.0 in
    let clip = nat_same p.clip c same.0 in
    let frame = int_same p.frame f same.1 in
    h.pixels to k x y both.1
    ∙ ap (λ (g : ℤ). convert (depth_at nodes h.m) to k (value nodes h.m g x y)) frame
    ∙ ap (λ (o : Option ℕ). clip_value (depth_at nodes) (value nodes) to k o f x y) (sym h.is ∙ ap node clip)
    ∙ sym is
first_by nodes node to k p rest v c f x y false e is h later = later refl

later_has : (p : GivenPiece) (ps : List GivenPiece) (c : ℕ) (f x y : ℤ) (z : Type 0) → holds_tap p (tap c f x y) ≡ false
    → z ⊎ (has_piece (p ∷ ps) c f x y ≡ true) → z ⊎ (has_piece ps c f x y ≡ true)
later_has p ps c f x y z e h = elim h [ inl u ↦ inl u | inr t ↦ inr (later_by (holds_tap p (tap c f x y)) e t) ]
  where
    later_by : (b : Bool) → b ≡ false → b || has_piece ps c f x y ≡ true → has_piece ps c f x y ≡ true
    later_by true e t = absurd cc
    later_by false e t = t

first_is : (nodes : Nodes) (node : ℕ → Option ℕ) (to : Depth) (k : Components) (ps : List GivenPiece) (c : ℕ) (f x y : ℤ)
    → All (IsTruePiece nodes node) ps
    → (clip_value (depth_at nodes) (value nodes) to k (node c) f x y ≡ zero_pixel k) ⊎ (has_piece ps c f x y ≡ true)
    → first_pixel to k ps (tap c f x y) ≡ clip_value (depth_at nodes) (value nodes) to k (node c) f x y
first_is nodes node to k [] c f x y a h = elim h [ inl e ↦ sym e | inr e ↦ absurd cc ]
first_is nodes node to k (p ∷ ps) c f x y a h =
    let v = clip_value (depth_at nodes) (value nodes) to k (node c) f x y in
    first_by nodes node to k p (first_pixel to k ps (tap c f x y)) v c f x y (holds_tap p (tap c f x y)) refl refl
    (All-head (IsTruePiece nodes node) p ps a)
    (λ e. first_is nodes node to k ps c f x y (All-tail (IsTruePiece nodes node) p ps a) (later_has p ps c f x y (v ≡ zero_pixel k) e h))

-- what is read of a clip is zero, or a piece has the place
zero_or_has : (nodes : Nodes) → AreNodes nodes → (node : ℕ → Option ℕ) (W : ℕ → ℤ → Type 0) (a b : Given)
    (u : Adds nodes node W a b) (to : Depth) (k : Components) (c : ℕ) (f x y : ℤ) → W c f → (o : Option ℕ) → node c ≡ o
    → (clip_value (depth_at nodes) (value nodes) to k o f x y ≡ zero_pixel k) ⊎ (has_piece u.added c f x y ≡ true)
zero_or_has nodes ok node W a b u to k c f x y w None is = inl refl
zero_or_has nodes ok node W a b u to k c f x y w (Some m) is = elim (cases_Bool (within (area nodes m f) x y)) [
  | inl e ↦ inr (u.covers c m f w is x y e)
  | inr e ↦ inl (ap (convert (depth_at nodes m) to k) (outside_zero nodes ok m f x y (not_within (area nodes m f) x y e))
      ∙ convert_zero (depth_at nodes m) to (components_at nodes m) k)
]

-- so what a tap reads is the value
pub read_is : (nodes : Nodes) → AreNodes nodes → (node : ℕ → Option ℕ) (W : ℕ → ℤ → Type 0) (d : Depth)
    (ks : List Components) (given : Given) → Adds nodes node W (blank d ks) given → (k : Components) (c : ℕ) (f x y : ℤ)
    → W c f → get_or ks c Rgba ≡ k
    → input_pixel given (tap c f x y) ≡ clip_value (depth_at nodes) (value nodes) d k (node c) f x y
read_is nodes ok node W d ks given u k c f x y w is =
    ap (λ (g : Given). first_pixel g.depth (clip_components g c) g.pieces (tap c f x y)) u.is
    ∙ ap (λ (z : Components). first_pixel d z u.added (tap c f x y)) is
    ∙ first_is nodes node d k u.added c f x y u.right (zero_or_has nodes ok node W (blank d ks) given u d k c f x y w (node c) refl)

-- ---- the pieces of a whole node

place_same : (images : List Stored) (c : ℕ) (f x y : ℤ)
    → has_piece (map (piece_of c f []) images) c f x y ≡ has_place (map rect_of images) x y
place_same [] c f x y = refl
place_same (i ∷ is) c f x y = rw (same_nat c c refl, same_int f f refl, place_same is c f x y) refl

true_piece : (nodes : Nodes) (node : ℕ → Option ℕ) (c m : ℕ) (f : ℤ) (i : Stored) → node c ≡ Some m → IsImageOf nodes m f i
    → IsTruePiece nodes node (piece_of c f [] i)
true_piece nodes node c m f i is h =
    record {
      m = m;
      is = is;
      pixels = λ to k x y inside.
          ap (λ (d : Depth). convert d to k (shown i x y)) h.depth ∙ ap (convert (depth_at nodes m) to k) (h.pixels x y inside);
    }

-- the place of a clip's node, where it is this one
area_here : (nodes : Nodes) (node : ℕ → Option ℕ) (c m d j : ℕ) (f g x y : ℤ) → node c ≡ Some m → IsOne c f d g → node d ≡ Some j
    → Holds (area nodes j g) x y → Holds (area nodes m f) x y
area_here nodes node c m d j f g x y is at e inside =
    let same : j ≡ m = same_Some j m (sym e ∙ ap node at.0 ∙ is) in
    subst (λ (z : ℕ). Holds (area nodes z f) x y) same (subst (λ (z : ℤ). Holds (area nodes j z) x y) at.1 inside)

pub images_add : (nodes : Nodes) (node : ℕ → Option ℕ) (c m : ℕ) (f : ℤ) (o : EffectNode) (w : Whole) (old new : Given)
    → node c ≡ Some m → nodes m ≡ Effect o → IsWhole nodes m f w
    → new ≡ record old { pieces = old.pieces ++ map (piece_of c f []) (images_made w) } → Adds nodes node (IsOne c f) old new
images_add nodes node c m f o w old new is stands h made =
    let images = images_made w in
    let region : HasRegion (Effect o) w.area images = subst (λ (q : Node). HasRegion q w.area images) stands h.covers in
    record {
      added = map (piece_of c f []) images;
      is = made;
      right = All-map (IsTruePiece nodes node) (piece_of c f []) images
          (all_from (λ i. IsTruePiece nodes node (piece_of c f [] i)) images
          (λ i j. true_piece nodes node c m f i is (all_in (IsImageOf nodes m f) images i h.right j)));
      covers = λ d j g at e x y inside.
          let here : Holds w.area x y = subst (λ (a : Bounds). Holds a x y) (sym h.area_is) (area_here nodes node c m d j f g x y is at e inside) in
          ap (λ (z : ℕ). has_piece (map (piece_of c f []) images) z g x y) at.0
          ∙ ap (λ (z : ℤ). has_piece (map (piece_of c f []) images) c z x y) at.1
          ∙ place_same images c f x y ∙ region x y here;
    }

-- ---- the frame of a source

pub source_area_is : (nodes : Nodes) → AreNodes nodes → (m : ℕ) (f : ℤ) (s : SourceFrames) → nodes m ≡ Source s
    → area nodes m f ≡ source_area s (s.named f)
source_area_is nodes ok m f s stands =
    ap (λ (a : ℤ → Bounds). a f) (area_is nodes ok m) ∙ ap (λ (q : Node). node_area (area nodes) q f) stands

pub source_add : (nodes : Nodes) → AreNodes nodes → (node : ℕ → Option ℕ) (c m : ℕ) (f g : ℤ) (s : SourceFrames)
    (image : Stored) (d : Depth) (k : Components) (old new : Given) → node c ≡ Some m → nodes m ≡ Source s
    → s.depth ≡ d → s.components ≡ k → s.named f ≡ Some g → s.frames g ≡ Some (image_of image)
    → new ≡ record old { pieces = old.pieces ++ piece_of c f (record { depth = d; components = k } ∷ []) image ∷ [] }
    → Adds nodes node (IsOne c f) old new
source_add nodes ok node c m f g s image d k old new is stands depth components named held made =
    let step : Step = record { depth = d; components = k } in
    let deep : depth_at nodes m ≡ d = ap node_depth stands ∙ depth in
    let val : (x y : ℤ) → value nodes m f x y ≡ convert image.depth d k (shown image x y) = λ x y.
    ap (λ (v : Pixels). v f x y) (value_is nodes ok m)
    ∙ ap (λ (q : Node). node_value (depth_at nodes) (value nodes) q f x y) stands
    ∙ ap (λ (o : Option ℤ). source_pixel s o x y) named ∙ ap (λ (o : Option Image). frame_pixel s o x y) held
    ∙ ap (λ (e : Depth). convert image.depth e s.components (shown image x y)) depth
    ∙ ap (λ (e : Components). convert image.depth d e (shown image x y)) components in
    let there : area nodes m f ≡ image.rect = source_area_is nodes ok m f s stands ∙ ap (source_area s) named ∙ ap image_area held in
    let piece : GivenPiece = piece_of c f (step ∷ []) image in
    record {
      added = piece ∷ [];
      is = made;
      right = All-cons (IsTruePiece nodes node) piece [] (record {
        m = m;
        is = is;
        pixels = λ to z x y inside.
            ap (λ (e : Depth). convert e to z (convert image.depth d k (shown image x y))) (sym deep)
            ∙ ap (convert (depth_at nodes m) to z) (sym (val x y));
      }) (All-nil (IsTruePiece nodes node));
      covers = λ e j h at q x y inside.
          let here : within image.rect x y ≡ true = subst (λ (a : Bounds). Holds a x y) there (area_here nodes node c m e j f h x y is at q inside) in
          ap (λ (z : ℕ). has_piece (piece ∷ []) z h x y) at.0
          ∙ ap (λ (z : ℤ). has_piece (piece ∷ []) c z x y) at.1
          ∙ (rw (same_nat c c refl, same_int f f refl, here) refl);
    }

none_holds : (x y : ℤ) → Holds none x y → ⊥
none_holds x y h = is_empty-holds none x y refl h

pub source_none : (nodes : Nodes) → AreNodes nodes → (node : ℕ → Option ℕ) (c m : ℕ) (f : ℤ) (s : SourceFrames) (g : Given)
    → node c ≡ Some m → nodes m ≡ Source s → source_area s (s.named f) ≡ none → Adds nodes node (IsOne c f) g g
source_none nodes ok node c m f s g is stands empty =
    let there : area nodes m f ≡ none = source_area_is nodes ok m f s stands ∙ empty in
    adds_none nodes node (IsOne c f) g (λ d j h at e x y inside.
    none_holds x y (subst (λ (a : Bounds). Holds a x y) there (area_here nodes node c m d j f h x y is at e inside)))

-- ---- windows

-- a window of an effect's node over what its clips are is an image of the node
pub window_image : (nodes : Nodes) → AreNodes nodes → (k : ℕ) (o : EffectNode) → nodes k ≡ Effect o → (t : ℤ)
    (ks : List Components) (given : Given) (image : Stored)
    → Adds nodes (clip_node o) (Reads o t (length o.clips)) (blank o.depth ks) given
    → ((clip : ℕ) → clip < length o.clips → get_or ks clip Rgba ≡ seen o clip)
    → IsWindowOf o.meaning (o.values t) given o.depth o.components image.rect image → IsImageOf nodes k t image
window_image nodes ok k o stands t ks given image adds sees window =
    let i : IsEffectNode k o = subst (IsNode k) stands (ok k) in
    let clips = length-map o.clips (λ (c : Option ℕ). is_some c) in
    let flags : length (o.values t).connected ≡ length o.clips = ap (λ (bs : List Bool). length bs) (i.connected t) ∙ clips in
    record {
      depth = window.depth_is ∙ sym (ap node_depth stands);
      components = window.components_are ∙ sym (ap node_components stands);
      pixels = λ x y inside.
          let taps = o.meaning.taps (o.values t) x y in
          let all : All (Covered o t (dot x y)) taps = i.laws.interest_holds_taps o.context (o.values t) (dot x y) x y (i.lawful t) (in_dot x y) in
          window.pixels x y inside
          ∙ ap (o.meaning.mix (o.values t) o.components (greatest o.depth) x y)
          (map_same (input_pixel given) (tap_value (depth_at nodes) (value nodes) o) (λ p. In taps p)
          (λ p n.
          let covered = all_in (Covered o t (dot x y)) taps p all n in
          let clip = covered.clip in
          read_is nodes ok (clip_node o) (Reads o t (length o.clips)) o.depth ks given adds (seen o p.clip) p.clip p.frame p.x p.y
          (omega (arith, flags, clip), listed (clip_frames o t p.clip) p.frame (in_frames o t (dot x y) p covered))
          (sees p.clip (omega (arith, flags, clip))))
          taps (λ p n. n))
          ∙ ap (λ (q : Node). node_value (depth_at nodes) (value nodes) q t x y) (sym stands)
          ∙ ap (λ (v : Pixels). v t x y) (sym (value_is nodes ok k));
    }

-- ---- frames and clips

split_by : (b u v : Bool) (z : Type 0) → (v ≡ true → (u ≡ true) ⊎ z) → b || v ≡ true → (b || u ≡ true) ⊎ z
split_by true u v z k h = inl refl
split_by false u v z k h = k h

frame_split : (fs : List ℤ) (f g : ℤ) → has_frame (fs ++ f ∷ []) g ≡ true → (has_frame fs g ≡ true) ⊎ (g ≡ f)
frame_split [] f g h = inr (split_one (int_eq f g) refl h)
  where
    split_one : (b : Bool) → int_eq f g ≡ b → b || false ≡ true → g ≡ f
    split_one true e t = sym ((Decides-int_eq f g).0 e)
    split_one false e t = absurd cc
frame_split (e ∷ fs) f g h = split_by (int_eq e g) (has_frame fs g) (has_frame (fs ++ f ∷ []) g) (g ≡ f) (frame_split fs f g) h

-- the frames up to one more are those before it and that one
pub frames_split : (c : ℕ) (fs : List ℤ) (i : ℕ) (d : ℤ) → i < length fs → (k : ℕ) (g : ℤ) → IsSomeOf c (take (i + 1) fs) k g
    → IsSomeOf c (take i fs) k g ⊎ IsOne c (get_or fs i d) k g
frames_split c fs i d low k g h =
    elim (frame_split (take i fs) (get_or fs i d) g (subst (λ (gs : List ℤ). has_frame gs g ≡ true) (take_more fs i d low) h.1)) [
      | inl e ↦ inl (h.0, e)
      | inr e ↦ inr (h.0, e)
    ]

-- the clips below one more are those before it and that one
pub reads_split : (o : EffectNode) (t : ℤ) (k : ℕ) (fs : List ℤ) → fs ≡ clip_frames o t k → (c : ℕ) (f : ℤ) → Reads o t (k + 1) c f
    → Reads o t k c f ⊎ IsSomeOf k fs c f
reads_split o t k fs is c f h = elim (cases_eq c k) [
  | inl e ↦ inr (e, ap (λ (gs : List ℤ). has_frame gs f) is ∙ ap (λ (j : ℕ). has_frame (clip_frames o t j) f) (sym e) ∙ h.1)
  | inr e ↦ inl (let low = h.0 in omega (arith, low, e), h.1)
]
