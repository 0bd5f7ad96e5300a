-- Two effects for tests: one that leaves every answer to the host, and one that answers all itself.
use Rattle.std.specs.Prelude.{◌≡◌, ◌≤◌, ℕ, ◌+◌, ℤ, pos, ◌+ℤ◌, ◌-ℤ◌, Bool, true, false, List, [], ◌∷◌, length, codes, All, slice_get, Some, refl}
use Rattle.std.specs.List.{Contains, AllZip}
use Rattle.std.proofs.Common.{zero, suc, ap, subst, cond, not, ◌&&◌, inl, inr, arith}
use Rattle.std.proofs.lemmas.Int.{ints}
use Rattle.std.proofs.lemmas.List.Elements.{All-nil, All-cons, All-head}
use Rattle.fx_base.specs.Bounds.{Bounds, IsRect, none}
use Rattle.fx_base.specs.Rect.{Holds, hull, grown, IsUpTo}
use Rattle.fx_base.proofs.RectLemmas.{IsWithin-hull_first}
use Rattle.fx_base.proofs.RectLaws.{IsRect-hull, IsRect-grown, IsWithin-grown, IsUpTo-none, IsUpTo-more, IsUpTo-hull, IsUpTo-grown}
use Rattle.fx_pixel.specs.declared.Depth.{Depth}
use Rattle.fx_pixel.specs.declared.Depth.TheVariants as depths
use Rattle.fx_pixel.specs.declared.Components.{Components}
use Rattle.fx_pixel.specs.declared.Components.TheVariants as components
use Rattle.fx_pixel.specs.declared.Pixel.{Pixel}
use Rattle.fx_pixel.specs.Pixel.{zero as zero_pixel}
use Rattle.fx_pixel.specs.PixelLaws.{zero_form}
use Rattle.fx_effect.specs.Tap.{Tap, tap}
use Rattle.fx_effect.specs.Shape.{Shape, Clip, IsShape, MayBe, IsLawfulIn, optional_flags}
use Rattle.fx_effect.specs.Meaning.{Meaning}
use Rattle.fx_effect.specs.Default.{has_required, hull_from, default_rod, default_spans}
use Rattle.fx_props.specs.Entries.{region_of}
use Rattle.fx_effect.specs.Laws.{Laws, IsCovered, IsGiven, IsSameAs, IsNearSpan}
use Rattle.fx_effect.specs.DefaultLaws.{default_spans_near, flag_for_each, first_near, second_near, region_near, region_is_rect}
use Rattle.fx_effect.specs.ShapeTests.{shape_is}
use Rattle.fx_effect.specs.declared.action.Context.{Context}
use Rattle.fx_effect.specs.declared.action.Context.TheVariants as context
use Rattle.fx_effect.specs.declared.action.Identity.TheVariants.{No, Same}
use Rattle.fx_effect.specs.declared.action.Safety.TheVariants.{FullySafe}
use Rattle.fx_effect.specs.declared.values.Values.{Values}

abbrev pub clip_named : List ℕ → Bool → Clip
clip_named name optional = record { name = name; optional = optional }

-- ---- an effect that is zero everywhere, in every context; in the general one A and B may be optional, and C is

abbrev pub clear_clips : Bool → Context → List Clip
clear_clips optional context.Generator = []
clear_clips optional context.Filter = clip_named (codes "Source") false ∷ []
clear_clips optional context.Transition =
    clip_named (codes "SourceFrom") false ∷ clip_named (codes "SourceTo") false ∷ []
clear_clips optional context.General =
    clip_named (codes "A") optional ∷ clip_named (codes "B") optional ∷ clip_named (codes "C") true ∷ []

abbrev pub clear_shape : Bool → Shape
clear_shape optional =
    record {
      label = codes "clear";
      contexts = context.Generator ∷ context.Filter ∷ context.Transition ∷ context.General ∷ [];
      depths = depths.Byte ∷ [];
      components = components.Rgba ∷ components.Alpha ∷ [];
      temporal = false;
      tiles = true;
      safety = FullySafe;
      clips = clear_clips optional;
      params = λ c. [];
    }

abbrev pub clear : Bool → Meaning
clear optional =
    record {
      shape = clear_shape optional;
      taps = λ v x y. [];
      mix = λ v c m x y pixels. zero_pixel c;
      spans = default_spans;
      rod = λ c v regions. default_rod c (optional_flags (clear_shape optional) c) v regions;
      roi = λ v region clip. region;
      same = λ v window. No;
    }

-- ---- an effect whose pixel is that of its clip A, and which asks for more than it reads

abbrev pub wide_clips : List Clip
wide_clips = clip_named (codes "A") false ∷ clip_named (codes "B") false ∷ []

abbrev pub wide_shape : Shape
wide_shape =
    record {
      label = codes "wide";
      contexts = context.General ∷ [];
      depths = depths.Byte ∷ [];
      components = components.Rgba ∷ [];
      temporal = true;
      tiles = true;
      safety = FullySafe;
      clips = λ c. wide_clips;
      params = λ c. [];
    }

-- the pixel that was read
abbrev pub first_pixel : Components → List Pixel → Pixel
first_pixel c [] = zero_pixel c
first_pixel c (p ∷ ps) = p

-- the frame before the current one to the one behind it
abbrev pub around : ℤ → ℤ × ℤ
around t = (t -ℤ pos 1, t +ℤ pos 1)

abbrev pub wide : Meaning
wide =
    record {
      shape = wide_shape;
      taps = λ v x y. tap 0 v.frame x y ∷ [];
      mix = λ v c m x y pixels. first_pixel c pixels;
      spans = λ v clip. around v.frame ∷ [];
      rod = λ c v regions. grown (hull (region_of regions 0) (region_of regions 1)) (pos 1) (pos 1);
      roi = λ v region clip. grown region (pos 2) (pos 2);
      same = λ v window. Same 0 v.frame;
    }

-- ---- rectangles

-- a rectangle that grows a little
pub IsRect-grown_few : (r : Bounds) (k : ℕ) → IsRect (grown r (pos k) (pos k))
IsRect-grown_few r k = IsRect-grown r (pos k) (pos k) (omega (arith, ints)) (omega (arith, ints))

pub IsUpTo-grown_few : (n m k : ℕ) (r : Bounds) → n + k ≤ m → IsUpTo n r → IsUpTo m (grown r (pos k) (pos k))
IsUpTo-grown_few n m k r room up_to =
    IsUpTo-more (n + k) m (grown r (pos k) (pos k)) room
    (IsUpTo-grown n k (pos k) (pos k) r (omega (arith, ints)) (omega (arith, ints)) (omega (arith, ints))
    (omega (arith, ints)) up_to)

holds_grown : (r : Bounds) (k : ℕ) (x y : ℤ) → Holds r x y → Holds (grown r (pos k) (pos k)) x y
holds_grown r k x y held = IsWithin-grown r (pos k) (pos k) (omega (arith, ints)) (omega (arith, ints)) x y held

-- the region of a clip reaches no further than those that were handed in
region_up_to : (n clip : ℕ) (p : Bounds) (regions : List Bounds) → All (IsUpTo n) (p ∷ regions)
    → IsUpTo n (region_of regions clip)
region_up_to n clip p [] up_to = IsUpTo-none n
region_up_to n zero p (r ∷ regions) up_to = up_to 1 p (omega arith)
region_up_to n (suc clip) p (r ∷ regions) up_to =
    region_up_to n clip p regions
    (All-cons (IsUpTo n) p regions (All-head (IsUpTo n) p (r ∷ regions) up_to)
    (λ k d low. up_to (suc (suc k)) d (omega arith)))

-- ---- what the first keeps

clear_is_shape : (optional : Bool) → IsShape (clear_shape optional)
clear_is_shape true = shape_is (clear_shape true) refl
clear_is_shape false = shape_is (clear_shape false) refl

-- what holds of no pixel, of hulls, of the project and of the inputs' regions holds of a default region
hull_from-closed : (P : Bounds → Type 0) → ((r s : Bounds) → P r → P s → P (hull r s))
    → (r : Bounds) (os cs : List Bool) (regions : List Bounds) → P r → ((clip : ℕ) → P (region_of regions clip))
    → P (hull_from r os cs regions)
hull_from-closed P closed r [] cs regions here each = here
hull_from-closed P closed r (o ∷ os) [] regions here each = here
hull_from-closed P closed r (o ∷ os) (c ∷ cs) [] here each = here
hull_from-closed P closed r (o ∷ os) (c ∷ cs) (region ∷ regions) here each =
    elim (c && not o) as (λ b. P (hull_from (cond b (hull r region) r) os cs regions)) [
      | true ↦ hull_from-closed P closed (hull r region) os cs regions (closed r region here (each 0))
          (λ clip. each (suc clip))
      | false ↦ hull_from-closed P closed r os cs regions here (λ clip. each (suc clip))
    ]

default_rod-closed : (P : Bounds → Type 0) → P none → ((r s : Bounds) → P r → P s → P (hull r s))
    → (c : Context) (os : List Bool) (v : Values) (regions : List Bounds) → P v.project
    → ((clip : ℕ) → P (region_of regions clip)) → P (default_rod c os v regions)
default_rod-closed P nothing closed context.Generator os v regions project each = project
default_rod-closed P nothing closed context.Filter os v regions project each = each 0
default_rod-closed P nothing closed context.Transition os v regions project each =
    closed (region_of regions 0) (region_of regions 1) (each 0) (each 1)
default_rod-closed P nothing closed context.General os v regions project each =
    elim (has_required os v.connected) as (λ b. P (cond b (hull_from none os v.connected regions) v.project)) [
      | true ↦ hull_from-closed P closed none os v.connected regions nothing each
      | false ↦ project
    ]

project_is_rect : (s : Shape) (c : Context) (v : Values) → IsLawfulIn s c v → IsRect v.project
project_is_rect s c v lawful =
    let project =
    lawful.project in
    inr (omega (arith, ints, project.left, project.wide.0), omega (arith, ints, project.bottom, project.high.0))

pub clear_laws : (optional : Bool) → Laws (clear optional)
clear_laws optional =
    record {
      shape = clear_is_shape optional;
      interest_holds_taps =
          λ context v r x y lawful inside. All-nil (IsCovered (length v.connected) (default_spans v) (λ clip. r));
      zero_outside_region = λ context v regions depth c value x y given are zeros outside. refl;
      identity_is_tap = λ context v window clip frame depth c value given same. absurd cc;
      frames_near = λ context v clip lawful. default_spans_near v clip;
      region_near = λ c v regions n lawful are up_to.
          default_rod-closed (IsUpTo (n + 32768)) (IsUpTo-none (n + 32768)) (IsUpTo-hull (n + 32768)) c
          (optional_flags (clear_shape optional) c) v regions (first_near n v.project regions up_to)
          (λ clip. region_near n clip v.project regions up_to);
      interest_near = λ context v r clip n lawful rect up_to. second_near n v.project r up_to;
      region_is_rect = λ c v regions lawful are.
          default_rod-closed IsRect (inl refl) IsRect-hull c (optional_flags (clear_shape optional) c) v regions
          (project_is_rect (clear_shape optional) c v lawful) (λ clip. region_is_rect clip v regions are);
      interest_is_rect = λ context v r clip lawful rect. rect;
      pixel = λ context v depth c value x y given. zero_form depth c;
      whole_within_project = λ context v regions whole lawful are. absurd cc;
    }

-- ---- what the second keeps

wide_is_shape : IsShape wide_shape
wide_is_shape = shape_is wide_shape refl

two_flags : (c : Context) (v : Values) → IsLawfulIn wide_shape c v → length v.connected ≡ 2
two_flags c v lawful = flag_for_each wide_clips v.connected lawful.connected

wide_covers : (c : Context) (v : Values) (r : Bounds) (x y : ℤ) → IsLawfulIn wide_shape c v → Holds r x y
    → All (IsCovered (length v.connected) (wide.spans v) (wide.roi v r)) (wide.taps v x y)
wide_covers c v r x y lawful inside =
    let flags = two_flags c v lawful in
    All-cons (IsCovered (length v.connected) (wide.spans v) (wide.roi v r)) (tap 0 v.frame x y) []
    (record {
      clip = omega (arith, flags);
      span = around v.frame;
      listed = (0, omega arith, refl);
      at_frame = (omega (arith, ints), omega (arith, ints));
      in_region = holds_grown r 2 x y inside;
    })
    (All-nil (IsCovered (length v.connected) (wide.spans v) (wide.roi v r)))

first_connected : (clips : List Clip) (connected : List Bool)
    → AllZip MayBe (clip_named (codes "A") false ∷ clips) connected → slice_get connected 0 ≡ Some true
first_connected clips [] may = elim may [ ]
first_connected clips (flag ∷ flags) may = ap Some (may.0 refl)

wide_same : (c : Context) (v : Values) (window : Bounds) (clip : ℕ) (frame : ℤ) (depth : Depth)
    (components : Components) (value : Tap → Pixel) → IsGiven wide_shape c v depth components value
    → Same 0 v.frame ≡ Same clip frame → IsSameAs wide c v depth components value window clip frame
wide_same c v window clip frame depth components value given same =
    let clip_is : 0 ≡ clip = cc in
    let frame_is : v.frame ≡ frame = cc in
    subst (λ k. IsSameAs wide c v depth components value window k frame) clip_is
    (subst (IsSameAs wide c v depth components value window 0) frame_is (record {
      connected = first_connected (clip_named (codes "B") false ∷ []) v.connected given.lawful.connected;
      no_mask = refl;
      pixels = λ x y held. refl;
      read = λ x y held. (0, omega arith, refl);
    }))

around_near : (v : Values) (clip : ℕ) → All (IsNearSpan v.frame) (wide.spans v clip)
around_near v clip =
    All-cons (IsNearSpan v.frame) (around v.frame) []
    (record {
      first_after = omega (arith, ints);
      first_before = omega (arith, ints);
      last_after = omega (arith, ints);
      last_before = omega (arith, ints);
    })
    (All-nil (IsNearSpan v.frame))

wide_region_near : (v : Values) (regions : List Bounds) (n : ℕ) → All (IsUpTo n) (v.project ∷ regions)
    → IsUpTo (n + 32768) (wide.rod context.General v regions)
wide_region_near v regions n up_to =
    IsUpTo-grown_few n (n + 32768) 1 (hull (region_of regions 0) (region_of regions 1)) (omega arith)
    (IsUpTo-hull n (region_of regions 0) (region_of regions 1) (region_up_to n 0 v.project regions up_to)
    (region_up_to n 1 v.project regions up_to))

pub wide_laws : Laws wide
wide_laws =
    record {
      shape = wide_is_shape;
      interest_holds_taps = wide_covers;
      zero_outside_region = λ context v regions depth c value x y given are zeros outside.
          zeros (tap 0 v.frame x y)
          (λ held. outside
          (holds_grown (hull (region_of regions 0) (region_of regions 1)) 1 x y
          (IsWithin-hull_first (region_of regions 0) (region_of regions 1) x y held)));
      identity_is_tap = wide_same;
      frames_near = λ context v clip lawful. around_near v clip;
      region_near = λ context v regions n lawful are up_to. wide_region_near v regions n up_to;
      interest_near =
          λ context v r clip n lawful rect up_to. IsUpTo-grown_few n (n + 32768) 2 r (omega arith)
          (up_to 1 r (omega arith));
      region_is_rect =
          λ context v regions lawful are. IsRect-grown_few (hull (region_of regions 0) (region_of regions 1)) 1;
      interest_is_rect = λ context v r clip lawful rect. IsRect-grown_few r 2;
      pixel = λ context v depth c value x y given.
          (given.depth_is (tap 0 v.frame x y), given.components_are (tap 0 v.frame x y));
      whole_within_project = λ context v regions whole lawful are. absurd cc;
    }
