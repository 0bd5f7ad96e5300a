-- How an action is asked: which values and properties it is given (OpenFX 1.4, "Image Effect Actions").
use Rattle.std.specs.Prelude.{◌≡◌, ℕ, ℤ, pos, false, List, [], ◌∷◌, IsTrue}
use Rattle.std.specs.List.{AllZip}
use Rattle.fx_base.specs.Bounds.{Bounds, IsRect, none}
use Rattle.fx_base.specs.Rect.{IsNear, IsFrame}
use Rattle.fx_pixel.specs.declared.Depth.{Depth}
use Rattle.fx_pixel.specs.declared.Components.{Components}
use Rattle.fx_props.specs.declared.value.PropKind.{PropKind}
use Rattle.fx_props.specs.declared.names.TheConstants.{TIME, ASKED_REGION, WINDOW, SEQUENCE, STEP, REGION}
use Rattle.fx_props.specs.Set.{Set}
use Rattle.fx_effect.specs.declared.action.Context.{Context}
use Rattle.fx_effect.specs.declared.action.Reply.{Reply}
use Rattle.fx_effect.specs.declared.action.Reply.TheVariants as reply
use Rattle.fx_effect.specs.declared.values.Values.{Values}
use Rattle.fx_effect.specs.Given.{Given}
use Rattle.fx_effect.specs.Shape.{Shape, clip_names, optional_flags, shown_components, supports, IsLawfulIn, IsLawful}
use Rattle.fx_effect.specs.Meaning.{Meaning}
use Rattle.fx_effect.specs.Default.{default_rod, default_spans}
use Rattle.fx_props.specs.Entries.{whole_entry, region_entry, window_entry, frames_entry, interest, frame_ranges, AreBlank, HasValues, Wrote}

-- ---- what a set that is handed in has

abbrev pub HasTime : Set → ℤ → Type 0
HasTime set t = HasValues set (whole_entry TIME.now t)

-- the region that is asked for
abbrev pub HasRegion : Set → Bounds → Type 0
HasRegion set r = HasValues set (region_entry ASKED_REGION.now r)

-- the window that is to be rendered
abbrev pub HasWindow : Set → Bounds → Type 0
HasWindow set r = HasValues set (window_entry WINDOW.now r)

-- lawful values, and their frame as the time
pub record IsAsked (s : Shape) (v : Values) (set : Set) : Type 0 where
  pub lawful : IsLawful s v
  pub frame : IsFrame v.frame
  pub time : HasTime set v.frame

-- a rectangle of pixels whose coordinates are moderate
pub record IsWindow (r : Bounds) : Type 0 where
  pub bounds : IsRect r
  pub near : IsNear r

pub record AsksRegion (set : Set) : Type 0 where
  pub region : Bounds
  pub window : IsWindow region
  pub there : HasRegion set region

pub record AsksWindow (set : Set) : Type 0 where
  pub region : Bounds
  pub window : IsWindow region
  pub there : HasWindow set region

-- a region of definition for each input clip, which is empty where the clip is unconnected
abbrev pub AreRegions : Values → List Bounds → Type 0
AreRegions v regions =
    AllZip (λ connected r. IsWindow r × (connected ≡ false → r ≡ none)) v.connected regions

-- the values are lawful in a context whose clips have a blank property of this prefix each
pub record AwaitsClips (s : Shape) (v : Values) (prefix : List ℕ) (of_kind : PropKind) (set : Set) : Type 0 where
  pub context : Context
  pub lawful : IsLawfulIn s context v
  pub blank : AreBlank set prefix of_kind (clip_names s context)

-- the first and the last frame of a sequence
abbrev pub HasRange : Set → ℤ → ℤ → Type 0
HasRange set first last = HasValues set (frames_entry SEQUENCE.now ((first, last) ∷ []))

-- each frame of it follows the one before
abbrev pub HasStep : Set → Type 0
HasStep set = HasValues set (whole_entry STEP.now (pos 1))

-- the frames of a sequence, and the step from one to the next
pub record AsksSequence (set : Set) : Type 0 where
  pub first : ℤ
  pub last : ℤ
  pub range : HasRange set first last
  pub step : HasStep set

-- ---- what is answered: the effect writes it, or leaves the set and its answer is the default

abbrev pub AnswersRegion : Meaning → Values → List Bounds → Context → Set → Set → Reply → Type 0
AnswersRegion m v regions context old new reply.Ok =
    Wrote (region_entry REGION.now (m.rod context v regions) ∷ []) old new
AnswersRegion m v regions context old new reply.Default =
    (new ≡ old) × (m.rod context v regions ≡ default_rod context (optional_flags m.shape context) v regions)

abbrev pub AnswersInterest : Meaning → Values → Bounds → Context → Set → Set → Reply → Type 0
AnswersInterest m v r context old new reply.Ok =
    Wrote (interest (clip_names m.shape context) (m.roi v r)) old new
AnswersInterest m v r context old new reply.Default = (new ≡ old) × ((clip : ℕ) → m.roi v r clip ≡ r)

abbrev pub AnswersFrames : Meaning → Values → Context → Set → Set → Reply → Type 0
AnswersFrames m v context old new reply.Ok =
    Wrote (frame_ranges (clip_names m.shape context) (m.spans v)) old new
AnswersFrames m v context old new reply.Default =
    (new ≡ old) × ((clip : ℕ) → m.spans v clip ≡ default_spans v clip)

-- ---- what is rendered

-- The inputs of a render: in a context in which the values are lawful, of the depth of the render's part, and
-- each clip in the components in which the effect sees it. The effect renders such images.
pub record MayRender (s : Shape) (v : Values) (given : Given) (depth : Depth) (c : Components) : Type 0 where
  pub context : Context
  pub lawful : IsLawfulIn s context v
  pub supported : IsTrue (supports s depth c)
  pub depth_is : given.depth ≡ depth
  pub clips : given.components ≡ shown_components s context c
