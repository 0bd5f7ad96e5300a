-- Which frames a clip's spans have.
use Rattle.std.specs.Prelude.{ℕ, zero, suc, ℤ, pos, neg_ℤ, ◌+ℤ◌, ◌≤ℤ◌, ◌<ℤ◌, List, [], ◌∷◌, filter, Contains, AllPairs, Bool, false, ◌&&◌, ◌||◌}
use Rattle.std.specs.Int.{int_min, int_max, int_gap}
use Rattle.std.specs.Int.Signed.{le_z}
use Rattle.std.specs.Ordering.{int_eq}
use Rattle.std.specs.declared.alloc.Global.{Global}
use Rattle.std.specs.declared.vec.Vec.{Vec}
use Rattle.fx_scene.specs.Nodes.{EffectNode}

-- n whole numbers from a on
abbrev pub int_run : ℤ → ℕ → List ℤ
int_run a zero = []
int_run a (suc n) = a ∷ int_run (a +ℤ pos 1) n

-- from the first to the last
abbrev pub int_span : ℤ → ℤ → List ℤ
int_span first last = int_run first (int_gap first (last +ℤ pos 1))

-- the least of the firsts, and the greatest of the lasts
abbrev pub least : ℤ → List (ℤ × ℤ) → ℤ
least a [] = a
least a (q ∷ qs) = least (int_min a q.0) qs

abbrev pub greatest : ℤ → List (ℤ × ℤ) → ℤ
greatest a [] = a
greatest a (q ∷ qs) = greatest (int_max a q.1) qs

-- whether a frame lies in one of the spans
abbrev pub in_some : List (ℤ × ℤ) → ℤ → Bool
in_some [] f = false
in_some (q ∷ qs) f = (le_z q.0 f && le_z f q.1) || in_some qs f

abbrev pub first_least : List (ℤ × ℤ) → ℤ
first_least [] = pos 0
first_least (p ∷ ps) = least p.0 (p ∷ ps)

abbrev pub last_greatest : List (ℤ × ℤ) → ℤ
last_greatest [] = pos 0
last_greatest (p ∷ ps) = greatest p.1 (p ∷ ps)

-- each frame of the spans once and rising, which AreFramesIn says
unfoldable pub frames_of : List (ℤ × ℤ) → List ℤ
frames_of [] = []
frames_of (p ∷ ps) = filter (in_some (p ∷ ps)) (int_span (least p.0 ps) (greatest p.1 ps))

-- the frame lies in one of the spans
pub record LiesIn (spans : List (ℤ × ℤ)) (f : ℤ) : Type 0 where
  pub span : ℤ × ℤ
  pub listed : Contains spans span
  pub first : span.0 ≤ℤ f
  pub last : f ≤ℤ span.1

abbrev pub IsEarlier : ℤ → ℤ → Type 0
IsEarlier f g = f <ℤ g

-- exactly the frames of the spans, each once and rising
pub record AreFramesIn (spans : List (ℤ × ℤ)) (frames : List ℤ) : Type 0 where
  pub all : (f : ℤ) → LiesIn spans f → Contains frames f
  pub only : (f : ℤ) → Contains frames f → LiesIn spans f
  pub rising : AllPairs IsEarlier frames

-- the frames that an effect at a frame needs of a clip
abbrev pub clip_frames : EffectNode → ℤ → ℕ → List ℤ
clip_frames o t c = frames_of (o.meaning.spans (o.values t) c)

-- whether a frame is listed
abbrev pub has_frame : List ℤ → ℤ → Bool
has_frame [] g = false
has_frame (f ∷ fs) g = int_eq f g || has_frame fs g

-- ---- in code

-- both frames lie between -2^31 and 2^31
pub record IsSmallSpan (span : ℤ × ℤ) : Type 0 where
  pub first_low : neg_ℤ (pos 2147483648) ≤ℤ span.0
  pub first_high : span.0 ≤ℤ pos 2147483648
  pub last_low : neg_ℤ (pos 2147483648) ≤ℤ span.1
  pub last_high : span.1 ≤ℤ pos 2147483648

abbrev pub items_of : {A : Type 0} → Vec A Global → List A
items_of v = v.items
