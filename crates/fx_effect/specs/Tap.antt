-- A pixel that an effect reads: on which input clip, of which frame, at which place.
use Rattle.std.specs.Prelude.{ℕ, ℤ}

pub record Tap : Type 0 where
  pub clip : ℕ
  pub frame : ℤ
  pub x : ℤ
  pub y : ℤ

-- the place of a clip at a frame
abbrev pub tap : ℕ → ℤ → ℤ → ℤ → Tap
tap clip frame x y = record { clip = clip; frame = frame; x = x; y = y }
