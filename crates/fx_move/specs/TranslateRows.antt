-- The rows of a render of translate.
use Rattle.std.specs.Prelude.{◌≡◌, ℕ, ◌+◌, ◌-◌, ◌*◌, ℤ, pos, ◌+ℤ◌, List}
use Rattle.fx_base.specs.Bounds.{Bounds}
use Rattle.fx_pixel.specs.declared.Depth.{Depth}
use Rattle.fx_image.specs.Stored.{sample_in}
use Rattle.fx_kernel.specs.Blends.{in_units}
use Rattle.fx_effect.specs.declared.values.Values.{Values}
use Rattle.fx_move.specs.declared.translate.Along.{Along}
use Rattle.fx_move.specs.declared.translate.Weights.{Weights}
use Rattle.fx_move.specs.Translate.{across, upward}

-- the picture moves by whole pixels
pub record IsWhole (v : Values) : Type 0 where
  pub across : (across v).share ≡ 0
  pub upward : (upward v).share ≡ 0

-- the two rows that row y of a rectangle is weighed of, one column wider
abbrev pub lines_of : Along → Along → Bounds → ℤ → Bounds
lines_of a b rect y =
    record { x1 = rect.x1 +ℤ a.first; y1 = y +ℤ b.first; x2 = rect.x2 +ℤ a.first +ℤ pos 1; y2 = y +ℤ b.first +ℤ pos 2 }

-- the products of the shares
abbrev pub four_weights : Along → Along → Weights
four_weights a b =
    record {
      left_low = (256 - a.share) * (256 - b.share);
      left_high = (256 - a.share) * b.share;
      right_low = a.share * (256 - b.share);
      right_high = a.share * b.share;
    }

-- together they are one
pub record AreWeights (w : Weights) : Type 0 where
  pub whole : w.left_low + w.left_high + w.right_low + w.right_high ≡ 65536

abbrev pub of_four : Weights → ℕ → ℕ → ℕ → ℕ → ℕ
of_four w left_low left_high right_low right_high =
    in_units (w.left_low * left_low + w.left_high * left_high + (w.right_low * right_low + w.right_high * right_high))

-- sample s of a row: of that sample and the one `step` behind it of two rows
abbrev pub weighed_sample : Depth → ℕ → Weights → List ℕ → List ℕ → ℕ → ℕ
weighed_sample depth step w low high s =
    of_four w (sample_in depth low s) (sample_in depth high s) (sample_in depth low (s + step))
    (sample_in depth high (s + step))
