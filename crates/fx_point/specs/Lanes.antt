-- Eight pixels of r, g, b and a in 32 lanes.
use Rattle.std.specs.Prelude.{◌≡◌, ◌<◌, ℕ, List, slice_index}
use Rattle.fx_kernel.specs.Lanes.{alpha_place}

-- each lane is made of a of its pixel and the same lane
abbrev pub AreMade : (ℕ → ℕ → ℕ) → List ℕ → List ℕ → Type 0
AreMade of pixels made =
    (j : ℕ) → j < 32 → slice_index made j ≡ of (slice_index pixels (alpha_place j)) (slice_index pixels j)
