-- Eight pixels of r, g, b and a in 32 lanes.
use Rattle.std.specs.Prelude.{◌≡◌, ◌<◌, ℕ, ◌+◌, ◌*◌, ◌/◌, List, slice_index}

-- the lane that has a of the pixel of a lane
abbrev pub alpha_place : ℕ → ℕ
alpha_place j = j / 4 * 4 + 3

-- each lane is a of its pixel
abbrev pub AreAlphas : List ℕ → List ℕ → Type 0
AreAlphas pixels alphas = (j : ℕ) → j < 32 → slice_index alphas j ≡ slice_index pixels (alpha_place j)
