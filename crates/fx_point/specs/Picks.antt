-- How bytes of eight pixels are picked by the places of choices.
use Rattle.std.specs.Prelude.{◌≡◌, ◌<◌, ◌⊎◌, ℕ, ◌+◌, ◌*◌, ◌==◌, ℤ, pos, negsuc, List, slice_index, if◌then◌else◌}

-- the place of a choice among the bytes of a pixel, and 128 for the choice that stands for 0
abbrev pub place_of : ℤ → ℕ
place_of (pos k) = if k == 4 then 128 else k
place_of (negsuc k) = 128

abbrev pub IsPlace : ℕ → Type 0
IsPlace p = (p < 4) ⊎ (p ≡ 128)

-- the byte of pixel i at a place, and 0 at no place
abbrev pub byte_at : List ℕ → ℕ → ℕ → ℕ
byte_at pixels i p = if p == 128 then 0 else slice_index pixels (4 * i + p)

abbrev pub ArePicked : List ℕ → List ℕ → List ℕ → Type 0
ArePicked pixels places picked =
    (i k : ℕ) → i < 8 → k < 4 → slice_index picked (4 * i + k) ≡ byte_at pixels i (slice_index places k)
