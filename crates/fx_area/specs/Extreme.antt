-- The least or the greatest of samples.
use Rattle.std.specs.Prelude.{ℕ, ◌≤◌, min, max, List, [], ◌∷◌, map}
use Rattle.fx_pixel.specs.declared.Components.{Components}
use Rattle.fx_pixel.specs.declared.Pixel.{Pixel}
use Rattle.fx_kernel.specs.Samples.{nth, each}
use Rattle.fx_area.specs.declared.extreme.Extreme.{Extreme}
use Rattle.fx_area.specs.declared.extreme.Extreme.TheVariants.{Least, Greatest}

-- of two samples
abbrev pub pick : Extreme → ℕ → ℕ → ℕ
pick Least a b = min a b
pick Greatest a b = max a b

-- of a list; m is the greatest that a sample can be
abbrev pub picked : Extreme → ℕ → List ℕ → ℕ
picked Least m [] = m
picked Greatest m [] = 0
picked e m (n ∷ ns) = pick e n (picked e m ns)

-- sample by sample
abbrev pub extreme_of : Extreme → Components → ℕ → List Pixel → Pixel
extreme_of e c m pixels = each c (λ k. picked e m (map (λ p. nth p k) pixels))

-- no sample from b on, or up to b, is passed over: b is at most v, or at least
abbrev pub Leads : Extreme → ℕ → ℕ → Type 0
Leads Least b v = b ≤ v
Leads Greatest b v = v ≤ b
