use Rattle.std.proofs.Common.{◌≡◌, ◌<◌, ◌≤◌, ℕ, ◌+◌, ◌*◌, ◌/◌, ◌%◌, ◌^◌, min, cond, ltb, List, length, get_or, map, replicate, ap, arith, refl, ◌∙◌, w8, w32, Fits}
use Rattle.std.proofs.lemmas.Bool.Decides.{nat_tests}
use Rattle.std.proofs.lemmas.List.{get_or-map, length-map}
use Rattle.std.proofs.lemmas.Nat.{mul-le}
use Rattle.std.proofs.lemmas.Simd.{get_or-replicate, zip2_of_maps, splat_is_map}
use Rattle.std.specs.Simd.Lanes.{Each1, zip2}
use Rattle.fx_kernel.specs.Blends.{in_units}
use Rattle.fx_kernel.proofs.ByteLaws.{lane_low}
use Rattle.fx_point.proofs.Chosen.{chosen, chosen_lane, length_chosen}
use Rattle.fx_point.proofs.Places.{bytes_fit}
use Rattle.fx_point.proofs.gain.times.Goals as goal

-- a product in 32 bits, half a unit more, without its 16 lowest bits
abbrev by : ℕ → ℕ → ℕ
by k c = (c * k % 4294967296 + 32768) % 4294967296 / 2 ^ 16

abbrev products : ℕ → List ℕ → List ℕ
products k lanes =
    let times = zip2 (λ a b. a * b % 4294967296) (map (λ x. x) lanes) (replicate 32 k) in
    let raised = zip2 (λ a b. (a + b) % 4294967296) times (replicate 32 32768) in
    zip2 (λ a b. a / 2 ^ b) raised (replicate 32 16)

abbrev most : List ℕ
most = replicate 32 255

abbrev made : ℕ → List ℕ → List ℕ
made k lanes = chosen w32 ltb (products k lanes) most (products k lanes) most

each : (k : ℕ) (lanes : List ℕ) → length lanes ≡ 32 → products k lanes ≡ map (by k) lanes
each k lanes long =
    let splat : (n : ℕ) → replicate 32 n ≡ map (λ _. n) lanes = λ n. splat_is_map lanes 32 n long in
    let times = zip2_of_maps (λ a b. a * b % 4294967296) (λ c. c) (λ _. k) lanes refl (splat k) in
    let raised =
    zip2_of_maps (λ a b. (a + b) % 4294967296) (λ c. c * k % 4294967296) (λ _. 32768) lanes times (splat 32768) in
    zip2_of_maps (λ a b. a / 2 ^ b) (λ c. (c * k % 4294967296 + 32768) % 4294967296) (λ _. 16) lanes raised (splat 16)

long_products : (k : ℕ) (lanes : List ℕ) → length lanes ≡ 32 → length (products k lanes) ≡ 32
long_products k lanes long = ap length (each k lanes long) ∙ length-map lanes (by k) ∙ long

long_made : (k : ℕ) (lanes : List ℕ) → length lanes ≡ 32 → length (made k lanes) ≡ 32
long_made k lanes long =
    let wide = long_products k lanes long in
    length_chosen w32 ltb 32 (products k lanes) most (products k lanes) most wide refl wide refl

least : (a : ℕ) → cond (ltb a 255) a 255 ≡ min 255 a
least a = grind (arith, nat_tests)

whole : (c k : ℕ) → c ≤ 255 → k ≤ 1048576 → by k c ≡ in_units (c * k)
whole c k few low = omega (arith, mul-le c k 255 1048576 few low)

lane : (k : ℕ) (lanes : List ℕ) (j : ℕ) → length lanes ≡ 32 → Each1 (Fits w8) lanes → k ≤ 1048576 → j < 32
    → get_or (made k lanes) j 0 ≡ min 255 (in_units (get_or lanes j 0 * k))
lane k lanes j long fit few low =
    let xs = products k lanes in
    let wide = long_products k lanes long in
    let c = get_or lanes j 0 in
    let product : get_or xs j 0 ≡ in_units (c * k) =
    ap (λ ys. get_or ys j 0) (each k lanes long) ∙ get_or-map (by k) lanes j 0 0 (omega (arith, long))
    ∙ whole c k (lane_low lanes j fit) few in
    chosen_lane w32 ltb 32 xs most xs most j wide refl wide refl low
    ∙ ap (λ b. cond (ltb (get_or xs j 0) b) (get_or xs j 0) b) (get_or-replicate 32 j 255 0 low)
    ∙ least (get_or xs j 0) ∙ ap (min 255) product

pub overflow_cast-result : goal.overflow_cast-result
overflow_cast-result c =
    let k = c.args.level in
    let lanes = c.args.lanes in
    bytes_fit (made k lanes) (long_made k lanes c.fits-lanes.0)
    (λ j low. omega (arith, lane k lanes j c.fits-lanes.0 c.fits-lanes.1 c.requires low))

pub returns : goal.returns
returns c =
    λ j low.
    let k = c.args.level in
    let lanes = c.args.lanes in
    get_or-map (λ x. x) (made k lanes) j 0 0 (omega (arith, long_made k lanes c.fits-lanes.0))
    ∙ lane k lanes j c.fits-lanes.0 c.fits-lanes.1 c.requires low
