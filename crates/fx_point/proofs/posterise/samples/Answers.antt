use Rattle.std.proofs.Common.{◌≡◌, ◌<◌, ◌≤◌, ℕ, ◌+◌, ◌-◌, ◌*◌, ◌/◌, ◌%◌, ◌^◌, List, length, get_or, map, replicate, ap, arith, refl, ◌∙◌}
use Rattle.std.proofs.Math.Nat.{div-div-eq-div-mul}
use Rattle.std.proofs.lemmas.List.{get_or-map, length-map}
use Rattle.std.proofs.lemmas.Nat.{mul-le}
use Rattle.std.proofs.lemmas.Simd.{zip2_of_maps, splat_is_map}
use Rattle.std.specs.Simd.Lanes.{zip2}
use Rattle.fx_kernel.specs.Samples.{rounded}
use Rattle.fx_kernel.specs.SampleLaws.{rounded_bound}
use Rattle.fx_point.specs.Levels.{reciprocal}
use Rattle.fx_point.proofs.Places.{bytes_fit}
use Rattle.fx_point.proofs.Quotients.{by_factor, excess}
use Rattle.fx_point.proofs.posterise.samples.Goals as goal

abbrev raised : ℕ → ℕ → ℕ
raised half p = (p * 255 % 4294967296 + half) % 4294967296

abbrev by : ℕ → ℕ → ℕ → ℕ
by half factor p = raised half p * factor % 4294967296 / 2 ^ 24

abbrev made : ℕ → ℕ → List ℕ → List ℕ
made half factor places =
    let times = zip2 (λ a b. a * b % 4294967296) (map (λ x. x) places) (replicate 32 255) in
    let more = zip2 (λ a b. (a + b) % 4294967296) times (replicate 32 half) in
    zip2 (λ a b. a / 2 ^ b) (zip2 (λ a b. a * b % 4294967296) more (replicate 32 factor)) (replicate 32 24)

each : (half factor : ℕ) (places : List ℕ) → length places ≡ 32 → made half factor places ≡ map (by half factor) places
each half factor places long =
    let splat : (n : ℕ) → replicate 32 n ≡ map (λ _. n) places = λ n. splat_is_map places 32 n long in
    let times = zip2_of_maps (λ a b. a * b % 4294967296) (λ p. p) (λ _. 255) places refl (splat 255) in
    let more =
    zip2_of_maps (λ a b. (a + b) % 4294967296) (λ p. p * 255 % 4294967296) (λ _. half) places times (splat half) in
    let products = zip2_of_maps (λ a b. a * b % 4294967296) (raised half) (λ _. factor) places more (splat factor) in
    zip2_of_maps (λ a b. a / 2 ^ b) (λ p. raised half p * factor % 4294967296) (λ _. 24) places products (splat 24)

long_made : (half factor : ℕ) (places : List ℕ) → length places ≡ 32 → length (made half factor places) ≡ 32
long_made half factor places long =
    ap length (each half factor places long) ∙ length-map places (by half factor) ∙ long

halves : (x a : ℕ) → (x + a / 2) / a ≡ rounded x a
halves x a =
    let half : x + a / 2 ≡ (2 * x + a) / 2 = omega arith in
    ap (λ n. n / a) half ∙ div-div-eq-div-mul (2 * x + a) 2 a

level_bound : (last p : ℕ) → 0 < last → p ≤ last → rounded (p * 255) last ≤ 255
level_bound last p some low = rounded_bound (p * 255) last 255 some (omega (arith, low))

level : (last p : ℕ) → 0 < last → last ≤ 255 → p ≤ last → by (last / 2) (reciprocal last) p ≡ rounded (p * 255) last
level last p some few low =
    let full = p * 255 + last / 2 in
    let rest = last - 16777216 % last in
    let plain : raised (last / 2) p ≡ full = omega (arith, few, low) in
    let small : full * rest < 16777216 =
    omega (arith, mul-le full rest 65152 255 (omega (arith, few, low)) (omega (arith, few))) in
    let quotient : full * reciprocal last / 16777216 ≡ rounded (p * 255) last =
    by_factor full last (reciprocal last) rest 16777216 some (excess last 16777216 some) small
    ∙ halves (p * 255) last in
    let fits : full * reciprocal last % 4294967296 ≡ full * reciprocal last =
    omega (arith, quotient, level_bound last p some low) in
    ap (λ n. n * reciprocal last % 4294967296 / 16777216) plain ∙ ap (λ n. n / 16777216) fits ∙ quotient

lane : (last half factor : ℕ) (places : List ℕ) (j : ℕ) → length places ≡ 32 → j < 32 → 0 < last → last ≤ 255
    → half ≡ last / 2 → factor ≡ reciprocal last → get_or places j 0 ≤ last
    → get_or (made half factor places) j 0 ≡ rounded (get_or places j 0 * 255) last
lane last half factor places j long below some few middle is low =
    let p = get_or places j 0 in
    ap (λ xs. get_or xs j 0) (each half factor places long)
    ∙ get_or-map (by half factor) places j 0 0 (omega (arith, long))
    ∙ ap (λ h. by h factor p) middle ∙ ap (λ f. by (last / 2) f p) is ∙ level last p some few low

pub overflow_cast-result : goal.overflow_cast-result
overflow_cast-result c =
    let last = c.args.last in
    let half = c.from-half.result in
    let factor = c.args.factor in
    let places = c.args.places in
    let some = c.requires.some in
    let few : last ≤ 255 = omega (arith, c.ranges.last.fits) in
    bytes_fit (made half factor places) (long_made half factor places c.fits-places.0) (
    λ j below.
    let low = c.requires.places j below in
    let is =
    lane last half factor places j c.fits-places.0 below some few c.from-half.ensures c.requires.factor low in
    omega (arith, is, level_bound last (get_or places j 0) some low)
    )

pub returns : goal.returns
returns c =
    λ j below.
    let last = c.args.last in
    let half = c.from-half.result in
    let factor = c.args.factor in
    let places = c.args.places in
    let few : last ≤ 255 = omega (arith, c.ranges.last.fits) in
    get_or-map (λ x. x) (made half factor places) j 0 0
    (omega (arith, long_made half factor places c.fits-places.0))
    ∙ lane last half factor places j c.fits-places.0 below c.requires.some few c.from-half.ensures c.requires.factor
    (c.requires.places j below)
