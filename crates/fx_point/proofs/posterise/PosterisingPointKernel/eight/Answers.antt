use Rattle.std.proofs.Common.{◌≡◌, ◌<◌, ℕ, ◌+◌, ◌-◌, ◌*◌, ℤ, pos, List, get_or, replicate, ap, sym, arith, ◌∙◌}
use Rattle.std.proofs.lemmas.Nat.{mul-le}
use Rattle.std.proofs.lemmas.Simd.{get_or-replicate}
use Rattle.fx_kernel.specs.Samples.{rounded}
use Rattle.fx_kernel.specs.SampleLaws.{rounded_bound}
use Rattle.fx_kernel.proofs.ByteLaws.{lane_low}
use Rattle.fx_point.specs.Posterise.{posterised}
use Rattle.fx_point.proofs.posterise.PosterisingPointKernel.eight.Goals as goal

abbrev ArePlaces : List ℕ → ℕ → List ℕ → Type 0
ArePlaces pixels last places =
    (j : ℕ) → j < 32 → get_or places j 0 ≡ rounded (get_or pixels j 0 * get_or (replicate 32 last) j 0) 255

place : (pixels : List ℕ) (last : ℕ) (places : List ℕ) (j : ℕ) → ArePlaces pixels last places → j < 32
    → get_or places j 0 ≡ rounded (get_or pixels j 0 * last) 255
place pixels last places j are low =
    are j low ∙ ap (λ l. rounded (get_or pixels j 0 * l) 255) (get_or-replicate 32 j last 0 low)

-- by the number of levels, which is one more than the place of the last
by_levels : (levels : ℤ) (last s : ℕ) → levels ≡ pos (last + 1)
    → rounded (rounded (s * last) 255 * 255) last ≡ posterised 255 levels s
by_levels levels last s is =
    let less : last ≡ last + 1 - 1 = omega arith in
    ap (λ n. rounded (rounded (s * n) 255 * 255) n) less ∙ ap (λ z. posterised 255 z s) (sym is)

pub samples-requires-clause-places : goal.samples-requires-clause-places
samples-requires-clause-places c =
    λ j low.
    let last = c.args.self.now.last in
    let s = get_or c.args.pixels j 0 in
    let bound = mul-le s last 255 last (lane_low c.args.pixels j c.fits-pixels.1) (omega arith) in
    omega (arith, place c.args.pixels last c.product-places.result j c.product-places.ensures.value low, rounded_bound (s * last) 255 last (omega arith) (omega (arith, bound)))

pub returns : goal.returns
returns c =
    let k = c.args.self.now in
    let pixels = c.args.pixels in
    c.recoloured.ensures (λ a s. posterised 255 k.levels s) (
    λ j low.
    c.samples.ensures j low ∙ ap (λ p. rounded (p * 255) k.last) (place pixels k.last c.product-places.result j c.product-places.ensures.value low)
    ∙ by_levels k.levels k.last (get_or pixels j 0) c.requires.1.count
    )
