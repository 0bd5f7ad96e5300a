use Rattle.std.proofs.Common.{◌≡◌, ◌≤◌, ℕ, ◌+◌, ◌-◌, ◌%◌, cond, List, length, get_or, ltb, ap, arith, ◌∙◌, w8, Fits}
use Rattle.std.proofs.lemmas.Bool.Decides.{nat_tests}
use Rattle.std.proofs.lemmas.Simd.{get_or-zip2}
use Rattle.std.specs.Simd.Lanes.{Each1, zip2}
use Rattle.fx_kernel.specs.Lanes.{AreAlphas}
use Rattle.fx_kernel.proofs.ByteLaws.{lane_low}
use Rattle.fx_point.specs.Lanes.{AreMade}
use Rattle.fx_point.proofs.Chosen.{chosen, chosen_lane, length_chosen}
use Rattle.fx_point.proofs.Places.{alpha_byte}
use Rattle.fx_point.proofs.invert.InvertingPointKernel.eight.Goals as goal

-- the greater of two bytes less the second, in 8 bits
less : (a c : ℕ) → a ≤ 255 → c ≤ 255 → (cond (ltb a c) c a + (256 - c)) % 256 ≡ a - c
less a c few low = grind (arith, nat_tests)

turned : (pixels alphas : List ℕ) → length pixels ≡ 32 → Each1 (Fits w8) pixels → length alphas ≡ 32
    → AreAlphas pixels alphas
    → AreMade (λ a c. a - c) pixels
    (zip2 (λ a c. (a + (256 - c)) % 256) (chosen w8 ltb alphas pixels pixels alphas) pixels)
turned pixels alphas lp fit la is j low =
    let greater = chosen w8 ltb alphas pixels pixels alphas in
    let long : length greater ≡ 32 = length_chosen w8 ltb 32 alphas pixels pixels alphas la lp lp la in
    let c = get_or pixels j 0 in
    get_or-zip2 (λ a c. (a + (256 - c)) % 256) greater pixels j 0 0 0 (omega (arith, long)) (omega (arith, lp))
    ∙ ap (λ a. (a + (256 - c)) % 256) (chosen_lane w8 ltb 32 alphas pixels pixels alphas j la lp lp la low)
    ∙ less (get_or alphas j 0) c (alpha_byte pixels alphas j fit is low) (lane_low pixels j fit)
    ∙ ap (λ a. a - c) (is j low)

pub returns : goal.returns
returns c =
    c.recoloured.ensures (λ a s. a - s)
    (turned c.args.pixels c.alphas.result c.fits-pixels.0 c.fits-pixels.1 c.alphas.ensures.len c.alphas.ensures.value)
