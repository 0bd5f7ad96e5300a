use Rattle.std.proofs.Common.{◌≡◌, ℕ, ◌*◌, min, ℤ, pos, negsuc, ◌≤ℤ◌, nat_abs, get_or, ap, arith, refl, ◌∙◌, w64, FitsSigned, rules}
use Rattle.std.proofs.lemmas.Int.{ints, to_z-of_z}
use Rattle.fx_kernel.specs.Blends.{in_units}
use Rattle.fx_point.specs.Gain.{gained}
use Rattle.fx_point.proofs.gain.GainingPointKernel.eight.Goals as goal

by_level : (level : ℤ) (c : ℕ) → pos 0 ≤ℤ level → min 255 (in_units (c * nat_abs level)) ≡ gained 255 level c
by_level (pos k) c some = refl
by_level (negsuc k) c some = absurd (omega (arith, ints, some))

pub returns : goal.returns
returns c =
    let level = c.args.self.now.level in
    let fits : FitsSigned w64 c.args.self.now.level = search rules in
    c.recoloured.ensures (λ a s. gained 255 level s) (
    λ j low.
    let s = get_or c.args.pixels j 0 in
    c.times.ensures j low
    ∙ ap (λ k. min 255 (in_units (s * nat_abs k))) (to_z-of_z w64 level fits)
    ∙ by_level level s c.requires.0
    )
