use Rattle.std.proofs.Common.{◌<◌, refl, ℕ, length, ◌∙◌, arith, w8, Fits}
use Rattle.std.proofs.lemmas.Simd.{get_or_wider, Each1-get_or, Each1-from_get_or}
use Rattle.fx_area.proofs.ShortLaws.{partner, lane_of_bytes}
use Rattle.fx_area.proofs.shorts.samples_of.Goals as goal

pub returns : goal.returns
returns c i low =
    let bytes = c.args.bytes in
    let turned = c.swapped.result in
    let long = c.swapped.ensures.len in
    let wide = c.fits-bytes.0 in
    let fit = Each1-from_get_or (λ (x : ℕ). x < 256) turned 0 (λ k within.
    let inside : k < 32 = omega (arith, within, long) in
    let place : partner k < length bytes = omega (arith, wide) in
    let was = Each1-get_or (Fits w8) bytes (partner k) 0 place c.fits-bytes.1 in
    omega (arith, c.swapped.ensures.value k inside, was.fits)) in
    get_or_wider 256 2 65536 16 turned i refl fit low
    ∙ lane_of_bytes bytes turned i c.swapped.ensures.value long low
