use Rattle.std.proofs.Common.{◌≡◌, ◌<◌, ℕ, zero, suc, ◌+◌, ◌*◌, ℤ, pos, negsuc, List, [], ◌∷◌, length, get_or, ap, arith, refl, ◌∙◌, w64, FitsSigned, to_z, of_z, rules}
use Rattle.std.proofs.lemmas.Int.{ints, to_z-of_z}
use Rattle.fx_pixel.specs.declared.Depth.TheVariants.{Byte}
use Rattle.fx_pixel.specs.declared.Components.TheVariants.{Rgba}
use Rattle.fx_effect.specs.Rows.{MakesRow}
use Rattle.fx_point.specs.Picks.{place_of, byte_at, ArePicked}
use Rattle.fx_point.specs.Shuffle.{IsChoice, chosen, shuffled}
use Rattle.fx_point.proofs.shuffle.ShufflingPointKernel.eight.Goals as goal

-- the samples of pixel i, and what stands for none
abbrev samples : List ℕ → ℕ → List ℕ
samples pixels i =
    get_or pixels (4 * i) 0
    ∷ get_or pixels (4 * i + 1) 0
    ∷ get_or pixels (4 * i + 2) 0
    ∷ get_or pixels (4 * i + 3) 0
    ∷ 0
    ∷ []

at : (pixels : List ℕ) (i : ℕ) (z : ℤ) → IsChoice z → byte_at pixels i (place_of z) ≡ chosen (samples pixels i) z
at pixels i (pos zero) is = ap (λ n. get_or pixels n 0) (omega arith)
at pixels i (pos (suc zero)) is = refl
at pixels i (pos (suc (suc zero))) is = refl
at pixels i (pos (suc (suc (suc zero)))) is = refl
at pixels i (pos (suc (suc (suc (suc zero))))) is = refl
at pixels i (pos (suc (suc (suc (suc (suc k)))))) is = absurd (omega (arith, ints, is.1))
at pixels i (negsuc k) is = absurd (omega (arith, ints, is.0))

lane : (pixels places made : List ℕ) (i k : ℕ) (z : ℤ) → ArePicked pixels places made → i < 8 → k < 4 → IsChoice z
    → FitsSigned w64 z → get_or places k 0 ≡ place_of (to_z w64 (of_z w64 z))
    → get_or made (4 * i + k) 0 ≡ chosen (samples pixels i) z
lane pixels places made i k z picked within few choice fits is =
    picked i k within few ∙ ap (byte_at pixels i) (is ∙ ap place_of (to_z-of_z w64 z fits)) ∙ at pixels i z choice

-- the choices, and what their places are
row : (pixels places made : List ℕ) (r g b a : ℤ) → length pixels ≡ 32 → ArePicked pixels places made
    → IsChoice r → IsChoice g → IsChoice b → IsChoice a
    → FitsSigned w64 r → FitsSigned w64 g → FitsSigned w64 b → FitsSigned w64 a
    → get_or places 0 0 ≡ place_of (to_z w64 (of_z w64 r)) → get_or places 1 0 ≡ place_of (to_z w64 (of_z w64 g))
    → get_or places 2 0 ≡ place_of (to_z w64 (of_z w64 b)) → get_or places 3 0 ≡ place_of (to_z w64 (of_z w64 a))
    → MakesRow Byte Rgba (shuffled r g b a) pixels made
row pixels places made r g b a long picked cr cg cb ca fr fg fb fa ir ig ib ia i within =
    let few : i < 8 = omega (arith, within, long) in
    let none : 4 * i ≡ 4 * i + 0 = omega arith in
    let first = ap (λ n. get_or made n 0) none in
    let red = lane pixels places made i 0 r picked few (omega arith) cr fr ir in
    let green = lane pixels places made i 1 g picked few (omega arith) cg fg ig in
    let blue = lane pixels places made i 2 b picked few (omega arith) cb fb ib in
    let alpha = lane pixels places made i 3 a picked few (omega arith) ca fa ia in
    cc

pub returns : goal.returns
returns c =
    let k = c.args.self.now in
    let places = c.place.result ∷ c.place-2.result ∷ c.place-3.result ∷ c.place-4.result ∷ [] in
    row c.args.pixels places c.picked.result k.r k.g k.b k.a c.fits-pixels.0 c.picked.ensures c.requires.0
    c.requires.1 c.requires.2 c.requires.3 (search rules) (search rules) (search rules) (search rules) c.place.ensures
    c.place-2.ensures c.place-3.ensures c.place-4.ensures
