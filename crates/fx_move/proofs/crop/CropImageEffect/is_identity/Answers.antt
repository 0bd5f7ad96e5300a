use Rattle.std.proofs.Common.{◌≡◌, ◌∙◌, true, false, sym, ap, refl, w64, FitsSigned, rules}
use Rattle.std.proofs.lemmas.Int.{to_z-of_z}
use Rattle.fx_move.specs.Crop.{is_within, crop_rect}
use Rattle.fx_move.specs.CropLaws.{is_within-decides}
use Rattle.fx_move.proofs.crop.CropImageEffect.is_identity.Goals as goal

pub returns-then-within : goal.returns-then-within
returns-then-within c = λ window is_window there.
    let v = c.args.values.now in
    let frame : FitsSigned w64 v.frame = search rules in
    let decides = is_within-decides c.asked_window.result c.crop_rect.result c.within.result c.within.ensures in
    let same = ap (λ r. is_within r c.crop_rect.result) (c.asked_window.ensures.value window is_window.bounds there) ∙ ap (is_within window) c.crop_rect.ensures in
    let test : is_within window (crop_rect v) ≡ true = sym same ∙ sym decides ∙ c.if-within.true in
    rw (test, to_z-of_z w64 v.frame frame) refl

pub returns-else-within : goal.returns-else-within
returns-else-within c = λ window is_window there.
    let v = c.args.values.now in
    let decides = is_within-decides c.asked_window.result c.crop_rect.result c.within.result c.within.ensures in
    let same = ap (λ r. is_within r c.crop_rect.result) (c.asked_window.ensures.value window is_window.bounds there) ∙ ap (is_within window) c.crop_rect.ensures in
    let test : is_within window (crop_rect v) ≡ false = sym same ∙ sym decides ∙ c.if-within.false in
    rw test refl
