use Rattle.std.proofs.Common.{◌≡◌, None, ◌∙◌}
use Rattle.std.proofs.lemmas.Result.{IfOk-weaker}
use Rattle.fx_image.specs.Stored.{image_of}
use Rattle.fx_pam.specs.Reading.{pam_fault}
use Rattle.fx_pam.proofs.FileImage.{is_pam-of}
use Rattle.fx_pam.proofs.reader.read.Goals as goal

pub returns-clause-image : goal.returns-clause-image
returns-clause-image c =
    let numbers = c.in_ok-numbers.numbers in
    let raster = c.in_ok-numbers.raster.now in
    let none : pam_fault c.args.bytes.now c.args.most_side ≡ None = c.in_ok-numbers.ensures.left ∙ c.in_ok-check_raster.ensures.ok in
    IfOk-weaker c.image_of.result _ _ (λ image is. is_pam-of c.args.bytes.now c.args.most_side numbers raster (image_of image) c.in_ok-numbers.ensures.reads none is) c.image_of.ensures.image
