use Rattle.std.proofs.Common.{◌+◌, ◌-◌, ◌*◌, length, arith}
use Rattle.fx_image.specs.Stored.{pixel_size}
use Rattle.fx_image.proofs.PixelLaws.{pixel_of_run}
use Rattle.fx_area.proofs.extreme.take_pixels.Goals as goal

pub returns : goal.returns
returns c i low =
    let start = c.args.first * pixel_size c.args.depth c.args.components in
    let long = (start + length c.args.row.now) - start in
    rw (c.copy_from_slice.ensures.after, c.pixel_size.ensures.value)
    (pixel_of_run c.args.depth c.args.components c.args.bytes.now long c.args.first i (omega (arith, low)))
