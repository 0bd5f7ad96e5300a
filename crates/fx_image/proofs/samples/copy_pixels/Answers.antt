use Rattle.fx_image.proofs.PixelLaws.{pixel_copied, pixel_kept}
use Rattle.fx_image.proofs.samples.copy_pixels.Goals as goal

pub returns-clause-copied : goal.returns-clause-copied
returns-clause-copied c i low =
    rw (c.pixel_size-size.ensures.value, c.copy_from_slice.ensures.after)
    (pixel_copied c.args.depth c.args.components c.args.row.now c.args.source.now c.args.first c.args.count c.requires.room c.requires.source i low)

pub returns-clause-others : goal.returns-clause-others
returns-clause-others c j out =
    rw (c.pixel_size-size.ensures.value, c.copy_from_slice.ensures.after)
    (pixel_kept c.args.depth c.args.components c.args.row.now c.args.source.now c.args.first c.args.count c.requires.room c.requires.source j out)
