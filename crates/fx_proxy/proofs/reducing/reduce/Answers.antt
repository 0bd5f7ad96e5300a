use Rattle.fx_image.specs.Stored.{image_of}
use Rattle.fx_proxy.proofs.MadeLaws.{made_image}
use Rattle.fx_proxy.proofs.reducing.reduce.Goals as goal

pub returns-clause-value : goal.returns-clause-value
returns-clause-value c =
    let made = c.in_ok-small.ensures in
    made_image _ _ c.args.q (image_of c.args.image.now) c.write_blocks.ensures made.rect made.depth made.components
