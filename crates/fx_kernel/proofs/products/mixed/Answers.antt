use Rattle.fx_pixel.specs.Pixel.{greatest}
use Rattle.fx_kernel.specs.BlendLaws.{mixed_room}
use Rattle.fx_kernel.proofs.products.mixed.Goals as goal

pub divided-requires : goal.divided-requires
divided-requires c =
    rw (c.from-2.ensures, c.from-3.ensures, c.from-4.ensures, c.greatest.ensures, c.from.ensures)
    (mixed_room (greatest c.args.depth) c.args.weight c.args.a c.args.b c.requires.weight c.requires.a c.requires.b)
