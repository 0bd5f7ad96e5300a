use Rattle.std.proofs.Common.{◌≤◌, ◌+◌, ◌*◌, length, sym, subst}
use Rattle.fx_pixel.specs.Pixel.{size}
use Rattle.fx_pam.specs.Reading.{header_with}
use Rattle.fx_pam.proofs.RasterLemmas.{sample-room}
use Rattle.fx_pam.proofs.raster.scaled.Goals as goal

pub sample-s-requires : goal.sample-s-requires
sample-s-requires c =
    let row = header_with (record c.args.numbers { height = 1 }) c.args.source.now in
    subst (λ depth. size depth * c.args.i + size depth ≤ length c.args.source.now) (sym c.sample_depth-depth.ensures)
    (sample-room row c.args.i c.requires.there c.requires.whole.long)
