use Rattle.fx_pam.specs.Reading.{header_with}
use Rattle.fx_pam.proofs.RasterLemmas.{row-there}
use Rattle.fx_pam.proofs.raster.file_row.Goals as goal

pub slice_bounds-result-end : goal.slice_bounds-result-end
slice_bounds-result-end c =
    let there = row-there (header_with c.args.numbers c.args.bytes.now) c.args.r c.requires.whole.long c.requires.row in
    rw c.row_length-length.ensures.value there
