use Rattle.std.proofs.Common.{◌≡◌, ◌≤◌, ◌*◌, vec_len}
use Rattle.fx_pam.specs.Reading.{header_with}
use Rattle.fx_pam.specs.Raster.{RiseTo, row_length}
use Rattle.fx_pam.proofs.raster.rows_upward.Given as goal

abbrev pub invariant-loop-y : goal.invariant-loop-y
invariant-loop-y l =
    let h = header_with l.numbers l.bytes in
    record {
      up_to : l.y ≤ l.height;
      high : l.height ≡ l.numbers.height;
      long : vec_len l.rows ≡ l.y * row_length h;
      risen : RiseTo h l.y l.rows.items;
    }
