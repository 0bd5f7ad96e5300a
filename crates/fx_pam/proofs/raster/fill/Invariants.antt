use Rattle.std.proofs.Common.{◌≡◌, ◌≤◌, pos}
use Rattle.fx_image.specs.Part.{SamePart, WroteRows}
use Rattle.fx_pam.specs.Reading.{header_with}
use Rattle.fx_pam.specs.Raster.{pixel_from_bottom}
use Rattle.fx_pam.proofs.raster.fill.Given as goal

abbrev pub invariant-loop-y : goal.invariant-loop-y
invariant-loop-y l =
    let h = header_with l.numbers l.bytes in
    record {
      up_to : l.y ≤ l.height;
      high : l.height ≡ l.numbers.height;
      same : SamePart l.initial.out l.out;
      written : WroteRows l.initial.out l.out.image.now (pos l.y) (pixel_from_bottom h);
    }
