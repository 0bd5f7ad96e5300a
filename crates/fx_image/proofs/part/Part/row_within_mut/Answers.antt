use Rattle.std.proofs.Common.{ap, refl, w64}
use Rattle.std.proofs.lemmas.Int.{to_z-of_z}
use Rattle.fx_image.specs.Part.{with_run}
use Rattle.fx_image.proofs.part.Part.row_within_mut.Goals as goal

pub returns : goal.returns
returns c =
    let fy = c.ranges.y in (
      (refl, λ w. ap (λ y. with_run c.args.self.now c.args.rect.x1 y w) (to_z-of_z w64 c.args.y c.ranges.y)),
      record {
        writes_back = tt;
        stored = c.row_mut.ensures.stored;
        rows = c.row_mut.ensures.rows;
        len = c.row_mut.ensures.len;
        pixels = simp to_z-of_z at c.row_mut.ensures.pixels;
      },
    )
