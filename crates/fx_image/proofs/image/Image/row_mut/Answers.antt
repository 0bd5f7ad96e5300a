use Rattle.std.proofs.Common.{◌∙◌, ◌*◌, ap, refl, w64, to_z, of_z}
use Rattle.std.proofs.lemmas.Int.{to_z-of_z}
use Rattle.fx_base.specs.Bounds.{Bounds, IsRect}
use Rattle.fx_image.specs.Stored.{IsStored, pixel_size}
use Rattle.fx_image.specs.ImageLending.{with_row}
use Rattle.fx_image.proofs.ImageLaws.{near_within, left_column, row_of_rect, shows_pixels}
use Rattle.fx_image.proofs.image.Image.row_mut.Goals as goal

pub columns_in-requires : goal.columns_in-requires
columns_in-requires c =
    let rect : IsRect c.args.rect = rw (← c.rect.view_is) c.rect.invariant in
    let stored : IsStored c.args.self.now = rw (← c.self.view_is) c.self.invariant in
    near_within c.args.rect c.args.self.now.rect rect c.requires.within stored.near

pub run_mut-requires : goal.run_mut-requires
run_mut-requires c =
    let rect : IsRect c.args.rect = rw (← c.rect.view_is) c.rect.invariant in
    let stored : IsStored c.args.self.now = rw (← c.self.view_is) c.self.invariant in
    row_of_rect c.args.self.now c.args.rect c.args.y c.rect.inside.x1 stored rect c.requires.within c.requires.inside.0 c.requires.inside.1
    (ap (λ (b : Bounds). b.x1) c.rect.view_is) c.columns_in.result c.columns_in.ensures.value c.ranges.y

pub returns : goal.returns
returns c =
    let rect : IsRect c.args.rect = rw (← c.rect.view_is) c.rect.invariant in
    let stored : IsStored c.args.self.now = rw (← c.self.view_is) c.self.invariant in
    let x_is = ap (λ (b : Bounds). b.x1) c.rect.view_is in
    let left = left_column c.args.self.now c.args.rect c.args.y c.rect.inside.x1 stored rect c.requires.within c.requires.inside.0 c.requires.inside.1 x_is in (
      (refl, λ w. ap (λ x. with_row c.args.self.now x (to_z w64 (of_z w64 c.args.y)) w) left ∙ ap (λ y. with_row c.args.self.now c.args.rect.x1 y w) (to_z-of_z w64 c.args.y c.ranges.y)),
      record {
        writes_back = tt;
        stored = c.run_mut.ensures.stored;
        rows = c.run_mut.ensures.rows;
        len = c.run_mut.ensures.len ∙ ap (λ n. n * pixel_size c.args.self.now.depth c.args.self.now.components) c.columns_in.ensures.value;
        pixels = shows_pixels c.args.self.now c.args.rect c.args.y c.rect.inside.x1 stored rect c.requires.within c.requires.inside.0 c.requires.inside.1
            x_is c.columns_in.result c.run_mut.result.now c.columns_in.ensures.value c.ranges.y c.run_mut.ensures.value;
      },
    )
