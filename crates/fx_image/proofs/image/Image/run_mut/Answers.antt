use Rattle.std.proofs.Common.{◌≡◌, ◌+◌, ◌-◌, ◌*◌, ℕ, take, drop, ◌∙◌, ap, refl, arith}
use Rattle.std.specs.Int.{int_gap}
use Rattle.std.proofs.lemmas.Int.{to_z-of_z}
use Rattle.fx_image.specs.Rows.{row_of, with_run}
use Rattle.fx_image.specs.Stored.{Stored, pixel_size}
use Rattle.fx_image.specs.Runs.{run_of, place_of}
use Rattle.fx_image.proofs.image.Image.run_mut.Goals as goal

cut : (from n : ℕ) → from + n - from ≡ n
cut from n = omega arith

pub returns : goal.returns
returns c =
    let fx = c.ranges.x in
    let fy = c.ranges.y in
    let s : Stored = record { rect = c.self.inside.rect; depth = c.self.inside.depth; components = c.self.inside.components; raster = c.self.inside.rows } in
    let row : c.row_in-row.result ≡ int_gap s.rect.y1 c.args.y = simp to_z-of_z at c.row_in-row.ensures.value in
    let column : c.column_in.result ≡ int_gap s.rect.x1 c.args.x = simp to_z-of_z at c.column_in.ensures.value in
    let from : c.column_in.result * c.pixel_size-size.result ≡ place_of s c.args.x = ap (λ k. k * c.pixel_size-size.result) column ∙ ap (λ k. int_gap s.rect.x1 c.args.x * k) c.pixel_size-size.ensures.value in
    let size : c.args.n * c.pixel_size-size.result ≡ c.args.n * pixel_size s.depth s.components = ap (λ k. c.args.n * k) c.pixel_size-size.ensures.value in
    let value : c.run_mut.result.now ≡ run_of s c.args.x c.args.y c.args.n =
    c.run_mut.ensures.value
    ∙ ap (λ k. take k (drop (c.column_in.result * c.pixel_size-size.result) (row_of s.raster c.row_in-row.result))) (cut (c.column_in.result * c.pixel_size-size.result) (c.args.n * c.pixel_size-size.result) ∙ size)
    ∙ ap (λ k. take (c.args.n * pixel_size s.depth s.components) (drop k (row_of s.raster c.row_in-row.result))) from
    ∙ ap (λ k. take (c.args.n * pixel_size s.depth s.components) (drop (place_of s c.args.x) (row_of s.raster k))) row in
    rw (← c.self.view_is) (
      (
        refl,
        λ w.
            ap (λ k. record s { raster = with_run s.raster k (c.column_in.result * c.pixel_size-size.result) w }) row
            ∙ ap (λ k. record s { raster = with_run s.raster (int_gap s.rect.y1 c.args.y) k w }) from,
      ),
      record {
        writes_back = tt;
        stored = c.self.invariant;
        rows = c.run_mut.ensures.rows;
        len = c.run_mut.ensures.len ∙ cut (c.column_in.result * c.pixel_size-size.result) (c.args.n * c.pixel_size-size.result) ∙ size;
        value = value;
      },
    )
