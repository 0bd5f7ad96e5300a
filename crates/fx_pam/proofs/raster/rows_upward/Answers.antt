use Rattle.std.proofs.Common.{◌≡◌, ◌<◌, ℕ, ◌-◌, ◌+◌, ◌*◌, length, vec_len, refl, ap, ◌∙◌, subst, arith}
use Rattle.fx_base.specs.declared.limits.TheConstants.{MOST_SIDE}
use Rattle.fx_pixel.specs.declared.Components.TheVariants.{Rgba as RgbaSamples}
use Rattle.fx_image.specs.Stored.{pixel_in}
use Rattle.fx_pam.specs.Reading.{header_with, depth_of, pixel_of}
use Rattle.fx_pam.specs.Raster.{RiseTo, row_length}
use Rattle.fx_pam.proofs.RasterLemmas.{row-whole, row-pixel, one-row-more, rise-next}
use Rattle.fx_pam.proofs.raster.rows_upward.Goals as goal

pub shows_row-requires-clause-whole : goal.shows_row-requires-clause-whole
shows_row-requires-clause-whole c =
    let h = header_with c.args.numbers c.args.bytes.now in
    rw c.file_row-row.ensures.value (row-whole MOST_SIDE h (c.args.numbers.height - 1 - c.loop-y.y) (omega arith) c.requires.whole (omega (arith, c.loop-y-test.true)))

pub loop-y-preserved : goal.loop-y-preserved
loop-y-preserved c =
    let h = header_with c.args.numbers c.args.bytes.now in
    let y = c.loop-y.y in
    let row = c.file_row-row.result.now in
    let wide : length row ≡ row_length h = c.file_row-row.ensures.len in
    let so_far : length c.loop-y.rows.items ≡ vec_len c.loop-y.rows = omega (arith, c.loop-y.rows.ok) in
    let long : length c.loop-y.rows.items ≡ y * row_length h = so_far ∙ c.loop-y.invariant.long in
    let shown : (column : ℕ) → column < c.args.numbers.width → pixel_in (depth_of h) RgbaSamples row column ≡ pixel_of h (h.height - 1 - y) column =
    λ column low.
    c.shows_row.ensures column low
    ∙ ap (λ bytes. pixel_of (header_with c.args.numbers bytes) 0 column) c.file_row-row.ensures.value
    ∙ row-pixel h (h.height - 1 - y) column c.requires.whole.ranged.depth.0 c.requires.whole.ranged.depth.1 low in
    record {
      up_to = omega (arith, c.loop-y-test.true);
      high = refl;
      long = c.in_ok-extend_from_slice.ensures.len ∙ ap (λ n. n + length row) c.loop-y.invariant.long ∙ ap (λ n. y * row_length h + n) wide ∙ one-row-more y (row_length h);
      risen = rw c.in_ok-extend_from_slice.ensures.items (rise-next h y c.loop-y.rows.items row c.requires.plain long wide c.loop-y.invariant.risen shown);
    }

pub shows_row-requires-clause-plain : goal.shows_row-requires-clause-plain
shows_row-requires-clause-plain c =
    record { four = c.requires.plain.four; greatest = c.requires.plain.greatest }

pub file_row-row-requires-clause-row : goal.file_row-row-requires-clause-row
file_row-row-requires-clause-row c = omega (arith, c.loop-y-test.true)

pub returns-clause-rows : goal.returns-clause-rows
returns-clause-rows c =
    let y : c.loop-y.y ≡ c.args.numbers.height = omega (arith, c.loop-y.invariant.up_to, c.loop-y-test.false) in
    subst (λ n. RiseTo (header_with c.args.numbers c.args.bytes.now) n c.loop-y.rows.items) y c.loop-y.invariant.risen

pub returns-clause-len : goal.returns-clause-len
returns-clause-len c =
    let y : c.loop-y.y ≡ c.args.numbers.height = omega (arith, c.loop-y.invariant.up_to, c.loop-y-test.false) in
    c.loop-y.invariant.long ∙ ap (λ n. n * row_length (header_with c.args.numbers c.args.bytes.now)) y
