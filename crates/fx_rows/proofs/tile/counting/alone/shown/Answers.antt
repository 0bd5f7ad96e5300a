use Rattle.std.proofs.Common.{◌∙◌, refl, ap, pos, subst, sym, inr, arith}
use Rattle.std.proofs.lemmas.Int.{ints}
use Rattle.fx_base.specs.Bounds.{Bounds}
use Rattle.fx_base.specs.Rect.{IsWithin}
use Rattle.fx_base.proofs.RectLemmas.{IsWithin-enclosed}
use Rattle.fx_image.specs.Stored.{Stored}
use Rattle.fx_tile.specs.Tiles.{IsRegion}
use Rattle.fx_rows.specs.TileCounting.{lone_tile}
use Rattle.fx_rows.proofs.tile.counting.alone.shown.Goals as goal

-- the rectangle of the image
abbrev whole : Bounds
whole = record { x1 = pos 0; y1 = pos 0; x2 = pos 8; y2 = pos 8 }

tile_is : IsRegion lone_tile
tile_is =
    record {
      some = λ e. let left = ap (λ r. r.x1) e in absurd (omega (arith, ints, left));
      window = record {
        bounds = inr (omega (arith, ints), omega (arith, ints));
        near = record {
          left = omega (arith, ints);
          right = omega (arith, ints);
          bottom = omega (arith, ints);
          top = omega (arith, ints);
        };
      };
      small = (omega arith, omega arith);
    }

tile_inside : IsWithin lone_tile whole
tile_inside =
    IsWithin-enclosed lone_tile whole (record {
      left = omega (arith, ints);
      right = omega (arith, ints);
      bottom = omega (arith, ints);
      top = omega (arith, ints);
    })

pub window_tile-count-requires-clause-tile : goal.window_tile-count-requires-clause-tile
window_tile-count-requires-clause-tile g c = subst IsRegion (sym c.tile_of-tile.ensures.tile) tile_is

pub window_tile-count-requires-clause-project : goal.window_tile-count-requires-clause-project
window_tile-count-requires-clause-project g c =
    subst (λ (r : Bounds). IsWithin r c.args.scene.now.graph.project) (sym c.tile_of-tile.ensures.tile) c.tile_of-tile.ensures.project

pub window_tile-count-requires-clause-within : goal.window_tile-count-requires-clause-within
window_tile-count-requires-clause-within g c =
    subst (λ (r : Bounds). IsWithin r c.part-part.result.rect) (sym c.tile_of-tile.ensures.tile)
    (subst (IsWithin lone_tile) (sym (c.part-part.ensures.rect ∙ c.of-whole.ensures)) tile_inside)

pub window_tile-count-requires-clause-depth : goal.window_tile-count-requires-clause-depth
window_tile-count-requires-clause-depth g c =
    ap (λ (s : Stored). s.depth) c.part-part.ensures.value ∙ (rw c.expect-image.ensures at c.new-blank.ensures.depth) ∙ sym c.tile_of-tile.ensures.depth

pub window_tile-count-requires-clause-components : goal.window_tile-count-requires-clause-components
window_tile-count-requires-clause-components g c =
    rw c.tile_of-tile.ensures.format (ap (λ (s : Stored). s.components) c.part-part.ensures.value ∙ (rw c.expect-image.ensures at c.new-blank.ensures.components))

pub returns : goal.returns
returns g c =
    let all = c.requires.first in
    let was = all.first_is in
    let keeps = c.window_tile-count.ensures.seat in
    let rows = keeps.rows in
    let parts = all.all in
    let same = rows.parts in
    record {
      first_is = record {
        row = rows.row ∙ was.row;
        parts_are = refl;
        aloft = keeps.aloft ∙ was.aloft;
        finds_none = c.finds_none.ensures;
        whole_row = rows.whole_row ∙ was.whole_row;
        whole_parts = rows.whole_parts ∙ was.whole_parts ∙ sym same;
        whole_aloft = keeps.whole_aloft ∙ was.whole_aloft;
        whole_finds_none = c.finds_none-2.ensures;
        gates = ap (λ z. z.row) rows.gates ∙ was.gates;
        gate_parts = ap (λ z. z.parts) rows.gates ∙ was.gate_parts ∙ sym same;
        no_turn = ap (λ z. z.turn) rows.gates ∙ was.no_turn;
      };
      free = all.free;
      all = omega (arith, parts, same);
    }
