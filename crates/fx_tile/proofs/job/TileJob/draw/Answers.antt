use Rattle.std.proofs.Common.{◌∙◌, ap, sym, subst}
use Rattle.std.proofs.lemmas.List.{get_or_default}
use Rattle.fx_base.specs.Bounds.{none}
use Rattle.fx_tile.specs.Tiles.{IsRegion}
use Rattle.fx_tile.proofs.job.TileJob.draw.Goals as goal

pub found_tile-found-requires-clause-region : goal.found_tile-found-requires-clause-region
found_tile-found-requires-clause-region g c =
    let job = c.args.self.now in
    let is = get_or_default job.tiles.now c.args.index c.index-self-index.result none c.requires.may.below in
    subst IsRegion (sym is) c.requires.may.tile.region

pub returns-clause-free : goal.returns-clause-free
returns-clause-free g c =
    let keeps = c.found_tile-found.ensures.seat in
    let free = c.requires.free in
    record {
      row = keeps.rows.row ∙ free.row;
      parts_are = keeps.rows.parts ∙ free.parts_are;
      aloft = keeps.aloft ∙ free.aloft;
      finds_none = c.finds_none.ensures;
      whole_row = keeps.rows.whole_row ∙ free.whole_row;
      whole_parts = keeps.rows.whole_parts ∙ free.whole_parts;
      whole_aloft = keeps.whole_aloft ∙ free.whole_aloft;
      whole_finds_none = c.finds_none-2.ensures;
      gates = ap (λ z. z.row) keeps.rows.gates ∙ free.gates;
      gate_parts = ap (λ z. z.parts) keeps.rows.gates ∙ free.gate_parts;
      no_turn = ap (λ z. z.turn) keeps.rows.gates ∙ free.no_turn;
    }
