use Rattle.std.proofs.Common.{length, ap, ◌<◌, ◌≤◌, refl, sym, subst, ◌∙◌}
use Rattle.fx_image.specs.Rows.{Raster}
use Rattle.fx_image.proofs.RowsLaws.{block_read, lends_run, lent_run, run_length}
use Rattle.fx_image.proofs.rows.Rows.run_mut.Goals as goal

pub returns : goal.returns
returns c =
    let s : Raster = record { pitch = c.self.inside.pitch; height = c.self.inside.height; step = c.self.inside.step; blocks = c.self.inside.blocks.items } in
    let row = subst (λ (s : Raster). c.args.y < s.height) (sym c.self.view_is) c.requires.row in
    let fits = subst (λ (s : Raster). c.args.to ≤ s.pitch) (sym c.self.view_is) c.requires.run.1 in
    let here = block_read s c.args.y c.index_mut-block.result.now (c.self.invariant.1.block_there c.args.y row) c.index_mut-block.ensures.value in
    let value = c.run_mut.ensures.value ∙ lent_run s c.args.y c.args.from c.args.to _ here c.requires.run.0 fits in
    rw (← c.self.view_is) ((refl, lends_run s c.args.y c.args.from _ here), record { writes_back = tt; rows = c.self.invariant.1; len = ap length value ∙ run_length s c.args.y c.args.from c.args.to c.self.invariant.1 row c.requires.run.0 fits; value = value })
