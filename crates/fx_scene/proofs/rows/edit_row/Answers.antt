use Rattle.std.proofs.Common.{rules}
use Rattle.fx_scene.proofs.RowLemmas.{row_edited}
use Rattle.fx_scene.proofs.rows.edit_row.Goals as goal

pub returns : goal.returns
returns c = row_edited c.args.rows.now.items c.args.edit.now.node c.args.edit.now.param _ c.index_mut.result.now (search rules)
