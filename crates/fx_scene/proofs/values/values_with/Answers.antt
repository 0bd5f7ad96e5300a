use mir.Val.{SFits}
use Rattle.std.proofs.Common.{rules, w64}
use Rattle.std.proofs.lemmas.Int.{to_z-of_z}
use Rattle.fx_scene.proofs.RowLemmas.{values_are}
use Rattle.fx_scene.proofs.values.values_with.Goals as goal

pub returns : goal.returns
returns c =
    let fits : SFits w64 c.args.frame = search rules in
    simp to_z-of_z (values_are c.args.project c.args.frame c.args.clips.now c.args.row.now c.in_ok-numbers_with.field-0 c.in_ok-connected_of.field-0
    (simp to_z-of_z at c.in_ok-numbers_with.ensures) c.in_ok-connected_of.ensures)
