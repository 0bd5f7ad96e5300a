use Rattle.std.proofs.Common.{w64, FitsSigned}
use Rattle.std.proofs.lemmas.Int.{to_z-of_z}
use Rattle.fx_time.proofs.frameblend.BlendRowsRowKernel.fill_row.Goals as goal

pub returns-then-self-eq1-clause-shows : goal.returns-then-self-eq1-clause-shows
returns-then-self-eq1-clause-shows c =
    let y : FitsSigned w64 c.args.y = c.ranges.y in
    simp to_z-of_z at c.blend_three.ensures

pub returns-else-self-eq1-clause-shows : goal.returns-else-self-eq1-clause-shows
returns-else-self-eq1-clause-shows c =
    let y : FitsSigned w64 c.args.y = c.ranges.y in
    simp to_z-of_z at c.blend_many.ensures
