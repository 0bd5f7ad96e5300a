use Rattle.std.proofs.Common.{rules, w64}
use Rattle.std.proofs.lemmas.Int.{to_z-of_z}
use mir.Val.{SFits}
use Rattle.fx_scene.proofs.NotingLemmas.{note_is}
use Rattle.fx_scene.proofs.moments.note.Goals as goal

pub returns-clause-notes : goal.returns-clause-notes
returns-clause-notes c =
    let fits : SFits w64 c.args.wanted.frame = search rules in
    note_is c.args.table.now c.insert.new.self c.args.wanted c.args.moment c.first_moment-from.result
    (simp to_z-of_z at c.in_ok-insert.ensures.updates) (simp to_z-of_z at c.first_moment-from.ensures)
