use Rattle.std.proofs.Common.{w64}
use Rattle.std.proofs.lemmas.Int.{to_z-of_z}
use mir.Val.{SFits}
use Rattle.fx_region.proofs.following.follow.Goals as goal

pub returns-clause-end : goal.returns-clause-end
returns-clause-end g c =
    let fits : SFits w64 c.args.frame = c.ranges.frame in
    simp to_z-of_z at c.follow_by.ensures.end

pub returns-clause-shows : goal.returns-clause-shows
returns-clause-shows g c =
    let fits : SFits w64 c.args.frame = c.ranges.frame in
    simp to_z-of_z at c.follow_by.ensures.shows
