use Rattle.fx_modes.proofs.making.more_is_same.Goals as goal

pub returns-clause-pictures : goal.returns-clause-pictures
returns-clause-pictures c = λ takes are. c.pictures_stay.ensures takes (c.edits_keep.ensures takes are)
