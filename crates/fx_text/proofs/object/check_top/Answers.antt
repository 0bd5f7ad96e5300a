use Rattle.fx_text.proofs.object.check_top.Goals as goal

pub returns-then-grouped : goal.returns-then-grouped
returns-then-grouped c = rw c.if-grouped.true c.check_object.ensures

pub returns-else-grouped : goal.returns-else-grouped
returns-else-grouped c = rw c.if-grouped.false c.check_object-else-grouped.ensures
