use Rattle.fx_props.proofs.EntryLaws.{awaits_next, wrote_more, fronts_at, on_err}
use Rattle.fx_props.proofs.write.write_entries.Goals as goal

pub write_entry-requires : goal.write_entry-requires
write_entry-requires c =
    awaits_next c.args.entries.now c.loop-entry.entry-index c.entry-item.result c.args.set.now c.loop-entry.set c.requires.names c.requires.blank c.loop-entry-test.true c.entry-item.is c.loop-entry.invariant

pub loop-entry-preserved : goal.loop-entry-preserved
loop-entry-preserved c =
    wrote_more c.args.entries.now c.loop-entry.entry-index c.entry-item.result c.args.set.now c.loop-entry.set c.write_entry.new.set c.requires.names c.loop-entry-test.true c.entry-item.is c.loop-entry.invariant c.in_ok-write_entry.ensures.written

pub returns-in_err-write_entry-clause-left : goal.returns-in_err-write_entry-clause-left
returns-in_err-write_entry-clause-left c =
    on_err c.from_residual.result
    (fronts_at c.args.entries.now c.loop-entry.entry-index c.entry-item.result c.args.set.now c.loop-entry.set c.write_entry.new.set c.requires.names c.requires.blank c.loop-entry-test.true c.entry-item.is c.loop-entry.invariant c.in_err-write_entry.ensures.left)
