use Rattle.fx_effect.specs.Described.{description_entries}
use Rattle.fx_effect.proofs.DescribedLaws.{description_apart}
use Rattle.fx_props.proofs.EntryLaws.{fronts_none, on_err}
use Rattle.fx_effect.proofs.describe.Description.write.Goals as goal

pub returns-in_err-entries-clause-left : goal.returns-in_err-entries-clause-left
returns-in_err-entries-clause-left c =
    let d = c.args.self.now in
    on_err c.from_residual.result
    (fronts_none (description_entries d) c.args.descriptor.now
    (description_apart _ _ _ _ _ _) c.requires)
