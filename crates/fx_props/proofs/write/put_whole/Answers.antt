use Rattle.std.proofs.Common.{◌∙◌, ap, w64}
use Rattle.std.proofs.lemmas.Int.{to_z-of_z}
use Rattle.fx_props.specs.Entries.{whole}
use Rattle.fx_props.proofs.write.put_whole.Goals as goal

pub returns-clause-ok : goal.returns-clause-ok
returns-clause-ok c = rw (c.whole-value.ensures.value ∙ ap whole (to_z-of_z w64 c.args.n c.ranges.n)) at c.append.ensures.ok
