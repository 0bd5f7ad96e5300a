use Rattle.fx_text.proofs.MigratedLaws.{stays}
use Rattle.fx_text.proofs.law.stays_in_format_two.Goals as goal

pub returns : goal.returns
returns c = stays
