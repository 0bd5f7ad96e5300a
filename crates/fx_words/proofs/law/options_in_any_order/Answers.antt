use Rattle.fx_words.proofs.LineLaws.{any_order}
use Rattle.fx_words.proofs.law.options_in_any_order.Goals as goal

pub returns : goal.returns
returns c = any_order
