use Rattle.fx_text.proofs.Rising.{none_rise}
use Rattle.fx_text.proofs.params.params_in.Goals as goal

pub of-requires : goal.of-requires
of-requires c = rw c.new.ensures.items none_rise
