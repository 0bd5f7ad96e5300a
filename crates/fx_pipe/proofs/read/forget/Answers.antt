use Rattle.std.proofs.Common.{rules}
use Rattle.std.proofs.lemmas.Fn.{filter_same}
use Rattle.fx_pipe.specs.Reads.{is_kept}
use Rattle.fx_pipe.proofs.read.forget.Goals as goal

pub returns : goal.returns
returns c =
    filter_same _ (is_kept c.args.uses.now c.args.moment) _ (λ x b f k. search rules) _ _ c.retain.ensures.filtered
