use Rattle.std.proofs.Common.{rules}
use Rattle.std.proofs.lemmas.Fn.{filter_same}
use Rattle.fx_seq.specs.Lists.{is_used_frame}
use Rattle.fx_seq.proofs.store.still_used.Goals as goal

pub returns-clause-items : goal.returns-clause-items
returns-clause-items c =
    filter_same _ (is_used_frame c.args.uses.now c.args.moment) _ (λ x b f k. search rules) _ _ c.retain.ensures.filtered
