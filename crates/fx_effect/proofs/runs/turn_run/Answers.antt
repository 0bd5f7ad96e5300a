use Rattle.std.proofs.Common.{◌≡◌, sym, ◌∙◌, rules}
use Rattle.fx_effect.proofs.RunLaws.{run_kept}
use Rattle.fx_effect.proofs.runs.turn_run.Goals as goal

pub returns-then-eq-2-clause-painted : goal.returns-then-eq-2-clause-painted
returns-then-eq-2-clause-painted c i low =
    let deep : c.args.from ≡ c.args.depth = search rules in
    let samples : c.args.seen ≡ c.args.components = search rules in
    c.copy_pixels.ensures.copied i low ∙ sym (run_kept c.args.depth c.args.components c.args.from c.args.seen c.args.source.now i deep samples)
