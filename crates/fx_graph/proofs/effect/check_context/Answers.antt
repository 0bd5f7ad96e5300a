use Rattle.std.proofs.Common.{◌≡◌, ◌∙◌, sym, rules}
use Rattle.fx_effect.specs.ShapeTests.{context_listed}
use Rattle.fx_graph.proofs.effect.check_context.Goals as goal

pub returns-then-has_context-clause-there : goal.returns-then-has_context-clause-there
returns-then-has_context-clause-there c = context_listed c.args.context c.args.contexts.now (sym c.has_context.ensures ∙ c.if-has_context.true)
