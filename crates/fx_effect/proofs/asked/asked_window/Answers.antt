use Rattle.std.proofs.Common.{sym, subst}
use Rattle.fx_effect.specs.Asked.{IsWindow}
use Rattle.fx_effect.proofs.asked.asked_window.Goals as goal

pub returns-clause-window : goal.returns-clause-window
returns-clause-window c = subst IsWindow (sym (c.window_at.ensures c.requires.region c.requires.window.bounds c.requires.there)) c.requires.window
