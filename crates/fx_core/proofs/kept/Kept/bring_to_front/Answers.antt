use Rattle.std.proofs.Common.{sym, Global}
use Rattle.std.specs.Arc.{arc_value}
use Rattle.fx_core.proofs.Entries.{with_front-map}
use Rattle.fx_core.proofs.kept.Kept.bring_to_front.Goals as goal

pub returns-clause-entries : goal.returns-clause-entries
returns-clause-entries g c =
    rw (sym c.self.view_is) (rw (c.in-Some.is, c.promote.ensures.entries)
    (sym (with_front-map (arc_value {X = g.row.K.Denot} {Z = Global}) (arc_value {X = g.row.V.Denot} {Z = Global}) (g.K.PartialEq.eq (arc_value c.args.key.now)) c.in-Some.cache.entries)))
