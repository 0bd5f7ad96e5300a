use Rattle.std.proofs.Common.{◌≡◌, None, sym, Global}
use Rattle.std.specs.Arc.{arc_value}
use Rattle.std.specs.Map.{lookup}
use Rattle.fx_core.proofs.Entries.{with_new-map}
use Rattle.fx_core.proofs.kept.Kept.put.Goals as goal

pub returns-in-Ok-clause-entries : goal.returns-in-Ok-clause-entries
returns-in-Ok-clause-entries g c =
    let new : lookup (g.K.PartialEq.eq (arc_value c.args.key)) c.args.self.now.entries ≡ None = c.requires in
    let new' = rw (c.in-Some.is) at (rw (sym c.self.view_is) at new) in
    rw (sym c.self.view_is) (rw (c.in-Some.is, c.in-Ok.ensures.entries)
    (with_new-map (arc_value {X = g.row.K.Denot} {Z = Global}) (arc_value {X = g.row.V.Denot} {Z = Global}) (g.K.PartialEq.eq (arc_value c.args.key)) c.in-Some.cache.entries c.in-Some.cache.cap c.args.key c.args.value c.len.ensures.valid.2 c.len.ensures.valid.1 new'))
