use Rattle.std.proofs.Common.{ap, sym, ◌∙◌, Global}
use Rattle.std.specs.Option.{option_map}
use Rattle.std.specs.Arc.{arc_value}
use Rattle.fx_core.proofs.Entries.{lookup-map}
use Rattle.fx_core.proofs.kept.Kept.find.Goals as goal

pub returns-in-Some : goal.returns-in-Some
returns-in-Some g c =
    rw (sym c.self.view_is) (rw (c.in-Some.is) (ap (option_map (arc_value {X = g.row.V.Denot} {Z = Global})) c.peek.ensures
    ∙ sym (lookup-map (arc_value {X = g.row.K.Denot} {Z = Global}) (arc_value {X = g.row.V.Denot} {Z = Global}) (g.K.PartialEq.eq (arc_value c.args.key.now)) c.in-Some.cache.entries)))
