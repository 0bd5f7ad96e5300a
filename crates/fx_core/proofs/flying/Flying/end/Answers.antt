use Rattle.std.proofs.Common.{ℕ, ◌==◌, sym, ap, ◌∙◌, Global}
use Rattle.std.specs.Arc.{arc_value}
use Rattle.fx_core.specs.Seen.{flying_of}
use Rattle.fx_core.proofs.Entries.{remove_entry-map}
use Rattle.fx_core.proofs.flying.Flying.end.Goals as goal

pub returns : goal.returns
returns g c =
    rw (sym c.self.view_is) (ap (flying_of {K = g.row.K.Denot}) c.take_off.ensures
    ∙ sym (remove_entry-map (λ (n : ℕ). n) (arc_value {X = g.row.K.Denot} {Z = Global}) (λ n. n == c.args.number) c.self.inside.flights.items))
