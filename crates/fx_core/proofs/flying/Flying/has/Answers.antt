use Rattle.std.proofs.Common.{ℕ, sym, ap, ◌∙◌, Global}
use Rattle.std.specs.List.{list_any}
use Rattle.std.specs.Arc.{arc_value}
use Rattle.std.specs.declared.sync.Arc.{Arc}
use Rattle.fx_core.proofs.Entries.{list_any-map}
use Rattle.fx_core.proofs.flying.Flying.has.Goals as goal

pub returns : goal.returns
returns g c =
    let same = g.K.PartialEq.eq (arc_value c.args.key.now) in
    rw (sym c.self.view_is) (c.any_flies.ensures
    ∙ (ap (list_any (λ (f : ℕ × Arc g.row.K.Denot Global). same (arc_value f.1))) c.as_slice.ensures.value
    ∙ sym (list_any-map (λ (f : ℕ × g.row.K.Denot). same f.1) (λ (f : ℕ × Arc g.row.K.Denot Global). (f.0, arc_value f.1)) c.self.inside.flights.items)))
