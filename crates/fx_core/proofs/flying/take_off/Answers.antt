use Rattle.std.proofs.Common.{ℕ, ◌==◌, sym, ap, ◌∙◌, Global}
use Rattle.std.specs.List.{position}
use Rattle.std.specs.declared.sync.Arc.{Arc}
use Rattle.fx_core.proofs.Entries.{remove-at_place, remove_entry-no_place}
use Rattle.fx_core.proofs.flying.take_off.Goals as goal

pub returns-in-Some : goal.returns-in-Some
returns-in-Some g c =
    c.remove.ensures.items ∙ remove-at_place (λ n. n == c.args.number) c.args.flights.now.items c.in-Some.place
    (ap (position (λ (f : ℕ × Arc g.row.K.Denot Global). f.0 == c.args.number)) (sym c.as_slice.ensures.value) ∙ (sym c.place_of.ensures ∙ c.in-Some.is))

pub returns-in_default : goal.returns-in_default
returns-in_default g c =
    remove_entry-no_place (λ n. n == c.args.number) c.args.flights.now.items
    (ap (position (λ (f : ℕ × Arc g.row.K.Denot Global). f.0 == c.args.number)) (sym c.as_slice.ensures.value) ∙ (sym c.place_of.ensures ∙ c.in_default.is))
