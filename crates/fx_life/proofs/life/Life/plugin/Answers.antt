use Rattle.std.proofs.Common.{sym, subst, ◌∙◌, rules}
use Rattle.std.specs.List.{Contains}
use Rattle.std.proofs.lemmas.Option.{slice_get_within, get_or_from_slice_get}
use Rattle.fx_life.proofs.LifeLemmas.{at_place, placed_at}
use Rattle.fx_life.proofs.life.Life.plugin.Goals as goal

pub index-requires : goal.index-requires
index-requires g c =
    let there = subst (λ v. Contains v.runs c.requires.0) (sym c.self.view_is) c.requires.1 in
    let places = c.self.inside.places.items in
    let at = at_place g.E.Catalogue.number_of c.self.inside.running.items places c.args.number c.requires.0
    c.self.invariant.0 there c.requires.2 in
    let within = slice_get_within places c.args.number at.0 at.1 in
    search (rules, within)

pub index-requires-2 : goal.index-requires-2
index-requires-2 g c =
    let there = subst (λ v. Contains v.runs c.requires.0) (sym c.self.view_is) c.requires.1 in
    let runs = c.self.inside.running.items in
    let place = c.index.result.now in
    let at = placed_at g.E.Catalogue.number_of runs c.self.inside.places.items c.args.number c.requires.0 place
    c.self.invariant.0 there c.requires.2 c.index.ensures in
    let within = slice_get_within runs place c.requires.0 at in
    search (rules, within)

pub returns : goal.returns
returns g c = λ run inside same.
    let there = subst (λ v. Contains v.runs run) (sym c.self.view_is) inside in
    let runs = c.self.inside.running.items in
    let place = c.index.result.now in
    let at = placed_at g.E.Catalogue.number_of runs c.self.inside.places.items c.args.number run place
    c.self.invariant.0 there same c.index.ensures in
    c.index-2.ensures ∙ get_or_from_slice_get runs place run c.index-2.result.now at
