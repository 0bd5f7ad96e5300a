use Rattle.std.proofs.Common.{◌≡◌, ◌∙◌, ap, sym, subst, map}
use Rattle.std.specs.Prelude.{None, Ok}
use Rattle.std.specs.BTreeMap.{get_by_text}
use Rattle.std.proofs.lemmas.Result.{err_from_is_err_and}
use Rattle.fx_graph.specs.Refusal.{Tells}
use Rattle.fx_graph.specs.Shown.{shown, names_of}
use Rattle.fx_graph.specs.Uses.{connection}
use Rattle.fx_graph.specs.Nodes.{told_fault, use_of, place_of}
use Rattle.fx_graph.specs.Kept.{IsNode}
use Rattle.fx_graph.proofs.Keeping.{kept_node}
use Rattle.fx_graph.proofs.Using.{told_use, made_in, same_place}
use Rattle.fx_graph.proofs.effect.accept_in.Goals as goal

pub returns-in_err-check_use-clause-err : goal.returns-in_err-check_use-clause-err
returns-in_err-check_use-clause-err g c =
    let e = c.args.effect in
    let s = (g.E.ImageEffect.meaning e).shape in
    let before = map shown c.args.before.now in
    let k = c.args.context in
    let same = same_place c.args.places.now (names_of before) c.requires.index in
    let told : Tells (told_fault c.args.path.now (place_of (names_of before)) (s.clips k) (s.params k) c.args.clips.now c.args.params.now) c.in_err-check_use.field-0.0 =
    subst (λ place. Tells (told_fault c.args.path.now place (s.clips k) (s.params k) c.args.clips.now c.args.params.now) c.in_err-check_use.field-0.0) same
    (rw (c.in_ok-told.ensures.inputs, c.in_ok-told.ensures.params) at c.in_err-check_use.ensures.err) in
    let p = err_from_is_err_and c.from_residual-in_err-check_use.result c.from_residual-in_err-check_use.ensures.1 in
    rw (p.1, p.2) (told_use e s c.args.project before c.args.path.now c.args.name.now k c.args.clips.now c.args.params.now c.in_err-check_use.field-0.0 told)

pub make_use-requires-clause-lawful : goal.make_use-requires-clause-lawful
make_use-requires-clause-lawful g c =
    ((g.met.E.ImageEffect.laws c.args.effect).shape.contexts c.args.context c.requires.supported).params

pub returns-clause-ok : goal.returns-clause-ok
returns-clause-ok g c =
    let e = c.args.effect in
    let s = (g.E.ImageEffect.meaning e).shape in
    let before = map shown c.args.before.now in
    let k = c.args.context in
    let same = same_place c.args.places.now (names_of before) c.requires.index in
    let told : told_fault c.args.path.now (place_of (names_of before)) (s.clips k) (s.params k) c.args.clips.now c.args.params.now ≡ None =
    subst (λ place. told_fault c.args.path.now place (s.clips k) (s.params k) c.args.clips.now c.args.params.now ≡ None) same
    (rw (c.in_ok-told.ensures.inputs, c.in_ok-told.ensures.params) at c.in_ok-check_use.ensures.ok) in
    let made = subst (λ place. shown c.in_ok-make_use.field-0 ≡ use_of e s c.args.project before c.args.name.now k (map (connection place c.args.clips.now) (s.clips k)) c.args.params.now) same c.in_ok-make_use.ensures.made in
    made_in e s c.args.project before c.args.path.now c.args.name.now k c.args.clips.now c.args.params.now told ∙ ap Ok (sym made)

pub returns-clause-kept : goal.returns-clause-kept
returns-clause-kept g c =
    let m = g.E.ImageEffect.meaning in
    let e = c.args.effect in
    let s = (m e).shape in
    let before = map shown c.args.before.now in
    let k = c.args.context in
    let same = same_place c.args.places.now (names_of before) c.requires.index in
    let told : told_fault c.args.path.now (place_of (names_of before)) (s.clips k) (s.params k) c.args.clips.now c.args.params.now ≡ None =
    subst (λ place. told_fault c.args.path.now place (s.clips k) (s.params k) c.args.clips.now c.args.params.now ≡ None) same
    (rw (c.in_ok-told.ensures.inputs, c.in_ok-told.ensures.params) at c.in_ok-check_use.ensures.ok) in
    let made = subst (λ place. shown c.in_ok-make_use.field-0 ≡ use_of e s c.args.project before c.args.name.now k (map (connection place c.args.clips.now) (s.clips k)) c.args.params.now) same c.in_ok-make_use.ensures.made in
    subst (λ n. IsNode m c.args.project before n) (sym made)
    (kept_node m c.args.project before c.args.path.now c.args.name.now e k c.args.clips.now c.args.params.now c.requires.found told c.in_ok-make_use.ensures.sound)
