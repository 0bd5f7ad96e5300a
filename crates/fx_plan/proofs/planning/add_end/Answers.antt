use Rattle.std.proofs.Common.{◌≡◌, ◌∷◌, [], sym, ap, subst, rules, w64, All}
use Rattle.std.proofs.lemmas.Int.{to_z-of_z}
use Rattle.std.proofs.lemmas.List.Elements.{All-cons, All-nil}
use mir.Val.{SFits}
use Rattle.fx_base.specs.Bounds.{IsRect}
use Rattle.fx_region.specs.Ends.{end_shown}
use Rattle.fx_region.specs.declared.ends.End.{End}
use Rattle.fx_plan.specs.declared.entry.Entry.{Entry}
use Rattle.fx_plan.specs.Keys.{Adds, HasRect, entry_of, key_of}
use Rattle.fx_plan.specs.Plan.{entry_at}
use Rattle.fx_plan.proofs.KeyLemmas.{adds_one}
use Rattle.fx_plan.proofs.planning.add_end.Goals as goal

pub returns-in_ok-insert-in-Render-clause-added : goal.returns-in_ok-insert-in-Render-clause-added
returns-in_ok-insert-in-Render-clause-added c =
    let r = c.in-Render in
    let old = c.args.pending.now in
    let new = c.insert.new.self in
    let fits : SFits w64 r.frame = search rules in
    let entry : Entry = record { node = r.node; frame = r.frame; region = r.region } in
    let key : c.of.result ≡ key_of entry = simp to_z-of_z at c.of.ensures.key in
    let one = adds_one old new c.of.result c.in_ok-insert-in-Render.ensures.updates in
    subst (λ (e : End). Adds (entry_at (end_shown e)) old new) (sym r.is)
    (subst (λ (e : Entry). Adds (e ∷ []) old new) (ap entry_of key) one)

pub returns-in_ok-insert-in-Render-clause-rects : goal.returns-in_ok-insert-in-Render-clause-rects
returns-in_ok-insert-in-Render-clause-rects c =
    let r = c.in-Render in
    let entry : Entry = record { node = r.node; frame = r.frame; region = r.region } in
    let rect : IsRect r.region = c.of.ensures.rect in
    subst (λ (e : End). All HasRect (entry_at (end_shown e))) (sym r.is) (All-cons HasRect entry [] rect (All-nil HasRect))

pub returns-in_err-insert-in-Render-clause-rects : goal.returns-in_err-insert-in-Render-clause-rects
returns-in_err-insert-in-Render-clause-rects c =
    let r = c.in-Render in
    let entry : Entry = record { node = r.node; frame = r.frame; region = r.region } in
    let rect : IsRect r.region = c.of.ensures.rect in
    subst (λ (e : End). All HasRect (entry_at (end_shown e))) (sym r.is) (All-cons HasRect entry [] rect (All-nil HasRect))
