use Rattle.std.proofs.Common.{◌∙◌, Option, Some, sym, subst, map, string_bytes, ap}
use Rattle.std.specs.Prelude.{OnOk}
use Rattle.std.proofs.lemmas.Result.{err_from_is_err_and}
use Rattle.fx_words.specs.Order.{order_of}
use Rattle.fx_words.specs.Ordered.{Ordered}
use Rattle.fx_words.specs.declared.order.Mode.TheVariants as mode
use Rattle.fx_modes.specs.Check.{HasChecked}
use Rattle.fx_modes.specs.Ended.{calls}
use Rattle.fx_modes.specs.Migrate.{Migration, HasMigrated, HasToldNodes}
use Rattle.fx_modes.specs.Plans.{HasPlanned}
use Rattle.fx_modes.specs.Run.{HasTold, IsAccepted}
use Rattle.fx_app.proofs.WordLemmas.{bench_number}
use Rattle.fx_app.proofs.EndedLemmas as end
use Rattle.fx_app.proofs.steps.outcome.Goals as goal

pub bench-requires-clause-number : goal.bench-requires-clause-number
bench-requires-clause-number g c κs within =
    bench_number (map string_bytes c.args.words.now) c.in_ok-order.order c.in_ok-order.ensures.ok
    (sym (ap (λ (o : Ordered). o.mode) c.order.view_is) ∙ c.in-Bench.is)

pub bench-requires-clause-in_mode : goal.bench-requires-clause-in_mode
bench-requires-clause-in_mode g c κs within = sym (ap (λ (o : Ordered). o.mode) c.order.view_is) ∙ c.in-Bench.is

pub check-requires : goal.check-requires
check-requires g c = sym (ap (λ (o : Ordered). o.mode) c.order.view_is) ∙ c.in-Check.is

pub returns-in-Render-clause-told : goal.returns-in-Render-clause-told
returns-in-Render-clause-told g c = λ render tells told.
    subst (λ (a : Option Ordered). OnOk c.render.result (HasTold a (g.L.Library.file c.args.library.now) (g.O.Sink.written c.args.out.now) (g.O.Sink.written c.render.new.out)))
    (sym c.in_ok-order.ensures.ok) (c.render.ensures.told tells told)

pub returns-in-Check-clause-check_told : goal.returns-in-Check-clause-check_told
returns-in-Check-clause-check_told g c = λ check tells told.
    subst (λ (a : Option Ordered). OnOk c.check.result (HasChecked a (g.L.Library.file c.args.library.now) (g.O.Sink.written c.args.out.now) (g.O.Sink.written c.check.new.out)))
    (sym c.in_ok-order.ensures.ok) (c.check.ensures.told tells told)

pub returns-in_err-order-clause-ended : goal.returns-in_err-order-clause-ended
returns-in_err-order-clause-ended g c =
    let L = g.L.Library in
    let D = g.D.Depot in
    let O = g.O.Sink in
    let asked = order_of (map string_bytes c.args.words.now) in
    let p = err_from_is_err_and c.from_residual.result c.from_residual.ensures.1 in
    rw (p.1, p.2) (end.words_ended asked (L.file c.args.library.now) (L.faults c.args.library.now) (D.faults c.args.depot.now)
    (L.last c.args.library.now) (D.last c.args.depot.now) (O.faults c.args.out.now) (D.file c.args.depot.now) (O.written c.args.out.now)
    c.in_err-order.field-0.0 c.in_err-order.ensures.err)

pub returns-in-Render-clause-ended : goal.returns-in-Render-clause-ended
returns-in-Render-clause-ended g c =
    let L = g.L.Library in
    let D = g.D.Depot in
    let O = g.O.Sink in
    let asked = order_of (map string_bytes c.args.words.now) in
    end.files_ended L.tells D.tells O.tells (L.file c.args.library.now)
    (calls (L.faults c.args.library.now) (L.faults c.render.new.library) (L.last c.args.library.now) (L.last c.render.new.library))
    (calls (D.faults c.args.depot.now) (D.faults c.render.new.depot) (D.last c.args.depot.now) (D.last c.render.new.depot))
    (O.faults c.args.out.now, O.faults c.render.new.out) (D.file c.args.depot.now, D.file c.render.new.depot) (O.written c.args.out.now, O.written c.render.new.out)
    c.render.result asked c.in_ok-order.order c.order.inside.mode c.in_ok-order.ensures.ok (sym (ap (λ (o : Ordered). o.mode) c.order.view_is)) c.in-Render.is c.render.ensures.ended

pub returns-in-Check-clause-ended : goal.returns-in-Check-clause-ended
returns-in-Check-clause-ended g c =
    let L = g.L.Library in
    let D = g.D.Depot in
    let O = g.O.Sink in
    let asked = order_of (map string_bytes c.args.words.now) in
    let ended = end.any_depot L.tells D.tells O.tells (Some c.in_ok-order.order) (L.file c.args.library.now)
    (calls (L.faults c.args.library.now) (L.faults c.check.new.library) (L.last c.args.library.now) (L.last c.check.new.library))
    (calls (D.faults c.args.depot.now) (D.faults c.args.depot.now) (D.last c.args.depot.now) (D.last c.args.depot.now))
    (O.faults c.args.out.now, O.faults c.check.new.out) (D.file c.args.depot.now, D.file c.args.depot.now) (O.written c.args.out.now, O.written c.check.new.out)
    mode.Check c.check.result (c.check.ensures.ended (D.file c.args.depot.now) (D.faults c.args.depot.now) (D.last c.args.depot.now)) in
    end.ended_in L.tells D.tells O.tells (L.file c.args.library.now)
    (calls (L.faults c.args.library.now) (L.faults c.check.new.library) (L.last c.args.library.now) (L.last c.check.new.library))
    (calls (D.faults c.args.depot.now) (D.faults c.args.depot.now) (D.last c.args.depot.now) (D.last c.args.depot.now))
    (O.faults c.args.out.now, O.faults c.check.new.out) (D.file c.args.depot.now, D.file c.args.depot.now) (O.written c.args.out.now, O.written c.check.new.out)
    c.check.result asked c.in_ok-order.order mode.Check c.in_ok-order.ensures.ok (sym (ap (λ (o : Ordered). o.mode) c.order.view_is) ∙ c.in-Check.is) ended

pub returns-in-Bench-clause-ended : goal.returns-in-Bench-clause-ended
returns-in-Bench-clause-ended g c =
    let L = g.L.Library in
    let D = g.D.Depot in
    let O = g.O.Sink in
    let asked = order_of (map string_bytes c.args.words.now) in
    let ended = end.any_outside L.tells D.tells O.tells (Some c.in_ok-order.order) (L.file c.args.library.now)
    (calls (L.faults c.args.library.now) (L.faults c.args.library.now) (L.last c.args.library.now) (L.last c.args.library.now))
    (calls (D.faults c.args.depot.now) (D.faults c.args.depot.now) (D.last c.args.depot.now) (D.last c.args.depot.now))
    (O.faults c.args.out.now, O.faults c.bench.new.out) (D.file c.args.depot.now, D.file c.args.depot.now) (O.written c.args.out.now, O.written c.bench.new.out)
    c.bench.result (c.bench.ensures.ended (L.file c.args.library.now) (D.file c.args.depot.now) (L.faults c.args.library.now) (D.faults c.args.depot.now)
    (L.last c.args.library.now) (D.last c.args.depot.now)) in
    end.ended_in L.tells D.tells O.tells (L.file c.args.library.now)
    (calls (L.faults c.args.library.now) (L.faults c.args.library.now) (L.last c.args.library.now) (L.last c.args.library.now))
    (calls (D.faults c.args.depot.now) (D.faults c.args.depot.now) (D.last c.args.depot.now) (D.last c.args.depot.now))
    (O.faults c.args.out.now, O.faults c.bench.new.out) (D.file c.args.depot.now, D.file c.args.depot.now) (O.written c.args.out.now, O.written c.bench.new.out)
    c.bench.result asked c.in_ok-order.order mode.Bench c.in_ok-order.ensures.ok (sym (ap (λ (o : Ordered). o.mode) c.order.view_is) ∙ c.in-Bench.is) ended

pub returns-in-Migrate-clause-ended : goal.returns-in-Migrate-clause-ended
returns-in-Migrate-clause-ended g c =
    let L = g.L.Library in
    let D = g.D.Depot in
    let O = g.O.Sink in
    let asked = order_of (map string_bytes c.args.words.now) in
    end.ended_in L.tells D.tells O.tells (L.file c.args.library.now)
    (calls (L.faults c.args.library.now) (L.faults c.migrate.new.library) (L.last c.args.library.now) (L.last c.migrate.new.library))
    (calls (D.faults c.args.depot.now) (D.faults c.migrate.new.depot) (D.last c.args.depot.now) (D.last c.migrate.new.depot))
    (O.faults c.args.out.now, O.faults c.migrate.new.out) (D.file c.args.depot.now, D.file c.migrate.new.depot) (O.written c.args.out.now, O.written c.migrate.new.out)
    c.migrate.result asked c.in_ok-order.order mode.Migrate c.in_ok-order.ensures.ok (sym (ap (λ (o : Ordered). o.mode) c.order.view_is) ∙ c.in-Migrate.is) c.migrate.ensures.ended

pub returns-in-Migrate-clause-migratable : goal.returns-in-Migrate-clause-migratable
returns-in-Migrate-clause-migratable g c = λ migrate tells.
    subst (λ (a : Option Ordered). OnOk c.migrate.result (Migration a (g.L.Library.file c.args.library.now)))
    (sym c.in_ok-order.ensures.ok) (c.migrate.ensures.accepted tells)

pub returns-in-Migrate-clause-migrated : goal.returns-in-Migrate-clause-migrated
returns-in-Migrate-clause-migrated g c = λ migrate tells put.
    subst (λ (a : Option Ordered). OnOk c.migrate.result (HasMigrated a (g.L.Library.file c.args.library.now) (g.D.Depot.file c.args.depot.now) (g.D.Depot.file c.migrate.new.depot)))
    (sym c.in_ok-order.ensures.ok) (c.migrate.ensures.migrated tells put)

pub returns-in-Migrate-clause-migrate_told : goal.returns-in-Migrate-clause-migrate_told
returns-in-Migrate-clause-migrate_told g c = λ migrate tells told.
    subst (λ (a : Option Ordered). OnOk c.migrate.result (HasToldNodes a (g.L.Library.file c.args.library.now) (g.O.Sink.written c.args.out.now) (g.O.Sink.written c.migrate.new.out)))
    (sym c.in_ok-order.ensures.ok) (c.migrate.ensures.told tells told)

pub plan-requires : goal.plan-requires
plan-requires g c = sym (ap (λ (o : Ordered). o.mode) c.order.view_is) ∙ c.in-Plan.is

pub returns-clause-ended : goal.returns-clause-ended
returns-clause-ended g c =
    let L = g.L.Library in
    let D = g.D.Depot in
    let O = g.O.Sink in
    let asked = order_of (map string_bytes c.args.words.now) in
    let ended = end.any_depot L.tells D.tells O.tells (Some c.in_ok-order.order) (L.file c.args.library.now)
    (calls (L.faults c.args.library.now) (L.faults c.plan.new.library) (L.last c.args.library.now) (L.last c.plan.new.library))
    (calls (D.faults c.args.depot.now) (D.faults c.args.depot.now) (D.last c.args.depot.now) (D.last c.args.depot.now))
    (O.faults c.args.out.now, O.faults c.plan.new.out) (D.file c.args.depot.now, D.file c.args.depot.now) (O.written c.args.out.now, O.written c.plan.new.out)
    mode.Plan c.plan.result (c.plan.ensures.ended (D.file c.args.depot.now) (D.faults c.args.depot.now) (D.last c.args.depot.now)) in
    end.ended_in L.tells D.tells O.tells (L.file c.args.library.now)
    (calls (L.faults c.args.library.now) (L.faults c.plan.new.library) (L.last c.args.library.now) (L.last c.plan.new.library))
    (calls (D.faults c.args.depot.now) (D.faults c.args.depot.now) (D.last c.args.depot.now) (D.last c.args.depot.now))
    (O.faults c.args.out.now, O.faults c.plan.new.out) (D.file c.args.depot.now, D.file c.args.depot.now) (O.written c.args.out.now, O.written c.plan.new.out)
    c.plan.result asked c.in_ok-order.order mode.Plan c.in_ok-order.ensures.ok (sym (ap (λ (o : Ordered). o.mode) c.order.view_is) ∙ c.in-Plan.is) ended

pub returns-clause-planned : goal.returns-clause-planned
returns-clause-planned g c = λ plan tells.
    subst (λ (a : Option Ordered). OnOk c.plan.result (IsAccepted a (g.L.Library.file c.args.library.now)))
    (sym c.in_ok-order.ensures.ok) (c.plan.ensures.accepted tells)

pub returns-clause-plan_told : goal.returns-clause-plan_told
returns-clause-plan_told g c = λ plan tells told.
    subst (λ (a : Option Ordered). OnOk c.plan.result (HasPlanned a (g.L.Library.file c.args.library.now) (g.O.Sink.written c.args.out.now) (g.O.Sink.written c.plan.new.out)))
    (sym c.in_ok-order.ensures.ok) (c.plan.ensures.told tells told)
