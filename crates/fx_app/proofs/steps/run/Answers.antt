use Rattle.std.proofs.Common.{◌⊎◌, ◌≡◌, ℕ, suc, arith, inl, inr, map, refl, string_bytes}
use Rattle.fx_words.specs.declared.order.Mode.TheVariants.{Check, Bench, Migrate, Plan}
use Rattle.fx_words.specs.Order.{order_of}
use Rattle.fx_modes.proofs.StepsLemmas.{only_memory, ends_by_memory}
use Rattle.fx_modes.proofs.MigrateLemmas as migrate
use Rattle.fx_app.proofs.ModeLemmas as mode
use Rattle.fx_modes.proofs.PlanLemmas as plan
use Rattle.fx_app.proofs.steps.run.Goals as goal

pub returns-in-Ok-clause-accepted : goal.returns-in-Ok-clause-accepted
returns-in-Ok-clause-accepted g c = λ render told done. c.in-Ok.ensures.accepted render told

pub returns-in-Ok-clause-frames : goal.returns-in-Ok-clause-frames
returns-in-Ok-clause-frames g c = λ render told tells done. c.in-Ok.ensures.done render told tells

pub returns-in-Ok-clause-reports : goal.returns-in-Ok-clause-reports
returns-in-Ok-clause-reports g c = λ render told tells done. c.in-Ok.ensures.told render told tells

pub returns-in-Ok-clause-checked : goal.returns-in-Ok-clause-checked
returns-in-Ok-clause-checked g c = λ check told done. c.in-Ok.ensures.checked check told

pub returns-in-Ok-clause-check_reports : goal.returns-in-Ok-clause-check_reports
returns-in-Ok-clause-check_reports g c = λ check told tells done. c.in-Ok.ensures.check_told check told tells

pub returns-in-Ok-clause-benched : goal.returns-in-Ok-clause-benched
returns-in-Ok-clause-benched g c = λ bench done. c.in-Ok.ensures.benched bench

pub returns-in-Ok-clause-bench_reports : goal.returns-in-Ok-clause-bench_reports
returns-in-Ok-clause-bench_reports g c = λ bench tells done. c.in-Ok.ensures.bench_told bench tells

-- ---- at status 0: each of these turns on the number alone, and is answered here so that a wrong one is refused at once

all_done : (status : ℕ) → status ≡ 0 → (status ≡ 0) ⊎ (status ≡ 6)
all_done status is = inl is

no_other : {A : Type 0} (n status : ℕ) → n ≡ 0 → n ≡ suc status → A
no_other n status none other = absurd (omega (arith, none, other))

pub returns-in-Ok-clause-completes : goal.returns-in-Ok-clause-completes
returns-in-Ok-clause-completes g c = λ render told known fetched wrote reported. all_done 0 refl

pub returns-in-Ok-clause-check_completes : goal.returns-in-Ok-clause-check_completes
returns-in-Ok-clause-check_completes g c = λ check told job fetched reported. all_done 0 refl

pub returns-in-Ok-clause-bench_completes : goal.returns-in-Ok-clause-bench_completes
returns-in-Ok-clause-bench_completes g c = λ bench known reported. all_done 0 refl

pub returns-in-Ok-clause-migrate_completes : goal.returns-in-Ok-clause-migrate_completes
returns-in-Ok-clause-migrate_completes g c = λ migrates told known fetched wrote reported. all_done 0 refl

pub returns-in-Ok-clause-plan_completes : goal.returns-in-Ok-clause-plan_completes
returns-in-Ok-clause-plan_completes g c = λ plans told known fetched reported. all_done 0 refl

pub returns-in-Ok-clause-ends : goal.returns-in-Ok-clause-ends
returns-in-Ok-clause-ends g c = λ failed. absurd (failed refl)

pub returns-in-Ok-clause-causes_usage : goal.returns-in-Ok-clause-causes_usage
returns-in-Ok-clause-causes_usage g c = no_other 0 0 refl

pub returns-in-Ok-clause-causes_read : goal.returns-in-Ok-clause-causes_read
returns-in-Ok-clause-causes_read g c = no_other 0 3 refl

pub returns-in-Ok-clause-causes_write : goal.returns-in-Ok-clause-causes_write
returns-in-Ok-clause-causes_write g c = no_other 0 4 refl

pub returns-in-Ok-clause-causes_report : goal.returns-in-Ok-clause-causes_report
returns-in-Ok-clause-causes_report g c = no_other 0 6 refl

pub returns-in-Ok-clause-check_statuses : goal.returns-in-Ok-clause-check_statuses
returns-in-Ok-clause-check_statuses g c = λ check. (no_other 0 2 refl, no_other 0 4 refl)

pub returns-in-Ok-clause-check_reads : goal.returns-in-Ok-clause-check_reads
returns-in-Ok-clause-check_reads g c = λ check. no_other 0 3 refl

pub returns-in-Ok-clause-bench_statuses : goal.returns-in-Ok-clause-bench_statuses
returns-in-Ok-clause-bench_statuses g c = λ bench. (no_other 0 3 refl, no_other 0 4 refl)

pub returns-in-Ok-clause-migrate_statuses : goal.returns-in-Ok-clause-migrate_statuses
returns-in-Ok-clause-migrate_statuses g c = λ migrates. no_other 0 2 refl

pub returns-in-Ok-clause-migrate_reads : goal.returns-in-Ok-clause-migrate_reads
returns-in-Ok-clause-migrate_reads g c = λ migrates. no_other 0 3 refl

pub returns-in-Ok-clause-plan_statuses : goal.returns-in-Ok-clause-plan_statuses
returns-in-Ok-clause-plan_statuses g c = λ plans. no_other 0 4 refl

pub returns-in-Ok-clause-refuses_graph : goal.returns-in-Ok-clause-refuses_graph
returns-in-Ok-clause-refuses_graph g c = λ other told bad fetched.
    absurd (mode.not_refused g.L.Library.tells (order_of (map string_bytes c.args.words.now)) (g.L.Library.file c.args.library.now) other told bad
    c.in-Ok.ensures.accepted c.in-Ok.ensures.checked c.in-Ok.ensures.migratable c.in-Ok.ensures.planned)

pub returns-in-Err-clause-completes : goal.returns-in-Err-clause-completes
returns-in-Err-clause-completes g c = λ render told known fetched wrote reported.
    let library = g.L.Library in
    let depot = g.D.Depot in
    let sink = g.O.Sink in
    ends_by_memory c.tell.result c.in-Err.fault c.tell.ensures.status
    (only_memory (order_of (map string_bytes c.args.words.now)) (library.file c.args.library.now) c.in-Err.ensures.ended.moment
    (library.faults c.args.library.now, library.faults c.outcome.new.library, library.last c.outcome.new.library)
    (depot.faults c.args.depot.now, depot.faults c.outcome.new.depot, depot.last c.outcome.new.depot)
    (sink.faults c.args.out.now, sink.faults c.outcome.new.out)
    c.in-Err.fault known (mode.cause_of_files library.tells (order_of (map string_bytes c.args.words.now)) (library.file c.args.library.now) c.in-Err.ensures.ended.moment c.in-Err.fault render c.in-Err.ensures.ended.cause told)
    c.in-Err.ensures.ended.rose fetched wrote reported)

pub returns-in-Err-clause-check_completes : goal.returns-in-Err-clause-check_completes
returns-in-Err-clause-check_completes g c = λ check told job fetched reported.
    let library = g.L.Library in
    let depot = g.D.Depot in
    let sink = g.O.Sink in
    ends_by_memory c.tell.result c.in-Err.fault c.tell.ensures.status
    (mode.only_check_memory library.tells (order_of (map string_bytes c.args.words.now)) (library.file c.args.library.now)
    (library.faults c.args.library.now, library.faults c.outcome.new.library, library.last c.outcome.new.library)
    (depot.faults c.args.depot.now, depot.faults c.outcome.new.depot, depot.last c.outcome.new.depot)
    (sink.faults c.args.out.now, sink.faults c.outcome.new.out)
    c.in-Err.fault told job (mode.cause_at Check library.tells (order_of (map string_bytes c.args.words.now)) (library.file c.args.library.now) c.in-Err.ensures.ended.moment c.in-Err.fault check c.in-Err.ensures.ended.cause)
    c.in-Err.ensures.ended.rose fetched reported)

pub returns-in-Err-clause-check_statuses : goal.returns-in-Err-clause-check_statuses
returns-in-Err-clause-check_statuses g c = λ check.
    let library = g.L.Library in
    mode.check_answers library.tells (order_of (map string_bytes c.args.words.now)) (library.file c.args.library.now) c.tell.result c.in-Err.fault c.tell.ensures.status
    (mode.cause_at Check library.tells (order_of (map string_bytes c.args.words.now)) (library.file c.args.library.now) c.in-Err.ensures.ended.moment c.in-Err.fault check c.in-Err.ensures.ended.cause)

pub returns-in-Err-clause-check_reads : goal.returns-in-Err-clause-check_reads
returns-in-Err-clause-check_reads g c = λ check four.
    let library = g.L.Library in
    let depot = g.D.Depot in
    let sink = g.O.Sink in
    mode.check_read library.tells (order_of (map string_bytes c.args.words.now)) (library.file c.args.library.now)
    (library.faults c.args.library.now) (library.faults c.outcome.new.library) (library.last c.outcome.new.library)
    (depot.faults c.args.depot.now, depot.faults c.outcome.new.depot, depot.last c.outcome.new.depot)
    (sink.faults c.args.out.now, sink.faults c.outcome.new.out)
    c.tell.result c.in-Err.fault c.tell.ensures.status
    (mode.cause_at Check library.tells (order_of (map string_bytes c.args.words.now)) (library.file c.args.library.now) c.in-Err.ensures.ended.moment c.in-Err.fault check c.in-Err.ensures.ended.cause) c.in-Err.ensures.ended.rose four

pub returns-in-Err-clause-bench_completes : goal.returns-in-Err-clause-bench_completes
returns-in-Err-clause-bench_completes g c = λ bench known reported.
    let library = g.L.Library in
    let depot = g.D.Depot in
    let sink = g.O.Sink in
    ends_by_memory c.tell.result c.in-Err.fault c.tell.ensures.status
    (mode.only_bench_memory (order_of (map string_bytes c.args.words.now)) c.in-Err.ensures.ended.moment
    (library.faults c.args.library.now, library.faults c.outcome.new.library, library.last c.outcome.new.library)
    (depot.faults c.args.depot.now, depot.faults c.outcome.new.depot, depot.last c.outcome.new.depot)
    (sink.faults c.args.out.now, sink.faults c.outcome.new.out)
    c.in-Err.fault known (mode.cause_at Bench library.tells (order_of (map string_bytes c.args.words.now)) (library.file c.args.library.now) c.in-Err.ensures.ended.moment c.in-Err.fault bench c.in-Err.ensures.ended.cause)
    c.in-Err.ensures.ended.rose reported)

pub returns-in-Err-clause-bench_statuses : goal.returns-in-Err-clause-bench_statuses
returns-in-Err-clause-bench_statuses g c = λ bench.
    let library = g.L.Library in
    mode.bench_answers (order_of (map string_bytes c.args.words.now)) c.in-Err.ensures.ended.moment c.tell.result c.in-Err.fault c.tell.ensures.status
    (mode.cause_at Bench library.tells (order_of (map string_bytes c.args.words.now)) (library.file c.args.library.now) c.in-Err.ensures.ended.moment c.in-Err.fault bench c.in-Err.ensures.ended.cause)

pub returns-in-Err-clause-refuses_graph : goal.returns-in-Err-clause-refuses_graph
returns-in-Err-clause-refuses_graph g c = λ other told bad fetched.
    let library = g.L.Library in
    let depot = g.D.Depot in
    let sink = g.O.Sink in
    mode.refused_answers library.tells (order_of (map string_bytes c.args.words.now)) (library.file c.args.library.now) c.in-Err.ensures.ended.moment
    (library.faults c.args.library.now, library.faults c.outcome.new.library, library.last c.outcome.new.library)
    (depot.faults c.args.depot.now, depot.faults c.outcome.new.depot, depot.last c.outcome.new.depot)
    (sink.faults c.args.out.now, sink.faults c.outcome.new.out)
    c.tell.result c.in-Err.fault c.tell.ensures.status other told bad c.in-Err.ensures.ended.cause c.in-Err.ensures.ended.rose fetched

pub returns-in-Ok-clause-migratable : goal.returns-in-Ok-clause-migratable
returns-in-Ok-clause-migratable g c = λ migrates told done. c.in-Ok.ensures.migratable migrates told

pub returns-in-Ok-clause-migrated : goal.returns-in-Ok-clause-migrated
returns-in-Ok-clause-migrated g c = λ migrates told put done. c.in-Ok.ensures.migrated migrates told put

pub returns-in-Ok-clause-migrate_reports : goal.returns-in-Ok-clause-migrate_reports
returns-in-Ok-clause-migrate_reports g c = λ migrates told tells done. c.in-Ok.ensures.migrate_told migrates told tells

pub returns-in-Ok-clause-refuses_slash : goal.returns-in-Ok-clause-refuses_slash
returns-in-Ok-clause-refuses_slash g c = λ migrates told bad fetched.
    absurd (migrate.not_bad (order_of (map string_bytes c.args.words.now)) (g.L.Library.file c.args.library.now)
    (c.in-Ok.ensures.migratable migrates told) (inr bad))

pub returns-in-Err-clause-migrate_completes : goal.returns-in-Err-clause-migrate_completes
returns-in-Err-clause-migrate_completes g c = λ migrates told known fetched wrote reported.
    let library = g.L.Library in
    let depot = g.D.Depot in
    let sink = g.O.Sink in
    ends_by_memory c.tell.result c.in-Err.fault c.tell.ensures.status
    (migrate.only_migrate_memory library.tells (order_of (map string_bytes c.args.words.now)) (library.file c.args.library.now)
    (library.faults c.args.library.now, library.faults c.outcome.new.library, library.last c.outcome.new.library)
    (depot.faults c.args.depot.now, depot.faults c.outcome.new.depot, depot.last c.outcome.new.depot)
    (sink.faults c.args.out.now, sink.faults c.outcome.new.out)
    c.in-Err.fault told known (mode.cause_at Migrate library.tells (order_of (map string_bytes c.args.words.now)) (library.file c.args.library.now) c.in-Err.ensures.ended.moment c.in-Err.fault migrates c.in-Err.ensures.ended.cause)
    c.in-Err.ensures.ended.rose fetched wrote reported)

pub returns-in-Err-clause-migrate_statuses : goal.returns-in-Err-clause-migrate_statuses
returns-in-Err-clause-migrate_statuses g c = λ migrates.
    let library = g.L.Library in
    migrate.migrate_answers library.tells (order_of (map string_bytes c.args.words.now)) (library.file c.args.library.now) c.tell.result c.in-Err.fault c.tell.ensures.status
    (mode.cause_at Migrate library.tells (order_of (map string_bytes c.args.words.now)) (library.file c.args.library.now) c.in-Err.ensures.ended.moment c.in-Err.fault migrates c.in-Err.ensures.ended.cause)

pub returns-in-Err-clause-migrate_reads : goal.returns-in-Err-clause-migrate_reads
returns-in-Err-clause-migrate_reads g c = λ migrates four.
    let library = g.L.Library in
    let depot = g.D.Depot in
    let sink = g.O.Sink in
    migrate.migrate_read library.tells (order_of (map string_bytes c.args.words.now)) (library.file c.args.library.now) c.tell.result c.in-Err.fault
    (library.faults c.args.library.now) (library.faults c.outcome.new.library) (library.last c.outcome.new.library)
    (depot.faults c.args.depot.now, depot.faults c.outcome.new.depot, depot.last c.outcome.new.depot)
    (sink.faults c.args.out.now, sink.faults c.outcome.new.out) c.tell.ensures.status
    (mode.cause_at Migrate library.tells (order_of (map string_bytes c.args.words.now)) (library.file c.args.library.now) c.in-Err.ensures.ended.moment c.in-Err.fault migrates c.in-Err.ensures.ended.cause)
    c.in-Err.ensures.ended.rose four

pub returns-in-Err-clause-refuses_slash : goal.returns-in-Err-clause-refuses_slash
returns-in-Err-clause-refuses_slash g c = λ migrates told bad fetched.
    let library = g.L.Library in
    let depot = g.D.Depot in
    let sink = g.O.Sink in
    migrate.slash_answers library.tells (order_of (map string_bytes c.args.words.now)) (library.file c.args.library.now) c.tell.result c.in-Err.fault
    (library.faults c.args.library.now, library.faults c.outcome.new.library, library.last c.outcome.new.library)
    (depot.faults c.args.depot.now, depot.faults c.outcome.new.depot, depot.last c.outcome.new.depot)
    (sink.faults c.args.out.now, sink.faults c.outcome.new.out) c.tell.ensures.status told bad
    (mode.cause_at Migrate library.tells (order_of (map string_bytes c.args.words.now)) (library.file c.args.library.now) c.in-Err.ensures.ended.moment c.in-Err.fault migrates c.in-Err.ensures.ended.cause)
    c.in-Err.ensures.ended.rose fetched

pub returns-in-Ok-clause-planned : goal.returns-in-Ok-clause-planned
returns-in-Ok-clause-planned g c = λ plans told done. c.in-Ok.ensures.planned plans told

pub returns-in-Ok-clause-plan_reports : goal.returns-in-Ok-clause-plan_reports
returns-in-Ok-clause-plan_reports g c = λ plans told tells done. c.in-Ok.ensures.plan_told plans told tells

pub returns-in-Err-clause-plan_statuses : goal.returns-in-Err-clause-plan_statuses
returns-in-Err-clause-plan_statuses g c = λ plans.
    let library = g.L.Library in
    plan.plan_answers library.tells (order_of (map string_bytes c.args.words.now)) (library.file c.args.library.now) c.in-Err.ensures.ended.moment c.tell.result c.in-Err.fault c.tell.ensures.status
    (mode.cause_at Plan library.tells (order_of (map string_bytes c.args.words.now)) (library.file c.args.library.now) c.in-Err.ensures.ended.moment c.in-Err.fault plans c.in-Err.ensures.ended.cause)

pub returns-in-Err-clause-plan_completes : goal.returns-in-Err-clause-plan_completes
returns-in-Err-clause-plan_completes g c = λ plans told known fetched reported.
    let library = g.L.Library in
    let depot = g.D.Depot in
    let sink = g.O.Sink in
    ends_by_memory c.tell.result c.in-Err.fault c.tell.ensures.status
    (plan.only_plan_memory library.tells (order_of (map string_bytes c.args.words.now)) (library.file c.args.library.now) c.in-Err.ensures.ended.moment
    (library.faults c.args.library.now, library.faults c.outcome.new.library, library.last c.outcome.new.library)
    (depot.faults c.args.depot.now, depot.faults c.outcome.new.depot, depot.last c.outcome.new.depot)
    (sink.faults c.args.out.now, sink.faults c.outcome.new.out)
    c.in-Err.fault told known (mode.cause_at Plan library.tells (order_of (map string_bytes c.args.words.now)) (library.file c.args.library.now) c.in-Err.ensures.ended.moment c.in-Err.fault plans c.in-Err.ensures.ended.cause)
    c.in-Err.ensures.ended.rose fetched reported)
