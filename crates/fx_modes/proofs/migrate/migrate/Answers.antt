use Rattle.std.proofs.Common.{◌≡◌, ◌++◌, ◌∙◌, ap, subst, ℕ, List, string_bytes}
use Rattle.std.proofs.lemmas.Result.{err_from_is_err_and}
use Rattle.fx_outside.specs.Outside.{SameFiles}
use Rattle.fx_words.specs.Ordered.{Ordered}
use Rattle.fx_modes.specs.Files.{with_file}
use Rattle.fx_modes.specs.Migrate.{migrated_name}
use Rattle.fx_modes.specs.Steps.{GraphFetch, MigrationCause, IsMigrationOf}
use Rattle.fx_modes.proofs.MigrateLemmas as end
use Rattle.fx_modes.proofs.migrate.migrate.Goals as goal

pub returns-in_err-migration-clause-ended : goal.returns-in_err-migration-clause-ended
returns-in_err-migration-clause-ended g c =
    let at : c.order.inside.graph ≡ c.args.order.now.graph = ap (λ (o : Ordered). o.graph) c.order.view_is in
    let cause : g.L.Library.tells → MigrationCause (g.L.Library.file c.args.library.now) c.args.order.now.graph c.in_err-migration.field-0.0 = λ one.
    subst (λ (n : List ℕ). MigrationCause (g.L.Library.file c.args.library.now) n c.in_err-migration.field-0.0) at (c.in_err-migration.ensures.cause one) in
    let fetch : GraphFetch c.args.order.now.graph (g.L.Library.faults c.args.library.now) (g.L.Library.faults c.read_migration.new.library) (g.L.Library.last c.args.library.now) (g.L.Library.last c.read_migration.new.library) c.in_err-migration.field-0.0 =
    subst (λ (n : List ℕ). GraphFetch n (g.L.Library.faults c.args.library.now) (g.L.Library.faults c.read_migration.new.library) (g.L.Library.last c.args.library.now) (g.L.Library.last c.read_migration.new.library) c.in_err-migration.field-0.0) at c.in_err-migration.ensures.fetch in
    let p = err_from_is_err_and c.from_residual.result c.from_residual.ensures.1 in
    rw (p.1, p.2) (end.graph_ended c.args.order.now (g.L.Library.file c.args.library.now)
    (g.L.Library.faults c.args.library.now) (g.L.Library.faults c.read_migration.new.library) (g.L.Library.last c.args.library.now) (g.L.Library.last c.read_migration.new.library)
    (g.D.Depot.faults c.args.depot.now) (g.D.Depot.last c.args.depot.now) (g.O.Sink.faults c.args.out.now)
    (g.D.Depot.file c.args.depot.now) (g.O.Sink.written c.args.out.now) c.in_err-migration.field-0.0 cause fetch)

pub returns-in_err-report_lines-clause-ended : goal.returns-in_err-report_lines-clause-ended
returns-in_err-report_lines-clause-ended g c =
    let at : c.order.inside.graph ≡ c.args.order.now.graph = ap (λ (o : Ordered). o.graph) c.order.view_is in
    let migration : g.L.Library.tells → IsMigrationOf (g.L.Library.file c.args.library.now) c.args.order.now.graph c.in_ok-migration.migration.nodes (string_bytes c.in_ok-migration.migration.text) = λ one.
    subst (λ (n : List ℕ). IsMigrationOf (g.L.Library.file c.args.library.now) n c.in_ok-migration.migration.nodes (string_bytes c.in_ok-migration.migration.text)) at (c.in_ok-migration.ensures.ok one) in
    let gained : g.D.Depot.tells → SameFiles (with_file (migrated_name c.args.order.now.graph) (string_bytes c.in_ok-migration.migration.text) (g.D.Depot.file c.args.depot.now)) (g.D.Depot.file c.put_migrated.new.depot) = λ two.
    subst (λ (n : List ℕ). SameFiles (with_file (migrated_name n) (string_bytes c.in_ok-migration.migration.text) (g.D.Depot.file c.args.depot.now)) (g.D.Depot.file c.put_migrated.new.depot)) at (c.in_ok-put_migrated.ensures.ok two) in
    let p = err_from_is_err_and c.from_residual-in_err-report_lines.result c.from_residual-in_err-report_lines.ensures.1 in
    rw (p.1, p.2) (end.report_ended c.args.order.now (g.L.Library.file c.args.library.now) c.in_ok-migration.migration.nodes (string_bytes c.in_ok-migration.migration.text)
    (g.L.Library.faults c.args.library.now) (g.L.Library.faults c.read_migration.new.library) (g.L.Library.last c.args.library.now) (g.L.Library.last c.read_migration.new.library)
    (g.D.Depot.faults c.args.depot.now) (g.D.Depot.faults c.put_migrated.new.depot) (g.D.Depot.last c.args.depot.now) (g.D.Depot.last c.put_migrated.new.depot)
    (g.O.Sink.faults c.args.out.now) (g.O.Sink.faults c.report_lines.new.out) (g.D.Depot.file c.args.depot.now) (g.D.Depot.file c.put_migrated.new.depot)
    (g.O.Sink.written c.args.out.now) (g.O.Sink.written c.report_lines.new.out) c.in_err-report_lines.field-0.0
    migration c.in_ok-migration.ensures.quiet c.in_ok-put_migrated.ensures.quiet gained c.in_err-report_lines.ensures.rose
    (λ told. c.in_err-report_lines.ensures.leaves told))

pub returns-clause-accepted : goal.returns-clause-accepted
returns-clause-accepted g c = λ one.
    let at : c.order.inside.graph ≡ c.args.order.now.graph = ap (λ (o : Ordered). o.graph) c.order.view_is in
    end.ordered_migration c.args.order.now (g.L.Library.file c.args.library.now) c.in_ok-migration.migration.nodes (string_bytes c.in_ok-migration.migration.text)
    (subst (λ (n : List ℕ). IsMigrationOf (g.L.Library.file c.args.library.now) n c.in_ok-migration.migration.nodes (string_bytes c.in_ok-migration.migration.text)) at (c.in_ok-migration.ensures.ok one))

pub returns-clause-migrated : goal.returns-clause-migrated
returns-clause-migrated g c = λ one two.
    let at : c.order.inside.graph ≡ c.args.order.now.graph = ap (λ (o : Ordered). o.graph) c.order.view_is in
    end.has_migrated c.args.order.now (g.L.Library.file c.args.library.now) (g.D.Depot.file c.args.depot.now) (g.D.Depot.file c.put_migrated.new.depot)
    c.in_ok-migration.migration.nodes (string_bytes c.in_ok-migration.migration.text)
    (subst (λ (n : List ℕ). IsMigrationOf (g.L.Library.file c.args.library.now) n c.in_ok-migration.migration.nodes (string_bytes c.in_ok-migration.migration.text)) at (c.in_ok-migration.ensures.ok one))
    (subst (λ (n : List ℕ). SameFiles (with_file (migrated_name n) (string_bytes c.in_ok-migration.migration.text) (g.D.Depot.file c.args.depot.now)) (g.D.Depot.file c.put_migrated.new.depot)) at (c.in_ok-put_migrated.ensures.ok two))

pub returns-clause-told : goal.returns-clause-told
returns-clause-told g c = λ one told.
    let at : c.order.inside.graph ≡ c.args.order.now.graph = ap (λ (o : Ordered). o.graph) c.order.view_is in
    let migration : IsMigrationOf (g.L.Library.file c.args.library.now) c.args.order.now.graph c.in_ok-migration.migration.nodes (string_bytes c.in_ok-migration.migration.text) =
    subst (λ (n : List ℕ). IsMigrationOf (g.L.Library.file c.args.library.now) n c.in_ok-migration.migration.nodes (string_bytes c.in_ok-migration.migration.text)) at (c.in_ok-migration.ensures.ok one) in (
      end.ordered_migration c.args.order.now (g.L.Library.file c.args.library.now) c.in_ok-migration.migration.nodes (string_bytes c.in_ok-migration.migration.text) migration,
      c.in_ok-report_lines.ensures.ok told
          ∙ ap (λ text. g.O.Sink.written c.args.out.now ++ text) (end.report_is c.args.order.now (g.L.Library.file c.args.library.now) c.in_ok-migration.migration.nodes (string_bytes c.in_ok-migration.migration.text) migration),
    )
