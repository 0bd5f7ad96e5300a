-- From the mode to what is said of it.
use Rattle.std.proofs.Common.{◌≡◌, ◌≢◌, ◌⊎◌, inl, inr, arith, ℕ, List, [], Option, Some, None, refl, sym, ap, subst, ◌∙◌}
use Rattle.std.proofs.lemmas.Option.{none-some}
use Rattle.fx_outside.specs.Outside.{Files, HasRisen}
use Rattle.fx_words.specs.Ordered.{Ordered}
use Rattle.fx_words.specs.declared.order.Mode.{Mode}
use Rattle.fx_words.specs.declared.order.Mode.TheVariants.{Render, Check, Bench, Migrate, Takes, Plan}
use Rattle.fx_words.specs.declared.fault.RunFault.{RunFault}
use Rattle.fx_words.specs.declared.fault.RunFault.TheVariants as run
use Rattle.fx_app.specs.Words.{mode_in}
use Rattle.fx_modes.specs.Texts.{status_of}
use Rattle.fx_modes.specs.Bench.{made_for, BenchCause}
use Rattle.fx_modes.specs.Check.{CheckCause}
use Rattle.fx_modes.specs.Run.{Job, IsAccepted, NamesNoGraph, Cause, Rose}
use Rattle.fx_modes.specs.Modes.{CauseIn}
use Rattle.fx_modes.specs.Migrate.{Migration}
use Rattle.fx_modes.proofs.MigrateLemmas.{refused_migrate, not_bad}
use Rattle.fx_modes.proofs.PlanLemmas.{render_cause}
use Rattle.fx_modes.proofs.StepsLemmas.{refused_not, only_memory}

-- ---- a check

-- where the graph is accepted and no count rose, want of memory alone ends a check
pub only_check_memory : (tells : Type 0) (asked : Option Ordered) (library : Files) (fetches puts : ℕ × ℕ × List ℕ) (out : ℕ × ℕ)
    (e : RunFault) → tells → Job asked library → CheckCause tells asked library e → Rose fetches puts out e
    → (HasRisen fetches.0 fetches.1 → ⊥) → (HasRisen out.0 out.1 → ⊥) → status_of e ≡ 6
only_check_memory tells asked library fetches puts out run.Usage told job cause rose fetched wrote =
    absurd (none-some job.order (sym cause ∙ job.ordered))
only_check_memory tells asked library fetches puts out (run.Graph code path) told job cause rose fetched wrote =
    absurd (refused_not asked library job (code, path, cause told))
only_check_memory tells asked library fetches puts out (run.Frame node t why) told job cause rose fetched wrote = absurd cause
only_check_memory tells asked library fetches puts out (run.Read name) told job cause rose fetched wrote = absurd (fetched rose.0)
only_check_memory tells asked library fetches puts out (run.Write name) told job cause rose fetched wrote = absurd cause
only_check_memory tells asked library fetches puts out run.Memory told job cause rose fetched wrote = refl
only_check_memory tells asked library fetches puts out run.Report told job cause rose fetched wrote = absurd (wrote rose)

-- a check has no status 3 and no 5
check_status : (tells : Type 0) (asked : Option Ordered) (library : Files) (e : RunFault) → CheckCause tells asked library e
    → (status_of e ≢ 3) × (status_of e ≢ 5)
check_status tells asked library run.Usage cause = ((λ is. omega (arith, is)), (λ is. omega (arith, is)))
check_status tells asked library (run.Graph code path) cause = ((λ is. omega (arith, is)), (λ is. omega (arith, is)))
check_status tells asked library (run.Frame node t why) cause = absurd cause
check_status tells asked library (run.Read name) cause = ((λ is. omega (arith, is)), (λ is. omega (arith, is)))
check_status tells asked library (run.Write name) cause = absurd cause
check_status tells asked library run.Memory cause = ((λ is. omega (arith, is)), (λ is. omega (arith, is)))
check_status tells asked library run.Report cause = ((λ is. omega (arith, is)), (λ is. omega (arith, is)))

abbrev pub Answers : ℕ → RunFault → Type 0
Answers status e = (status ≡ status_of e) ⊎ (status ≡ 6)

pub check_answers : (tells : Type 0) (asked : Option Ordered) (library : Files) (status : ℕ) (e : RunFault) → Answers status e
    → CheckCause tells asked library e → (status ≢ 3) × (status ≢ 5)
check_answers tells asked library status e (inl is) cause =
    let not = check_status tells asked library e cause in ((λ three. not.0 (sym is ∙ three)), (λ five. not.1 (sym is ∙ five)))
check_answers tells asked library status e (inr is) cause = ((λ three. omega (arith, is, three)), (λ five. omega (arith, is, five)))

-- at status 4 of a check the graph was not read
check_reads : (tells : Type 0) (asked : Option Ordered) (library : Files) (before now : ℕ) (last : List ℕ) (puts : ℕ × ℕ × List ℕ)
    (out : ℕ × ℕ) (e : RunFault) → status_of e ≡ 4 → CheckCause tells asked library e → Rose (before, now, last) puts out e
    → (order : Ordered) × (asked ≡ Some order) × (last ≡ order.graph)
check_reads tells asked library before now last puts out run.Usage four cause rose = absurd (omega (arith, four))
check_reads tells asked library before now last puts out (run.Graph code path) four cause rose = absurd (omega (arith, four))
check_reads tells asked library before now last puts out (run.Frame node t why) four cause rose = absurd cause
check_reads tells asked library before now last puts out (run.Read name) four cause rose = (cause.0, cause.1, rose.1 ∙ sym cause.2)
check_reads tells asked library before now last puts out (run.Write name) four cause rose = absurd cause
check_reads tells asked library before now last puts out run.Memory four cause rose = absurd (omega (arith, four))
check_reads tells asked library before now last puts out run.Report four cause rose = absurd (omega (arith, four))

pub check_read : (tells : Type 0) (asked : Option Ordered) (library : Files) (before now : ℕ) (last : List ℕ) (puts : ℕ × ℕ × List ℕ)
    (out : ℕ × ℕ) (status : ℕ) (e : RunFault) → Answers status e → CheckCause tells asked library e → Rose (before, now, last) puts out e
    → status ≡ 4 → (order : Ordered) × (asked ≡ Some order) × (last ≡ order.graph)
check_read tells asked library before now last puts out status e (inl is) cause rose four =
    check_reads tells asked library before now last puts out e (sym is ∙ four) cause rose
check_read tells asked library before now last puts out status e (inr is) cause rose four = absurd (omega (arith, is, four))

-- ---- a bench

never : HasRisen 0 0 → ⊥
never (inl low) = omega (arith, low)
never (inr high) = omega (arith, high)

abbrev none : ℕ × ℕ × List ℕ
none = (0, 0, [])

-- where what is made is accepted and the report's count did not rise, want of memory alone ends a bench
pub only_bench_memory : (asked : Option Ordered) (j : ℕ) (library puts : ℕ × ℕ × List ℕ) (out : ℕ × ℕ) (e : RunFault)
    → IsAccepted asked (made_for asked) → BenchCause asked j e → Rose library puts out e → (HasRisen out.0 out.1 → ⊥) → status_of e ≡ 6
only_bench_memory asked j library puts out run.Usage known cause rose told =
    only_memory asked (made_for asked) j none none out run.Usage known cause tt never never told
only_bench_memory asked j library puts out (run.Graph code path) known cause rose told =
    only_memory asked (made_for asked) j none none out (run.Graph code path) known cause tt never never told
only_bench_memory asked j library puts out (run.Frame node t why) known cause rose told =
    only_memory asked (made_for asked) j none none out (run.Frame node t why) known cause tt never never told
only_bench_memory asked j library puts out (run.Read name) known cause rose told = absurd cause
only_bench_memory asked j library puts out (run.Write name) known cause rose told = absurd cause
only_bench_memory asked j library puts out run.Memory known cause rose told = refl
only_bench_memory asked j library puts out run.Report known cause rose told = absurd (told rose)

bench_status : (asked : Option Ordered) (j : ℕ) (e : RunFault) → BenchCause asked j e → (status_of e ≢ 4) × (status_of e ≢ 5)
bench_status asked j run.Usage cause = ((λ is. omega (arith, is)), (λ is. omega (arith, is)))
bench_status asked j (run.Graph code path) cause = ((λ is. omega (arith, is)), (λ is. omega (arith, is)))
bench_status asked j (run.Frame node t why) cause = ((λ is. omega (arith, is)), (λ is. omega (arith, is)))
bench_status asked j (run.Read name) cause = absurd cause
bench_status asked j (run.Write name) cause = absurd cause
bench_status asked j run.Memory cause = ((λ is. omega (arith, is)), (λ is. omega (arith, is)))
bench_status asked j run.Report cause = ((λ is. omega (arith, is)), (λ is. omega (arith, is)))

pub bench_answers : (asked : Option Ordered) (j status : ℕ) (e : RunFault) → Answers status e → BenchCause asked j e
    → (status ≢ 4) × (status ≢ 5)
bench_answers asked j status e (inl is) cause =
    let not = bench_status asked j e cause in ((λ four. not.0 (sym is ∙ four)), (λ five. not.1 (sym is ∙ five)))
bench_answers asked j status e (inr is) cause = ((λ four. omega (arith, is, four)), (λ five. omega (arith, is, five)))

-- ---- by the mode

-- what is said of a mode is said of what is in that mode
pub cause_at : (m : Mode) (tells : Type 0) (asked : Option Ordered) (library : Files) (j : ℕ) (e : RunFault) → mode_in asked ≡ Some m
    → CauseIn (mode_in asked) tells asked library j e → CauseIn (Some m) tells asked library j e
cause_at m tells asked library j e is cause = subst (λ (o : Option Mode). CauseIn o tells asked library j e) is cause

-- the graph as it is written is rendered alone or also at each of its takes
abbrev pub Renders : Option Ordered → Type 0
Renders asked = (mode_in asked ≡ Some Render) ⊎ (mode_in asked ≡ Some Takes)

pub cause_of_files : (tells : Type 0) (asked : Option Ordered) (library : Files) (j : ℕ) (e : RunFault) → Renders asked
    → CauseIn (mode_in asked) tells asked library j e → tells → Cause asked library j e
cause_of_files tells asked library j e (inl is) cause = cause_at Render tells asked library j e is cause
cause_of_files tells asked library j e (inr is) cause = cause_at Takes tells asked library j e is cause

-- ---- a graph that is refused

refused_render : (asked : Option Ordered) (library : Files) (j : ℕ) (fetches puts : ℕ × ℕ × List ℕ) (out : ℕ × ℕ) (e : RunFault)
    → NamesNoGraph asked library → Cause asked library j e → Rose fetches puts out e → (HasRisen fetches.0 fetches.1 → ⊥)
    → (status_of e ≡ 2) ⊎ (status_of e ≡ 6)
refused_render asked library j fetches puts out run.Usage bad cause rose fetched = absurd (none-some bad.2.order (sym cause ∙ bad.2.ordered))
refused_render asked library j fetches puts out (run.Graph code path) bad cause rose fetched = inl refl
refused_render asked library j fetches puts out (run.Frame node t why) bad cause rose fetched = absurd (refused_not asked library cause.0 bad)
refused_render asked library j fetches puts out (run.Read name) bad cause rose fetched = absurd (fetched rose.0)
refused_render asked library j fetches puts out (run.Write name) bad cause rose fetched = absurd (refused_not asked library cause.0 bad)
refused_render asked library j fetches puts out run.Memory bad cause rose fetched = inr refl
refused_render asked library j fetches puts out run.Report bad cause rose fetched = absurd (refused_not asked library cause.job bad)

refused_check : (tells : Type 0) (asked : Option Ordered) (library : Files) (fetches puts : ℕ × ℕ × List ℕ) (out : ℕ × ℕ) (e : RunFault)
    → tells → NamesNoGraph asked library → CheckCause tells asked library e → Rose fetches puts out e
    → (HasRisen fetches.0 fetches.1 → ⊥) → (status_of e ≡ 2) ⊎ (status_of e ≡ 6)
refused_check tells asked library fetches puts out run.Usage told bad cause rose fetched = absurd (none-some bad.2.order (sym cause ∙ bad.2.ordered))
refused_check tells asked library fetches puts out (run.Graph code path) told bad cause rose fetched = inl refl
refused_check tells asked library fetches puts out (run.Frame node t why) told bad cause rose fetched = absurd cause
refused_check tells asked library fetches puts out (run.Read name) told bad cause rose fetched = absurd (fetched rose.0)
refused_check tells asked library fetches puts out (run.Write name) told bad cause rose fetched = absurd cause
refused_check tells asked library fetches puts out run.Memory told bad cause rose fetched = inr refl
refused_check tells asked library fetches puts out run.Report told bad cause rose fetched = absurd (refused_not asked library (cause told) bad)

refused_in : (m : Option Mode) (tells : Type 0) (asked : Option Ordered) (library : Files) (j : ℕ) (fetches puts : ℕ × ℕ × List ℕ) (out : ℕ × ℕ)
    (e : RunFault) → (m ≡ Some Bench → ⊥) → tells → NamesNoGraph asked library → CauseIn m tells asked library j e
    → Rose fetches puts out e → (HasRisen fetches.0 fetches.1 → ⊥) → (status_of e ≡ 2) ⊎ (status_of e ≡ 6)
refused_in None tells asked library j fetches puts out e other told bad cause rose fetched =
    refused_render asked library j fetches puts out e bad (cause told) rose fetched
refused_in (Some Render) tells asked library j fetches puts out e other told bad cause rose fetched =
    refused_render asked library j fetches puts out e bad (cause told) rose fetched
refused_in (Some Takes) tells asked library j fetches puts out e other told bad cause rose fetched =
    refused_render asked library j fetches puts out e bad (cause told) rose fetched
refused_in (Some Check) tells asked library j fetches puts out e other told bad cause rose fetched =
    refused_check tells asked library fetches puts out e told bad cause rose fetched
refused_in (Some Bench) tells asked library j fetches puts out e other told bad cause rose fetched = absurd (other refl)
refused_in (Some Migrate) tells asked library j fetches puts out e other told bad cause rose fetched =
    refused_migrate tells asked library fetches puts out e told (inl bad) cause rose fetched
refused_in (Some Plan) tells asked library j fetches puts out e other told bad cause rose fetched =
    refused_render asked library j fetches puts out e bad (render_cause tells asked library j e cause told) rose fetched

pub refused_answers : (tells : Type 0) (asked : Option Ordered) (library : Files) (j : ℕ) (fetches puts : ℕ × ℕ × List ℕ) (out : ℕ × ℕ)
    (status : ℕ) (e : RunFault) → Answers status e → (mode_in asked ≡ Some Bench → ⊥) → tells → NamesNoGraph asked library
    → CauseIn (mode_in asked) tells asked library j e → Rose fetches puts out e → (HasRisen fetches.0 fetches.1 → ⊥)
    → (status ≡ 2) ⊎ (status ≡ 6)
refused_answers tells asked library j fetches puts out status e (inr is) other told bad cause rose fetched = inr is
refused_answers tells asked library j fetches puts out status e (inl is) other told bad cause rose fetched =
    with_status (refused_in (mode_in asked) tells asked library j fetches puts out e other told bad cause rose fetched)
  where
    with_status : (status_of e ≡ 2) ⊎ (status_of e ≡ 6) → (status ≡ 2) ⊎ (status ≡ 6)
    with_status (inl two) = inl (is ∙ two)
    with_status (inr six) = inr (is ∙ six)

-- a run that is done had a graph
pub not_refused : (tells : Type 0) (asked : Option Ordered) (library : Files) → (mode_in asked ≡ Some Bench → ⊥) → tells
    → NamesNoGraph asked library → (Renders asked → tells → IsAccepted asked library)
    → (mode_in asked ≡ Some Check → tells → Job asked library)
    → (mode_in asked ≡ Some Migrate → tells → Migration asked library)
    → (mode_in asked ≡ Some Plan → tells → IsAccepted asked library) → ⊥
not_refused tells asked library other told bad render check migrate plan = by bad.2.order.mode (ap mode_in bad.2.ordered)
  where
    by : (m : Mode) → mode_in asked ≡ Some m → ⊥
    by Render is = refused_not asked library (render (inl is) told).job bad
    by Takes is = refused_not asked library (render (inr is) told).job bad
    by Check is = refused_not asked library (check is told) bad
    by Bench is = other is
    by Migrate is = not_bad asked library (migrate is told) (inl bad)
    by Plan is = refused_not asked library (plan is told).job bad
