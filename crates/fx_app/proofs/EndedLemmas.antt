-- How a run ends early, by its mode, and where its words are no order.
use Rattle.std.proofs.Common.{◌≡◌, ◌⊎◌, inl, inr, ℕ, List, Option, Some, None, Result, IfErr, refl, sym, subst, ◌∙◌}
use Rattle.std.proofs.lemmas.Result.{IfErr-weaker}
use Rattle.fx_outside.specs.Outside.{Files}
use Rattle.fx_words.specs.Ordered.{Ordered}
use Rattle.fx_words.specs.declared.order.Mode.{Mode}
use Rattle.fx_words.specs.declared.order.Mode.TheVariants.{Render, Check, Bench, Migrate, Takes, Plan}
use Rattle.fx_words.specs.declared.fault.RunFault.{RunFault}
use Rattle.fx_words.specs.declared.fault.RunFault.TheVariants as run
use Rattle.fx_app.specs.Words.{mode_in}
use Rattle.fx_modes.specs.Modes.{CauseIn, LeavesIn, LeavesReportIn}
use Rattle.fx_modes.specs.Ended.{Calls, Ended, calls}
use Rattle.fx_modes.proofs.StepsLemmas.{no_call, untouched}

-- what holds of an order and its mode holds of what is asked for
in_mode : (P : Option Mode → Option Ordered → Type 0) (asked : Option Ordered) (order : Ordered) (mode : Mode)
    → asked ≡ Some order → order.mode ≡ mode → P (Some mode) (Some order) → P (mode_in asked) asked
in_mode P asked order mode is at p =
    subst (λ (a : Option Ordered). P (mode_in a) a) (sym is) (subst (λ (m : Mode). P (Some m) (Some order)) (sym at) p)

module _ (l d o : Type 0) (library : Files) (fetches puts : Calls) (writes : ℕ × ℕ) (files : Files × Files) (texts : List ℕ × List ℕ) where
  abbrev How : Option Mode → Option Ordered → RunFault → Type 0
  How mode asked e = Ended mode l d o asked library fetches puts writes files texts e

  -- a mode's record is that of the mode in what is asked for
  pub ended_in : {A : Type 0} (result : Result A RunFault) (asked : Option Ordered) (order : Ordered) (mode : Mode) → asked ≡ Some order
      → order.mode ≡ mode → IfErr result (λ e. How (Some mode) (Some order) e) → IfErr result (λ e. How (mode_in asked) asked e)
  ended_in result asked order mode is at ended =
      IfErr-weaker result (How (Some mode) (Some order)) (How (mode_in asked) asked) (λ e h. in_mode (λ m a. How m a e) asked order mode is at h) ended

  -- a render of takes ends as one of the graph as it is written
  as_takes : {A : Type 0} (result : Result A RunFault) (asked : Option Ordered) → IfErr result (λ e. How (Some Render) asked e)
      → IfErr result (λ e. How (Some Takes) asked e)
  as_takes result asked ended =
      IfErr-weaker result (How (Some Render) asked) (How (Some Takes) asked)
      (λ e h.
      record {
        moment = h.moment;
        rose = h.rose;
        cause = h.cause;
        leaves = h.leaves;
        tells = h.tells;
        fetched = h.fetched;
        put = h.put;
        wrote = h.wrote;
        usage = h.usage;
      })
      ended

  -- so an order of either ends as a render
  pub files_ended : {A : Type 0} (result : Result A RunFault) (asked : Option Ordered) (order : Ordered) (mode : Mode) → asked ≡ Some order
      → order.mode ≡ mode → (mode ≡ Render) ⊎ (mode ≡ Takes) → IfErr result (λ e. How (Some Render) (Some order) e)
      → IfErr result (λ e. How (mode_in asked) asked e)
  files_ended result asked order mode is at (inl render) ended = ended_in result asked order Render is (at ∙ render) ended
  files_ended result asked order mode is at (inr takes) ended =
      ended_in result asked order Takes is (at ∙ takes) (as_takes result (Some order) ended)

-- a check puts nothing, nor does a plan, whatever the depot tells
module _ (l d o : Type 0) (asked : Option Ordered) (library : Files) (fetches puts : Calls) (writes : ℕ × ℕ) (files : Files × Files)
    (texts : List ℕ × List ℕ) where
  pub any_depot : {A : Type 0} (m : Mode) (result : Result A RunFault)
      → IfErr result (λ e. Ended (Some m) l (Unit {0}) o asked library fetches puts writes files texts e)
      → IfErr result (λ e. Ended (Some m) l d o asked library fetches puts writes files texts e)
  any_depot m result ended =
      IfErr-weaker result (λ e. Ended (Some m) l (Unit {0}) o asked library fetches puts writes files texts e)
      (λ e. Ended (Some m) l d o asked library fetches puts writes files texts e)
      (λ e h.
      record {
        moment = h.moment;
        rose = h.rose;
        cause = h.cause;
        leaves = λ one two. h.leaves one tt;
        tells = h.tells;
        fetched = h.fetched;
        put = h.put;
        wrote = h.wrote;
        usage = h.usage;
      })
      ended

  -- nor does a bench read, whatever the library tells
  pub any_outside : {A : Type 0} (result : Result A RunFault)
      → IfErr result (λ e. Ended (Some Bench) (Unit {0}) (Unit {0}) o asked library fetches puts writes files texts e)
      → IfErr result (λ e. Ended (Some Bench) l d o asked library fetches puts writes files texts e)
  any_outside result ended =
      IfErr-weaker result (λ e. Ended (Some Bench) (Unit {0}) (Unit {0}) o asked library fetches puts writes files texts e)
      (λ e. Ended (Some Bench) l d o asked library fetches puts writes files texts e)
      (λ e h.
      record {
        moment = h.moment;
        rose = h.rose;
        cause = h.cause;
        leaves = λ one two. h.leaves tt tt;
        tells = h.tells;
        fetched = h.fetched;
        put = h.put;
        wrote = h.wrote;
        usage = h.usage;
      })
      ended

-- ---- words that are no order, or want of memory

abbrev NoOrder : Option Ordered → RunFault → Type 0
NoOrder asked e = ((e ≡ run.Usage) × (asked ≡ None)) ⊎ (e ≡ run.Memory)

memory_cause : (m : Option Mode) (tells : Type 0) (asked : Option Ordered) (library : Files) → CauseIn m tells asked library 0 run.Memory
memory_cause None tells asked library = λ told. tt
memory_cause (Some Render) tells asked library = λ told. tt
memory_cause (Some Check) tells asked library = tt
memory_cause (Some Bench) tells asked library = tt
memory_cause (Some Migrate) tells asked library = tt
memory_cause (Some Takes) tells asked library = λ told. tt
memory_cause (Some Plan) tells asked library = λ told. tt

memory_leaves : (m : Option Mode) (asked : Option Ordered) (library old : Files) → LeavesIn m asked library 0 run.Memory old old
memory_leaves None asked library old = inl (untouched old)
memory_leaves (Some Render) asked library old = inl (untouched old)
memory_leaves (Some Check) asked library old = untouched old
memory_leaves (Some Bench) asked library old = untouched old
memory_leaves (Some Migrate) asked library old = inl (untouched old)
memory_leaves (Some Takes) asked library old = inl (untouched old)
memory_leaves (Some Plan) asked library old = untouched old

memory_report : (m : Option Mode) (tells : Type 0) (asked : Option Ordered) (library : Files) (old : List ℕ)
    → LeavesReportIn m tells asked library run.Memory old old
memory_report None tells asked library old = (refl, λ told. tt)
memory_report (Some Render) tells asked library old = (refl, λ told. tt)
memory_report (Some Check) tells asked library old = refl
memory_report (Some Bench) tells asked library old = refl
memory_report (Some Migrate) tells asked library old = refl
memory_report (Some Takes) tells asked library old = (refl, λ told. tt)
memory_report (Some Plan) tells asked library old = refl

-- nothing was read, put or written
pub words_ended : {l d o : Type 0} (asked : Option Ordered) (library : Files) (a p : ℕ) (x q : List ℕ) (w : ℕ) (files : Files) (text : List ℕ)
    (e : RunFault) → NoOrder asked e
    → Ended (mode_in asked) l d o asked library (calls a a x x) (calls p p q q) (w, w) (files, files) (text, text) e
words_ended {l} {d} {o} asked library a p x q w files text e (inl h) =
    subst (λ (f : RunFault). Ended (mode_in asked) l d o asked library (calls a a x x) (calls p p q q) (w, w) (files, files) (text, text) f) (sym h.0)
    (subst (λ (other : Option Ordered). Ended (mode_in other) l d o other library (calls a a x x) (calls p p q q) (w, w) (files, files) (text, text) run.Usage) (sym h.1)
    (record {
      moment = 0;
      rose = tt;
      cause = λ told. refl;
      leaves = λ one two. untouched files;
      tells = λ one. (refl, λ two. tt);
      fetched = no_call a x;
      put = no_call p q;
      wrote = refl;
      usage = λ is. refl;
    }))
words_ended {l} {d} {o} asked library a p x q w files text e (inr h) =
    subst (λ (f : RunFault). Ended (mode_in asked) l d o asked library (calls a a x x) (calls p p q q) (w, w) (files, files) (text, text) f) (sym h)
    (record {
      moment = 0;
      rose = tt;
      cause = memory_cause (mode_in asked) l asked library;
      leaves = λ one two. memory_leaves (mode_in asked) asked library files;
      tells = λ one. memory_report (mode_in asked) l asked library text;
      fetched = tt;
      put = no_call p q;
      wrote = refl;
      usage = λ is. absurd cc;
    })
