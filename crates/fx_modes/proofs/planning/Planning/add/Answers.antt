use Rattle.std.proofs.Common.{rules, ◌≡◌, ◌≤◌, ◌+◌, ◌∙◌, ◌++◌, ◌∷◌, [], ℕ, length, sym, ap, subst, arith}
use mathlib.Core.Path.{fun_ext}
use Rattle.std.proofs.lemmas.Result.{err_from_is_err_and}
use Rattle.fx_proxy.specs.Reduced.{IsScale}
use Rattle.fx_seq.specs.Held.{held_frames}
use Rattle.fx_seq.specs.Lists.{used_size}
use Rattle.fx_seq.specs.declared.store.Store.{Store}
use Rattle.fx_words.specs.declared.plan.PlanFrame.{PlanFrame}
use Rattle.fx_modes.specs.declared.planning.Planning.{Planning}
use Rattle.fx_modes.specs.declared.sources.TheConstants.{MOST_BYTES}
use Rattle.fx_modes.specs.Making.{HoldsScaled}
use Rattle.fx_modes.specs.Planning.{done_by, seen_by}
use Rattle.fx_modes.specs.Sources.{HasSources, IsNotRead}
use Rattle.fx_modes.specs.Ended.{calls}
use Rattle.fx_modes.proofs.PlanningLemmas.{goes_on, once, wants_now}
use Rattle.fx_modes.proofs.SourceLemmas.{not_read, sources_more}
use Rattle.fx_modes.proofs.planning.Planning.add.Goals as goal

pub returns-in_err-frames-clause-unread : goal.returns-in_err-frames-clause-unread
returns-in_err-frames-clause-unread g c = λ files same has.
    let l = g.L.Library in
    let old = c.args.self.now in
    let uses = c.args.uses.now in
    let r = c.requires.may.0 in
    let may = c.requires.may.1 in
    let at : c.len-moment.result ≡ done_by old = search rules in
    let held : c.held-held.result ≡ used_size uses c.len-moment.result (held_frames old.scene.store) =
    c.held-held.ensures ∙ ap (λ (s : Store). used_size uses c.len-moment.result (held_frames s)) c.store.ensures in
    let e = c.in_err-frames.field-0.0 in
    let not = c.in_err-frames.ensures in
    let now = c.args.library.now in
    let new = c.read_due.new.library in
    let p = err_from_is_err_and c.from_residual.result c.from_residual.ensures.1 in
    rw (p.1, p.2)
    (subst (λ (n : ℕ). IsNotRead l.tells files uses n (calls (l.faults now) (l.faults new) (l.last now) (l.last new)) e) at
    (not_read l.tells files uses (once r uses c.args.grid c.args.frame old may) r.scale c.len-moment.result (seen_by old) old.scene.store
    (subst (λ (n : ℕ). HoldsScaled r.scale uses n (seen_by old) old.scene.store) (sym at) may.planning.read)
    (subst (λ (n : ℕ). HasSources l.tells files uses n (seen_by old)) (sym at) has)
    (l.file now) (λ told. sym (fun_ext (same told))) c.held-held.result held (l.faults now) (l.faults new) (l.last now) (l.last new) e
    not.refused not.fetch_first not.fetch not.quiet_refusal))

pub advance-requires-clause-once : goal.advance-requires-clause-once
advance-requires-clause-once g c =
    once c.requires.may.0 c.args.uses.now c.args.grid c.args.frame c.args.self.now c.requires.may.1

pub advance-requires-clause-scale : goal.advance-requires-clause-scale
advance-requires-clause-scale g c =
    let was = c.requires.may.1.planning in subst IsScale (sym was.scale) was.small

pub advance-requires-clause-read : goal.advance-requires-clause-read
advance-requires-clause-read g c =
    let old = c.args.self.now in
    let uses = c.args.uses.now in
    let was = c.requires.may.1.planning in
    let at : c.len-moment.result ≡ done_by old = search rules in
    subst (λ (n : ℕ). HoldsScaled old.scale uses n (seen_by old) old.scene.store) (sym at)
    (subst (λ (q : ℕ). HoldsScaled q uses (done_by old) (seen_by old) old.scene.store) (sym was.scale) was.read)

pub entries-requires-clause-holds : goal.entries-requires-clause-holds
entries-requires-clause-holds g c =
    let old = c.args.self.now in
    let came = c.advance.new.self in
    let r = c.requires.may.0 in
    let may = c.requires.may.1 in
    let at : c.len-moment.result ≡ done_by old = search rules in
    wants_now r c.args.uses.now c.args.grid c.args.frame old may came.scene.graph (seen_by came) came.scene.store c.len-moment.result
    c.in_ok-advance.ensures.graph at
    (subst (λ (q : ℕ). HoldsScaled q c.args.uses.now (c.len-moment.result + 1) (seen_by came) came.scene.store) may.planning.scale c.in_ok-advance.ensures.read)

pub returns-clause-planning : goal.returns-clause-planning
returns-clause-planning g c = λ r may.
    let old = c.args.self.now in
    let came = c.advance.new.self in
    let uses = c.args.uses.now in
    let at : c.len-moment.result ≡ done_by old = search rules in
    let held : c.held-held.result ≡ used_size uses c.len-moment.result (held_frames old.scene.store) =
    c.held-held.ensures ∙ ap (λ (s : Store). used_size uses c.len-moment.result (held_frames s)) c.store.ensures in
    let f : PlanFrame = record { frame = c.from.result; entries = c.in_ok-entries.entries } in
    let was = may.planning.size in
    let before : used_size uses c.len-moment.result (held_frames old.scene.store) ≤ MOST_BYTES =
    subst (λ (n : ℕ). used_size uses n (held_frames old.scene.store) ≤ MOST_BYTES) (sym at) was in
    let fits = c.in_ok-frames.ensures.fits (omega (arith, held, before)) in
    let size = c.in_ok-advance.ensures.size in
    let there : came.frames.items ≡ old.frames.items = ap (λ (m : Planning). m.frames.items) c.in_ok-advance.ensures.rest in
    let pushed : c.push.new.self.items ≡ came.frames.items ++ f ∷ [] = c.in_ok-push.ensures.items in
    goes_on r uses c.args.grid c.args.frame old may c.len-moment.result c.in_ok-frames.frames.items (record came { frames = c.push.new.self }) f at
    c.in_ok-advance.ensures.graph (ap (λ (m : Planning). m.scale) c.in_ok-advance.ensures.rest) c.in_ok-advance.ensures.seen
    (subst (λ (q : ℕ). HoldsScaled q uses (c.len-moment.result + 1) (seen_by came) came.scene.store) may.planning.scale c.in_ok-advance.ensures.read)
    (omega (arith, held, fits, size))
    (pushed ∙ ap (λ xs. xs ++ f ∷ []) there) c.from.ensures c.in_ok-entries.ensures

pub returns-clause-sources : goal.returns-clause-sources
returns-clause-sources g c = λ files same has.
    let l = g.L.Library in
    let old = c.args.self.now in
    let came = c.advance.new.self in
    let uses = c.args.uses.now in
    let r = c.requires.may.0 in
    let may = c.requires.may.1 in
    let at : c.len-moment.result ≡ done_by old = search rules in
    let held : c.held-held.result ≡ used_size uses c.len-moment.result (held_frames old.scene.store) =
    c.held-held.ensures ∙ ap (λ (s : Store). used_size uses c.len-moment.result (held_frames s)) c.store.ensures in
    let count : c.len-moment.result + 1 ≡ length c.push.new.self.items = search rules in
    subst (λ (n : ℕ). HasSources l.tells files uses n (seen_by came)) count
    (sources_more l.tells files uses (once r uses c.args.grid c.args.frame old may) r.scale c.len-moment.result (seen_by old) old.scene.store
    (subst (λ (n : ℕ). HoldsScaled r.scale uses n (seen_by old) old.scene.store) (sym at) may.planning.read)
    (subst (λ (n : ℕ). HasSources l.tells files uses n (seen_by old)) (sym at) has)
    (l.file c.args.library.now) (λ told. sym (fun_ext (same told))) c.held-held.result held c.in_ok-frames.frames.items (seen_by came)
    c.in_ok-advance.ensures.seen c.in_ok-frames.ensures.pictures c.in_ok-frames.ensures.accepted)
