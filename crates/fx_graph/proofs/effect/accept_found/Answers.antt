use Rattle.std.proofs.Common.{◌≡◌, sym, subst, map, IfOk, IfErr, Ok}
use Rattle.std.specs.List.{Contains}
use Rattle.std.specs.Prelude.{None}
use Rattle.fx_graph.specs.Refusal.{TellsErr}
use Rattle.fx_graph.specs.Shown.{shown}
use Rattle.fx_graph.specs.Uses.{chosen, unsupported}
use Rattle.fx_graph.proofs.Using.{found_is}
use Rattle.fx_graph.proofs.effect.accept_found.Goals as goal

pub accept_in-requires-clause-supported : goal.accept_in-requires-clause-supported
accept_in-requires-clause-supported g c = rw (c.deref-2.ensures.value, c.in_ok-about.ensures.contexts) at c.in_ok-check_context.ensures.there

pub accept_in-requires-clause-found : goal.accept_in-requires-clause-found
accept_in-requires-clause-found g c = rw (c.deref-2.ensures.value, c.in_ok-about.ensures.contexts) at c.in_ok-check_context.ensures.ok

pub returns-clause-ok : goal.returns-clause-ok
returns-clause-ok g c =
    let m = g.E.ImageEffect.meaning in
    let e = c.args.effect in
    let s = (m e).shape in
    let before = map shown c.args.before.now in
    let k = c.chosen-context.result in
    let is : k ≡ chosen s.contexts c.args.context = rw (c.deref.ensures.value, c.in_ok-about.ensures.contexts) at c.chosen-context.ensures in
    let ok : unsupported c.args.path.now s.contexts k ≡ None = rw (c.deref-2.ensures.value, c.in_ok-about.ensures.contexts) at c.in_ok-check_context.ensures.ok in
    subst (λ r. IfOk c.accept_in.result (λ node. r ≡ Ok (shown node)))
    (sym (found_is m c.args.project before c.args.path.now c.args.name.now e c.args.context c.args.clips.now c.args.params.now k is ok))
    c.accept_in.ensures.ok

pub returns-clause-err : goal.returns-clause-err
returns-clause-err g c =
    let m = g.E.ImageEffect.meaning in
    let e = c.args.effect in
    let s = (m e).shape in
    let before = map shown c.args.before.now in
    let k = c.chosen-context.result in
    let is : k ≡ chosen s.contexts c.args.context = rw (c.deref.ensures.value, c.in_ok-about.ensures.contexts) at c.chosen-context.ensures in
    let ok : unsupported c.args.path.now s.contexts k ≡ None = rw (c.deref-2.ensures.value, c.in_ok-about.ensures.contexts) at c.in_ok-check_context.ensures.ok in
    subst (λ r. IfErr c.accept_in.result (λ fault. TellsErr r fault))
    (sym (found_is m c.args.project before c.args.path.now c.args.name.now e c.args.context c.args.clips.now c.args.params.now k is ok))
    c.accept_in.ensures.err
