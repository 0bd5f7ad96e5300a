use Rattle.std.proofs.Common.{rules, ◌≡◌, ◌∙◌, None, refl, sym, subst}
use Rattle.fx_base.specs.declared.limits.TheConstants.{MOST_SIDE}
use Rattle.fx_pipe.specs.Ends.{IsOver, state_of}
use Rattle.fx_pipe.proofs.FlowLemmas.{ends_over}
use Rattle.fx_modes.specs.declared.sources.TheConstants.{MOST_BYTES}
use Rattle.fx_life.specs.Posts.{HasLife}
use Rattle.fx_shipped.specs.Shipped.{number_of}
use Rattle.fx_modes.specs.Graphs.{Graph}
use Rattle.fx_modes.specs.Making.{next_of, seen_by}
use Rattle.fx_modes.specs.Moments.{IsMomentFile}
use Rattle.fx_modes.proofs.moments.put_each.Goals as goal

pub returns-then-is_over-clause-ends : goal.returns-then-is_over-clause-ends
returns-then-is_over-clause-ends g c = λ p many may.
    let l = g.L.Library in
    let d = g.D.Depot in
    let see = state_of l.file l.faults l.last d.file d.faults d.last seen_by next_of in
    let over : IsOver c.args.moments c.loop.line = search rules in
    let w = c.loop.invariant.way p many may in
    rw c.end.ensures.end (ends_over l.tells d.tells (IsMomentFile p.reel)
    (record { uses = c.args.uses; moments = c.args.moments; limit = MOST_BYTES; most_side = MOST_SIDE; ahead = c.args.ahead })
    (see c.args.library.now c.args.depot.now c.args.making.now) (see c.loop.library c.loop.depot c.loop.making) c.loop.line w.flows over c.loop.line.fault refl)

pub returns-then-is_over-clause-making : goal.returns-then-is_over-clause-making
returns-then-is_over-clause-making g c = λ p many may done. (c.loop.invariant.way p many may).may.making

pub step-end-requires-clause-life : goal.step-end-requires-clause-life
step-end-requires-clause-life g c κs within =
    subst (λ (s : Graph). HasLife number_of s c.args.life.now) (sym c.loop.invariant.written) c.requires.life

pub step-end-requires-clause-way : goal.step-end-requires-clause-way
step-end-requires-clause-way g c κs within =
    let l = g.L.Library in
    let d = g.D.Depot in
    let see = state_of l.file l.faults l.last d.file d.faults d.last seen_by next_of in
    let w = c.requires.may in
    (w.0, see c.args.library.now c.args.depot.now c.args.making.now, c.loop.invariant.way w.0 w.1 w.2)

pub returns-in-Some-end-clause-quiet : goal.returns-in-Some-end-clause-quiet
returns-in-Some-end-clause-quiet g c =
    let l = g.L.Library in
    let d = g.D.Depot in
    let see = state_of l.file l.faults l.last d.file d.faults d.last seen_by next_of in
    let w = c.requires.may in
    λ one. c.in-Some-end.ensures.quiet one w.0 (see c.args.library.now c.args.depot.now c.args.making.now) (c.loop.invariant.way w.0 w.1 w.2)

pub returns-in-Some-end-clause-ends : goal.returns-in-Some-end-clause-ends
returns-in-Some-end-clause-ends g c = λ p many may.
    let l = g.L.Library in
    let d = g.D.Depot in
    let see = state_of l.file l.faults l.last d.file d.faults d.last seen_by next_of in
    c.in-Some-end.ensures.moves.ends p (see c.args.library.now c.args.depot.now c.args.making.now) (c.loop.invariant.way p many may)

pub loop-preserved : goal.loop-preserved
loop-preserved g c =
    let l = g.L.Library in
    let d = g.D.Depot in
    let see = state_of l.file l.faults l.last d.file d.faults d.last seen_by next_of in
    let none : c.step-end.result ≡ None = search rules in
    record {
      written = c.step-end.ensures.moves.written ∙ c.loop.invariant.written;
      way = λ p many may.
          rw none at c.step-end.ensures.moves.way p (see c.args.library.now c.args.depot.now c.args.making.now) (c.loop.invariant.way p many may);
    }
