use Rattle.std.proofs.Common.{rules, ◌≡◌, ℕ, ◌<◌, refl, ap, ◌∙◌}
use Rattle.fx_pipe.specs.Reads.{due_places}
use Rattle.fx_pipe.specs.Ends.{IsOver, state_of}
use Rattle.fx_pipe.proofs.FlowLemmas.{due_now, ends_over, flows_begin}
use Rattle.fx_pipe.proofs.rounds.pipe.Goals as goal

pub loop-init : goal.loop-init
loop-init g c =
    let l = g.L.Library in
    let d = g.D.Depot in
    let s = g.S.Stage in
    let see = state_of l.file l.faults l.last d.file d.faults d.last s.seen s.next in
    let e = c.new-line.ensures in
    record {
      base = refl;
      flows = rw (e.fault, e.fetched, e.next, e.made) (flows_begin l.tells d.tells (s.right (s.base c.args.stage.now)) (record { uses = c.args.uses; moments = c.args.moments; limit = c.args.limit; most_side = c.args.most_side; ahead = c.args.ahead })
          (see c.args.library.now c.args.depot.now c.args.stage.now) c.new-line.result.reader e.reader.0 e.reader.1 c.requires.next);
    }

pub returns-then-is_over-clause-ends : goal.returns-then-is_over-clause-ends
returns-then-is_over-clause-ends g c =
    let l = g.L.Library in
    let d = g.D.Depot in
    let s = g.S.Stage in
    let see = state_of l.file l.faults l.last d.file d.faults d.last s.seen s.next in
    let over : IsOver c.args.moments c.loop.line = search rules in
    rw c.end.ensures.end (ends_over l.tells d.tells (s.right (s.base c.args.stage.now)) (record { uses = c.args.uses; moments = c.args.moments; limit = c.args.limit; most_side = c.args.most_side; ahead = c.args.ahead })
    (see c.args.library.now c.args.depot.now c.args.stage.now) (see c.loop.library c.loop.depot c.loop.stage) c.loop.line c.loop.invariant.flows over c.loop.line.fault refl)

pub round-end-requires-clause-due : goal.round-end-requires-clause-due
round-end-requires-clause-due g c κs within =
    let l = g.L.Library in
    let d = g.D.Depot in
    let s = g.S.Stage in
    let see = state_of l.file l.faults l.last d.file d.faults d.last s.seen s.next in
    let says : (k : ℕ) → k < c.args.moments → s.due (s.base c.loop.stage) k ≡ due_places c.args.uses.now k = λ k low. ap (λ b. s.due b k) c.loop.invariant.base ∙ c.requires.due k low in
    due_now l.tells d.tells (s.right (s.base c.args.stage.now)) (record { uses = c.args.uses; moments = c.args.moments; limit = c.args.limit; most_side = c.args.most_side; ahead = c.args.ahead })
    (see c.args.library.now c.args.depot.now c.args.stage.now) (see c.loop.library c.loop.depot c.loop.stage) c.loop.line (s.due (s.base c.loop.stage)) c.loop.invariant.flows says
