-- One round of a pipeline: of three blocks of moments one is read, one is made, and one is put.
use Rattle.std.proofs.Common.{◌≡◌, ◌≢◌, ℕ, ◌+◌, List, [], ◌++◌, length, true, Option, Some, Ok, refl, sym, ◌∙◌, subst, arith}
use Rattle.std.proofs.lemmas.List.{length-append, length-map}
use Rattle.fx_outside.specs.Outside.{SameFiles}
use Rattle.fx_seq.specs.declared.fault.SeqFault.{SeqFault}
use Rattle.fx_seq.specs.declared.fault.SeqFault.TheVariants as seq
use Rattle.fx_seq.specs.declared.source.SourceFrame.{SourceFrame}
use Rattle.fx_pipe.specs.declared.made.Made.{Made}
use Rattle.fx_pipe.specs.declared.line.Line.{Line}
use Rattle.fx_pipe.specs.declared.schedule.Schedule.{Schedule}
use Rattle.fx_pipe.specs.declared.read.Reader.{Reader}
use Rattle.fx_pipe.specs.Reads.{ReadsOn}
use Rattle.fx_pipe.specs.Blocks.{Makes, Puts, fetched_in}
use Rattle.fx_pipe.specs.Ends.{Flows, State}
use Rattle.fx_pipe.proofs.FlowLemmas.{round_step}
use Rattle.fx_modes.specs.declared.making.Making.{Making}
use Rattle.fx_modes.specs.Making.{AreDue, MayMake, Plan}
use Rattle.fx_modes.specs.Moments.{IsMomentFile}
use Rattle.fx_modes.specs.Turns.{IsUnderWay}
use Rattle.fx_modes.proofs.TurnLemmas.{due_rest}

module _ (reads puts : Type 0) (p : Plan) (schedule : Schedule) (start now : State) (line : Line) (m : Making)
    (w : IsUnderWay reads puts p schedule start now line m) (at : now.next ≡ m.next) where
  abbrev waiting : List (List SourceFrame)
  waiting = fetched_in line.fetched.items

  -- the frames that wait are those that are due next
  pub waiting_due : AreDue schedule.uses.now m.next waiting
  waiting_due =
      let h = w.flows in
      let next = h.next in
      let same : 0 + length h.handed ≡ m.next = omega (arith, next, at) in
      subst (λ (n : ℕ). AreDue schedule.uses.now n waiting) same (due_rest reads start.read_files schedule [] 0 h.handed waiting h.read)

  -- and are of moments that are left
  pub waiting_may : MayMake p schedule.uses.now (length waiting) m
  waiting_may =
      let h = w.flows in
      let all : length (h.handed ++ waiting) ≡ length h.handed + length waiting = length-append h.handed waiting in
      let next = h.next in
      let known = h.knows.next in
      let few = h.reads_few in
      let many = w.many in
      record {
        plan = w.may.plan;
        uses_are = w.may.uses_are;
        few = omega (arith, all, next, known, few, many, at);
        making = w.may.making;
      }

  -- what flows behind the round
  pub round_flows : (new : State) (reader : Reader) (fault : Option SeqFault) (block : List (List SourceFrame)) (made : List Made)
      → Puts puts line.made.items now.put_files new.put_files now.put_faults new.put_faults now.put_last new.put_last (Ok tt)
      → Makes (IsMomentFile p.reel) m.next waiting made now.seen new.seen new.next true
      → ReadsOn reads now.read_files now.read_faults new.read_faults now.read_last new.read_last schedule line.reader reader line.fault fault block
      → (reads → SameFiles now.read_files new.read_files) → fault ≢ Some seq.Memory
      → Flows reads puts (IsMomentFile p.reel) schedule start new reader fault block new.next made
  round_flows new reader fault block made put make read same none =
      let right = IsMomentFile p.reel in
      let h = w.flows in
      let first : m.next ≡ line.next = sym at ∙ h.next ∙ sym h.at_next in
      let makes : Makes right line.next waiting made now.seen new.seen new.next true =
      subst (λ (n : ℕ). Makes right n waiting made now.seen new.seen new.next true) first make in
      let next = makes.next_is refl in
      let many : length waiting ≡ length line.fetched.items = length-map line.fetched.items (λ frames. frames.items) in
      let count : line.next + length line.fetched.items ≡ new.next = omega (arith, next, many) in
      subst (λ (n : ℕ). Flows reads puts right schedule start new reader fault block n made) count
      (round_step reads puts right schedule start now new line reader fault block made h put makes read same none)
