use Rattle.std.proofs.Common.{rules, ◌≡◌, ◌+◌, ◌++◌, ◌∷◌, [], List, length, sym, ap, ◌∙◌, subst, arith}
use Rattle.fx_seq.specs.declared.source.SourceFrame.{SourceFrame}
use Rattle.fx_pipe.specs.declared.made.Made.{Made}
use Rattle.fx_pipe.specs.Moments.{AreDue}
use Rattle.fx_pipe.specs.Blocks.{SeesSome, fetched_in}
use Rattle.fx_pipe.proofs.BlockLemmas.{HasMade, made_one, made_some, sees_either, sees_one}
use Rattle.fx_pipe.proofs.make.make_block.Goals as goal

pub returns-then-is_err-clause-makes : goal.returns-then-is_err-clause-makes
returns-then-is_err-clause-makes g c =
    let s = g.S.Stage in
    let right = s.right (s.base c.args.stage.now) in
    let seen = s.seen c.args.stage.now in
    let now = s.seen c.loop-frames.stage in
    let block = fetched_in c.args.fetched.now.items in
    let left = fetched_in c.pop_front.new.self.items in
    let f = c.in-Some.frames.items in
    let made : HasMade right seen c.args.first block (f ∷ left) c.loop-frames.made.items now = rw c.in-Some.ensures.items at c.loop-frames.invariant.made in
    made_some right seen c.args.first block c.push_back.new.self.items (s.seen c.made.new.self) (s.next c.made.new.self)
    (subst (λ (xs : List SourceFrame). SeesSome block seen xs) (sym c.in-Ok.ensures.seen) (sees_one right seen c.args.first block f left c.loop-frames.made.items now made))

pub returns-in-Err-clause-makes : goal.returns-in-Err-clause-makes
returns-in-Err-clause-makes g c =
    let s = g.S.Stage in
    let right = s.right (s.base c.args.stage.now) in
    let seen = s.seen c.args.stage.now in
    let now = s.seen c.loop-frames.stage in
    let block = fetched_in c.args.fetched.now.items in
    let left = fetched_in c.pop_front.new.self.items in
    let f = c.in-Some.frames.items in
    let made : HasMade right seen c.args.first block (f ∷ left) c.loop-frames.made.items now = rw c.in-Some.ensures.items at c.loop-frames.invariant.made in
    made_some right seen c.args.first block c.loop-frames.made.items (s.seen c.made.new.self) (s.next c.made.new.self)
    (sees_either right seen c.args.first block f left c.loop-frames.made.items now (s.seen c.made.new.self) made c.in-Err.ensures.memory)

pub loop-frames-preserved : goal.loop-frames-preserved
loop-frames-preserved g c =
    let s = g.S.Stage in
    let basis = s.base c.args.stage.now in
    let right = s.right basis in
    let seen = s.seen c.args.stage.now in
    let now = s.seen c.loop-frames.stage in
    let block = fetched_in c.args.fetched.now.items in
    let left = fetched_in c.pop_front.new.self.items in
    let f = c.in-Some.frames.items in
    let m = c.loop-frames.moment in
    let before = c.loop-frames.invariant in
    let made : HasMade right seen c.args.first block (f ∷ left) c.loop-frames.made.items now = rw c.in-Some.ensures.items at before.made in
    let count : m + length (f ∷ left) ≡ c.args.first + length block = rw c.in-Some.ensures.items at before.count in
    let due : AreDue (s.due basis) m (f ∷ left) = rw c.in-Some.ensures.items at before.due in
    let pushed : c.push_back.new.self.items ≡ c.loop-frames.made.items ++ c.in-Ok.one ∷ [] = search rules in
    let one : right (now ++ f) m c.in-Ok.one = subst (λ b. s.right b (now ++ f) m c.in-Ok.one) before.base c.in-Ok.ensures.right in
    let more : HasMade right seen c.args.first block left (c.loop-frames.made.items ++ c.in-Ok.one ∷ []) (now ++ f) =
    made_one right seen c.args.first block f left c.loop-frames.made.items c.in-Ok.one now m made count one in
    record {
      base = c.in-Ok.ensures.base ∙ before.base;
      next = ap (λ n. n + 1) before.next ∙ sym c.in-Ok.ensures.next;
      count = omega (arith, count);
      due = due.1;
      made = subst (λ (ds : List Made). HasMade right seen c.args.first block left ds (s.seen c.made.new.self)) (sym pushed)
          (subst (λ (xs : List SourceFrame). HasMade right seen c.args.first block left (c.loop-frames.made.items ++ c.in-Ok.one ∷ []) xs) (sym c.in-Ok.ensures.seen) more);
    }
