use Rattle.std.proofs.Common.{rules, ◌≡◌, ℕ, ◌+◌, ◌++◌, ◌∷◌, [], List, length, sym, ap, subst, arith, refl}
use Rattle.std.proofs.lemmas.Bool.{false≢true}
use Rattle.fx_seq.specs.declared.source.SourceFrame.{SourceFrame}
use Rattle.fx_pipe.specs.declared.made.Made.{Made}
use Rattle.fx_pipe.specs.Blocks.{SeesSome, fetched_in}
use Rattle.fx_pipe.proofs.BlockLemmas.{HasMade, made_none, made_one, sees_either, sees_one}
use Rattle.fx_modes.specs.Making.{AreDue, MayMake, seen_by}
use Rattle.fx_modes.specs.Moments.{IsMomentFile}
use Rattle.fx_life.specs.Posts.{HasLife}
use Rattle.fx_shipped.specs.Shipped.{number_of}
use Rattle.fx_modes.specs.Graphs.{Graph}
use Rattle.fx_modes.proofs.TurnLemmas.{made_whole}
use Rattle.fx_modes.proofs.making.Making.make_block.Goals as goal

pub loop-frames-init : goal.loop-frames-init
loop-frames-init g c =
    let block = fetched_in c.args.fetched.now.items in
    record {
      written = refl;
      count = refl;
      due = c.requires.due;
      may = λ p may. may;
      made = λ p may. rw c.requires.empty (made_none (IsMomentFile p.reel) (seen_by c.args.self.now) c.args.self.now.next block);
    }

pub returns-then-is_err-clause-makes : goal.returns-then-is_err-clause-makes
returns-then-is_err-clause-makes g c = λ p may.
    let right = IsMomentFile p.reel in
    let seen = seen_by c.args.self.now in
    let now = seen_by c.loop-frames.self in
    let block = fetched_in c.args.fetched.now.items in
    let left = fetched_in c.pop_front.new.self.items in
    let f = c.in-Some.frames.items in
    let made : HasMade right seen c.args.self.now.next block (f ∷ left) c.loop-frames.made.items now =
    rw c.in-Some.ensures.items at c.loop-frames.invariant.made p may in
    record {
      next_is = λ is. absurd (false≢true is);
      seen = λ is. absurd (false≢true is);
      right_ones = λ is. absurd (false≢true is);
      some = subst (λ (xs : List SourceFrame). SeesSome block seen xs) (sym c.in-Ok.ensures.seen)
          (sees_one right seen c.args.self.now.next block f left c.loop-frames.made.items now made);
    }

pub returns-in-Err-clause-makes : goal.returns-in-Err-clause-makes
returns-in-Err-clause-makes g c = λ p may.
    let right = IsMomentFile p.reel in
    let seen = seen_by c.args.self.now in
    let now = seen_by c.loop-frames.self in
    let block = fetched_in c.args.fetched.now.items in
    let left = fetched_in c.pop_front.new.self.items in
    let f = c.in-Some.frames.items in
    let made : HasMade right seen c.args.self.now.next block (f ∷ left) c.loop-frames.made.items now =
    rw c.in-Some.ensures.items at c.loop-frames.invariant.made p may in
    record {
      next_is = λ is. absurd (false≢true is);
      seen = λ is. absurd (false≢true is);
      right_ones = λ is. absurd (false≢true is);
      some = sees_either right seen c.args.self.now.next block f left c.loop-frames.made.items now (seen_by c.made.new.self) made c.in-Err.ensures.memory;
    }

pub loop-frames-preserved : goal.loop-frames-preserved
loop-frames-preserved g c =
    let uses = c.args.uses.now in
    let seen = seen_by c.args.self.now in
    let now = seen_by c.loop-frames.self in
    let block = fetched_in c.args.fetched.now.items in
    let left = fetched_in c.pop_front.new.self.items in
    let f = c.in-Some.frames.items in
    let m = c.loop-frames.self.next in
    let d = c.in-Ok.one in
    let before = c.loop-frames.invariant in
    let next = c.in-Ok.ensures.next in
    let count : m + length (f ∷ left) ≡ c.args.self.now.next + length block = rw c.in-Some.ensures.items at before.count in
    let due : AreDue uses m (f ∷ left) = rw c.in-Some.ensures.items at before.due in
    let pushed : c.push_back.new.self.items ≡ c.loop-frames.made.items ++ d ∷ [] = search rules in
    record {
      written = search rules;
      count = omega (arith, count, next);
      due = subst (λ (n : ℕ). AreDue uses n left) (sym next) due.1;
      may = λ p may.
          let b : MayMake p uses (length (f ∷ left)) c.loop-frames.self = rw c.in-Some.ensures.items at before.may p may in
          let few = b.few in
          record {
            plan = b.plan;
            uses_are = b.uses_are;
            few = omega (arith, few, next);
            making = c.in-Ok.ensures.making p (record { plan = b.plan; uses_are = b.uses_are; few = omega (arith, few); making = b.making });
          };
      made = λ p may.
          let right = IsMomentFile p.reel in
          let b : MayMake p uses (length (f ∷ left)) c.loop-frames.self = rw c.in-Some.ensures.items at before.may p may in
          let few = b.few in
          let made : HasMade right seen c.args.self.now.next block (f ∷ left) c.loop-frames.made.items now = rw c.in-Some.ensures.items at before.made p may in
          let file = c.in-Ok.ensures.file p (record { plan = b.plan; uses_are = b.uses_are; few = omega (arith, few); making = b.making }) in
          let one : right (now ++ f) m d = subst (λ (xs : List SourceFrame). right xs m d) c.in-Ok.ensures.seen file in
          let more : HasMade right seen c.args.self.now.next block left (c.loop-frames.made.items ++ d ∷ []) (now ++ f) =
          made_one right seen c.args.self.now.next block f left c.loop-frames.made.items d now m made count one in
          subst (λ (ds : List Made). HasMade right seen c.args.self.now.next block left ds (seen_by c.made.new.self)) (sym pushed)
          (subst (λ (xs : List SourceFrame). HasMade right seen c.args.self.now.next block left (c.loop-frames.made.items ++ d ∷ []) xs) (sym c.in-Ok.ensures.seen) more);
    }

pub made-requires-clause-life : goal.made-requires-clause-life
made-requires-clause-life g c κs within =
    subst (λ (s : Graph). HasLife number_of s c.args.life.now) (sym c.loop-frames.invariant.written) c.requires.life

pub made-requires-clause-may : goal.made-requires-clause-may
made-requires-clause-may g c κs within =
    let w = c.requires.may in
    let left = fetched_in c.pop_front.new.self.items in
    let f = c.in-Some.frames.items in
    let b : MayMake w.0 c.args.uses.now (length (f ∷ left)) c.loop-frames.self = rw c.in-Some.ensures.items at c.loop-frames.invariant.may w.0 w.1 in
    let few = b.few in
    (w.0, record { plan = b.plan; uses_are = b.uses_are; few = omega (arith, few); making = b.making })

pub returns-clause-makes : goal.returns-clause-makes
returns-clause-makes g c = λ p may.
    let left = fetched_in c.loop-frames.fetched.items in
    let empty : c.loop-frames.fetched.items ≡ [] = search rules in
    let none : left ≡ [] = ap fetched_in empty in
    made_whole (IsMomentFile p.reel) (seen_by c.args.self.now) c.args.self.now.next (fetched_in c.args.fetched.now.items) left
    c.loop-frames.made.items (seen_by c.loop-frames.self) c.loop-frames.self.next (c.loop-frames.invariant.made p may) none c.loop-frames.invariant.count

pub returns-clause-may : goal.returns-clause-may
returns-clause-may g c = λ p may all.
    let b = c.loop-frames.invariant.may p may in
    let few = b.few in
    record { plan = b.plan; uses_are = b.uses_are; few = omega (arith, few); making = b.making }
