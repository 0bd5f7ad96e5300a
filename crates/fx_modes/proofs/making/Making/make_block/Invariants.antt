use Rattle.std.proofs.Common.{◌≡◌, ◌+◌, length}
use Rattle.std.specs.VecDeque.{deque_len}
use Rattle.fx_pipe.specs.Blocks.{fetched_in}
use Rattle.fx_pipe.proofs.BlockLemmas.{HasMade}
use Rattle.fx_modes.specs.Making.{AreDue, MayMake, Plan, seen_by}
use Rattle.fx_modes.specs.Moments.{IsMomentFile}
use Rattle.fx_modes.proofs.making.Making.make_block.Given as goal

abbrev pub invariant-loop-frames : goal.invariant-loop-frames
invariant-loop-frames g l =
    let uses = l.uses in
    let block = fetched_in l.fn.fetched.items in
    let left = fetched_in l.fetched.items in
    record {
      written : l.self.scene.script.written ≡ l.fn.self.scene.script.written;
      count : l.self.next + length left ≡ l.fn.self.next + length block;
      due : AreDue uses l.self.next left;
      may : (p : Plan) → MayMake p uses (length block) l.fn.self → MayMake p uses (length left) l.self;
      made : (p : Plan) → MayMake p uses (length block) l.fn.self
          → HasMade (IsMomentFile p.reel) (seen_by l.fn.self) l.fn.self.next block left l.made.items (seen_by l.self);
    }

abbrev pub decreases-loop-frames : goal.decreases-loop-frames
decreases-loop-frames g l = deque_len l.fetched
