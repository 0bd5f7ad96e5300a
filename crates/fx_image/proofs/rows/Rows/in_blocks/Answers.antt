use Rattle.std.proofs.Common.{◌≡◌, ◌≤◌, ◌<◌, ◌+◌, ◌*◌, length, arith}
use Rattle.std.proofs.lemmas.Grind.{div_ceil_times}
use Rattle.fx_image.proofs.RowsMade.{zero_block, zero_more, zero_all}
use Rattle.fx_image.proofs.rows.Rows.in_blocks.Goals as goal

pub loop-k-preserved : goal.loop-k-preserved
loop-k-preserved c = rw (c.in_ok-push.ensures.items, c.in_ok-resize.ensures.items, c.new-bytes.ensures.items, c.new-bytes.ensures.len, c.min-rows.ensures, zero_block) (zero_more c.args.pitch c.args.height c.args.step c.loop-k.blocks.items c.loop-k.k c.loop-k.invariant)

enough : (c : goal.After-loop-k) → c.args.height ≤ c.loop-k.k * c.args.step
enough c =
    let e : c.loop-k.k ≡ c.div_ceil-k-end.result = omega arith in
    rw (e, c.div_ceil-k-end.ensures) (div_ceil_times c.args.height c.args.step c.requires.step).0

few : (c : goal.After-loop-k) → length c.loop-k.blocks.items * c.args.step < c.args.height + c.args.step
few c =
    let e : c.loop-k.k ≡ c.div_ceil-k-end.result = omega arith in
    rw (c.loop-k.invariant.0, e, c.div_ceil-k-end.ensures) (div_ceil_times c.args.height c.args.step c.requires.step).1

pub invariant_of-result : goal.invariant_of-result
invariant_of-result c = (
  c.requires.small,
  record {
    some_rows = c.requires.step;
    no_spare = few c;
    block_there = λ y low. (zero_all c.args.pitch c.args.height c.args.step c.loop-k.blocks.items c.loop-k.k c.requires.step (enough c) c.loop-k.invariant y low).0;
    row_there = λ y low. (zero_all c.args.pitch c.args.height c.args.step c.loop-k.blocks.items c.loop-k.k c.requires.step (enough c) c.loop-k.invariant y low).1;
  },
)

pub returns-clause-zero : goal.returns-clause-zero
returns-clause-zero c y low = (zero_all c.args.pitch c.args.height c.args.step c.loop-k.blocks.items c.loop-k.k c.requires.step (enough c) c.loop-k.invariant y low).2
