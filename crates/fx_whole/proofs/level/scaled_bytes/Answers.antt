use Rattle.std.proofs.Common.{◌<◌, length, length-set, below_more, arith, ◌∙◌}
use Rattle.std.proofs.lemmas.List.{get_or-set_same, get_or-set_other}
use Rattle.fx_whole.proofs.level.scaled_bytes.Goals as goal

pub loop-c-preserved : goal.loop-c-preserved
loop-c-preserved c =
    let inv = c.loop-c.invariant in
    let bytes = c.loop-c.bytes in
    let place = c.loop-c.c in
    let made = c.scaled.result in
    let room : place < length bytes = omega (arith, inv.long, c.loop-c-test.true) in
    record {
      long = length-set bytes place made ∙ inv.long;
      filled = below_more _ _ (λ k few. get_or-set_other bytes place k made 0 (λ same. omega arith) ∙ inv.filled k few)
          (get_or-set_same bytes place made 0 room ∙ c.scaled.ensures.value);
    }
