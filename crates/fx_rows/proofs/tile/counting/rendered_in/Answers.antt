use Rattle.std.proofs.Common.{◌≡◌, ◌∙◌, ◌+◌, ap, length, rules}
use Rattle.fx_rows.proofs.tile.counting.rendered_in.Goals as goal

pub closed-totals-requires : goal.closed-totals-requires
closed-totals-requires g c =
    let all = rw c.expect-seats.ensures at c.split-split.ensures.seats in
    let back = c.in-Ok.ensures.seats in
    let same : length c.in-Ok.rendered.seats.items ≡ length c.expect-seats.result.items = search rules in
    record {
      first_is = all.first_is;
      free = back.1;
      all = ap (λ n. c.split-split.new.first.directory.parts + n) same ∙ all.all;
    }

pub closed-totals-requires-in-Err : goal.closed-totals-requires-in-Err
closed-totals-requires-in-Err g c =
    let all = rw c.expect-seats.ensures at c.split-split.ensures.seats in
    let back = c.in-Err.ensures.back in
    let same : length c.in-Err.seats.items ≡ length c.expect-seats.result.items = search rules in
    record {
      first_is = all.first_is;
      free = back.1;
      all = ap (λ n. c.split-split.new.first.directory.parts + n) same ∙ all.all;
    }
