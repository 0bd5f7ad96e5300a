use Rattle.std.proofs.Common.{◌<◌, ◌+◌, ◌-◌, ◌*◌, min, length, drop, get_or, sym, ap, ◌∙◌, arith}
use Rattle.std.specs.Str.Parse.{digits_value_after}
use Rattle.std.proofs.lemmas.List.{drop_more}
use Rattle.fx_pam.proofs.NumberLemmas.{capped, value-next}
use Rattle.fx_pam.proofs.header.number_in.Goals as goal

pub loop-b-preserved : goal.loop-b-preserved
loop-b-preserved c =
    let here : c.loop-b.b-index < length c.args.digits.now = omega arith in
    let b = get_or c.args.digits.now c.loop-b.b-index 0 in
    let rest = drop (c.loop-b.b-index + 1) c.args.digits.now in
    let split = drop_more c.args.digits.now c.loop-b.b-index 0 here in
    let digit = sym c.is_ascii_digit.ensures.value ∙ c.if-not-is_ascii_digit.false in
    record {
      value_is = rw (c.min-value.ensures, c.from.ensures) (
          capped 999999999 (c.loop-b.value * 10 + (b - 48)) rest
          ∙ ap (λ n. min n 999999999) (sym (value-next c.loop-b.value b rest digit))
          ∙ ap (λ ds. min (digits_value_after 10 c.loop-b.value ds) 999999999) (sym split)
          ∙ c.loop-b.invariant.value_is
          );
      digits_left = rw digit at (rw split at c.loop-b.invariant.digits_left);
      small = omega arith;
    }
