use Rattle.std.proofs.Common.{◌≡◌, ◌≤◌, drop, min}
use Rattle.std.specs.Str.{all_ascii_digits}
use Rattle.std.specs.Str.Parse.{digits_value_after, digits_value}
use Rattle.fx_pam.proofs.header.number_in.Given as goal

-- the digits so far and those to come are the whole text's, up to the greatest number that counts
abbrev pub invariant-loop-b : goal.invariant-loop-b
invariant-loop-b l = record {
  value_is : min (digits_value_after 10 l.value (drop l.b-index l.digits)) 999999999 ≡ min (digits_value 10 l.digits) 999999999;
  digits_left : all_ascii_digits (drop l.b-index l.digits) ≡ all_ascii_digits l.digits;
  small : l.value ≤ 999999999;
}
