use Rattle.std.proofs.Common.{◌≡◌, ◌<◌, ◌^◌, drop}
use Rattle.std.specs.Str.{all_ascii_digits}
use Rattle.std.specs.Str.Parse.{digits_value_after, digits_value}
use Rattle.fx_base.proofs.fix.digits.Given as goal

-- the digits so far and those to come are the whole text's
abbrev pub invariant-loop-b : goal.invariant-loop-b
invariant-loop-b l = record {
  value_is : digits_value_after 10 l.value (drop l.b-index l.text) ≡ digits_value 10 l.text;
  digits_left : all_ascii_digits (drop l.b-index l.text) ≡ all_ascii_digits l.text;
  small : l.value < 10 ^ l.b-index;
}
