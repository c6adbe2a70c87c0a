use Rattle.std.proofs.Common.{◌≡◌, ◌<◌, ◌^◌, drop}
use Rattle.std.specs.Str.Parse.{digits_value, digits_value_after}
use Rattle.mw_text.proofs.number.number_of.Given as goal

-- the value so far and the digits that are left write the whole number
abbrev pub invariant-loop-digit : goal.invariant-loop-digit
invariant-loop-digit l = record {
  fits : l.value < 2 ^ 64;
  same : digits_value_after l.base l.value (drop l.digit-index l.digits) ≡ digits_value l.base l.digits;
}
