use Rattle.std.proofs.Common.{◌≡◌, ◌^◌, ◌≤◌}
use Rattle.mw_digits.specs.Digits.{digits_of}
use Rattle.mw_digits.proofs.hex_digits.count_digits.Given as goal

abbrev pub invariant-loop-most : goal.invariant-loop-most
invariant-loop-most l = record {
  few : l.most ≤ 15;
  power : l.least ≡ 16 ^ l.most;
  same : digits_of l.most l.number ≡ digits_of 15 l.number;
}

abbrev pub decreases-loop-most : goal.decreases-loop-most
decreases-loop-most l = l.most
