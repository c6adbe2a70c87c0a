use Rattle.std.proofs.Common.{◌≤◌, length}
use Rattle.mw_digits.proofs.WriteLemmas.{AreWritten}
use Rattle.mw_digits.proofs.hex_digits.write_hex.Given as goal

abbrev pub invariant-loop-place : goal.invariant-loop-place
invariant-loop-place l = record {
  within : l.place ≤ length l.fn.digits;
  written : AreWritten l.digits l.number l.rest l.place;
}

abbrev pub decreases-loop-place : goal.decreases-loop-place
decreases-loop-place l = l.place
