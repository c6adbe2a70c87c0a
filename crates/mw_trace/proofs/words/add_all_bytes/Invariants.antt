use Rattle.std.proofs.Common.{◌≡◌, ◌++◌, drop}
use Rattle.std.specs.List.{flat_map}
use Rattle.mw_digits.specs.Digits.{hex}
use Rattle.mw_trace.proofs.words.add_all_bytes.Given as goal

-- what is written, with the digits of the bytes that are left, is the whole
abbrev pub invariant-loop-byte : goal.invariant-loop-byte
invariant-loop-byte l = l.text ++ flat_map (hex 2) (drop l.byte-index l.bytes) ≡ l.fn.text ++ flat_map (hex 2) l.bytes
