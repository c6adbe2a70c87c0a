use Rattle.std.proofs.Common.{◌≡◌, drop, bit_or}
use Rattle.mw_tables.specs.Layouts.{code_with_all}
use Rattle.mw_decode.proofs.encoder.code_with_all.Given as goal

-- the code that was written, with the fields and operands that are left, is the whole code
abbrev pub invariant-loop-place : goal.invariant-loop-place
invariant-loop-place l = bit_or l.code (code_with_all (drop l.place l.fields) (drop l.place l.operands)) ≡ code_with_all l.fields l.operands
