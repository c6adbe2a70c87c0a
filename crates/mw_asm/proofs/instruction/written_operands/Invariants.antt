use Rattle.std.proofs.Common.{◌≡◌, drop, length}
use Rattle.mw_asm.specs.Values.{operands_of, written_fields}
use Rattle.mw_asm.proofs.InstructionLemmas.{before}
use Rattle.mw_asm.proofs.instruction.written_operands.Given as goal

abbrev pub invariant-loop-place : goal.invariant-loop-place
invariant-loop-place l = record {
  count : length l.operands.items ≡ l.place;
  same : before l.operands.items (operands_of l.labels l.at l.line l.absolute (drop l.place l.expressions) (drop l.place l.kinds) (drop l.place (written_fields l.pattern l.fields)))
      ≡ operands_of l.labels l.at l.line l.absolute l.expressions l.kinds (written_fields l.pattern l.fields);
}
