use Rattle.std.proofs.Common.{◌≡◌, ◌≤◌, ◌++◌, drop}
use Rattle.mw_asm.specs.Disassembly.{operands_text}
use Rattle.mw_asm.proofs.disassembly.add_operands.Given as goal

-- the operands that are written, with the text of the items and operands that are left, are the whole text
abbrev pub invariant-loop-item : goal.invariant-loop-item
invariant-loop-item l = record {
  few : l.place ≤ l.item-index;
  same : l.text ++ operands_text (drop l.item-index l.items) l.absolute l.at (drop l.place l.operands) ≡ l.fn.text ++ operands_text l.items l.absolute l.at l.operands;
}
