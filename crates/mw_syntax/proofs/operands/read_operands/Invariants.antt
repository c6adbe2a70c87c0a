use Rattle.std.proofs.Common.{◌≡◌, ◌+◌, ◌≤◌, length, drop}
use Rattle.mw_syntax.specs.Items.{kinds_of, operands_at}
use Rattle.mw_syntax.proofs.ReadingLemmas.{behind}
use Rattle.mw_syntax.proofs.operands.read_operands.Given as goal

abbrev pub invariant-loop-item : goal.invariant-loop-item
invariant-loop-item l = record {
  inside : l.place ≤ length l.tokens;
  same : behind l.operands.items (operands_at (drop l.item-index l.items) l.line l.tokens l.place) ≡ operands_at l.items l.line l.tokens l.start;
  count : length l.operands.items + length (kinds_of (drop l.item-index l.items)) ≡ length (kinds_of l.items);
}
