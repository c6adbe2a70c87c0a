use Rattle.std.proofs.Common.{◌≡◌, ◌++◌, drop}
use Rattle.mw_syntax.specs.Items.{kinds_of}
use Rattle.mw_asm.proofs.instruction.kinds_of.Given as goal

abbrev pub invariant-loop-item : goal.invariant-loop-item
invariant-loop-item l = l.kinds.items ++ kinds_of (drop l.item-index l.items) ≡ kinds_of l.items
