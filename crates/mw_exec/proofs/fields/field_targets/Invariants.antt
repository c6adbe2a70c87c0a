use Rattle.std.proofs.Common.{◌≡◌, ◌≤◌, length}
use Rattle.mw_isa.specs.Execute.{field_targets}
use Rattle.mw_exec.proofs.fields.field_targets.Given as goal

-- the targets are those of the fields so far, each once
abbrev pub invariant-loop-number : goal.invariant-loop-number
invariant-loop-number l = (l.targets.items ≡ field_targets l.mask l.value l.number) × (length l.targets.items ≤ l.number)
