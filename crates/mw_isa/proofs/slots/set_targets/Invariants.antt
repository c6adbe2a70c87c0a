use Rattle.std.proofs.Common.{◌≡◌, drop}
use Rattle.mw_isa.specs.Slots.{set_targets}
use Rattle.mw_isa.proofs.slots.set_targets.Given as goal

-- the targets that are left make of the registers so far what all targets make of those at the start
abbrev pub invariant-loop-target : goal.invariant-loop-target
invariant-loop-target l = set_targets (drop l.target-index l.targets) l.regs ≡ set_targets l.targets l.fn.regs
