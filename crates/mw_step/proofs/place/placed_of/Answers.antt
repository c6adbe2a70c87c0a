use Rattle.std.proofs.Common.{Some, sym, subst}
use Rattle.mw_isa.specs.declared.outcome.Outcome.{Outcome}
use Rattle.mw_isa.specs.Step.{OnPlaced}
use Rattle.mw_isa.specs.Storage.{IsPlaced}
use Rattle.mw_step.proofs.StorageLemmas.{access-stands}
use Rattle.mw_step.proofs.place.placed_of.Goals as goal

pub returns-in-Memory-clause-stands : goal.returns-in-Memory-clause-stands
returns-in-Memory-clause-stands c =
    subst (λ (outcome : Outcome). OnPlaced IsPlaced outcome (Some c.stretches_of.result)) (sym c.in-Memory.is)
    (access-stands c.args.ram.now c.args.regs.now c.in-Memory.op c.pages_of.result c.stretches_of.result c.pages_of.ensures c.stretches_of.ensures)
