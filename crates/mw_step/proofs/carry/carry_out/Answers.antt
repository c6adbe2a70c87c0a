use Rattle.std.proofs.Common.{sym, ap, ◌∙◌}
use Rattle.mw_decode.proofs.Ranges.{IsInsn-row}
use Rattle.mw_isa.specs.declared.regs.Regs.{Regs}
use Rattle.mw_isa.specs.State.{seen, state_of}
use Rattle.mw_isa.proofs.StepLaws.{after-trapped}
use Rattle.mw_step.proofs.StepLemmas.{prepared-after}
use Rattle.mw_step.proofs.carry.carry_out.Goals as goal

pub finish-requires-clause-row : goal.finish-requires-clause-row
finish-requires-clause-row c = IsInsn-row c.args.prepared.now.insn (c.requires.comes c.in-None.is).is

pub returns-in-None-clause-after : goal.returns-in-None-clause-after
returns-in-None-clause-after c = c.finish.ensures.value ∙ sym (prepared-after c.args.prepared.now (seen c.args.state.now) c.requires c.in-None.is)

pub returns-in-Some-clause-after : goal.returns-in-Some-clause-after
returns-in-Some-clause-after c =
    ap (λ (regs : Regs). state_of regs c.args.state.now.ram c.args.state.now.devices.devices) c.trap.ensures
    ∙ sym (after-trapped c.in-Some.raised (seen c.args.state.now) (c.requires.raised ∙ c.in-Some.is))
