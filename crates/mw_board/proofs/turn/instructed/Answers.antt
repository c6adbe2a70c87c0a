use Rattle.std.proofs.Common.{Some, refl}
use Rattle.mw_isa.specs.State.{seen}
use Rattle.mw_board.proofs.TurnLemmas.{offence-told, told-in_ram, turned-carried}
use Rattle.mw_board.proofs.turn.instructed.Goals as goal

pub returns-in-Err-clause-halt : goal.returns-in-Err-clause-halt
returns-in-Err-clause-halt c = (
  offence-told c.args.monitor.now.kept (seen c.args.state.now) c.new.result.ram.now c.prepare.new.prepared.packet (Some c.in-Err.access) c.prepare.ensures.packet c.new.ensures.value c.in-Err.ensures.err,
  c.requires.calm,
  refl,
)

pub record-requires-clause-within : goal.record-requires-clause-within
record-requires-clause-within c = told-in_ram (seen c.args.state.now) c.prepare.new.prepared.packet c.prepare.ensures.packet

pub returns-clause-ok : goal.returns-clause-ok
returns-clause-ok c =
    turned-carried (seen c.args.state.now) (seen c.carry_out.new.state) c.new.result.ram.now c.new-2.result.ram.now c.carry_out.result c.args.monitor.now.kept c.record.new.self.kept c.prepare.new.prepared.packet c.requires.calm c.prepare.ensures.packet c.new.ensures.value c.new-2.ensures.value c.in_default.ensures.ok c.in-Ok.ensures.kept c.carry_out.ensures.event c.carry_out.ensures.after
