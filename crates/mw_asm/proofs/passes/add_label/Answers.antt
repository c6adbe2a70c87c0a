use Rattle.std.proofs.Common.{sym}
use Rattle.mw_asm.proofs.PassLemmas.{label-new}
use Rattle.mw_asm.proofs.passes.add_label.Goals as goal

pub returns-in-Ok : goal.returns-in-Ok
returns-in-Ok c =
    label-new c.args.labels.now c.add.new.self c.args.at c.args.line.now c.args.label c.in-Some.label c.part_of-name.result.now c.address_of.result c.in-Some.is c.part_of-name.ensures c.address_of.ensures (sym c.if-is_some.ensures) c.in-Ok.ensures.ok
