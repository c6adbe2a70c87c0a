use Rattle.std.proofs.Common.{rules}
use Rattle.mw_step.proofs.StorageLemmas.{load-there, load-elsewhere}
use Rattle.mw_step.proofs.storage.load_bytes.Goals as goal

pub returns-then-is_in_ram-clause-bytes : goal.returns-then-is_in_ram-clause-bytes
returns-then-is_in_ram-clause-bytes c =
    load-there c.args.ram.now c.read.result c.args.op.now c.args.at.now c.args.devices.now.devices c.requires.stands.size c.read.ensures c.if-is_in_ram.ensures

pub returns-else-is_in_ram-clause-bytes : goal.returns-else-is_in_ram-clause-bytes
returns-else-is_in_ram-clause-bytes c =
    load-elsewhere c.args.ram.now c.load.result c.args.op.now c.args.at.now c.args.devices.now.devices c.requires.sized c.requires.stands c.requires.calm (search rules) c.load.ensures.value c.if-is_in_ram.ensures
