use Rattle.mw_asm.proofs.InstructionLemmas.{code_bytes-one, code_bytes-two}
use Rattle.mw_asm.proofs.instruction.add_code.Goals as goal

pub returns-in_ok-add-2 : goal.returns-in_ok-add-2
returns-in_ok-add-2 c = code_bytes-two c.args.image.now c.add.new.self c.add-in-Some.new.self c.args.code c.in-Some.suffix _ _ c.in-Some.is c.to_le_bytes.ensures c.to_le_bytes-in-Some.ensures c.in_ok-add.ensures.ok c.in_ok-add-2.ensures.ok

pub returns-in_default : goal.returns-in_default
returns-in_default c = code_bytes-one c.args.image.now c.add.new.self c.args.code _ c.in_default.is c.to_le_bytes.ensures c.in_ok-add.ensures.ok
