use Rattle.std.proofs.Common.{subst}
use Rattle.mw_syntax.specs.Bounds.{IsStatement, IsInstruction}
use Rattle.mw_asm.proofs.MeaningLemmas.{mnemonic_of-MeansRow}
use Rattle.mw_asm.proofs.passes.behind_statement.Goals as goal

pub code_size-requires : goal.code_size-requires
code_size-requires c =
    let is : IsInstruction c.args.line.now c.in-Instruction.name c.in-Instruction.mnemonic c.in-Instruction.operands.items = subst (IsStatement c.args.line.now) c.in-Instruction.is c.requires.is in
    (mnemonic_of-MeansRow is.text c.in-Instruction.mnemonic is.known).below
