-- An instruction to be written over.
use Rattle.std.specs.Prelude.{false, []}
use Rattle.mw_decode.specs.declared.insn.Insn.{Insn}

-- row 0 with no operand and no form
abbrev pub no_insn : Insn
no_insn = record { row = 0; ops = record { items = [] }; oe = false; rc = false; aa = false; lk = false }
