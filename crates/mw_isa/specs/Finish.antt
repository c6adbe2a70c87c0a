-- What a long operation writes at its end (Book I, fixed-point arithmetic instructions, exception register and condition
-- register).
use Rattle.std.specs.Prelude.{ℕ, Bool, List, Some}
use Rattle.mw_alu.specs.declared.op.AluOut.{AluOut}
use Rattle.mw_isa.specs.declared.long.LongOp.{LongOp}
use Rattle.mw_isa.specs.declared.long.LongOp.TheVariants.{Mul, Div}
use Rattle.mw_isa.specs.declared.outcome.Target.{Target}
use Rattle.mw_isa.specs.declared.slot.Slot.TheVariants.{Gpr}
use Rattle.mw_isa.specs.declared.xer.XerBits.{XerBits}
use Rattle.mw_isa.specs.Execute.{end_with}
use Rattle.mw_isa.specs.Xer.{with_overflows, with_summary, xer_bits}

-- the bits of XER as they stand after a long operation: with OE, OV and OV32 are the result's, and SO is set by OV
abbrev pub bits_behind : Bool → AluOut → XerBits → XerBits
bits_behind oe out bits = with_summary oe out (with_overflows oe out bits)

-- what is written at the end of a long operation, in order: the result, with OE XER, and with Rc CR field 0
abbrev pub finished_by : ℕ → Bool → Bool → AluOut → ℕ → List Target
finished_by to oe rc out xer = end_with (Some (Gpr to)) out.value oe rc (bits_behind oe out (xer_bits xer))

-- what a long operation writes, from what it gives and XER as it is before
abbrev pub finished : LongOp → AluOut → ℕ → List Target
finished (Mul unit high word to oe rc) out xer = finished_by to oe rc out xer
finished (Div unit rest word to oe rc) out xer = finished_by to oe rc out xer
