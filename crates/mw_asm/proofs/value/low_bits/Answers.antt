use Rattle.std.proofs.Common.{arith}
use Rattle.std.specs.Prelude.{pos, ◌+ℤ◌}
use Rattle.std.specs.Int.{w128, cast_signed, cast_unsigned}
use Rattle.std.proofs.lemmas.Int.{ints}
use Rattle.mw_asm.proofs.ConversionLemmas.{wrapped}
use Rattle.mw_asm.proofs.value.low_bits.Goals as goal

pub returns-then-value-lt0 : goal.returns-then-value-lt0
returns-then-value-lt0 c =
    wrapped c.args.value (cast_signed w128 (cast_unsigned w128 (cast_signed w128 (cast_unsigned w128 c.args.value) +ℤ pos 18446744073709551616))) c.requires.low (omega (arith, ints)) (omega (arith, ints))
