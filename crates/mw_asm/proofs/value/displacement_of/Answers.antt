use Rattle.std.proofs.Common.{◌≡◌, FitsSigned, ap, ◌∙◌, arith, rules}
use Rattle.std.specs.Prelude.{pos, ◌-ℤ◌}
use Rattle.std.specs.Int.{w64, w128, cast_signed, cast_unsigned}
use Rattle.std.proofs.lemmas.Int.{ints, to_z-of_z}
use Rattle.mw_asm.proofs.value.displacement_of.Goals as goal

pub returns : goal.returns
returns c =
    let fits : FitsSigned w64 c.cast_signed.result = search rules in
    let exact : cast_signed w128 (cast_unsigned w128 (cast_signed w128 (cast_unsigned w128 c.args.value) -ℤ cast_signed w128 (cast_unsigned w128 c.from.result))) ≡ c.args.value -ℤ pos c.origin.result = omega (arith, ints) in
    to_z-of_z w64 c.cast_signed.result fits ∙ c.cast_signed.ensures
    ∙ ap (cast_signed w64) c.low_bits.ensures
    ∙ ap (λ z. cast_signed w64 (cast_unsigned w64 z)) exact
    ∙ ap (λ n. cast_signed w64 (cast_unsigned w64 (c.args.value -ℤ pos n))) c.origin.ensures
