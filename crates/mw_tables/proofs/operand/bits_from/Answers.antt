use Rattle.std.proofs.Common.{◌/◌, ◌%◌, ◌^◌, w64, bit_and, ap, ◌∙◌}
use Rattle.std.proofs.lemmas.Nat.{and_mask}
use Rattle.std.proofs.lemmas.Int.{to_z-of_z}
use Rattle.mw_tables.specs.Layouts.{width_of, bits_from}
use Rattle.mw_tables.proofs.operand.bits_from.Goals as goal

pub returns-clause-value : goal.returns-clause-value
returns-clause-value c =
    ap (bit_and (c.cast_unsigned.result / 2 ^ c.args.field.now.shift)) c.ones.ensures
    ∙ and_mask (c.cast_unsigned.result / 2 ^ c.args.field.now.shift) c.width_of.result
    ∙ ap (λ w. c.cast_unsigned.result / 2 ^ c.args.field.now.shift % 2 ^ w) c.width_of.ensures
    ∙ ap (λ n. n / 2 ^ c.args.field.now.shift % 2 ^ width_of c.args.field.now) c.cast_unsigned.ensures
    ∙ ap (bits_from c.args.field.now) (to_z-of_z w64 c.args.operand c.ranges.operand)
