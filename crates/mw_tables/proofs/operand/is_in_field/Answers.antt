use Rattle.std.proofs.Common.{ℤ, ◌≡◌, true, w64, to_z, of_z, FitsSigned, nat_eq, sym, ap, ◌∙◌, rules}
use Rattle.std.proofs.lemmas.Int.{to_z-of_z}
use Rattle.std.proofs.lemmas.Bool.{eqb-true, eq-eqb}
use Rattle.mw_tables.specs.Layouts.{operand_from, bits_from}
use Rattle.mw_tables.proofs.FieldLaws.{InRange-bits, bits-InRange}
use Rattle.mw_tables.proofs.operand.is_in_field.Goals as goal

same_bits : (y z : ℤ) → FitsSigned w64 y → FitsSigned w64 z → nat_eq (of_z w64 y) (of_z w64 z) ≡ true → y ≡ z
same_bits y z p q test = sym (to_z-of_z w64 y p) ∙ ap (to_z w64) (eqb-true (of_z w64 y) (of_z w64 z) test) ∙ to_z-of_z w64 z q

pub returns : goal.returns
returns c =
    let fits : FitsSigned w64 c.operand_from.result = search rules in
    let read : c.operand_from.result ≡ operand_from c.args.field.now (bits_from c.args.field.now c.args.operand) =
    c.operand_from.ensures
    ∙ ap (operand_from c.args.field.now) (c.bits_from.ensures.value ∙ ap (bits_from c.args.field.now) (to_z-of_z w64 c.args.operand c.ranges.operand)) in (
      (λ test. bits-InRange c.args.field.now c.args.operand (sym read ∙ same_bits c.operand_from.result c.args.operand fits c.ranges.operand test)),
      (λ within. eq-eqb _ _ (ap (of_z w64) (read ∙ InRange-bits c.args.field.now c.args.operand c.requires within))),
    )
