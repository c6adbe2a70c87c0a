use Rattle.std.proofs.Common.{◌≡◌, Some, to_z, of_z, FitsSigned, true, sym, ap, ◌∙◌, rules}
use Rattle.std.specs.Int.{w64, w128}
use Rattle.std.proofs.lemmas.Int.{to_z-of_z}
use Rattle.mw_asm.specs.Values.{fits_field, if_fits}
use Rattle.mw_asm.proofs.ConversionLemmas.{fits_field-fits, if_fits-held}
use Rattle.mw_asm.proofs.value.if_fits.Goals as goal

pub overflow_cast-result : goal.overflow_cast-result
overflow_cast-result c = fits_field-fits c.args.field.now (to_z w128 (of_z w128 c.in-Some.operand)) c.requires (sym c.if-fits_field.ensures)

pub returns-then-fits_field : goal.returns-then-fits_field
returns-then-fits_field c =
    let range : FitsSigned w128 c.in-Some.operand = search rules in
    let whole = to_z-of_z w128 c.in-Some.operand range in
    let fits : fits_field c.args.field.now c.in-Some.operand ≡ true = ap (fits_field c.args.field.now) (sym whole) ∙ sym c.if-fits_field.ensures in
    ap (λ z. Some (to_z w64 (of_z w64 z))) whole
    ∙ if_fits-held c.args.field.now c.in-Some.operand c.requires fits
    ∙ ap (if_fits c.args.field.now) (sym c.in-Some.is)
