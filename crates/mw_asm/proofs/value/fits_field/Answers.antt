use Rattle.std.proofs.Common.{◌≡◌, to_z, of_z, sym, ap, subst, ◌∙◌, FitsSigned}
use Rattle.std.specs.Int.{w64, w128}
use Rattle.std.proofs.lemmas.Int.{to_z-of_z}
use Rattle.mw_asm.specs.Values.{fits_field}
use Rattle.mw_asm.proofs.ConversionLemmas.{in_field-fits, outside-fits}
use Rattle.mw_asm.proofs.value.fits_field.Goals as goal

pub returns-in-Ok : goal.returns-in-Ok
returns-in-Ok c =
    let h = c.in-Ok.ensures in
    let whole : c.in-Ok.operand ≡ c.args.operand = h.1 ∙ to_z-of_z w128 c.args.operand c.ranges.operand in
    let fits : FitsSigned w64 c.args.operand = subst (λ z. FitsSigned w64 z) (to_z-of_z w128 c.args.operand c.ranges.operand) h.0 in
    let same : to_z w64 (of_z w64 c.in-Ok.operand) ≡ c.args.operand = ap (λ z. to_z w64 (of_z w64 z)) whole ∙ to_z-of_z w64 c.args.operand fits in
    in_field-fits c.args.field.now (to_z w64 (of_z w64 c.in-Ok.operand)) c.is_in_field.result c.requires c.is_in_field.ensures.0 c.is_in_field.ensures.1 ∙ ap (fits_field c.args.field.now) same

pub returns-in-Err : goal.returns-in-Err
returns-in-Err c =
    outside-fits c.args.field.now c.args.operand c.requires
    (λ fits. c.in-Err.ensures (subst (λ z. FitsSigned w64 z) (sym (to_z-of_z w128 c.args.operand c.ranges.operand)) fits))
