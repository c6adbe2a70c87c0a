use Rattle.std.proofs.Common.{ℕ, ◌+◌, ◌*◌, ◌^◌, ◌<◌, pos, w64, to_z, FitsSigned, sym, ap, subst, ◌∙◌, arith, rules}
use Rattle.std.proofs.lemmas.Int.{to_z-of_z, to_z_pos}
use Rattle.mw_tables.specs.Layouts.{signed_of}
use Rattle.mw_tables.proofs.FieldLaws.{operand_from-signed, operand_from-unsigned}
use Rattle.mw_tables.proofs.CodeLemmas.{shifted-below, shifted-narrow, shifted-whole}
use Rattle.mw_tables.proofs.operand.operand_from.Goals as goal

fits : (n : ℕ) → n < 2 ^ 62 → FitsSigned w64 (pos n)
fits n below = search rules

small : (n : ℕ) → n < 2 ^ 62 → n < 2 ^ 63
small n below = omega arith

pub signed_of-requires-clause-fits : goal.signed_of-requires-clause-fits
signed_of-requires-clause-fits c =
    let below = shifted-below c.args.field.now c.args.bits c.requires.fits in
    let whole = shifted-whole c.args.field.now c.args.bits c.requires.readable c.requires.fits in
    subst (λ (n : ℕ). n < 2 ^ (c.width_of.result + c.args.field.now.shift)) (sym whole) (subst (λ (w : ℕ). c.args.bits * 2 ^ c.args.field.now.shift < 2 ^ (w + c.args.field.now.shift)) (sym c.width_of.ensures) below)

pub overflow_cast-result : goal.overflow_cast-result
overflow_cast-result c =
    let whole = shifted-whole c.args.field.now c.args.bits c.requires.readable c.requires.fits in
    subst (λ (n : ℕ). FitsSigned w64 (pos n)) (sym whole) (fits _ (shifted-narrow c.args.field.now c.args.bits c.requires.readable c.requires.fits))

pub returns-then-field : goal.returns-then-field
returns-then-field c =
    let within : FitsSigned w64 c.signed_of.result = search rules in
    to_z-of_z w64 c.signed_of.result within
    ∙ c.signed_of.ensures
    ∙ ap (λ n. signed_of (c.width_of.result + c.args.field.now.shift) n) (shifted-whole c.args.field.now c.args.bits c.requires.readable c.requires.fits)
    ∙ ap (λ w. signed_of (w + c.args.field.now.shift) (c.args.bits * 2 ^ c.args.field.now.shift)) c.width_of.ensures
    ∙ sym (operand_from-signed c.args.field.now c.args.bits c.if-field.true)

pub returns-else-field : goal.returns-else-field
returns-else-field c =
    ap (to_z w64) (shifted-whole c.args.field.now c.args.bits c.requires.readable c.requires.fits)
    ∙ to_z_pos w64 (c.args.bits * 2 ^ c.args.field.now.shift) (small _ (shifted-narrow c.args.field.now c.args.bits c.requires.readable c.requires.fits))
    ∙ sym (operand_from-unsigned c.args.field.now c.args.bits c.if-field.false)
