-- Values as 64-bit numbers, and the fields that hold them.
use Rattle.std.proofs.Common.{◌≡◌, ℕ, ◌+◌, ◌-◌, ◌*◌, ◌^◌, ◌<◌, ◌≤◌, Bool, true, false, Some, to_z, of_z, refl, sym, ap, subst, ◌∙◌, arith, rules, inl, inr}
use Rattle.std.specs.Prelude.{ℤ, pos, negsuc, ◌+ℤ◌, ◌≤ℤ◌, ◌<ℤ◌, neg_ℤ, unsigned_abs, FitsSigned}
use Rattle.std.specs.Int.{w64, cast_unsigned}
use Rattle.std.proofs.lemmas.Int.{ints, to_z-of_z}
use Rattle.std.proofs.lemmas.Nat.{shl_below}
use Rattle.std.proofs.lemmas.Bool.{cases_Bool}
use Rattle.std.proofs.lemmas.Bool.Decides.{Decides-int_eq}
use Rattle.std.proofs.Math.Pow.{pow_mono}
use Rattle.mw_tables.specs.declared.layout.Field.{Field}
use Rattle.mw_tables.specs.Layouts.{InRange, is_readable, width_of, operand_from, bits_from}
use Rattle.mw_tables.proofs.FieldLaws.{InRange-bits, bits-InRange, is_readable-narrow, operand_from-unsigned}
use Rattle.mw_tables.proofs.RangeLaws.{InRange-signed}
use Rattle.mw_asm.specs.Values.{fits_field, if_fits}

-- a negative number in 64 bits
pub wrapped : (value sum : ℤ) → neg_ℤ (pos (2 ^ 64)) ≤ℤ value → value <ℤ pos 0 → sum ≡ value +ℤ pos (2 ^ 64) → unsigned_abs sum ≡ cast_unsigned w64 value
wrapped (pos n) sum low high is = absurd (omega (arith, ints))
wrapped (negsuc n) (pos k) low high is = omega (arith, ints)
wrapped (negsuc n) (negsuc k) low high is = absurd (omega (arith, ints))

by_answer : (f : Field) (operand : ℤ) (answer fits : Bool) → is_readable f ≡ true → fits_field f operand ≡ fits → (answer ≡ true → InRange f operand) → (InRange f operand → answer ≡ true) → answer ≡ fits
by_answer f operand true true readable is to from = refl
by_answer f operand false false readable is to from = refl
by_answer f operand true false readable is to from = sym ((Decides-int_eq (operand_from f (bits_from f operand)) operand).1 (InRange-bits f operand readable (to refl))) ∙ is
by_answer f operand false true readable is to from = from (bits-InRange f operand ((Decides-int_eq (operand_from f (bits_from f operand)) operand).0 is))

-- what the code answers of an operand in a field is whether the field can hold it
pub in_field-fits : (f : Field) (operand : ℤ) (answer : Bool) → is_readable f ≡ true → (answer ≡ true → InRange f operand) → (InRange f operand → answer ≡ true) → answer ≡ fits_field f operand
in_field-fits f operand answer readable to from = by_answer f operand answer (fits_field f operand) readable refl to from

signed_fits : (half : ℕ) (z : ℤ) → half ≤ 2 ^ 62 → neg_ℤ (pos half) ≤ℤ z → z <ℤ pos half → FitsSigned w64 z
signed_fits half z least low high = omega (arith, ints)

unsigned_fits : (n : ℕ) (z : ℤ) → n < 2 ^ 63 → z ≡ pos n → FitsSigned w64 z
unsigned_fits n z below is = subst (λ z. FitsSigned w64 z) (sym is) (search rules)

-- what a field holds fits 64 bits
pub InRange-fits : (f : Field) (z : ℤ) → is_readable f ≡ true → InRange f z → FitsSigned w64 z
InRange-fits f z readable within =
    let narrow = is_readable-narrow f readable in
    elim (cases_Bool f.signed) [
      | inl signed ↦
          (let range = InRange-signed f z signed within in
          signed_fits (2 ^ (width_of f + f.shift - 1)) z (pow_mono {i = width_of f + f.shift - 1} {j = 62} (omega arith)) range.0 range.1)
      | inr unsigned ↦
          (let below : within.0 * 2 ^ f.shift < 2 ^ (width_of f + f.shift) = shl_below within.0 (width_of f) f.shift within.1 in
          let most : 2 ^ (width_of f + f.shift) ≤ 2 ^ 63 = pow_mono {i = width_of f + f.shift} {j = 63} (omega arith) in
          unsigned_fits (within.0 * 2 ^ f.shift) z (omega arith) (within.2 ∙ operand_from-unsigned f within.0 unsigned))
    ]

by_none : (f : Field) (operand : ℤ) (fits : Bool) → is_readable f ≡ true → fits_field f operand ≡ fits → (FitsSigned w64 operand → ⊥) → false ≡ fits
by_none f operand false readable is out = refl
by_none f operand true readable is out = absurd (out (InRange-fits f operand readable (bits-InRange f operand ((Decides-int_eq (operand_from f (bits_from f operand)) operand).0 is))))

-- no field holds what doesn't fit 64 bits
pub outside-fits : (f : Field) (operand : ℤ) → is_readable f ≡ true → (FitsSigned w64 operand → ⊥) → false ≡ fits_field f operand
outside-fits f operand readable out = by_none f operand (fits_field f operand) readable refl out

-- what a field can hold fits 64 bits
pub fits_field-fits : (f : Field) (operand : ℤ) → is_readable f ≡ true → fits_field f operand ≡ true → FitsSigned w64 operand
fits_field-fits f operand readable fits = InRange-fits f operand readable (bits-InRange f operand ((Decides-int_eq (operand_from f (bits_from f operand)) operand).0 fits))

-- an operand that its field can hold is held as it is
pub if_fits-held : (f : Field) (operand : ℤ) → is_readable f ≡ true → fits_field f operand ≡ true → Some (to_z w64 (of_z w64 operand)) ≡ if_fits f (Some operand)
if_fits-held f operand readable fits = ap (λ (z : ℤ). Some z) (to_z-of_z w64 operand (fits_field-fits f operand readable fits)) ∙ sym (rw fits)
