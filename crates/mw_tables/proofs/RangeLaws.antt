-- What an operand in the range of a field is, by the kind of field.
use Rattle.std.proofs.Common.{◌≡◌, ℕ, zero, suc, ◌+◌, ◌-◌, ◌*◌, ◌^◌, ◌<◌, ◌≤◌, true, false, ℤ, pos, negsuc, neg_ℤ, ◌-ℤ◌, ◌*ℤ◌, ◌≤ℤ◌, ◌<ℤ◌, refl, sym, ap, subst, ◌∙◌, arith, inl, inr}
use Rattle.std.proofs.lemmas.Nat.{shl_below, pow-add}
use Rattle.std.proofs.lemmas.Int.{ints}
use Rattle.std.proofs.lemmas.Bool.{cases_lt}
use Rattle.mw_tables.specs.declared.layout.Field.{Field}
use Rattle.mw_tables.specs.Layouts.{width_of, signed_of, InRange, IsRegister, IsUnsigned, IsSigned, IsMultiple}
use Rattle.mw_tables.proofs.FieldLaws.{operand_from-unsigned, operand_from-signed, signed_of-low, signed_of-high}

unshifted : (n shift : ℕ) → shift ≡ 0 → n * 2 ^ shift ≡ n
unshifted n shift still = ap (λ k. n * 2 ^ k) still ∙ omega arith

-- an operand of an unsigned field
pub InRange-unsigned : (f : Field) (z : ℤ) → f.signed ≡ false → f.shift ≡ 0 → InRange f z → IsUnsigned (width_of f) z
InRange-unsigned f z unsigned still within =
    (within.0, within.1, within.2 ∙ operand_from-unsigned f within.0 unsigned ∙ ap pos (unshifted within.0 f.shift still))

-- an unsigned number of so many bits is in the range of an unsigned field of as many
pub unsigned-InRange : (f : Field) (z : ℤ) → f.signed ≡ false → f.shift ≡ 0 → IsUnsigned (width_of f) z → InRange f z
unsigned-InRange f z unsigned still is =
    (is.0, is.1, is.2 ∙ sym (ap pos (unshifted is.0 f.shift still)) ∙ sym (operand_from-unsigned f is.0 unsigned))

-- an operand of an unsigned field of five bits, as RT, RS, RA, RB and RC
pub InRange-register : (f : Field) (z : ℤ) → f.signed ≡ false → f.shift ≡ 0 → width_of f ≡ 5 → InRange f z → IsRegister z
InRange-register f z unsigned still five within = subst (λ w. IsUnsigned w z) five (InRange-unsigned f z unsigned still within)

doubled : (width : ℕ) → 0 < width → 2 ^ width ≡ 2 ^ (width - 1) + 2 ^ (width - 1)
doubled width some =
    let next : width ≡ width - 1 + 1 = omega arith in
    ap (λ k. 2 ^ k) next ∙ pow-add 2 (width - 1) 1 ∙ (omega arith)

at_most_twice : (width : ℕ) → 2 ^ width ≤ 2 ^ (width - 1) + 2 ^ (width - 1)
at_most_twice zero = omega arith
at_most_twice (suc width) = omega (arith, doubled (suc width) (omega arith))

low_signed : (n half : ℕ) (z : ℤ) → n < half → z ≡ pos n → (neg_ℤ (pos half) ≤ℤ z) × (z <ℤ pos half)
low_signed n half z low is = (omega (arith, ints), omega (arith, ints))

high_signed : (n half whole : ℕ) (z : ℤ) → half ≤ n → n < whole → whole ≤ half + half → z ≡ pos n -ℤ pos whole → (neg_ℤ (pos half) ≤ℤ z) × (z <ℤ pos half)
high_signed n half whole z high below twice is = (omega (arith, ints), omega (arith, ints))

-- an operand of a signed field lies in the range of the field's bits and of those that are shifted in
pub InRange-signed : (f : Field) (z : ℤ) → f.signed ≡ true → InRange f z → IsSigned (width_of f + f.shift) z
InRange-signed f z signed within =
    let n = within.0 * 2 ^ f.shift in
    let width = width_of f + f.shift in
    let is : z ≡ signed_of width n = within.2 ∙ operand_from-signed f within.0 signed in
    elim (cases_lt n (2 ^ (width - 1))) [
      | inl low ↦ low_signed n (2 ^ (width - 1)) z low (is ∙ signed_of-low width n low)
      | inr high ↦ high_signed n (2 ^ (width - 1)) (2 ^ width) z high (shl_below within.0 (width_of f) f.shift within.1) (at_most_twice width) (is ∙ signed_of-high width n high)
    ]

pos_times : (n step : ℕ) → pos (n * step) ≡ pos n *ℤ pos step
pos_times n step = refl

left_over : (j x y : ℕ) → j + x ≡ y → pos x -ℤ pos y ≡ neg_ℤ (pos j)
left_over j x y is = omega (arith, ints)

neg_times : (n whole step : ℕ) → n < whole → pos (n * step) -ℤ pos (whole * step) ≡ negsuc (whole - suc n) *ℤ pos step
neg_times n whole step below =
    let parts : suc (whole - suc n) + n ≡ whole = omega arith in
    let summed : suc (whole - suc n) * step + n * step ≡ (suc (whole - suc n) + n) * step = omega arith in
    left_over (suc (whole - suc n) * step) (n * step) (whole * step) (summed ∙ ap (λ k. k * step) parts)

-- an operand of a signed field that is shifted is a multiple, as that of DS, LI and BD is one of 4
pub InRange-multiple : (f : Field) (z : ℤ) → f.signed ≡ true → InRange f z → IsMultiple (2 ^ f.shift) z
InRange-multiple f z signed within =
    let n = within.0 * 2 ^ f.shift in
    let width = width_of f + f.shift in
    let is : z ≡ signed_of width n = within.2 ∙ operand_from-signed f within.0 signed in
    let parts : 2 ^ width ≡ 2 ^ width_of f * 2 ^ f.shift = pow-add 2 (width_of f) f.shift in
    elim (cases_lt n (2 ^ (width - 1))) [
      | inl low ↦ (pos within.0, is ∙ signed_of-low width n low ∙ pos_times within.0 (2 ^ f.shift))
      | inr high ↦ (
        negsuc (2 ^ width_of f - suc within.0),
        is ∙ signed_of-high width n high ∙ ap (λ k. pos n -ℤ pos k) parts ∙ neg_times within.0 (2 ^ width_of f) (2 ^ f.shift) within.1,
      )
    ]
