-- What printed operands are worth, and which operands can be written.
use Rattle.std.proofs.Common.{◌≡◌, ℕ, suc, ◌+◌, ◌-◌, ◌^◌, ◌<◌, ◌≤◌, ◌==◌, Bool, true, false, not, ◌&&◌, if◌then◌else◌, List, [], ◌∷◌, Some, None, Result, Ok, length, option_map, inl, inr, refl, ap, ◌∙◌, arith}
use Rattle.std.specs.Prelude.{ℤ, pos, negsuc, neg_ℤ, ◌+ℤ◌, ◌-ℤ◌, int_lt, nat_lt, FitsSigned}
use Rattle.std.specs.Int.{w64, cast_signed, cast_unsigned}
use Rattle.std.proofs.lemmas.Int.{ints, to_z-of_z}
use Rattle.std.proofs.lemmas.Bool.{and_parts, not-true, eqb-true, ltb-true, lt-ltb, le-ltb, cases_lt, cond-true, cond-false}
use Rattle.std.proofs.lemmas.Bool.Decides.{Decides-int_eq}
use Rattle.std.proofs.Math.Pow.{pow_mono}
use Rattle.mw_tables.specs.declared.layout.Field.{Field}
use Rattle.mw_tables.specs.Layouts.{width_of, is_readable, operand_from, bits_from, InRange, HasOperands, IsRegister, IsUnsigned}
use Rattle.mw_tables.proofs.FieldLaws.{InRange-bits}
use Rattle.mw_tables.proofs.RangeLaws.{InRange-unsigned}
use Rattle.mw_syntax.specs.declared.expression.Base.TheVariants.{Number as BaseNumber, Negative}
use Rattle.mw_syntax.specs.declared.expression.Addend.TheVariants.{Nothing}
use Rattle.mw_syntax.specs.declared.expression.Expression.{Expression}
use Rattle.mw_syntax.specs.declared.fault.Refusal.{Refusal}
use Rattle.mw_syntax.specs.declared.item.Item.{Item}
use Rattle.mw_syntax.specs.declared.item.Item.TheVariants.{Operand, Comma, Open, Close}
use Rattle.mw_syntax.specs.declared.item.Kind.{Kind}
use Rattle.mw_syntax.specs.declared.item.Kind.TheVariants.{Register, Value, Target, Upper}
use Rattle.mw_syntax.specs.Items.{kinds_of}
use Rattle.mw_asm.specs.Values.{Placed, base_value, sum_value, value_of, is_between, displacement_of, converted, fits_field, if_fits, in_range, operand_by, and_operands, operands_of}
use Rattle.mw_asm.specs.Disassembly.{operand_text}
use Rattle.mw_asm.proofs.ConversionLemmas.{InRange-fits}
use Rattle.mw_asm.proofs.PrintedForms.{address_of_target, operand_base, operand_expression, operands_expressions, IsWritable, AreWritable, is_register_field, holds_kind, hold_kinds}

-- an operand in the range of a field is one that the field can hold
held-fits : (f : Field) (z : ℤ) → is_readable f ≡ true → InRange f z → fits_field f z ≡ true
held-fits f z readable within = (Decides-int_eq (operand_from f (bits_from f z)) z).1 (InRange-bits f z readable within)

-- an operand that its field holds is in range
held-in_range : (expression : Expression) (f : Field) (z : ℤ) → fits_field f z ≡ true → in_range expression (if_fits f (Some z)) ≡ Ok z
held-in_range expression f z fits = ap (in_range expression) (cond-true (fits_field f z) (Some z) None fits)

-- an address has 64 bits
address-below : (z : ℤ) (base : ℕ) → FitsSigned w64 z → base < 2 ^ 63 → cast_unsigned w64 (z +ℤ pos base) < 2 ^ 64
address-below (pos n) base fits low = omega (arith, ints)
address-below (negsuc n) base fits low = omega (arith, ints)

-- the bits of an address that wrapped below 0, less what it counts from, are those of the displacement
address-wrapped : (n base : ℕ) → n < 2 ^ 63 → base ≤ n → cast_unsigned w64 (pos (2 ^ 64 - suc (n - base)) -ℤ pos base) ≡ 2 ^ 64 - suc n
address-wrapped n base fits low =
    let left : pos (2 ^ 64 - suc (n - base)) -ℤ pos base ≡ pos (2 ^ 64 - suc n) = omega (arith, ints) in
    ap (cast_unsigned w64) left

-- the bits of an address, less what it counts from, are those of the displacement
address-bits : (z : ℤ) (base : ℕ) → FitsSigned w64 z → base < 2 ^ 63 → cast_unsigned w64 (pos (cast_unsigned w64 (z +ℤ pos base)) -ℤ pos base) ≡ cast_unsigned w64 z
address-bits (pos n) base fits low = omega (arith, ints)
address-bits (negsuc n) base fits low = elim (cases_lt n base) [
  | inl below ↦
      (let sum : negsuc n +ℤ pos base ≡ pos (base - suc n) = omega (arith, ints) in
      let left : pos (base - suc n) -ℤ pos base ≡ negsuc n = omega (arith, ints) in
      ap (λ y. cast_unsigned w64 (pos (cast_unsigned w64 y) -ℤ pos base)) sum ∙ ap (cast_unsigned w64) left)
  | inr above ↦
      (let sum : negsuc n +ℤ pos base ≡ negsuc (n - base) = omega (arith, ints) in
      ap (λ y. cast_unsigned w64 (pos (cast_unsigned w64 y) -ℤ pos base)) sum ∙ address-wrapped n base fits.sfits above)
]

-- the address that a target counts from is below 2^63
origin-below : (aa : Bool) (at : ℕ) → at < 2 ^ 63 → (if aa then 0 else at) < 2 ^ 63
origin-below true at low = omega arith
origin-below false at low = low

-- the address of a target is the displacement again
target-displacement : (aa : Bool) (at : ℕ) (z : ℤ) → FitsSigned w64 z → at < 2 ^ 63 → displacement_of aa at (pos (address_of_target aa at z)) ≡ z
target-displacement aa at z fits low =
    ap (cast_signed w64) (address-bits z (if aa then 0 else at) fits (origin-below aa at low)) ∙ to_z-of_z w64 z fits

-- the address of a target has 64 bits
pub target-address-below : (aa : Bool) (at : ℕ) (z : ℤ) → FitsSigned w64 z → at < 2 ^ 63 → address_of_target aa at z < 2 ^ 64
target-address-below aa at z fits low = address-below z (if aa then 0 else at) fits (origin-below aa at low)

-- the address of a target is between the numbers that a target may be
target-between : (aa : Bool) (at : ℕ) (z : ℤ) → FitsSigned w64 z → at < 2 ^ 63 → is_between (neg_ℤ (pos (2 ^ 63))) (pos (2 ^ 64)) (pos (address_of_target aa at z)) ≡ true
target-between aa at z fits low = lt-ltb _ _ (target-address-below aa at z fits low)

-- a target is converted to its displacement
target-converted : (aa : Bool) (at : ℕ) (z : ℤ) → FitsSigned w64 z → at < 2 ^ 63 → converted Target aa at (pos (address_of_target aa at z)) ≡ Some z
target-converted aa at z fits low =
    cond-true (is_between (neg_ℤ (pos (2 ^ 63))) (pos (2 ^ 64)) (pos (address_of_target aa at z))) (Some (displacement_of aa at (pos (address_of_target aa at z)))) None (target-between aa at z fits low)
    ∙ ap Some (target-displacement aa at z fits low)

-- a number without a sign
pub base-pos : (aa : Bool) (at n : ℕ) → operand_base Value aa at (pos n) ≡ BaseNumber n
base-pos aa at n = cond-false (int_lt (pos n) (pos 0)) (Negative n) (BaseNumber n) (le-ltb n 0 (omega arith))

-- what an operand is worth
operand-worth : (kind : Kind) (aa : Bool) (at : ℕ) (z : ℤ) (place : ℕ) (f : Field) (labels : List Placed) (line : List ℕ) → IsWritable kind z → fits_field f z ≡ true → at < 2 ^ 63
    → operand_by (operand_expression kind aa at z place) kind f aa at (value_of labels at line (operand_expression kind aa at z place)) ≡ Ok z
operand-worth Register aa at (pos n) place f labels line writable fits low = held-in_range (operand_expression Register aa at (pos n) place) f (pos n) fits
operand-worth Register aa at (negsuc n) place f labels line writable fits low = absurd (omega (arith, ints, writable.2))
operand-worth Value aa at (pos n) place f labels line writable fits low =
    let e = operand_expression Value aa at (pos n) place in
    let worth : value_of labels at line e ≡ Some (pos n) = ap (λ base. option_map (sum_value Nothing) (base_value labels at line base)) (base-pos aa at n) in
    ap (operand_by e Value f aa at) worth ∙ held-in_range e f (pos n) fits
operand-worth Value aa at (negsuc n) place f labels line writable fits low = held-in_range (operand_expression Value aa at (negsuc n) place) f (negsuc n) fits
operand-worth Target aa at z place f labels line writable fits low =
    ap (λ o. in_range (operand_expression Target aa at z place) (if_fits f o)) (target-converted aa at z writable low) ∙ held-in_range (operand_expression Target aa at z place) f z fits
operand-worth Upper aa at z place f labels line writable fits low = absurd writable

-- a field that holds a kind can be read
holds-readable : (kind : Kind) (f : Field) → holds_kind kind f ≡ true → is_readable f ≡ true
holds-readable Register f holds = (and_parts (is_readable f) (is_register_field f) holds).0
holds-readable Value f holds = holds
holds-readable Target f holds = holds
holds-readable Upper f holds = cc

-- an operand that isn't refused, in front of others that aren't
and-operands : (first : Result ℤ Refusal) (others : Result (List ℤ) Refusal) (z : ℤ) (zs : List ℤ) → first ≡ Ok z → others ≡ Ok zs → and_operands first others ≡ Ok (z ∷ zs)
and-operands first others z zs is rest = ap (λ r. and_operands r others) is ∙ ap (and_operands (Ok z)) rest

-- what printed operands are worth
pub operands-worth : (items : List Item) (aa : Bool) (at : ℕ) (zs : List ℤ) (place : ℕ) (fields : List Field) (labels : List Placed) (line : List ℕ) → AreWritable (kinds_of items) zs → hold_kinds (kinds_of items) fields ≡ true → HasOperands fields zs → at < 2 ^ 63
    → operands_of labels at line aa (operands_expressions items aa at zs place) (kinds_of items) fields ≡ Ok zs
unfolding operands_of operands_expressions
operands-worth [] aa at [] place [] labels line writable hold has low = refl
operands-worth [] aa at [] place (f ∷ fields) labels line writable hold has low = cc
operands-worth [] aa at (z ∷ zs) place fields labels line writable hold has low = absurd writable
operands-worth (Operand kind ∷ items) aa at [] place fields labels line writable hold has low = absurd writable
operands-worth (Operand kind ∷ items) aa at (z ∷ zs) place [] labels line writable hold has low = cc
operands-worth (Operand kind ∷ items) aa at (z ∷ zs) place (f ∷ fields) labels line writable hold has low =
    let parts = and_parts (holds_kind kind f) (hold_kinds (kinds_of items) fields) hold in
    and-operands (operand_by (operand_expression kind aa at z place) kind f aa at (value_of labels at line (operand_expression kind aa at z place))) _ z zs
    (operand-worth kind aa at z place f labels line writable.0 (held-fits f z (holds-readable kind f parts.0) has.0) low)
    (operands-worth items aa at zs (place + length (operand_text kind aa at z)) fields labels line writable.1 parts.1 has.1 low)
operands-worth (Comma ∷ items) aa at zs place fields labels line writable hold has low = operands-worth items aa at zs (place + 1) fields labels line writable hold has low
operands-worth (Open ∷ items) aa at zs place fields labels line writable hold has low = operands-worth items aa at zs (place + 1) fields labels line writable hold has low
operands-worth (Close ∷ items) aa at zs place fields labels line writable hold has low = operands-worth items aa at zs (place + 1) fields labels line writable hold has low

-- a register's field holds registers
register-held : (f : Field) (z : ℤ) → is_register_field f ≡ true → InRange f z → IsRegister z
register-held f z is within =
    let parts = and_parts (not f.signed) (f.shift == 0 && nat_lt (width_of f) 6) is in
    let more = and_parts (f.shift == 0) (nat_lt (width_of f) 6) parts.1 in
    let narrow : width_of f < 6 = ltb-true (width_of f) 6 more.1 in
    let number : IsUnsigned (width_of f) z = InRange-unsigned f z (not-true f.signed parts.0) (eqb-true f.shift 0 more.0) within in
    let most : 2 ^ width_of f ≤ 2 ^ 5 = pow_mono {i = width_of f} {j = 5} (omega arith) in
    (number.0, omega (arith, number.1), number.2)

-- an operand that a field holds can be written
held-IsWritable : (kind : Kind) (f : Field) (z : ℤ) → holds_kind kind f ≡ true → InRange f z → IsWritable kind z
held-IsWritable Register f z holds within = register-held f z (and_parts (is_readable f) (is_register_field f) holds).1 within
held-IsWritable Value f z holds within = InRange-fits f z holds within
held-IsWritable Target f z holds within = InRange-fits f z holds within
held-IsWritable Upper f z holds within = cc

-- operands that fields hold can be written
pub held-AreWritable : (kinds : List Kind) (fields : List Field) (zs : List ℤ) → hold_kinds kinds fields ≡ true → HasOperands fields zs → AreWritable kinds zs
held-AreWritable [] [] [] hold has = tt
held-AreWritable [] [] (z ∷ zs) hold has = absurd has
held-AreWritable [] (f ∷ fields) zs hold has = cc
held-AreWritable (kind ∷ kinds) [] zs hold has = cc
held-AreWritable (kind ∷ kinds) (f ∷ fields) [] hold has = absurd has
held-AreWritable (kind ∷ kinds) (f ∷ fields) (z ∷ zs) hold has =
    let parts = and_parts (holds_kind kind f) (hold_kinds kinds fields) hold in
    (held-IsWritable kind f z parts.0 has.0, held-AreWritable kinds fields zs parts.1 has.1)
