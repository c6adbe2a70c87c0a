-- Products by pieces, and of signed numbers modulo 2^128.
use Rattle.std.proofs.Common.{◌≡◌, ℕ, zero, suc, ◌+◌, ◌*◌, ◌%◌, ◌^◌, ◌<◌, sym, ap, refl, ◌∙◌, arith, mod-lt, mod-eq_of_lt, pow_pos}
use Rattle.std.specs.Prelude.{ℤ, pos, negsuc, ◌+ℤ◌, ◌*ℤ◌, if◌then◌else◌, ◌==◌, Some, None}
use Rattle.std.specs.Int.{w64, w128, cast_signed, cast_unsigned, int_wrap}
use Rattle.std.specs.Int.RustNames.{FitsSigned}
use Rattle.std.proofs.Math.Nat.{add-mod}
use Rattle.std.proofs.Math.Facts.{sfits_to_z, sfits_widen, Fits-of_z}
use Rattle.std.proofs.lemmas.Nat.{mul-mod_first}
use Rattle.std.proofs.lemmas.Int.{of_z-to_z, int_wrap-add_left, int_wrap-add_right, wrapping_add-bits, wrapping_mul_is, fits_signed_from_abs}
use Rattle.mw_muldiv.specs.declared.numbers.MulKind.{MulKind}
use Rattle.mw_muldiv.specs.declared.numbers.MulKind.TheVariants.{Signed, Unsigned}
use Rattle.mw_muldiv.specs.declared.numbers.Wide128.{Wide128}
use Rattle.mw_muldiv.specs.declared.multiplier.Mul.TheInside.{Inside}
use Rattle.mw_muldiv.specs.Wide.{number_of, halves_of}
use Rattle.mw_muldiv.specs.Multiplication.{factor_of, wrapped_of, product_of, product_at}
use Rattle.mw_muldiv.specs.MulInside.{multiplication_of, extended, piece_of, taken_of, answered, IsMultiplied}

-- a piece more of the second factor, of this weight, is multiplied and added
piece_more : (size first low piece weight add total : ℕ) → total ≡ (first * low + add) % size → (total + first * piece % size * weight % size) % size ≡ (first * (piece * weight + low) + add) % size
piece_more size first low piece weight add total before =
    let part : first * piece % size * weight % size ≡ first * piece * weight % size = mul-mod_first (first * piece) weight size in
    let whole : first * low + add + first * piece * weight ≡ first * (piece * weight + low) + add = omega arith in
    ap (λ i. (i + first * piece % size * weight % size) % size) before
    ∙ ap (λ i. ((first * low + add) % size + i) % size) part
    ∙ sym (add-mod (first * low + add) (first * piece * weight) size)
    ∙ ap (λ i. i % size) whole

-- a factor fits 128 bits with its sign
factor-fits : (kind : MulKind) (n : ℕ) → n < 2 ^ 64 → FitsSigned w128 (factor_of kind n)
factor-fits Signed n below = sfits_widen {w = w64} {w' = w128} tt (sfits_to_z {w = w64} {n = n} (record { fits = below }))
factor-fits Unsigned n below = fits_signed_from_abs w128 (pos n) (omega arith)

-- what is left of a number modulo 2^128 is below 2^128
wrapped-lt : (z : ℤ) → wrapped_of z < 2 ^ 128
wrapped-lt (pos n) = mod-lt n (pow_pos 128)
wrapped-lt (negsuc n) = omega arith

-- a number below 2^128 by itself
wrapped-small : (n : ℕ) → n < 2 ^ 128 → cast_signed w128 n ≡ int_wrap w128 (pos n)
unfolding int_wrap
wrapped-small n below = ap (cast_signed w128) (sym (mod-eq_of_lt below))

-- the product of the factors in 128 bits, and what is added, is that of the numbers modulo 2^128
product-wrapped : (a b : ℤ) (add : ℕ) → FitsSigned w128 a → FitsSigned w128 b → add < 2 ^ 128 → (cast_unsigned w128 a * cast_unsigned w128 b + add) % 2 ^ 128 ≡ wrapped_of (a *ℤ b +ℤ pos add)
unfolding int_wrap
product-wrapped a b add first second below =
    let product = cast_unsigned w128 a * cast_unsigned w128 b in
    let left : product % 2 ^ 128 < 2 ^ 128 = mod-lt product (pow_pos 128) in
    let low : add % 2 ^ 128 ≡ add = mod-eq_of_lt below in
    let parts : (product + add) % 2 ^ 128 ≡ (product % 2 ^ 128 + add) % 2 ^ 128 = add-mod product add (2 ^ 128) ∙ ap (λ i. (product % 2 ^ 128 + i) % 2 ^ 128) low in
    let signed : cast_signed w128 ((product % 2 ^ 128 + add) % 2 ^ 128) ≡ int_wrap w128 (a *ℤ b +ℤ pos add) =
    wrapping_add-bits w128 (product % 2 ^ 128) add left below
    ∙ ap (λ z. int_wrap w128 (z +ℤ cast_signed w128 add)) (wrapping_mul_is w128 a b first second)
    ∙ int_wrap-add_left w128 (a *ℤ b) (cast_signed w128 add)
    ∙ ap (λ z. int_wrap w128 (a *ℤ b +ℤ z)) (wrapped-small add below)
    ∙ int_wrap-add_right w128 (a *ℤ b) (pos add) in
    parts
    ∙ sym (of_z-to_z w128 ((product % 2 ^ 128 + add) % 2 ^ 128) (mod-lt (product % 2 ^ 128 + add) (pow_pos 128)))
    ∙ ap (cast_unsigned w128) signed
    ∙ of_z-to_z w128 (wrapped_of (a *ℤ b +ℤ pos add)) (wrapped-lt (a *ℤ b +ℤ pos add))

-- how much of the second factor is taken with a piece more
taken-more : (kind : MulKind) (b ticks : ℕ) → extended kind b < 2 ^ 128 → ticks < 4 → piece_of kind b ticks * 2 ^ (16 * ticks) + extended kind b % 2 ^ taken_of ticks ≡ extended kind b % 2 ^ taken_of (ticks + 1)
taken-more kind b zero fits under = omega arith
taken-more kind b (suc zero) fits under = omega arith
taken-more kind b (suc (suc zero)) fits under = omega arith
taken-more kind b (suc (suc (suc zero))) fits under = omega arith
taken-more kind b (suc (suc (suc (suc ticks)))) fits under = absurd (omega arith)

-- the numbers of a multiplication fit their registers
pub record InRegisters (m : Inside) : Type 0 where
  pub a_fits : m.a < 2 ^ 64
  pub b_fits : m.b < 2 ^ 64
  pub high_fits : m.add.high < 2 ^ 64
  pub low_fits : m.add.low < 2 ^ 64

-- a multiplication with a tick more
abbrev pub multiplied : Inside → ℕ → ℕ → Inside
multiplied m first piece =
    record m { ticks = m.ticks + 1; total = (m.total + first * piece % 2 ^ 128 * 2 ^ (16 * m.ticks) % 2 ^ 128) % 2 ^ 128 }

-- a multiplication that is as far as its ticks say is so with a tick more
pub multiplied_more : (m : Inside) (first piece : ℕ) → m.ticks < 4 → InRegisters m → first ≡ extended m.kind m.a → piece ≡ piece_of m.kind m.b m.ticks → IsMultiplied m → IsMultiplied (multiplied m first piece)
multiplied_more m first piece under known is_first is_piece before =
    let low = extended m.kind m.b % 2 ^ taken_of m.ticks in
    let fits : extended m.kind m.b < 2 ^ 128 = (Fits-of_z (factor-fits m.kind m.b known.b_fits)).fits in
    let so_far : m.total ≡ (first * low + number_of m.add) % 2 ^ 128 = before.total_is ∙ sym (ap (λ i. (i * low + number_of m.add) % 2 ^ 128) is_first) in
    record {
      total_is = piece_more (2 ^ 128) first low piece (2 ^ (16 * m.ticks)) (number_of m.add) m.total so_far
          ∙ ap (λ i. (first * i + number_of m.add) % 2 ^ 128) (ap (λ i. i * 2 ^ (16 * m.ticks) + low) is_piece ∙ taken-more m.kind m.b m.ticks fits under)
          ∙ ap (λ i. (i * (extended m.kind m.b % 2 ^ taken_of (m.ticks + 1)) + number_of m.add) % 2 ^ 128) is_first;
    }

-- behind the fourth tick the total is the product
multiplied-all : (m : Inside) → m.ticks ≡ 4 → InRegisters m → IsMultiplied m → halves_of m.total ≡ product_of (multiplication_of m)
multiplied-all m last known all =
    let fits : extended m.kind m.b < 2 ^ 128 = (Fits-of_z (factor-fits m.kind m.b known.b_fits)).fits in
    let whole : extended m.kind m.b % 2 ^ taken_of m.ticks ≡ extended m.kind m.b = ap (λ i. extended m.kind m.b % 2 ^ taken_of i) last ∙ mod-eq_of_lt fits in
    ap halves_of (all.total_is
    ∙ ap (λ i. (extended m.kind m.a * i + number_of m.add) % 2 ^ 128) whole
    ∙ product-wrapped (factor_of m.kind m.a) (factor_of m.kind m.b) (number_of m.add) (factor-fits m.kind m.a known.a_fits) (factor-fits m.kind m.b known.b_fits) (omega (arith, known.high_fits, known.low_fits)))

-- the answer comes with the fourth tick
answered-at : (ticks total : ℕ) (product : Wide128) → ticks < 4 → (ticks + 1 ≡ 4 → halves_of total ≡ product) → answered (ticks + 1) total ≡ (if ticks == 3 then Some product else None)
answered-at zero total product under all = refl
answered-at (suc zero) total product under all = refl
answered-at (suc (suc zero)) total product under all = refl
answered-at (suc (suc (suc zero))) total product under all = ap (λ (w : Wide128). Some w) (all refl)
answered-at (suc (suc (suc (suc ticks)))) total product under all = absurd (omega arith)

-- what the code answers with a tick more is what the definition says
pub answered-is : (m : Inside) (first piece : ℕ) → m.ticks < 4 → InRegisters m → IsMultiplied (multiplied m first piece) → answered (m.ticks + 1) (multiplied m first piece).total ≡ product_at (multiplication_of m)
answered-is m first piece under known after =
    let next = multiplied m first piece in
    let same : InRegisters next = record { a_fits = known.a_fits; b_fits = known.b_fits; high_fits = known.high_fits; low_fits = known.low_fits } in
    answered-at m.ticks next.total (product_of (multiplication_of m)) under (λ last. multiplied-all next last same after)
