-- What crates above may cite: products of signed numbers.
use Rattle.std.proofs.Common.{◌≡◌, ℕ, ◌^◌, ◌<◌, ◌≤◌, ap, ◌∙◌, arith}
use Rattle.std.specs.Prelude.{ℤ, pos, negsuc, ◌+ℤ◌, ◌*ℤ◌, unsigned_abs}
use Rattle.std.specs.Int.{w64, w128, cast_signed, int_wrap}
use Rattle.std.specs.Int.RustNames.{FitsSigned}
use Rattle.std.proofs.Math.Facts.{sfits_to_z}
use Rattle.std.proofs.lemmas.Nat.{div-add-mod'}
use Rattle.std.proofs.lemmas.Int.{ints, int_wrap_fits, fits_signed_mul}
use Rattle.mw_muldiv.specs.declared.numbers.MulKind.TheVariants.{Signed}
use Rattle.mw_muldiv.specs.Wide.{number_of, halves_of}
use Rattle.mw_muldiv.specs.Multiplication.{wrapped_of, product_of}

-- a number by its halves
pub number_of-halves_of : (n : ℕ) → number_of (halves_of n) ≡ n
number_of-halves_of n = div-add-mod' n (2 ^ 64)

-- a signed number without its sign
abs-le : (z : ℤ) → FitsSigned w64 z → unsigned_abs z ≤ 2 ^ 63
abs-le (pos n) fits = omega (arith, fits.sfits)
abs-le (negsuc n) fits = omega (arith, fits.sfits)

-- what is left of a number that fits is the number
wrapped_of-fits : (z : ℤ) → FitsSigned w128 z → cast_signed w128 (wrapped_of z) ≡ z
unfolding int_wrap
wrapped_of-fits z fits = int_wrap_fits w128 z fits

-- nothing added leaves a number
plus-none : (z : ℤ) → z +ℤ pos 0 ≡ z
plus-none z = omega (arith, ints)

-- a product of numbers of 64 bits is there whole
product-fits : (x y : ℤ) → FitsSigned w64 x → FitsSigned w64 y → cast_signed w128 (number_of (halves_of (wrapped_of (x *ℤ y +ℤ pos 0)))) ≡ x *ℤ y
product-fits x y fits_x fits_y =
    let fits : FitsSigned w128 (x *ℤ y) = fits_signed_mul w128 x y (2 ^ 63) (2 ^ 63) (abs-le x fits_x) (abs-le y fits_y) (omega arith) in
    ap (cast_signed w128) (number_of-halves_of (wrapped_of (x *ℤ y +ℤ pos 0)) ∙ ap wrapped_of (plus-none (x *ℤ y))) ∙ wrapped_of-fits (x *ℤ y) fits

-- the signed product, where nothing is added, is that of the signed numbers
pub product_of-signed : (a b ticks : ℕ) → a < 2 ^ 64 → b < 2 ^ 64 → cast_signed w128 (number_of (product_of (record { kind = Signed; a = a; b = b; add = record { high = 0; low = 0 }; ticks = ticks }))) ≡ cast_signed w64 a *ℤ cast_signed w64 b
product_of-signed a b ticks fits_a fits_b =
    product-fits (cast_signed w64 a) (cast_signed w64 b) (sfits_to_z {w = w64} {n = a} (record { fits = fits_a })) (sfits_to_z {w = w64} {n = b} (record { fits = fits_b }))
