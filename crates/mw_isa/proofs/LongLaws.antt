-- What the overflow of a product says.
use Rattle.std.proofs.Common.{◌≡◌, ℕ, ◌^◌, ◌<◌, Bool, ap}
use Rattle.std.specs.Prelude.{◌*ℤ◌}
use Rattle.std.specs.Int.{w64, cast_signed}
use Rattle.mw_muldiv.specs.declared.numbers.MulKind.TheVariants.{Signed}
use Rattle.mw_muldiv.specs.Multiplication.{product_of}
use Rattle.mw_muldiv.proofs.Laws.{product_of-signed}
use Rattle.mw_isa.specs.declared.operation.Addend.TheVariants.{NoAddend}
use Rattle.mw_isa.specs.Long.{added_by, is_too_wide, overflows_product}

-- where nothing is added, OV tells whether the product of the signed factors, as a number of ℤ, is too wide
pub overflows-product : (word : Bool) (a b c ticks : ℕ) → a < 2 ^ 64 → b < 2 ^ 64 → overflows_product word (product_of (record { kind = Signed; a = a; b = b; add = added_by NoAddend c; ticks = ticks })) ≡ is_too_wide word (cast_signed w64 a *ℤ cast_signed w64 b)
overflows-product word a b c ticks fits_a fits_b = ap (is_too_wide word) (product_of-signed a b ticks fits_a fits_b)
