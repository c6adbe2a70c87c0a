-- Products that take four ticks (Book I, fixed-point arithmetic instructions; own: how many ticks).
use Rattle.std.specs.Prelude.{ℕ, ◌^◌, if◌then◌else◌, ◌==◌, ℤ, pos, ◌+ℤ◌, ◌*ℤ◌, unsigned_abs, Option, Some, None}
use Rattle.std.specs.Int.{w64, cast_signed, int_rem_euclid}
use Rattle.mw_muldiv.specs.declared.numbers.Wide128.{Wide128}
use Rattle.mw_muldiv.specs.declared.numbers.MulKind.{MulKind}
use Rattle.mw_muldiv.specs.declared.numbers.MulKind.TheVariants.{Signed, Unsigned}
use Rattle.mw_muldiv.specs.Wide.{number_of, halves_of}

-- a multiplication under way: what it was started with, and how far it is
pub record Multiplication : Type 0 where
  -- how the factors are read
  pub kind : MulKind
  -- the first factor
  pub a : ℕ
  -- the second factor
  pub b : ℕ
  -- what is added to the product
  pub add : Wide128
  -- how many ticks were done
  pub ticks : ℕ

-- a factor as a number
abbrev pub factor_of : MulKind → ℕ → ℤ
factor_of Signed n = cast_signed w64 n
factor_of Unsigned n = pos n

-- what is left of a number modulo 2^128, from 0 on
abbrev pub wrapped_of : ℤ → ℕ
wrapped_of z = unsigned_abs (int_rem_euclid z (pos (2 ^ 128)))

-- the product of the factors and what is added, modulo 2^128
abbrev pub product_of : Multiplication → Wide128
product_of m = halves_of (wrapped_of (factor_of m.kind m.a *ℤ factor_of m.kind m.b +ℤ pos (number_of m.add)))

-- what a tick answers: the product if it is the fourth, else nothing yet
abbrev pub product_at : Multiplication → Option Wide128
product_at m = if m.ticks == 3 then Some (product_of m) else None
