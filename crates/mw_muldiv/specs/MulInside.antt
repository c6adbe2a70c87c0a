-- What a multiplication keeps to itself while it is under way. No public clause names it.
use Rattle.std.specs.Prelude.{◌≡◌, ℕ, ◌+◌, ◌*◌, ◌/◌, ◌%◌, ◌^◌, if◌then◌else◌, ◌==◌, nat_lt, Option, Some, None}
use Rattle.std.specs.Int.{w128, cast_unsigned}
use Rattle.mw_muldiv.specs.declared.numbers.Wide128.{Wide128}
use Rattle.mw_muldiv.specs.declared.numbers.MulKind.{MulKind}
use Rattle.mw_muldiv.specs.declared.multiplier.Mul.TheInside.{Inside}
use Rattle.mw_muldiv.specs.Wide.{number_of, halves_of}
use Rattle.mw_muldiv.specs.Multiplication.{Multiplication, factor_of}

-- what is seen of a multiplication under way
abbrev pub multiplication_of : Inside → Multiplication
multiplication_of m = record { kind = m.kind; a = m.a; b = m.b; add = m.add; ticks = m.ticks }

-- a factor in 128 bits, with its sign above it
abbrev pub extended : MulKind → ℕ → ℕ
extended kind factor = cast_unsigned w128 (factor_of kind factor)

-- the sixteen bits of the second factor that a tick takes, and in the fourth its sign above them
abbrev pub piece_of : MulKind → ℕ → ℕ → ℕ
piece_of kind b ticks =
    if nat_lt ticks 3 then extended kind b / 2 ^ (16 * ticks) % 2 ^ 16 else extended kind b / 2 ^ (16 * ticks)

-- how many bits of the second factor were taken, its sign among them behind the fourth tick
abbrev pub taken_of : ℕ → ℕ
taken_of ticks = if nat_lt ticks 4 then 16 * ticks else 128

-- what a tick answers when so many are done
abbrev pub answered : ℕ → ℕ → Option Wide128
answered ticks total = if ticks == 4 then Some (halves_of total) else None

-- the bits of the second factor so far are multiplied and added
pub record IsMultiplied (m : Inside) : Type 0 where
  pub total_is : m.total ≡ (extended m.kind m.a * (extended m.kind m.b % 2 ^ taken_of m.ticks) + number_of m.add) % 2 ^ 128
