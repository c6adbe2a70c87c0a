-- What a division keeps to itself while it is under way. No public clause names it.
use Rattle.std.specs.Prelude.{◌≡◌, ℕ, ◌+◌, ◌-◌, ◌*◌, ◌/◌, ◌%◌, ◌^◌, ◌<◌, Bool, true, false, not, if◌then◌else◌, nat_lt, ℤ, pos, negsuc, neg_ℤ, unsigned_abs}
use Rattle.mw_muldiv.specs.declared.numbers.Wide128.{Wide128}
use Rattle.mw_muldiv.specs.declared.steps.Partial.{Partial}
use Rattle.mw_muldiv.specs.declared.numbers.DivKind.{DivKind}
use Rattle.mw_muldiv.specs.declared.numbers.DivKind.TheVariants.{Signed64, Unsigned64, Signed32, Unsigned32}
use Rattle.mw_muldiv.specs.declared.numbers.DivOut.{DivOut}
use Rattle.mw_muldiv.specs.declared.numbers.DivOut.TheVariants.{NoQuotient}
use Rattle.mw_muldiv.specs.declared.divider.Div.TheInside.{Inside}
use Rattle.mw_muldiv.specs.Division.{Division, dividend_of, divisor_of, settled}

-- what is seen of a division under way
abbrev pub division_of : Inside → Division
division_of d = record { kind = d.kind; dividend = d.dividend; divisor = d.divisor; ticks = d.ticks }

-- a number is below 0
abbrev pub is_negative : ℤ → Bool
is_negative (pos n) = false
is_negative (negsuc n) = true

-- the number of this size, with or without a sign
abbrev pub signed_of : Bool → ℕ → ℤ
signed_of false size = pos size
signed_of true size = neg_ℤ (pos size)

-- two signs differ
abbrev pub differ : Bool → Bool → Bool
differ false sign = sign
differ true sign = not sign

-- what is found with a bit of the dividend more, which is the left one of the low bits: the quotient's bit goes behind
-- the low bits. Where the rest isn't below the divisor nothing is done
abbrev pub with_bit : Partial → ℕ → Partial
with_bit p divisor =
    let number = 2 * p.rest + p.low / 2 ^ 63 in
    if nat_lt p.rest divisor then record { rest = number % divisor; low = p.low * 2 % 2 ^ 64 + number / divisor } else p

-- all bits that the kind's results have
abbrev pub ones_of : DivKind → ℕ
ones_of Signed64 = 0xFFFF_FFFF_FFFF_FFFF
ones_of Unsigned64 = 0xFFFF_FFFF_FFFF_FFFF
ones_of Signed32 = 0xFFFF_FFFF
ones_of Unsigned32 = 0xFFFF_FFFF

-- what a division comes to, by what was found: where the rest isn't below the divisor there is no quotient of 64 bits
abbrev pub outcome_of : DivKind → Wide128 → ℕ → Partial → DivOut
outcome_of kind dividend divisor p =
    let n = dividend_of kind dividend in
    let d = divisor_of kind divisor in
    if nat_lt p.rest (unsigned_abs d) then settled kind (signed_of (differ (is_negative n) (is_negative d)) p.low) (signed_of (is_negative n) p.rest) else NoQuotient

-- the dividend without its sign
abbrev pub size_of : Inside → ℕ
size_of d = unsigned_abs (dividend_of d.kind d.dividend)

-- a division is as far as its ticks say
pub record IsDivided (d : Inside) : Type 0 where
  pub divisor_is : d.divisor_size ≡ unsigned_abs (divisor_of d.kind d.divisor)
  -- the rest is below the divisor where the quotient has at most 64 bits
  pub small : size_of d < d.divisor_size * 2 ^ 64 → d.so_far.rest < d.divisor_size
  -- where the rest is below the divisor the low bits are those that weren't taken yet, and a bit of the quotient for each tick
  pub low_is : d.so_far.rest < d.divisor_size → d.so_far.low ≡ size_of d % 2 ^ (64 - d.ticks) * 2 ^ d.ticks + d.so_far.low % 2 ^ d.ticks
  -- where the rest is below the divisor the bits that were taken are the quotient times the divisor, and the rest
  pub whole : d.so_far.rest < d.divisor_size → d.so_far.low % 2 ^ d.ticks * d.divisor_size + d.so_far.rest ≡ size_of d / 2 ^ (64 - d.ticks)
