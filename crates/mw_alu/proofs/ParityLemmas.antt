-- Parities by folding a number onto itself.
use Rattle.std.proofs.Common.{◌≡◌, ℕ, ◌+◌, ◌/◌, ◌%◌, ◌^◌, ap, ◌∙◌, arith}
use Rattle.std.specs.Int.{bit_at}
use Rattle.std.proofs.lemmas.Nat.{shr-shr}
use Rattle.std.proofs.lemmas.Nat.Bits.{bit_at_xor}
use Rattle.std.specs.Prelude.{bit_and, bit_xor}
use Rattle.std.proofs.lemmas.Nat.{and_mask}
use Rattle.mw_alu.specs.Places.{sum_below}
use Rattle.mw_alu.specs.Counts.{parity_of}

-- a bit of a number that was folded by so many places
folded : (x k i : ℕ) → bit_at (bit_xor x (x / 2 ^ k)) i ≡ (bit_at x i + bit_at x (k + i)) % 2
folded x k i =
    bit_at_xor x (x / 2 ^ k) i ∙ ap (λ n. (bit_at x i + n % 2) % 2) (shr-shr x k i)

-- folded by two bytes and then by one, a word has its parity in its last bit
pub parity_folded : (s : ℕ) → bit_and (bit_xor (bit_xor s (s / 2 ^ 16)) (bit_xor s (s / 2 ^ 16) / 2 ^ 8)) 1 ≡ parity_of 4 s
unfolding sum_below
parity_folded s =
    let pairs = bit_xor s (s / 2 ^ 16) in
    let low : bit_and (bit_xor pairs (pairs / 2 ^ 8)) 1 ≡ bit_at (bit_xor pairs (pairs / 2 ^ 8)) 0 = and_mask (bit_xor pairs (pairs / 2 ^ 8)) 1 ∙ omega arith in
    low ∙ folded pairs 8 0 ∙ omega (arith, folded s 16 0, folded s 16 8)

-- a number that was folded by a word has the parity of all bytes in its low word's bytes
pub parity_halves : (s : ℕ) → parity_of 4 (bit_xor s (s / 2 ^ 32)) ≡ parity_of 8 s
unfolding sum_below
parity_halves s = omega (arith, folded s 32 0, folded s 32 8, folded s 32 16, folded s 32 24)
