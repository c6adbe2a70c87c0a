-- How many ones a number has below a place, as the place rises.
use Rattle.std.proofs.Common.{◌≡◌, ℕ, zero, suc, ◌+◌, ◌-◌, ◌*◌, ◌%◌, ◌^◌, ◌<◌, ◌≤◌, refl, sym, ap, subst, ◌∙◌, arith, mod-lt, mod-eq_of_lt, pow_pos, add-one}
use Rattle.std.specs.Int.{w64, bit_at, bit_not}
use Rattle.std.specs.Int.RustNames.{count_ones}
use Rattle.std.proofs.lemmas.Nat.{mod-pow-add, ones_cat, ones-le}
use Rattle.std.proofs.lemmas.Nat.Bits.{bit_at_not, bit_at-lt}
use Rattle.mw_alu.specs.Places.{ones_below}

-- a single bit has as many ones as its value
ones_of_bit : (b : ℕ) → b < 2 → count_ones b ≡ b
unfolding count_ones
ones_of_bit zero small = refl
ones_of_bit (suc zero) small = refl
ones_of_bit (suc (suc b)) small = absurd (omega arith)

-- a number has no ones below place 0
pub ones_below-zero : (x : ℕ) → ones_below 0 x ≡ 0
ones_below-zero x =
    let none : x % 2 ^ 0 ≡ 0 = omega arith in
    ap count_ones none ∙ ones_of_bit 0 (omega arith)

-- one place more counts the bit at that place too
pub ones_below-more : (n x : ℕ) → ones_below (n + 1) x ≡ ones_below n x + bit_at x n
ones_below-more n x =
    let turned : n + 1 ≡ 1 + n = omega arith in
    let split : x % 2 ^ (1 + n) ≡ bit_at x n * 2 ^ n + x % 2 ^ n = mod-pow-add x 1 n in
    ap (λ i. count_ones (x % 2 ^ i)) turned
    ∙ ap count_ones split
    ∙ ones_cat n (bit_at x n) (x % 2 ^ n) (mod-lt x (pow_pos n))
    ∙ ap (λ i. i + ones_below n x) (ones_of_bit (bit_at x n) (bit_at-lt x n))
    ∙ omega arith

-- all ones of a number of 64 bits are below the 64th place
pub ones_below-all : (x : ℕ) → x < 2 ^ 64 → count_ones x ≡ ones_below 64 x
ones_below-all x fits = ap count_ones (sym (mod-eq_of_lt fits))

-- a byte has at most eight ones
pub ones-byte : (x : ℕ) → x < 256 → count_ones x < 256
ones-byte x small = let few : count_ones x ≤ 8 = ones-le 8 x small in omega arith

-- below a place a number has ones where its complement has none
pub ones_below-not : (n x : ℕ) → n ≤ 64 → x < 2 ^ 64 → ones_below n (bit_not w64 x) + ones_below n x ≡ n
ones_below-not zero x within fits = omega (arith, ones_below-zero x, ones_below-zero (bit_not w64 x))
ones_below-not (suc n) x within fits =
    let before : ones_below n (bit_not w64 x) + ones_below n x ≡ n = ones_below-not n x (omega arith) fits in
    let more : ones_below (n + 1) x ≡ ones_below n x + bit_at x n = ones_below-more n x in
    let fewer : ones_below (n + 1) (bit_not w64 x) ≡ ones_below n (bit_not w64 x) + bit_at (bit_not w64 x) n = ones_below-more n (bit_not w64 x) in
    let other : bit_at (bit_not w64 x) n ≡ 1 - bit_at x n = bit_at_not w64 x n fits (omega arith) in
    let bit : bit_at x n < 2 = bit_at-lt x n in
    subst (λ (i : ℕ). ones_below i (bit_not w64 x) + ones_below i x ≡ i) (add-one n) (omega (arith, before, more, fewer, other, bit))
