-- Shifts by as many places as a number has, or more, and the bits that a shift to the right takes away.
use Rattle.std.proofs.Common.{◌≡◌, ℕ, ◌+◌, ◌-◌, ◌*◌, ◌/◌, ◌%◌, ◌^◌, ◌<◌, ◌≤◌, min, bit_and, suc, sym, ap, ◌⊎◌, inl, inr, ◌∙◌, arith, mod-eq_of_lt}
use Rattle.std.specs.Prelude.{ℤ, pos, negsuc}
use Rattle.std.specs.Int.{w64, cast_unsigned, int_shr}
use Rattle.std.specs.Int.RustNames.{FitsSigned}
use Rattle.std.proofs.lemmas.Bool.{cases_lt}
use Rattle.std.proofs.lemmas.Nat.{and_mask, one_shl, pow-add}
use Rattle.std.proofs.Math.Nat.{div-eq_of_lt, mul-mod_left}
use Rattle.std.proofs.Math.Pow.{pow_mono}

-- nothing is left of a number that is shifted left
pub shl_out : (x n : ℕ) → 64 ≤ n → x * 2 ^ n % 2 ^ 64 ≡ 0
shl_out x n far =
    let e : n - 64 + 64 ≡ n = omega arith in
    let p : 2 ^ n ≡ 2 ^ (n - 64) * 2 ^ 64 = sym (ap (λ i. 2 ^ i) e) ∙ pow-add 2 (n - 64) 64 in
    let q : x * 2 ^ n ≡ x * 2 ^ (n - 64) * 2 ^ 64 = ap (λ i. x * i) p ∙ omega arith in
    ap (λ i. i % 2 ^ 64) q ∙ mul-mod_left (x * 2 ^ (n - 64)) (2 ^ 64)

-- nothing is left of a number that is shifted right
pub shr_out : (x n : ℕ) → x < 2 ^ 64 → 64 ≤ n → x / 2 ^ n ≡ 0
shr_out x n fits far =
    let m : 2 ^ 64 ≤ 2 ^ n = pow_mono {i = 64} {j = n} far in
    div-eq_of_lt (omega arith)

-- fewer than 63 places are the lesser of themselves and 63
few_places : (n : ℕ) → n < 63 → min n 63 ≡ n
few_places n few = omega arith

-- 63 places and more leave nothing of a number of 63 bits
many_places : (a n : ℕ) → a < 2 ^ 63 → 63 ≤ n → a / 2 ^ min n 63 ≡ a / 2 ^ n
many_places a n fits many =
    let m : 2 ^ 63 ≤ 2 ^ n = pow_mono {i = 63} {j = n} many in
    let e : min n 63 ≡ 63 = omega arith in
    let left : a / 2 ^ 63 ≡ 0 = div-eq_of_lt fits in
    let right : a / 2 ^ n ≡ 0 = div-eq_of_lt (omega arith) in
    ap (λ i. a / 2 ^ i) e ∙ left ∙ sym right

-- a number of 63 bits is shifted right alike by its places and by 63 at most
by_places : (a n : ℕ) → a < 2 ^ 63 → (n < 63) ⊎ (63 ≤ n) → a / 2 ^ min n 63 ≡ a / 2 ^ n
by_places a n fits (inl few) = ap (λ i. a / 2 ^ i) (few_places n few)
by_places a n fits (inr many) = many_places a n fits many

-- nothing but the sign is left of a signed number that is shifted right
pub sign_out : (z : ℤ) (n : ℕ) → FitsSigned w64 z → cast_unsigned w64 (int_shr z (min n 63)) ≡ cast_unsigned w64 (int_shr z n)
sign_out (pos a) n fits = by_places a n fits.sfits (cases_lt n 63)
sign_out (negsuc a) n fits = ap (λ i. 2 ^ 64 - suc i) (by_places a n fits.sfits (cases_lt n 63))

-- the low bits are what a shift to the right takes away
pub low_bits : (x n : ℕ) → n < 64 → bit_and x (1 * 2 ^ n % 2 ^ 64 - 1) ≡ x % 2 ^ n
low_bits x n within = ap (λ i. bit_and x (i - 1)) (one_shl n 64 within) ∙ and_mask x n

-- from 64 places on a shift to the right takes all bits away
pub all_bits : (x n : ℕ) → x < 2 ^ 64 → 64 ≤ n → x % 2 ^ n ≡ x
all_bits x n fits far =
    let m : 2 ^ 64 ≤ 2 ^ n = pow_mono {i = 64} {j = n} far in
    mod-eq_of_lt (omega arith)
