-- The masks and the rotation, as the code computes them, and what a mask leaves of a number.
use Rattle.std.proofs.Common.{◌≡◌, ℕ, ◌+◌, ◌-◌, ◌*◌, ◌/◌, ◌%◌, ◌^◌, ◌<◌, ◌≤◌, zero, suc, w64, bit_and, bit_or, subst, sym, ap, ◌∙◌, arith, pow_pos, ◌⊎◌, inl, inr}
use Rattle.std.proofs.lemmas.Nat.{mod-pow-add, mod_low, or_lt, shl-shr, shr_below}
use Rattle.std.proofs.lemmas.Nat.Bits.{ones_shr, ones_shl, and_high, and_high_mask}
use Rattle.std.proofs.Math.Pow.{high_ones, pow_mono}
use Rattle.std.specs.Int.Bits.{or_self, or_shifted, or_shifted_r}
use Rattle.std.proofs.lemmas.Bool.Decides.{nat_tests}
use Rattle.std.proofs.lemmas.Bool.{cases_lt}
use Rattle.std.specs.Int.{rotate_left}
use Rattle.mw_bits.specs.Fields.{field_of, mask_of, rotl_of}

-- a run of ones is below the power that it reaches up to
ones-lt : (j k : ℕ) → j ≤ k → 2 ^ j - 1 < 2 ^ k
ones-lt j k within =
    let m : 2 ^ j ≤ 2 ^ k = pow_mono {i = j} {j = k} within in
    let p : 0 < 2 ^ j = pow_pos j in
    omega arith

-- ones from the bit mb to the bit me
pub mask-straight : (mb me : ℕ) → mb ≤ me → me ≤ 63 → bit_and (18446744073709551615 / 2 ^ mb) (18446744073709551615 * 2 ^ (63 - me) % 18446744073709551616) ≡ 2 ^ (64 - mb) - 2 ^ (63 - me)
mask-straight mb me ordered within =
    let k : 63 - me ≤ 64 = omega arith in
    let top : mb ≤ 64 = omega arith in
    let inside : 63 - me ≤ 64 - mb = omega arith in
    let less : 64 - mb ≤ 64 = omega arith in
    let e : 64 - mb - (63 - me) + (63 - me) ≡ 64 - mb = omega arith in
    ap (λ n. bit_and n (18446744073709551615 * 2 ^ (63 - me) % 18446744073709551616)) (ones_shr 64 mb top)
    ∙ ap (bit_and (2 ^ (64 - mb) - 1)) (ones_shl 64 (63 - me) k)
    ∙ and_high_mask 64 (63 - me) k (2 ^ (64 - mb) - 1) (ones-lt (64 - mb) 64 less)
    ∙ ap (λ n. n * 2 ^ (63 - me)) (ones_shr (64 - mb) (63 - me) inside)
    ∙ sym (high_ones (64 - mb - (63 - me)) (63 - me))
    ∙ ap (λ i. 2 ^ i - 2 ^ (63 - me)) e

-- ones from the bit mb round the end to the bit me
pub mask-wrapped : (mb me : ℕ) → me < mb → mb ≤ 63 → bit_or (18446744073709551615 / 2 ^ mb) (18446744073709551615 * 2 ^ (63 - me) % 18446744073709551616) ≡ (2 ^ (64 - mb) - 1) + (2 ^ 64 - 2 ^ (63 - me))
mask-wrapped mb me behind within =
    let k : 63 - me ≤ 64 = omega arith in
    let top : mb ≤ 64 = omega arith in
    let apart : 64 - mb ≤ 63 - me = omega arith in
    let e : 64 - (63 - me) + (63 - me) ≡ 64 = omega arith in
    let high : 2 ^ 64 - 2 ^ (63 - me) ≡ (2 ^ (64 - (63 - me)) - 1) * 2 ^ (63 - me) =
    sym (ap (λ i. 2 ^ i - 2 ^ (63 - me)) e) ∙ high_ones (64 - (63 - me)) (63 - me) in
    let joined : bit_or (2 ^ (64 - mb) - 1) ((2 ^ (64 - (63 - me)) - 1) * 2 ^ (63 - me)) ≡ (2 ^ (64 - (63 - me)) - 1) * 2 ^ (63 - me) + (2 ^ (64 - mb) - 1) =
    or_shifted_r (2 ^ (64 - (63 - me)) - 1) (63 - me) (2 ^ (64 - mb) - 1) (ones-lt (64 - mb) (63 - me) apart) in
    let turned : (2 ^ (64 - (63 - me)) - 1) * 2 ^ (63 - me) + (2 ^ (64 - mb) - 1) ≡ (2 ^ (64 - mb) - 1) + (2 ^ 64 - 2 ^ (63 - me)) = omega (arith, high) in
    ap (λ n. bit_or n (18446744073709551615 * 2 ^ (63 - me) % 18446744073709551616)) (ones_shr 64 mb top)
    ∙ ap (bit_or (2 ^ (64 - mb) - 1)) (ones_shl 64 (63 - me) k)
    ∙ ap (bit_or (2 ^ (64 - mb) - 1)) high
    ∙ joined
    ∙ turned

-- the bits that stay in a number that is moved to the left
pub shl-mod : (x m n : ℕ) → x * 2 ^ n % 2 ^ (m + n) ≡ x % 2 ^ m * 2 ^ n
shl-mod x m n =
    let zero_low : (x * 2 ^ n + 0) % 2 ^ n ≡ 0 = mod_low x n 0 (pow_pos n) in
    let plain : x * 2 ^ n + 0 ≡ x * 2 ^ n = omega arith in
    let low : x * 2 ^ n % 2 ^ n ≡ 0 = ap (λ i. i % 2 ^ n) (sym plain) ∙ zero_low in
    let same : x * 2 ^ n / 2 ^ n % 2 ^ m * 2 ^ n ≡ x % 2 ^ m * 2 ^ n = ap (λ i. i % 2 ^ m * 2 ^ n) (shl-shr x n) in
    let split = mod-pow-add (x * 2 ^ n) m n in
    split ∙ ap (λ i. x * 2 ^ n / 2 ^ n % 2 ^ m * 2 ^ n + i) low ∙ omega (arith, same)

-- the two halves of a rotation don't meet
pub rotl-or : (x n : ℕ) → n ≤ 64 → x < 2 ^ 64 → bit_or (x * 2 ^ n % 2 ^ 64) (x / 2 ^ (64 - n)) ≡ rotl_of x n
rotl-or x n within fits =
    let e : 64 - n + n ≡ 64 = omega arith in
    let f : n + (64 - n) ≡ 64 = omega arith in
    let left : x * 2 ^ n % 2 ^ 64 ≡ x % 2 ^ (64 - n) * 2 ^ n = ap (λ i. x * 2 ^ n % 2 ^ i) (sym e) ∙ shl-mod x (64 - n) n in
    let right : x / 2 ^ (64 - n) < 2 ^ n = shr_below x n (64 - n) (subst (λ (i : ℕ). x < 2 ^ i) (sym f) fits) in
    ap (λ i. bit_or i (x / 2 ^ (64 - n))) left
    ∙ or_shifted (x % 2 ^ (64 - n)) n (x / 2 ^ (64 - n)) right
    ∙ ap (λ i. i + x / 2 ^ (64 - n)) (sym left)

-- which case of the mask holds
pub mask_of-ordered : (mb me : ℕ) → mb ≤ me → mask_of mb me ≡ 2 ^ (64 - mb) - 2 ^ (63 - me)
mask_of-ordered mb me ordered = grind (arith, nat_tests)

pub mask_of-round : (mb me : ℕ) → me < mb → mask_of mb me ≡ (2 ^ (64 - mb) - 1) + (2 ^ 64 - 2 ^ (63 - me))
mask_of-round mb me behind = grind (arith, nat_tests)

-- what a mask leaves is the field between its ends, in its place
pub and-mask : (word mb me : ℕ) → mb ≤ me → me ≤ 63 → bit_and word (mask_of mb me) ≡ field_of word mb me * 2 ^ (63 - me)
and-mask word mb me ordered within =
    let e : me - mb + 1 + (63 - me) ≡ 64 - mb = omega arith in
    ap (bit_and word) (mask_of-ordered mb me ordered ∙ sym (ap (λ i. 2 ^ i - 2 ^ (63 - me)) e))
    ∙ and_high word (me - mb + 1) (63 - me)

-- the code's rotation
pub rotl-code : (x n : ℕ) → n ≤ 63 → x < 2 ^ 64 → rotate_left w64 x n ≡ rotl_of x n
rotl-code x zero within fits =
    let left : x * 2 ^ 0 % 2 ^ 64 ≡ x = omega arith in
    let right : x / 2 ^ 0 ≡ x = omega arith in
    let whole : x ≡ rotl_of x 0 = omega arith in
    ap (λ i. bit_or i (x / 2 ^ 0)) left ∙ ap (bit_or x) right ∙ or_self x ∙ whole
rotl-code x (suc n) within fits =
    let e : suc n % 64 ≡ suc n = omega arith in
    let f : (64 - suc n % 64) % 64 ≡ 64 - suc n = omega arith in
    ap (λ i. bit_or (x * 2 ^ i % 2 ^ 64) (x / 2 ^ ((64 - suc n % 64) % 64))) e
    ∙ ap (λ i. bit_or (x * 2 ^ suc n % 2 ^ 64) (x / 2 ^ i)) f
    ∙ rotl-or x (suc n) (omega arith) fits

-- a rotation by no place
pub rotl-zero : (x : ℕ) → x < 2 ^ 64 → rotl_of x 0 ≡ x
rotl-zero x fits = omega arith

-- a rotated number has 64 bits
pub rotl-lt : (x n : ℕ) → n ≤ 64 → x < 2 ^ 64 → rotl_of x n < 2 ^ 64
rotl-lt x n within fits =
    let f : n + (64 - n) ≡ 64 = omega arith in
    let right : x / 2 ^ (64 - n) < 2 ^ n = shr_below x n (64 - n) (subst (λ (i : ℕ). x < 2 ^ i) (sym f) fits) in
    let m : 2 ^ n ≤ 2 ^ 64 = pow_mono {i = n} {j = 64} within in
    let left : x * 2 ^ n % 2 ^ 64 < 2 ^ 64 = omega arith in
    let a : bit_or (x * 2 ^ n % 2 ^ 64) (x / 2 ^ (64 - n)) < 2 ^ 64 = or_lt 64 (x * 2 ^ n % 2 ^ 64) (x / 2 ^ (64 - n)) left (omega (arith, right, m)) in
    subst (λ (i : ℕ). i < 2 ^ 64) (rotl-or x n within fits) a

-- the bits of a mask without a turn
mask-lt-ordered : (mb me : ℕ) → mb ≤ me → mask_of mb me < 2 ^ 64
mask-lt-ordered mb me ordered =
    let m : 2 ^ (64 - mb) ≤ 2 ^ 64 = pow_mono {i = 64 - mb} {j = 64} (omega arith) in
    let p : 0 < 2 ^ (63 - me) = pow_pos (63 - me) in
    let e : mask_of mb me ≡ 2 ^ (64 - mb) - 2 ^ (63 - me) = mask_of-ordered mb me ordered in
    subst (λ (i : ℕ). i < 2 ^ 64) (sym e) (omega (arith, m, p))

-- the bits of a mask that goes round the end
mask-lt-round : (mb me : ℕ) → me < mb → me ≤ 63 → mask_of mb me < 2 ^ 64
mask-lt-round mb me behind within =
    let m : 2 ^ (64 - mb) ≤ 2 ^ (63 - me) = pow_mono {i = 64 - mb} {j = 63 - me} (omega arith) in
    let t : 2 ^ (63 - me) ≤ 2 ^ 64 = pow_mono {i = 63 - me} {j = 64} (omega arith) in
    let p : 0 < 2 ^ (64 - mb) = pow_pos (64 - mb) in
    let e : mask_of mb me ≡ (2 ^ (64 - mb) - 1) + (2 ^ 64 - 2 ^ (63 - me)) = mask_of-round mb me behind in
    subst (λ (i : ℕ). i < 2 ^ 64) (sym e) (omega (arith, m, t, p))

-- a mask has 64 bits, whether it goes round the end or not
mask-lt-by : (mb me : ℕ) → me ≤ 63 → (me < mb) ⊎ (mb ≤ me) → mask_of mb me < 2 ^ 64
mask-lt-by mb me within (inl behind) = mask-lt-round mb me behind within
mask-lt-by mb me within (inr ordered) = mask-lt-ordered mb me ordered

-- a mask has 64 bits
pub mask-lt : (mb me : ℕ) → me ≤ 63 → mask_of mb me < 2 ^ 64
mask-lt mb me within = mask-lt-by mb me within (cases_lt me mb)
