-- Masks that are runs of ones, as the code computes them.
use Rattle.std.proofs.Common.{◌≡◌, ℕ, ◌+◌, ◌-◌, ◌*◌, ◌/◌, ◌%◌, ◌^◌, ◌<◌, ◌≤◌, bit_and, bit_or, nat_lt, cond, sym, ap, ◌∙◌, arith, mod-lt, mod-eq_of_lt, pow_pos}
use Rattle.std.proofs.lemmas.Nat.{and_mask, mod-pow-add, shr-shr}
use Rattle.std.proofs.lemmas.Nat.Bits.{ones_shr}
use Rattle.std.proofs.Math.Pow.{high_ones, pow_mono}
use Rattle.std.specs.Int.Bits.{or_shifted_r}
use Rattle.std.proofs.lemmas.Bool.Decides.{nat_tests}
use Rattle.mw_bits.specs.Fields.{field_of, sext_of}

-- a run of ones that ends at the last bit takes the remainder
pub and-ones : (n k m : ℕ) → k ≤ 64 → 64 - k ≡ m → bit_and n (18446744073709551615 / 2 ^ k) ≡ n % 2 ^ m
and-ones n k m within e = ap (bit_and n) (ones_shr 64 k within ∙ ap (λ i. 2 ^ i - 1) e) ∙ and_mask n m

-- 64 ones that are shifted right leave the run of ones of this width
pub ones-below : (w : ℕ) → w ≤ 64 → 18446744073709551615 / 2 ^ (64 - w) ≡ 2 ^ w - 1
ones-below w within =
    let k : 64 - w ≤ 64 = omega arith in
    let e : 64 - (64 - w) ≡ w = omega arith in
    ones_shr 64 (64 - w) k ∙ ap (λ i. 2 ^ i - 1) e

-- half of a run of ones is the run that is one shorter
pub half-ones : (w : ℕ) → 1 ≤ w → (2 ^ w - 1) / 2 ≡ 2 ^ (w - 1) - 1
half-ones w wide = ones_shr w 1 wide

-- the ones above a run of ones that ends at the last bit
pub not-ones : (w : ℕ) → w ≤ 64 → 18446744073709551615 - (2 ^ w - 1) ≡ (2 ^ (64 - w) - 1) * 2 ^ w
not-ones w within =
    let e : 64 - w + w ≡ 64 = omega arith in
    let h : 2 ^ (64 - w + w) - 2 ^ w ≡ (2 ^ (64 - w) - 1) * 2 ^ w = high_ones (64 - w) w in
    let t : 2 ^ (64 - w + w) ≡ 18446744073709551616 = ap (λ i. 2 ^ i) e in
    let p : 0 < 2 ^ w = pow_pos w in
    omega arith

-- a number below half of the width's numbers is extended with zeros
no_sign : (low half top : ℕ) → low ≤ half - 1 → 0 < half → cond (nat_lt low half) low (low + top) ≡ low
no_sign low half top h p = grind (arith, nat_tests)

-- a number from half of the width's numbers on is extended with ones
with_sign : (low half top : ℕ) → half - 1 < low → cond (nat_lt low half) low (low + top) ≡ low + top
with_sign low half top h = grind (arith, nat_tests)

-- a number that is extended with its sign or with zeros has 64 bits
extended-lt : (low half whole : ℕ) → low < whole → whole ≤ 2 ^ 64 → cond (nat_lt low half) low (low + (2 ^ 64 - whole)) < 2 ^ 64
extended-lt low half whole below within = grind (arith, nat_tests)

-- the field that the code's mask takes
pub field-and : (word first last : ℕ) → first ≤ last → last ≤ 63 → bit_and (word / 2 ^ (63 - last)) (18446744073709551615 / 2 ^ (63 - (last - first))) ≡ field_of word first last
field-and word first last ordered within =
    let k : 63 - (last - first) ≤ 64 = omega arith in
    let e : 64 - (63 - (last - first)) ≡ last - first + 1 = omega arith in
    and-ones (word / 2 ^ (63 - last)) (63 - (last - first)) (last - first + 1) k e

-- a field has no more bits than its places
pub field-lt : (word first last : ℕ) → field_of word first last < 2 ^ (last - first + 1)
field-lt word first last = mod-lt (word / 2 ^ (63 - last)) (pow_pos (last - first + 1))

-- the extension of a number without a sign
pub sext-low : (x w : ℕ) → 1 ≤ w → w ≤ 64 → bit_and x (18446744073709551615 / 2 ^ (64 - w)) ≤ 18446744073709551615 / 2 ^ (64 - w) / 2 → bit_and x (18446744073709551615 / 2 ^ (64 - w)) ≡ sext_of x w
sext-low x w wide within test =
    let o = ones-below w within in
    let e : bit_and x (18446744073709551615 / 2 ^ (64 - w)) ≡ x % 2 ^ w = ap (bit_and x) o ∙ and_mask x w in
    let half : 18446744073709551615 / 2 ^ (64 - w) / 2 ≡ 2 ^ (w - 1) - 1 = ap (λ n. n / 2) o ∙ half-ones w wide in
    let below : x % 2 ^ w ≤ 2 ^ (w - 1) - 1 = omega arith in
    e ∙ sym (no_sign (x % 2 ^ w) (2 ^ (w - 1)) (2 ^ 64 - 2 ^ w) below (pow_pos (w - 1)))

-- the extension of a number with a sign
pub sext-high : (x w : ℕ) → 1 ≤ w → w ≤ 64 → 18446744073709551615 / 2 ^ (64 - w) / 2 < bit_and x (18446744073709551615 / 2 ^ (64 - w)) → bit_or (bit_and x (18446744073709551615 / 2 ^ (64 - w))) (18446744073709551615 - 18446744073709551615 / 2 ^ (64 - w)) ≡ sext_of x w
sext-high x w wide within test =
    let o = ones-below w within in
    let e : bit_and x (18446744073709551615 / 2 ^ (64 - w)) ≡ x % 2 ^ w = ap (bit_and x) o ∙ and_mask x w in
    let half : 18446744073709551615 / 2 ^ (64 - w) / 2 ≡ 2 ^ (w - 1) - 1 = ap (λ n. n / 2) o ∙ half-ones w wide in
    let above : 2 ^ (w - 1) - 1 < x % 2 ^ w = omega arith in
    let top : 18446744073709551615 - 18446744073709551615 / 2 ^ (64 - w) ≡ (2 ^ (64 - w) - 1) * 2 ^ w = ap (λ n. 18446744073709551615 - n) o ∙ not-ones w within in
    let whole : 18446744073709551615 - (2 ^ w - 1) ≡ (2 ^ (64 - w) - 1) * 2 ^ w = not-ones w within in
    let p : 0 < 2 ^ w = pow_pos w in
    let high : (2 ^ (64 - w) - 1) * 2 ^ w + x % 2 ^ w ≡ x % 2 ^ w + (2 ^ 64 - 2 ^ w) = omega arith in
    ap (λ n. bit_or n (18446744073709551615 - 18446744073709551615 / 2 ^ (64 - w))) e
    ∙ ap (bit_or (x % 2 ^ w)) top
    ∙ or_shifted_r (2 ^ (64 - w) - 1) w (x % 2 ^ w) (mod-lt x (pow_pos w))
    ∙ high
    ∙ sym (with_sign (x % 2 ^ w) (2 ^ (w - 1)) (2 ^ 64 - 2 ^ w) above)

-- the whole word is a field
pub field-whole : (word : ℕ) → word < 2 ^ 64 → field_of word 0 63 ≡ word
field-whole word fits = omega arith

-- the fields that end at the last bit are the remainders
pub field-low : (word width : ℕ) → 1 ≤ width → width ≤ 64 → field_of word (64 - width) 63 ≡ word % 2 ^ width
field-low word width wide within =
    let e : 63 - (64 - width) + 1 ≡ width = omega arith in
    let whole : word / 2 ^ 0 ≡ word = omega arith in
    ap (λ i. i % 2 ^ (63 - (64 - width) + 1)) whole ∙ ap (λ i. word % 2 ^ i) e

-- a field of two parts
pub field-join : (word first mid last : ℕ) → first ≤ mid → mid < last → last ≤ 63 → field_of word first last ≡ field_of word first mid * 2 ^ (last - mid) + field_of word (mid + 1) last
field-join word first mid last ordered apart within =
    let e : mid - first + 1 + (last - mid) ≡ last - first + 1 = omega arith in
    let f : last - mid ≡ last - (mid + 1) + 1 = omega arith in
    let g : 63 - last + (last - mid) ≡ 63 - mid = omega arith in
    ap (λ i. word / 2 ^ (63 - last) % 2 ^ i) (sym e)
    ∙ mod-pow-add (word / 2 ^ (63 - last)) (mid - first + 1) (last - mid)
    ∙ ap (λ i. i % 2 ^ (mid - first + 1) * 2 ^ (last - mid) + word / 2 ^ (63 - last) % 2 ^ (last - mid)) (shr-shr word (63 - last) (last - mid) ∙ ap (λ i. word / 2 ^ i) g)
    ∙ ap (λ i. word / 2 ^ (63 - mid) % 2 ^ (mid - first + 1) * 2 ^ (last - mid) + word / 2 ^ (63 - last) % 2 ^ i) f

-- a number that has no sign in this width stays
pub sext-small : (x width : ℕ) → 1 ≤ width → x < 2 ^ (width - 1) → sext_of x width ≡ x
sext-small x width wide small =
    let m : 2 ^ (width - 1) ≤ 2 ^ width = pow_mono {i = width - 1} {j = width} (omega arith) in
    let fits : x < 2 ^ width = omega arith in
    let e : x % 2 ^ width ≡ x = mod-eq_of_lt fits in
    ap (λ i. cond (nat_lt i (2 ^ (width - 1))) i (i + (2 ^ 64 - 2 ^ width))) e
    ∙ no_sign x (2 ^ (width - 1)) (2 ^ 64 - 2 ^ width) (omega arith) (pow_pos (width - 1))

-- an extended number has 64 bits
pub sext-lt : (x width : ℕ) → width ≤ 64 → sext_of x width < 2 ^ 64
sext-lt x width within =
    let m : 2 ^ width ≤ 2 ^ 64 = pow_mono {i = width} {j = 64} within in
    let low : x % 2 ^ width < 2 ^ width = mod-lt x (pow_pos width) in
    extended-lt (x % 2 ^ width) (2 ^ (width - 1)) (2 ^ width) low m
