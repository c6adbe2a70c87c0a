-- Hexadecimal digits, written from the last pair on, and how many a number has.
use Rattle.std.proofs.Common.{◌≡◌, ℕ, zero, suc, ◌+◌, ◌-◌, ◌*◌, ◌/◌, ◌%◌, ◌^◌, ◌<◌, ◌≤◌, nat_lt, eqb, true, List, ◌∷◌, length, drop, slice_index, slice_set, refl, sym, ap, ◌∙◌, arith}
use Rattle.std.proofs.lemmas.Bool.{agree_below_at, eqb-true, cond-true, cond-false, lt-ltb, le-ltb}
use Rattle.std.proofs.Math.Nat.{div-div-eq-div-mul, div-one, pow-suc}
use Rattle.std.proofs.Math.ListN.{length-set}
use Rattle.std.proofs.Math.Seq.{drop-length}
use Rattle.std.proofs.lemmas.List.{drop-set}
use Rattle.mw_digits.specs.declared.hex_digits.TheConstants.{PAIRS}
use Rattle.mw_digits.specs.Digits.{hex, hex_digit, digits_of}

-- the digits from a place on are written, and the rest is the number without them
pub record AreWritten (digits : List ℕ) (number rest place : ℕ) : Type 0 where
  pub behind : drop place digits ≡ hex (length digits - place) number
  pub before : rest ≡ number / 16 ^ (length digits - place)

-- no digit is written at the start, and the rest is the number
pub written-none : (digits : List ℕ) (number : ℕ) → AreWritten digits number number (length digits)
unfolding hex
written-none digits number =
    let e : length digits - length digits ≡ 0 = omega arith in
    record {
      behind = drop-length digits ∙ sym (ap (λ k. hex k number) e);
      before = sym (ap (λ k. number / 16 ^ k) e ∙ div-one number);
    }

-- one digit more is written, in front of the others
pub written-more : (digits : List ℕ) (number rest place d : ℕ) → 0 < place → place ≤ length digits → d ≡ hex_digit (rest % 16) → AreWritten digits number rest place → AreWritten (slice_set digits (place - 1) d) number (rest / 16) (place - 1)
unfolding hex
written-more digits number rest place d pos within is w =
    let at = place - 1 in
    let k = length digits - place in
    let inside : at < length digits = omega arith in
    let next : at + 1 ≡ place = omega arith in
    let more : length digits - at ≡ suc k = omega arith in
    let longer : length (slice_set digits at d) - at ≡ suc k = ap (λ n. n - at) (length-set digits at d) ∙ more in
    let tail : drop (at + 1) digits ≡ hex k number = ap (λ i. drop i digits) next ∙ w.behind in
    let digit : d ≡ hex_digit (number / 16 ^ k % 16) = is ∙ ap (λ n. hex_digit (n % 16)) w.before in
    let quotient : rest / 16 ≡ number / 16 ^ suc k = ap (λ n. n / 16) w.before ∙ div-div-eq-div-mul number (16 ^ k) 16 ∙ sym (ap (λ n. number / n) (pow-suc 16 k)) in
    record {
      behind = drop-set digits at d inside ∙ ap (λ xs. d ∷ xs) tail ∙ ap (λ n. n ∷ hex k number) digit ∙ sym (ap (λ n. hex n number) longer);
      before = quotient ∙ sym (ap (λ n. number / 16 ^ n) longer);
    }

-- the first digit of a pair
pair-high : (n : ℕ) → n < 256 → slice_index PAIRS (2 * n) ≡ hex_digit (n / 16)
pair-high n small = eqb-true _ _ (agree_below_at (λ k. eqb (slice_index PAIRS (2 * k)) (hex_digit (k / 16))) (λ k. true) 256 n refl small)

-- the second digit of a pair
pair-low : (n : ℕ) → n < 256 → slice_index PAIRS (2 * n + 1) ≡ hex_digit (n % 16)
pair-low n small = eqb-true _ _ (agree_below_at (λ k. eqb (slice_index PAIRS (2 * k + 1)) (hex_digit (k % 16))) (λ k. true) 256 n refl small)

-- two digits more are written, in front of the others
pub written-pair : (digits : List ℕ) (number rest place : ℕ) → 1 < place → place ≤ length digits → AreWritten digits number rest place → AreWritten (slice_set (slice_set digits (place - 1) (slice_index PAIRS (2 * (rest % 256) + 1))) (place - 2) (slice_index PAIRS (2 * (rest % 256)))) number (rest / 256) (place - 2)
written-pair digits number rest place pos within w =
    let low = slice_index PAIRS (2 * (rest % 256) + 1) in
    let high = slice_index PAIRS (2 * (rest % 256)) in
    let second : rest % 256 % 16 ≡ rest % 16 = omega arith in
    let first : rest % 256 / 16 ≡ rest / 16 % 16 = omega arith in
    let is_low : low ≡ hex_digit (rest % 16) = pair-low (rest % 256) (omega arith) ∙ ap hex_digit second in
    let is_high : high ≡ hex_digit (rest / 16 % 16) = pair-high (rest % 256) (omega arith) ∙ ap hex_digit first in
    let same = length-set digits (place - 1) low in
    let one = written-more digits number rest place low (omega arith) within is_low w in
    let two = written-more (slice_set digits (place - 1) low) number (rest / 16) (place - 1) high (omega arith) (omega arith) is_high one in
    let at : place - 1 - 1 ≡ place - 2 = omega arith in
    let left : rest / 16 / 16 ≡ rest / 256 = omega arith in
    rw (at, left) at two

-- the first digit is written, where it alone is left
pub written-first : (digits : List ℕ) (number rest place : ℕ) → place ≡ 1 → place ≤ length digits → AreWritten digits number rest place → slice_set digits 0 (slice_index PAIRS (2 * (rest % 16) + 1)) ≡ hex (length digits) number
written-first digits number rest place is within w =
    let d = slice_index PAIRS (2 * (rest % 16) + 1) in
    let same : rest % 16 % 16 ≡ rest % 16 = omega arith in
    let is_digit : d ≡ hex_digit (rest % 16) = pair-low (rest % 16) (omega arith) ∙ ap hex_digit same in
    let all = written-more digits number rest place d (omega arith) within is_digit w in
    let at : place - 1 ≡ 0 = omega arith in
    let long : length (slice_set digits 0 d) - 0 ≡ length digits = omega (arith, length-set digits 0 d) in
    (rw at at all.behind) ∙ ap (λ k. hex k number) long

-- the power of 16 before another
pub power-before : (k : ℕ) → 0 < k → 16 ^ k / 16 ≡ 16 ^ (k - 1)
power-before zero some = absurd (omega arith)
power-before (suc k) some =
    let e : suc k - 1 ≡ k = omega arith in
    let power : 16 ^ suc k ≡ 16 ^ k * 16 = pow-suc 16 k in
    rw e (omega arith)

-- a number below a power of 16 has no digit at that power's place
pub digits-less : (k n : ℕ) → 0 < k → n < 16 ^ k → digits_of (k - 1) n ≡ digits_of k n
unfolding digits_of
digits-less zero n some lt = absurd (omega arith)
digits-less (suc k) n some lt =
    let e : suc k - 1 ≡ k = omega arith in
    ap (λ j. digits_of j n) e ∙ sym (cond-true (nat_lt n (16 ^ suc k)) (digits_of k n) (suc k + 1) (lt-ltb n (16 ^ suc k) lt))

-- a number that isn't below a power of 16 has a digit at that power's place
pub digits-all : (k n : ℕ) → (0 < k → 16 ^ k ≤ n) → digits_of k n ≡ k + 1
unfolding digits_of
digits-all zero n most = refl
digits-all (suc k) n most = cond-false (nat_lt n (16 ^ suc k)) (digits_of k n) (suc k + 1) (le-ltb n (16 ^ suc k) (most (omega arith)))
