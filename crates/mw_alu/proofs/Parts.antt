-- Numbers that are put together from parts of equally many bits, from the right.
use Rattle.std.proofs.Common.{◌≡◌, ℕ, ◌+◌, ◌*◌, ◌%◌, ◌^◌, ◌<◌, ◌≤◌, bit_or, refl, sym, ap, subst, ◌∙◌, arith, add-one, pow_pos}
use Rattle.std.proofs.lemmas.Nat.{pow-add, shl_whole, mul-add-lt}
use Rattle.std.specs.Int.Bits.{or_shifted_r}
use Rattle.mw_alu.specs.Places.{sum_below}

-- the sum below one place more has that place's part more
pub sum_below-more : (n : ℕ) (f : ℕ → ℕ) → sum_below (n + 1) f ≡ sum_below n f + f n
unfolding sum_below
sum_below-more n f = ap (λ i. sum_below i f) (add-one n)

-- a number is the sum of n parts, and has k bits for each
pub record Parts (f : ℕ → ℕ) (k n out : ℕ) : Type 0 where
  pub is_sum : out ≡ sum_below n f
  pub fits : out < 2 ^ (k * n)

-- the sum of no part is 0
pub parts_none : (f : ℕ → ℕ) (k : ℕ) → Parts f k 0 0
unfolding sum_below
parts_none f k = record { is_sum = refl; fits = pow_pos (k * 0) }

-- one part more is put into its place
pub parts_or : (f : ℕ → ℕ) (k n low x out : ℕ) → low ≡ k * n → low + k ≤ 64 → x < 2 ^ k → f n ≡ x * 2 ^ low → Parts f k n out → Parts f k (n + 1) (bit_or out (x * 2 ^ low % 2 ^ 64))
parts_or f k n low x out place within small part before =
    let fits : out < 2 ^ low = subst (λ (i : ℕ). out < 2 ^ i) (sym place) before.fits in
    let whole : x * 2 ^ low % 2 ^ 64 ≡ x * 2 ^ low = shl_whole x k low 64 small (omega arith) in
    let joined : bit_or out (x * 2 ^ low % 2 ^ 64) ≡ x * 2 ^ low + out = ap (bit_or out) whole ∙ or_shifted_r x low out fits in
    let sum : x * 2 ^ low + out ≡ sum_below (n + 1) f = omega (arith, part, before.is_sum, sum_below-more n f) in
    let bound : x * 2 ^ low + out < 2 ^ low * 2 ^ k = mul-add-lt x (2 ^ low) out (2 ^ k) small fits in
    let places : low + k ≡ k * (n + 1) = omega arith in
    let wider : 2 ^ low * 2 ^ k ≡ 2 ^ (k * (n + 1)) = sym (pow-add 2 low k) ∙ ap (λ i. 2 ^ i) places in
    record {
      is_sum = joined ∙ sum;
      fits = subst (λ (i : ℕ). i < 2 ^ (k * (n + 1))) (sym joined) (subst (λ (i : ℕ). x * 2 ^ low + out < i) wider bound);
    }
