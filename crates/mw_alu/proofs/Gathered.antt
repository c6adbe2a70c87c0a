-- Bits that are gathered at the right, and bits that are taken from there.
use Rattle.std.proofs.Common.{◌≡◌, ℕ, zero, suc, ◌+◌, ◌*◌, ◌%◌, ◌^◌, ◌<◌, ◌≤◌, bit_or, refl, sym, ap, subst, ◌∙◌, arith, add-one, pow_pos}
use Rattle.std.specs.Int.{w64, bit_at, bit_not}
use Rattle.std.specs.Int.Bits.{or_shifted_r}
use Rattle.std.proofs.lemmas.Nat.{or_shifted, pow-add, shl_whole}
use Rattle.std.proofs.lemmas.Nat.Bits.{bit_at-lt}
use Rattle.mw_alu.specs.Places.{sum_below, ones_below}
use Rattle.mw_alu.specs.Permutes.{pextd_part, pextd_of, cfuged_of, pdepd_part}
use Rattle.mw_alu.proofs.Parts.{Parts, parts_none, parts_or, sum_below-more}
use Rattle.mw_alu.proofs.OnesLemmas.{ones_below-zero, ones_below-more, ones_below-not}

-- the product of two bits is one
both-lt : (b d : ℕ) → b < 2 → d < 2 → b * d < 2
both-lt zero d first second = omega arith
both-lt (suc zero) d first second = omega arith
both-lt (suc (suc b)) d first second = absurd (omega arith)

-- a bit at the left end of a number of so many bits
ended-lt : (b d sum ones : ℕ) → b < 2 → d < 2 → sum < 2 ^ ones → sum + b * d * 2 ^ ones < 2 ^ (ones + b)
ended-lt zero d sum ones first second below =
    let same : ones + 0 ≡ ones = omega arith in
    let power : 2 ^ (ones + 0) ≡ 2 ^ ones = ap (λ i. 2 ^ i) same in
    omega (arith, power, below)
ended-lt (suc zero) zero sum ones first second below =
    let wider : 2 ^ (ones + 1) ≡ 2 ^ ones * 2 = pow-add 2 ones 1 in
    omega (arith, wider, below)
ended-lt (suc zero) (suc zero) sum ones first second below =
    let wider : 2 ^ (ones + 1) ≡ 2 ^ ones * 2 = pow-add 2 ones 1 in
    omega (arith, wider, below)
ended-lt (suc zero) (suc (suc d)) sum ones first second below = absurd (omega arith)
ended-lt (suc (suc b)) d sum ones first second below = absurd (omega arith)

-- what is gathered has as many bits as the mask has ones
pub gathered-lt : (s mask n : ℕ) → sum_below n (pextd_part s mask) < 2 ^ ones_below n mask
unfolding sum_below
gathered-lt s mask zero = pow_pos (ones_below 0 mask)
gathered-lt s mask (suc n) =
    let more : ones_below (n + 1) mask ≡ ones_below n mask + bit_at mask n = ones_below-more n mask in
    let last : sum_below n (pextd_part s mask) + pextd_part s mask n < 2 ^ (ones_below n mask + bit_at mask n) = ended-lt (bit_at mask n) (bit_at s n) (sum_below n (pextd_part s mask)) (ones_below n mask) (bit_at-lt mask n) (bit_at-lt s n) (gathered-lt s mask n) in
    subst (λ (i : ℕ). sum_below n (pextd_part s mask) + pextd_part s mask n < 2 ^ ones_below i mask) (add-one n) (subst (λ (i : ℕ). sum_below n (pextd_part s mask) + pextd_part s mask n < 2 ^ i) (sym more) last)

-- how far bits are gathered
pub record Gathered (s mask place taken out : ℕ) : Type 0 where
  pub is_sum : out ≡ sum_below place (pextd_part s mask)
  pub counted : taken ≡ ones_below place mask
  pub within : taken ≤ place

-- no bit is gathered before the first place
pub gathered_none : (s mask : ℕ) → Gathered s mask 0 0 0
unfolding sum_below
gathered_none s mask = record { is_sum = refl; counted = sym (ones_below-zero mask); within = omega arith }

-- the bit of the next place is gathered, where the mask has a one
pub gathered_or : (s mask place taken out b d : ℕ) → place < 64 → b ≡ bit_at mask place → d ≡ bit_at s place → Gathered s mask place taken out → Gathered s mask (place + 1) (taken + b) (bit_or out (b * d * 2 ^ taken % 2 ^ 64))
gathered_or s mask place taken out b d inside first second before =
    let few : b < 2 = subst (λ (i : ℕ). i < 2) (sym first) (bit_at-lt mask place) in
    let least : d < 2 = subst (λ (i : ℕ). i < 2) (sym second) (bit_at-lt s place) in
    let bit : b * d < 2 = both-lt b d few least in
    let power : 2 ^ taken ≡ 2 ^ ones_below place mask = ap (λ i. 2 ^ i) before.counted in
    let below : out < 2 ^ taken = omega (arith, power, before.is_sum, gathered-lt s mask place) in
    let whole : b * d * 2 ^ taken % 2 ^ 64 ≡ b * d * 2 ^ taken = shl_whole (b * d) 1 taken 64 bit (omega (arith, before.within)) in
    let part : b * d * 2 ^ taken ≡ pextd_part s mask place = ap (λ i. i * d * 2 ^ taken) first ∙ ap (λ i. bit_at mask place * i * 2 ^ taken) second ∙ ap (λ i. bit_at mask place * bit_at s place * i) power in
    record {
      is_sum = ap (bit_or out) whole ∙ or_shifted_r (b * d) taken out below ∙ omega (arith, part, before.is_sum, sum_below-more place (pextd_part s mask));
      counted = omega (arith, first, before.counted, ones_below-more place mask);
      within = omega (arith, before.within);
    }

-- bits where the mask has zeros, gathered to the left of those where it has ones
pub fused : (s mask : ℕ) → mask < 2 ^ 64 → bit_or (pextd_of s (bit_not w64 mask) * 2 ^ ones_below 64 mask % 2 ^ 64) (pextd_of s mask) ≡ cfuged_of s mask
fused s mask fits =
    let both : ones_below 64 (bit_not w64 mask) + ones_below 64 mask ≡ 64 = ones_below-not 64 mask (omega arith) fits in
    let whole : pextd_of s (bit_not w64 mask) * 2 ^ ones_below 64 mask % 2 ^ 64 ≡ pextd_of s (bit_not w64 mask) * 2 ^ ones_below 64 mask = shl_whole (pextd_of s (bit_not w64 mask)) (ones_below 64 (bit_not w64 mask)) (ones_below 64 mask) 64 (gathered-lt s (bit_not w64 mask) 64) (omega (arith, both)) in
    ap (λ i. bit_or i (pextd_of s mask)) whole ∙ or_shifted (pextd_of s (bit_not w64 mask)) (ones_below 64 mask) (pextd_of s mask) (gathered-lt s mask 64)

-- how far bits are spread
pub record Spread (s mask place taken out : ℕ) : Type 0 where
  pub parts : Parts (pdepd_part s mask) 1 place out
  pub counted : taken ≡ ones_below place mask
  pub within : taken ≤ place

-- no bit is spread before the first place
pub spread_none : (s mask : ℕ) → Spread s mask 0 0 0
spread_none s mask =
    record { parts = parts_none (pdepd_part s mask) 1; counted = sym (ones_below-zero mask); within = omega arith }

-- the bit of the next place is spread, where the mask has a one
pub spread_or : (s mask place taken out b d : ℕ) → place < 64 → b ≡ bit_at mask place → d ≡ bit_at s taken → Spread s mask place taken out → Spread s mask (place + 1) (taken + b) (bit_or out (b * d * 2 ^ place % 2 ^ 64))
spread_or s mask place taken out b d inside first second before =
    let few : b < 2 = subst (λ (i : ℕ). i < 2) (sym first) (bit_at-lt mask place) in
    let least : d < 2 = subst (λ (i : ℕ). i < 2) (sym second) (bit_at-lt s taken) in
    let part : pdepd_part s mask place ≡ b * d * 2 ^ place = sym (ap (λ i. i * d * 2 ^ place) first ∙ ap (λ i. bit_at mask place * i * 2 ^ place) (second ∙ ap (bit_at s) before.counted)) in
    record {
      parts = parts_or (pdepd_part s mask) 1 place place (b * d) out (omega arith) (omega arith) (both-lt b d few least) part before.parts;
      counted = omega (arith, first, before.counted, ones_below-more place mask);
      within = omega (arith, before.within);
    }
