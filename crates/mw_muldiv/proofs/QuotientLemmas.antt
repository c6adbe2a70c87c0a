-- Quotients bit by bit, and their signs.
use Rattle.std.proofs.Common.{◌≡◌, ℕ, zero, suc, ◌+◌, ◌-◌, ◌*◌, ◌/◌, ◌%◌, ◌^◌, ◌<◌, ◌≤◌, refl, sym, ap, ap₂, subst, mod-lt, mod-eq_of_lt, pow_pos, ◌∙◌, arith, ◌⊎◌, inl, inr}
use Rattle.std.specs.Prelude.{Bool, true, false, ℤ, pos, negsuc, int_div, int_rem, unsigned_abs, if◌then◌else◌, ◌==◌, nat_lt, Some, None}
use Rattle.std.proofs.lemmas.Bool.{cases_lt}
use Rattle.std.proofs.Math.Nat.{eq-zero-or-pos}
use Rattle.std.proofs.lemmas.Bool.Decides.{nat_tests}
use Rattle.std.proofs.lemmas.Nat.{shr-shr, pow-add, mod-pow-add, mul-add-lt, div-mul-add, mod-mul-add, div-add-mod', div_below, le-div}
use Rattle.mw_muldiv.specs.declared.steps.Partial.{Partial}
use Rattle.mw_muldiv.specs.declared.numbers.DivKind.{DivKind}
use Rattle.mw_muldiv.specs.declared.numbers.DivKind.TheVariants.{Signed64, Unsigned64, Signed32, Unsigned32}
use Rattle.mw_muldiv.specs.declared.numbers.DivOut.{DivOut}
use Rattle.mw_muldiv.specs.declared.numbers.DivOut.TheVariants.{Done, NoQuotient}
use Rattle.mw_muldiv.specs.declared.divider.Div.TheInside.{Inside}
use Rattle.mw_muldiv.specs.Division.{dividend_of, divisor_of, fits, bits_of, settled, divided, quotient_of, quotient_at}
use Rattle.mw_muldiv.specs.DivInside.{division_of, is_negative, signed_of, differ, with_bit, outcome_of, size_of, IsDivided}

-- a number whose left bits are those of a dividend that weren't taken yet, moved by a place, with a bit behind it
record Moved (size low ticks bit : ℕ) : Type 0 where
  top : low / 2 ^ 63 ≡ size / 2 ^ (63 - ticks) % 2
  low_is : low * 2 % 2 ^ 64 + bit ≡ size % 2 ^ (63 - ticks) * 2 ^ (ticks + 1) + (2 * (low % 2 ^ ticks) + bit)
  bits : (low * 2 % 2 ^ 64 + bit) % 2 ^ (ticks + 1) ≡ 2 * (low % 2 ^ ticks) + bit

moved : (size low ticks bit : ℕ) → ticks < 64 → bit < 2 → low ≡ size % 2 ^ (64 - ticks) * 2 ^ ticks + low % 2 ^ ticks → Moved size low ticks bit
moved size low ticks bit under small is =
    let left = 63 - ticks in
    let top = size / 2 ^ left % 2 in
    let coming = size % 2 ^ left in
    let found = low % 2 ^ ticks in
    let found_lt : found < 2 ^ ticks = mod-lt low (pow_pos ticks) in
    let coming_lt : coming < 2 ^ left = mod-lt size (pow_pos left) in
    let one_more : 64 - ticks ≡ 1 + left = omega arith in
    let all : left + ticks ≡ 63 = omega arith in
    let power : 2 ^ left * 2 ^ ticks ≡ 2 ^ 63 = sym (pow-add 2 left ticks) ∙ ap (λ i. 2 ^ i) all in
    let next : 2 ^ (ticks + 1) ≡ 2 ^ ticks * 2 = pow-add 2 ticks 1 in
    let split : size % 2 ^ (64 - ticks) ≡ top * 2 ^ left + coming = ap (λ i. size % 2 ^ i) one_more ∙ mod-pow-add size 1 left in
    let rest_lt : coming * 2 ^ ticks + found < 2 ^ 63 = subst (λ (i : ℕ). coming * 2 ^ ticks + found < i) (omega (arith, power)) (mul-add-lt coming (2 ^ ticks) found (2 ^ left) coming_lt found_lt) in
    let low_is : low ≡ top * 2 ^ 63 + (coming * 2 ^ ticks + found) = is ∙ ap (λ i. i * 2 ^ ticks + found) split ∙ omega (arith, ap (λ i. top * i) power) in
    let twice : low * 2 % 2 ^ 64 ≡ 2 * (coming * 2 ^ ticks + found) = omega (arith, low_is, rest_lt) in
    let whole : low * 2 % 2 ^ 64 + bit ≡ coming * 2 ^ (ticks + 1) + (2 * found + bit) = omega (arith, twice, ap (λ i. coming * i) next) in
    let bits_lt : 2 * found + bit < 2 ^ (ticks + 1) = omega (arith, next) in
    record {
      top = ap (λ i. i / 2 ^ 63) low_is ∙ div-mul-add top (2 ^ 63) (coming * 2 ^ ticks + found) rest_lt;
      low_is = whole;
      bits = ap (λ i. i % 2 ^ (ticks + 1)) whole ∙ mod-mul-add coming (2 ^ (ticks + 1)) (2 * found + bit) bits_lt;
    }

-- the dividend's bits with one more
bits-more : (size ticks : ℕ) → ticks < 64 → size / 2 ^ (63 - ticks) ≡ 2 * (size / 2 ^ (64 - ticks)) + size / 2 ^ (63 - ticks) % 2
bits-more size ticks under =
    let more : 64 - ticks ≡ 63 - ticks + 1 = omega arith in
    let half : size / 2 ^ (64 - ticks) ≡ size / 2 ^ (63 - ticks) / 2 = ap (λ i. size / 2 ^ i) more ∙ sym (shr-shr size (63 - ticks) 1) in
    omega (arith, half)

-- a bit is taken where the rest is below the divisor, and nothing is done elsewhere
taken-below : (p : Partial) (divisor : ℕ) → p.rest < divisor → with_bit p divisor ≡ record { rest = (2 * p.rest + p.low / 2 ^ 63) % divisor; low = p.low * 2 % 2 ^ 64 + (2 * p.rest + p.low / 2 ^ 63) / divisor }
taken-below p divisor below = grind (arith, nat_tests)

taken-above : (p : Partial) (divisor : ℕ) → divisor ≤ p.rest → with_bit p divisor ≡ p
taken-above p divisor above = grind (arith, nat_tests)

-- a division with a tick more
abbrev pub stepped : Inside → Partial → Inside
stepped d next = record d { ticks = d.ticks + 1; so_far = next }

-- a division whose rest is below the divisor is as far as its ticks say with a tick more too
divided-below : (d : Inside) → d.ticks < 64 → d.so_far.rest < d.divisor_size → IsDivided d → IsDivided (stepped d (with_bit d.so_far d.divisor_size))
divided-below d under below before =
    let size = size_of d in
    let divisor = d.divisor_size in
    let p = d.so_far in
    let number = 2 * p.rest + p.low / 2 ^ 63 in
    let some : 0 < divisor = omega arith in
    let left : 64 - (d.ticks + 1) ≡ 63 - d.ticks = omega arith in
    let top : p.low / 2 ^ 63 ≡ size / 2 ^ (63 - d.ticks) % 2 = (moved size p.low d.ticks 0 under (omega arith) (before.low_is below)).top in
    let few : number / divisor < 2 = div_below number divisor 2 some (omega (arith, top, below)) in
    let more = moved size p.low d.ticks (number / divisor) under few (before.low_is below) in
    let parts : number / divisor * divisor + number % divisor ≡ number = div-add-mod' number divisor in
    subst (λ (next : Partial). IsDivided (stepped d next)) (sym (taken-below p divisor below)) (record {
      divisor_is = before.divisor_is;
      small = λ fits. mod-lt number some;
      low_is = λ fits. more.low_is ∙ ap₂ (λ (i n : ℕ). size % 2 ^ i * 2 ^ (d.ticks + 1) + n) (sym left) (sym more.bits);
      whole = λ fits. ap (λ i. i * divisor + number % divisor) more.bits ∙ omega (arith, parts, top, before.whole below, bits-more size d.ticks under) ∙ ap (λ i. size / 2 ^ i) (sym left);
    })

-- a division whose rest isn't below the divisor is as far as its ticks say with a tick more too
divided-above : (d : Inside) → d.divisor_size ≤ d.so_far.rest → IsDivided d → IsDivided (stepped d (with_bit d.so_far d.divisor_size))
divided-above d above before =
    subst (λ (p : Partial). IsDivided (stepped d p)) (sym (taken-above d.so_far d.divisor_size above)) (record {
      divisor_is = before.divisor_is;
      small = before.small;
      low_is = λ below. absurd (omega (arith, below, above));
      whole = λ below. absurd (omega (arith, below, above));
    })

-- a division that is as far as its ticks say is so with a tick more, wherever its rest is
divided-either : (d : Inside) → d.ticks < 64 → IsDivided d → (d.so_far.rest < d.divisor_size) ⊎ (d.divisor_size ≤ d.so_far.rest) → IsDivided (stepped d (with_bit d.so_far d.divisor_size))
divided-either d under before (inl below) = divided-below d under below before
divided-either d under before (inr above) = divided-above d above before

pub divided-more : (d : Inside) (next : Partial) → d.ticks < 64 → next ≡ with_bit d.so_far d.divisor_size → IsDivided d → IsDivided (stepped d next)
divided-more d next under is before =
    subst (λ (p : Partial). IsDivided (stepped d p)) (sym is) (divided-either d under before (cases_lt d.so_far.rest d.divisor_size))

-- behind the 64th tick the low bits are the quotient
quotient-whole : (d : Inside) → d.ticks ≡ 64 → IsDivided d → d.so_far.rest < d.divisor_size → (d.so_far.low < 2 ^ 64) × (d.so_far.low * d.divisor_size + d.so_far.rest ≡ size_of d)
quotient-whole d last known below =
    let none : 64 - d.ticks ≡ 0 = omega arith in
    let coming : size_of d % 2 ^ (64 - d.ticks) ≡ 0 = ap (λ i. size_of d % 2 ^ i) none ∙ omega arith in
    let taken : size_of d / 2 ^ (64 - d.ticks) ≡ size_of d = ap (λ i. size_of d / 2 ^ i) none ∙ omega arith in
    let found : d.so_far.low % 2 ^ d.ticks ≡ d.so_far.low = sym (known.low_is below ∙ ap (λ i. i * 2 ^ d.ticks + d.so_far.low % 2 ^ d.ticks) coming ∙ omega arith) in
    let fits : d.so_far.low < 2 ^ 64 = omega (arith, found ∙ refl, ap (λ i. d.so_far.low % 2 ^ i) last) in
    (fits, ap (λ i. i * d.divisor_size + d.so_far.rest) (sym found) ∙ known.whole below ∙ taken)

-- the last tick leaves what was found
pub divided-last : (d : Inside) → d.ticks ≡ 64 → IsDivided d → IsDivided (stepped d d.so_far)
divided-last d last before =
    let none : 64 - (d.ticks + 1) ≡ 0 = omega arith in
    let all : d.ticks + 1 ≡ 65 = omega arith in
    record {
      divisor_is = before.divisor_is;
      small = before.small;
      low_is = λ below. sym (ap₂ (λ (i n : ℕ). size_of d % 2 ^ i * 2 ^ n + d.so_far.low % 2 ^ n) none all ∙ omega (arith, (quotient-whole d last before below).0));
      whole = λ below. ap (λ i. d.so_far.low % 2 ^ i * d.divisor_size + d.so_far.rest) all ∙ ap (λ i. i * d.divisor_size + d.so_far.rest) (mod-eq_of_lt (omega (arith, (quotient-whole d last before below).0))) ∙ (quotient-whole d last before below).1 ∙ sym (ap (λ i. size_of d / 2 ^ i) none ∙ omega arith);
    }

-- a quotient by the signs of its numbers
signed-quotient : (n d : ℤ) → int_div n d ≡ signed_of (differ (is_negative n) (is_negative d)) (unsigned_abs n / unsigned_abs d)
signed-quotient (pos n) (pos d) = refl
signed-quotient (pos n) (negsuc d) = refl
signed-quotient (negsuc n) (pos d) = refl
signed-quotient (negsuc n) (negsuc d) = refl

-- a rest by the sign of the dividend
signed-rest : (n d : ℤ) → int_rem n d ≡ signed_of (is_negative n) (unsigned_abs n % unsigned_abs d)
signed-rest (pos n) d = refl
signed-rest (negsuc n) d = refl

-- a quotient of more than 64 bits doesn't fit
fits-far : (kind : DivKind) (sign : Bool) (size : ℕ) → 2 ^ 64 ≤ size → fits kind (signed_of sign size) ≡ false
fits-far Signed64 false size far = grind (arith, nat_tests)
fits-far Signed64 true zero far = absurd (omega arith)
fits-far Signed64 true (suc size) far = grind (arith, nat_tests)
fits-far Unsigned64 false size far = grind (arith, nat_tests)
fits-far Unsigned64 true zero far = absurd (omega arith)
fits-far Unsigned64 true (suc size) far = refl
fits-far Signed32 false size far = grind (arith, nat_tests)
fits-far Signed32 true zero far = absurd (omega arith)
fits-far Signed32 true (suc size) far = grind (arith, nat_tests)
fits-far Unsigned32 false size far = grind (arith, nat_tests)
fits-far Unsigned32 true zero far = absurd (omega arith)
fits-far Unsigned32 true (suc size) far = refl

-- a choice by a test that holds, and by one that doesn't
chosen-less : (m n : ℕ) (x y : DivOut) → m < n → (if nat_lt m n then x else y) ≡ x
chosen-less m n x y less = grind (arith, nat_tests)

chosen-more : (m n : ℕ) (x y : DivOut) → n ≤ m → (if nat_lt m n then x else y) ≡ y
chosen-more m n x y more = grind (arith, nat_tests)

chosen-some : (n : ℕ) (x y : DivOut) → 0 < n → (if n == 0 then x else y) ≡ y
chosen-some n x y some = grind (arith, nat_tests)

-- the quotient and the rest of which a dividend is made
divided-parts : (kind : DivKind) (n d : ℤ) (p : Partial) → p.rest < unsigned_abs d → p.low * unsigned_abs d + p.rest ≡ unsigned_abs n → settled kind (signed_of (differ (is_negative n) (is_negative d)) p.low) (signed_of (is_negative n) p.rest) ≡ divided kind n d
divided-parts kind n d p below whole =
    let size = unsigned_abs d in
    let quotient : unsigned_abs n / size ≡ p.low = ap (λ i. i / size) (sym whole) ∙ div-mul-add p.low size p.rest below in
    let rest : unsigned_abs n % size ≡ p.rest = ap (λ i. i % size) (sym whole) ∙ mod-mul-add p.low size p.rest below in
    sym (chosen-some size NoQuotient (settled kind (int_div n d) (int_rem n d)) (omega arith)
    ∙ ap (λ z. settled kind z (int_rem n d)) (signed-quotient n d ∙ ap (signed_of (differ (is_negative n) (is_negative d))) quotient)
    ∙ ap (settled kind (signed_of (differ (is_negative n) (is_negative d)) p.low)) (signed-rest n d ∙ ap (signed_of (is_negative n)) rest))

-- there is no quotient where the dividend is too large
divided-far : (kind : DivKind) (n d : ℤ) → unsigned_abs d * 2 ^ 64 ≤ unsigned_abs n → (unsigned_abs d ≡ 0) ⊎ (0 < unsigned_abs d) → divided kind n d ≡ NoQuotient
divided-far kind n d far (inl none) =
    ap (λ i. if i == 0 then NoQuotient else settled kind (int_div n d) (int_rem n d)) none
divided-far kind n d far (inr some) =
    let size = unsigned_abs d in
    let sign = differ (is_negative n) (is_negative d) in
    let large : 2 ^ 64 ≤ unsigned_abs n / size = le-div (2 ^ 64) (unsigned_abs n) size some (omega (arith, far)) in
    let out : fits kind (int_div n d) ≡ false = ap (fits kind) (signed-quotient n d) ∙ fits-far kind sign (unsigned_abs n / size) large in
    chosen-some size NoQuotient (settled kind (int_div n d) (int_rem n d)) some ∙ ap (λ b. if b then Done (bits_of kind (int_div n d)) (bits_of kind (int_rem n d)) else NoQuotient) out

-- where the rest is below the divisor, the outcome is the quotient
outcome-below : (d : Inside) → d.ticks ≡ 64 → IsDivided d → d.so_far.rest < d.divisor_size → outcome_of d.kind d.dividend d.divisor d.so_far ≡ quotient_of (division_of d)
outcome-below d last known below =
    let n = dividend_of d.kind d.dividend in
    let e = divisor_of d.kind d.divisor in
    let within : d.so_far.rest < unsigned_abs e = omega (arith, below, known.divisor_is) in
    let whole : d.so_far.low * unsigned_abs e + d.so_far.rest ≡ unsigned_abs n = ap (λ i. d.so_far.low * i + d.so_far.rest) (sym known.divisor_is) ∙ (quotient-whole d last known below).1 in
    chosen-less d.so_far.rest (unsigned_abs e) (settled d.kind (signed_of (differ (is_negative n) (is_negative e)) d.so_far.low) (signed_of (is_negative n) d.so_far.rest)) NoQuotient within ∙ divided-parts d.kind n e d.so_far within whole

-- where the rest isn't below the divisor, the outcome is that there is no quotient
outcome-above : (d : Inside) → IsDivided d → d.divisor_size ≤ d.so_far.rest → (size_of d < d.divisor_size * 2 ^ 64) ⊎ (d.divisor_size * 2 ^ 64 ≤ size_of d) → outcome_of d.kind d.dividend d.divisor d.so_far ≡ quotient_of (division_of d)
outcome-above d known above (inl near) = absurd (omega (arith, above, known.small near))
outcome-above d known above (inr far) =
    let n = dividend_of d.kind d.dividend in
    let e = divisor_of d.kind d.divisor in
    chosen-more d.so_far.rest (unsigned_abs e) (settled d.kind (signed_of (differ (is_negative n) (is_negative e)) d.so_far.low) (signed_of (is_negative n) d.so_far.rest)) NoQuotient (omega (arith, above, known.divisor_is)) ∙ sym (divided-far d.kind n e (omega (arith, far, known.divisor_is)) (eq-zero-or-pos (unsigned_abs e)))

-- the outcome is the quotient, or that there is none, wherever the rest is
outcome-is : (d : Inside) → d.ticks ≡ 64 → IsDivided d → (d.so_far.rest < d.divisor_size) ⊎ (d.divisor_size ≤ d.so_far.rest) → outcome_of d.kind d.dividend d.divisor d.so_far ≡ quotient_of (division_of d)
outcome-is d last known (inl below) = outcome-below d last known below
outcome-is d last known (inr above) = outcome-above d known above (cases_lt (size_of d) (d.divisor_size * 2 ^ 64))

-- the outcome is what the 65th tick answers
pub answered-last : (d : Inside) → d.ticks ≡ 64 → IsDivided d → Some (outcome_of d.kind d.dividend d.divisor d.so_far) ≡ quotient_at (division_of d)
answered-last d last known =
    ap (λ (out : DivOut). Some out) (outcome-is d last known (cases_lt d.so_far.rest d.divisor_size)) ∙ sym (ap (λ i. if i == 64 then Some (quotient_of (division_of d)) else None) last)
