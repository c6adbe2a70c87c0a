-- What holds of registers by name: one that is set has its new content and every other its old one, and two sets that
-- share no bit share no register.
use Rattle.std.proofs.Common.{◌≡◌, ℕ, ◌+◌, ◌-◌, ◌*◌, ◌/◌, ◌%◌, ◌^◌, ◌<◌, ◌≤◌, ◌≢◌, ⊎_elim, min, max, length, List, [], ◌∷◌, refl, sym, ap, ◌∙◌, bit_and, bit_or, arith, get_or-set_same, get_or-set_other, pow_pos, mod-lt}
use Rattle.std.proofs.Math.Nat.{div-lt_iff_lt-mul, mul-add-div_right, mul-add-mod_self_right, div-div-eq-div-mul, div-eq_of_lt}
use Rattle.std.proofs.lemmas.Bool.{cases_order}
use Rattle.std.proofs.lemmas.Nat.{pow-add, div-add-mod', mul-add-lt}
use Rattle.std.proofs.lemmas.Nat.Bits.{bit_at_and, bit_at_or, bit_at-pow_same, bit_at-zero}
use Rattle.std.specs.Int.{bit_at}
use Rattle.mw_isa.specs.declared.regs.Regs.{Regs}
use Rattle.mw_isa.specs.declared.slot.Slot.{Slot}
use Rattle.mw_isa.specs.declared.slot.Slot.TheVariants.{Gpr, CrField, Xer, Lr, Ctr, Tar}
use Rattle.mw_isa.specs.Slots.{field_unit, with_digit, get_slot, set_slot, IsSlot, FitsSlot, slot_number, bits_of, IsAbsent, AreApart}

-- a number that is below r * 16 units keeps below that bound with another digit at the unit
digit-lt : (x u r digit : ℕ) → 0 < u → x < r * (u * 16) → digit < 16 → with_digit x u digit < u * (r * 16)
digit-lt x u r digit some below fits =
    let wide : 0 < u * 16 = omega arith in
    let high : x / (u * 16) < r = (div-lt_iff_lt-mul wide).1 below in
    let top : x / (u * 16) * 16 + digit < r * 16 = omega arith in
    mul-add-lt (x / (u * 16) * 16 + digit) u (x % u) (r * 16) top (mod-lt x some)

-- the unit of a field, the field and what lies above it fill 32 bits
units-fill : (k : ℕ) → k ≤ 28 → 2 ^ (28 - k) * (2 ^ k * 16) ≡ 2 ^ 32
units-fill k within =
    let e : 28 - k + k ≡ 28 = omega arith in
    let whole : 2 ^ (28 - k) * 2 ^ k ≡ 2 ^ 28 = sym (pow-add 2 (28 - k) k) ∙ ap (λ i. 2 ^ i) e in
    omega arith

-- the condition register with another field keeps to 32 bits
pub digit-fits : (x n digit : ℕ) → x < 2 ^ 32 → digit < 16 → with_digit x (field_unit n) digit < 2 ^ 32
digit-fits x n digit below fits =
    let within : 28 - 4 * n ≤ 28 = omega arith in
    let fill : 2 ^ (28 - (28 - 4 * n)) * (2 ^ (28 - 4 * n) * 16) ≡ 2 ^ 32 = units-fill (28 - 4 * n) within in
    let room : x < 2 ^ (28 - (28 - 4 * n)) * (2 ^ (28 - 4 * n) * 16) = omega arith in
    omega (arith, digit-lt x (2 ^ (28 - 4 * n)) (2 ^ (28 - (28 - 4 * n))) digit (pow_pos (28 - 4 * n)) room fits)

-- a digit that is set is the one that stands there
digit-same : (x u digit : ℕ) → 0 < u → digit < 16 → with_digit x u digit / u % 16 ≡ digit
digit-same x u digit some fits =
    ap (λ n. n % 16) (mul-add-div_right some (x / (u * 16) * 16 + digit) (x % u))
    ∙ omega (arith, mod-lt x some, div-eq_of_lt (mod-lt x some))

-- what lies above a digit doesn't show in it
above-hidden : (high low u s : ℕ) → 0 < u → (high * (u * (16 * s)) + low) / u % 16 ≡ low / u % 16
above-hidden high low u s some =
    let e : high * (u * (16 * s)) + low ≡ high * s * 16 * u + low = omega arith in
    ap (λ n. n / u % 16) e
    ∙ ap (λ n. n % 16) (mul-add-div_right some (high * s * 16) low)
    ∙ mul-add-mod_self_right (high * s) 16 (low / u)

-- a digit set above another leaves the other
digit-above : (x u v s digit : ℕ) → 0 < u → v ≡ u * (16 * s) → with_digit x v digit / u % 16 ≡ x / u % 16
digit-above x u v s digit some e =
    let high = x / (v * 16) * 16 + digit in
    ap (λ n. (high * n + x % v) / u % 16) e
    ∙ above-hidden high (x % v) u s some
    ∙ sym (above-hidden (x / v) (x % v) u s some)
    ∙ ap (λ n. (x / v * n + x % v) / u % 16) (sym e)
    ∙ ap (λ n. n / u % 16) (div-add-mod' x v)

-- a digit set below another leaves the other
digit-below : (x u v s digit : ℕ) → 0 < v → u ≡ v * (16 * s) → digit < 16 → with_digit x v digit / u ≡ x / u
digit-below x u v s digit some e fits =
    let high = x / (v * 16) * 16 + digit in
    let low : x % v / v ≡ 0 = div-eq_of_lt (mod-lt x some) in
    let part : (high * v + x % v) / v ≡ high = mul-add-div_right some high (x % v) ∙ omega arith in
    let rest : high / 16 ≡ x / (v * 16) = omega arith in
    let whole : v * 16 * s ≡ v * (16 * s) = omega arith in
    ap (λ n. with_digit x v digit / n) e
    ∙ sym (div-div-eq-div-mul (with_digit x v digit) v (16 * s))
    ∙ ap (λ n. n / (16 * s)) part
    ∙ sym (div-div-eq-div-mul high 16 s)
    ∙ ap (λ n. n / s) rest
    ∙ div-div-eq-div-mul x (v * 16) s
    ∙ ap (λ n. x / n) (whole ∙ sym e)

-- of two fields' units the one further left is a multiple of 16 times the other
units-apart : (n m : ℕ) → n < m → m < 8 → field_unit n ≡ field_unit m * (16 * 2 ^ (4 * (m - n - 1)))
units-apart n m before within =
    let e : 28 - 4 * n ≡ 28 - 4 * m + (4 + 4 * (m - n - 1)) = omega arith in
    ap (λ i. 2 ^ i) e
    ∙ pow-add 2 (28 - 4 * m) (4 + 4 * (m - n - 1))
    ∙ ap (λ i. 2 ^ (28 - 4 * m) * i) (pow-add 2 4 (4 * (m - n - 1)))

-- a field that is set leaves every other
field-other : (x n m digit : ℕ) → n < 8 → m < 8 → m ≢ n → digit < 16 → with_digit x (field_unit n) digit / field_unit m % 16 ≡ x / field_unit m % 16
field-other x n m digit first second other fits = ⊎_elim
    (λ e. absurd (other (sym e)))
    (⊎_elim
    (λ before. digit-above x (field_unit m) (field_unit n) (2 ^ (4 * (m - n - 1))) digit (pow_pos (28 - 4 * m)) (units-apart n m before second))
    (λ behind. ap (λ i. i % 16) (digit-below x (field_unit m) (field_unit n) (2 ^ (4 * (n - m - 1))) digit (pow_pos (28 - 4 * n)) (units-apart m n behind first) fits)))
    (cases_order n m)

-- a register that is set has its new content
pub get-set-same : (regs : Regs) (slot : Slot) (value : ℕ) → length regs.gpr ≡ 32 → IsSlot slot → FitsSlot slot value → get_slot (set_slot regs slot value) slot ≡ value
get-set-same regs (Gpr n) value all within fits = get_or-set_same regs.gpr n value 0 (omega arith)
get-set-same regs (CrField n) value all within fits =
    digit-same regs.cr (field_unit n) (value % 16) (pow_pos (28 - 4 * n)) (omega arith) ∙ omega arith
get-set-same regs Xer value all within fits = refl
get-set-same regs Lr value all within fits = refl
get-set-same regs Ctr value all within fits = refl
get-set-same regs Tar value all within fits = refl

-- a register that is set leaves every other register
pub get-set-other : (regs : Regs) (slot other : Slot) (value : ℕ) → IsSlot slot → IsSlot other → other ≢ slot → get_slot (set_slot regs slot value) other ≡ get_slot regs other
get-set-other regs (Gpr n) (Gpr m) value first second different =
    get_or-set_other regs.gpr n m value 0 (λ e. different (ap Gpr e))
get-set-other regs (CrField n) (CrField m) value first second different =
    field-other regs.cr n m (value % 16) first second (λ e. different (ap CrField e)) (omega arith)
get-set-other regs Xer Xer value first second different = absurd (different refl)
get-set-other regs Lr Lr value first second different = absurd (different refl)
get-set-other regs Ctr Ctr value first second different = absurd (different refl)
get-set-other regs Tar Tar value first second different = absurd (different refl)
get-set-other regs slot other value first second different = refl

-- a place where a power of two has a 0 isn't that of its 1
clear-apart : (k i : ℕ) → bit_at (2 ^ k) i ≡ 0 → i ≢ k
clear-apart k i clear same =
    let own : bit_at (2 ^ k) i ≡ 1 = ap (bit_at (2 ^ k)) same ∙ bit_at-pow_same k in
    omega arith

-- a bit that is 0 in the bitwise or of two numbers is 0 in both
or-clear : (a b i : ℕ) → bit_at (bit_or a b) i ≡ 0 → (bit_at a i ≡ 0) × (bit_at b i ≡ 0)
or-clear a b i clear =
    let both : max (bit_at a i) (bit_at b i) ≡ 0 = sym (bit_at_or a b i) ∙ clear in
    (omega arith, omega arith)

-- a register whose bit a list's bits lack isn't in the list
absent : (slot : Slot) (others : List Slot) → bit_at (bits_of others) (slot_number slot) ≡ 0 → IsAbsent slot others
absent slot [] clear = tt
absent slot (other ∷ others) clear =
    let parts = or-clear (2 ^ slot_number other) (bits_of others) (slot_number slot) clear in
    (λ same. clear-apart (slot_number other) (slot_number slot) parts.0 (ap slot_number same), absent slot others parts.1)

-- a number that shares no bit with one that has the bit k lacks the bit k
and-first : (k a b : ℕ) → min (bit_at (bit_or (2 ^ k) a) k) (bit_at b k) ≡ 0 → bit_at b k ≡ 0
and-first k a b clear = omega (arith, bit_at_or (2 ^ k) a k, bit_at-pow_same k)

-- a number that shares no bit with two numbers together shares none with the second
and-rest : (a b c i : ℕ) → min (bit_at (bit_or a b) i) (bit_at c i) ≡ 0 → min (bit_at b i) (bit_at c i) ≡ 0
and-rest a b c i clear = omega (arith, bit_at_or a b i)

-- two lists whose bits are never both 1 at a place share no register
apart-bits : (slots others : List Slot) → ((i : ℕ) → min (bit_at (bits_of slots) i) (bit_at (bits_of others) i) ≡ 0) → AreApart slots others
apart-bits [] others clear = tt
apart-bits (slot ∷ slots) others clear = (
  absent slot others (and-first (slot_number slot) (bits_of slots) (bits_of others) (clear (slot_number slot))),
  apart-bits slots others (λ i. and-rest (2 ^ slot_number slot) (bits_of slots) (bits_of others) i (clear i)),
)

-- two sets that share no bit share no register
pub apart : (slots others : List Slot) → bit_and (bits_of slots) (bits_of others) ≡ 0 → AreApart slots others
apart slots others clear =
    apart-bits slots others (λ i. sym (bit_at_and (bits_of slots) (bits_of others) i) ∙ ap (λ n. bit_at n i) clear ∙ bit_at-zero i)
