-- Operands as the code computes them.
use Rattle.std.proofs.Common.{◌≡◌, ℕ, suc, ◌+◌, ◌-◌, ◌*◌, ◌/◌, ◌%◌, ◌^◌, ◌<◌, ◌≤◌, true, bit_and, bit_or, ap, ◌∙◌, arith, pow_pos}
use Rattle.std.specs.Int.Bits.{or_shifted_r}
use Rattle.std.proofs.lemmas.Nat.{and_mask, shl_below, shl_whole, mod_below, pow-add, mul-le}
use Rattle.std.proofs.lemmas.Bool.{ltb-true}
use Rattle.std.proofs.Math.Pow.{pow_mono}
use Rattle.mw_tables.specs.declared.layout.Piece.{Piece}
use Rattle.mw_tables.specs.declared.layout.Field.{Field}
use Rattle.mw_tables.specs.Layouts.{slot, gathered, pieces_of, width_of, is_within, is_readable}
use Rattle.mw_tables.proofs.FieldLaws.{is_readable-narrow}

-- a piece's bits stand within 63
pub is_within-lt : (p : Piece) → is_within p ≡ true → p.low + p.width < 64
is_within-lt p test = ltb-true _ _ test

-- bits that are masked and moved keep their number
pub moved-whole : (n : ℕ) (p : Piece) → is_within p ≡ true → bit_and n (2 ^ p.width - 1) * 2 ^ p.low % 2 ^ 64 ≡ n % 2 ^ p.width * 2 ^ p.low
moved-whole n p test =
    let within = is_within-lt p test in
    ap (λ k. k * 2 ^ p.low % 2 ^ 64) (and_mask n p.width)
    ∙ shl_whole (n % 2 ^ p.width) p.width p.low 64 (mod_below n (2 ^ p.width) (pow_pos p.width)) (omega arith)

joined_two : (low high a b : ℕ) → low < 2 ^ a → high < 2 ^ b → a + b ≤ 64 → bit_or low (high * 2 ^ a % 2 ^ 64) ≡ low + 2 ^ a * high
joined_two low high a b p q fits =
    ap (bit_or low) (shl_whole high b a 64 q (omega arith)) ∙ or_shifted_r high a low p ∙ omega arith

joined_lt : (low high a b : ℕ) → low < 2 ^ a → high < 2 ^ b → low + 2 ^ a * high < 2 ^ (a + b)
joined_lt low high a b p q =
    let parts : 2 ^ (a + b) ≡ 2 ^ a * 2 ^ b = pow-add 2 a b in
    let less : 2 ^ a * suc high ≤ 2 ^ a * 2 ^ b = mul-le (2 ^ a) (suc high) (2 ^ a) (2 ^ b) (omega arith) (omega arith) in
    let next : 2 ^ a * suc high ≡ 2 ^ a + 2 ^ a * high = omega arith in
    omega (arith, parts, less, next)

-- three numbers joined by shifts
pub joined-three : (low middle high a b c : ℕ) → low < 2 ^ a → middle < 2 ^ b → high < 2 ^ c → a + (b + c) ≤ 64 → bit_or low (bit_or middle (high * 2 ^ b % 2 ^ 64) * 2 ^ a % 2 ^ 64) ≡ low + 2 ^ a * (middle + 2 ^ b * (high + 2 ^ c * 0))
joined-three low middle high a b c p q r fits =
    let inner : bit_or middle (high * 2 ^ b % 2 ^ 64) ≡ middle + 2 ^ b * high = joined_two middle high b c q r (omega arith) in
    let last : high ≡ high + 2 ^ c * 0 = omega arith in
    ap (λ n. bit_or low (n * 2 ^ a % 2 ^ 64)) inner
    ∙ joined_two low (middle + 2 ^ b * high) a (b + c) p (joined_lt middle high b c q r) fits
    ∙ ap (λ n. low + 2 ^ a * (middle + 2 ^ b * n)) last

-- the number in a piece has the piece's bits
pub slot-lt : (code : ℕ) (p : Piece) → slot code p < 2 ^ p.width
slot-lt code p = mod_below (code / 2 ^ p.low) (2 ^ p.width) (pow_pos p.width)

-- what the code joins is the number in the field's pieces
pub gathered-code : (code : ℕ) (f : Field) (low middle high : ℕ) → is_readable f ≡ true → low ≡ slot code f.low → middle ≡ slot code f.middle → high ≡ slot code f.high → bit_or low (bit_or middle (high * 2 ^ f.middle.width % 2 ^ 64) * 2 ^ f.low.width % 2 ^ 64) ≡ gathered code (pieces_of f)
gathered-code code f low middle high test p q r =
    let narrow = is_readable-narrow f test in
    ap (λ n. bit_or n (bit_or middle (high * 2 ^ f.middle.width % 2 ^ 64) * 2 ^ f.low.width % 2 ^ 64)) p
    ∙ ap (λ n. bit_or (slot code f.low) (bit_or n (high * 2 ^ f.middle.width % 2 ^ 64) * 2 ^ f.low.width % 2 ^ 64)) q
    ∙ ap (λ n. bit_or (slot code f.low) (bit_or (slot code f.middle) (n * 2 ^ f.middle.width % 2 ^ 64) * 2 ^ f.low.width % 2 ^ 64)) r
    ∙ joined-three (slot code f.low) (slot code f.middle) (slot code f.high) f.low.width f.middle.width f.high.width (slot-lt code f.low) (slot-lt code f.middle) (slot-lt code f.high) (omega arith)

-- the bits of a field, shifted, are below the power of their number and the shift
pub shifted-below : (f : Field) (n : ℕ) → n < 2 ^ width_of f → n * 2 ^ f.shift < 2 ^ (width_of f + f.shift)
shifted-below f n below = shl_below n (width_of f) f.shift below

-- the bits of a readable field, shifted, are at most 62
pub shifted-narrow : (f : Field) (n : ℕ) → is_readable f ≡ true → n < 2 ^ width_of f → n * 2 ^ f.shift < 2 ^ 62
shifted-narrow f n test below =
    let narrow = is_readable-narrow f test in
    let most : 2 ^ (width_of f + f.shift) ≤ 2 ^ 62 = pow_mono {i = width_of f + f.shift} {j = 62} (omega arith) in
    let here = shifted-below f n below in
    omega (arith, most, here)

-- the shift of a readable field loses no bits
pub shifted-whole : (f : Field) (n : ℕ) → is_readable f ≡ true → n < 2 ^ width_of f → n * 2 ^ f.shift % 2 ^ 64 ≡ n * 2 ^ f.shift
shifted-whole f n test below = let small = shifted-narrow f n test below in omega arith
