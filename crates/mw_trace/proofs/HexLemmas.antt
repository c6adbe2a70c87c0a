-- Bytes as the crate hex writes them.
use Rattle.std.proofs.Common.{◌≡◌, ℕ, zero, suc, ◌/◌, ◌%◌, ◌<◌, eqb, Bool, true, ◌&&◌, inl, inr, List, [], ◌∷◌, slice_index, get_or, refl, sym, ap, ◌∙◌, arith}
use Rattle.std.proofs.lemmas.Bool.{and_parts, cases_lt, eqb-true}
use Rattle.std.proofs.Math.Nat.{div-one}
use Rattle.hex.specs.Hex.{lower_digits, encode_lower, encode_with}
use Rattle.mw_digits.specs.Digits.{hex, hex_digit}
use Rattle.mw_isa.specs.Text.{hex_bytes}

-- the digits below a bound are those of the crate hex
same_digits : ℕ → Bool
same_digits zero = true
same_digits (suc n) = eqb (slice_index lower_digits n) (hex_digit n) && same_digits n

-- a digit below the bound is that of the crate hex
same_digit : (n d : ℕ) → same_digits n ≡ true → d < n → slice_index lower_digits d ≡ hex_digit d
unfolding same_digits
same_digit zero d h lt = absurd (omega arith)
same_digit (suc n) d h lt =
    let parts = and_parts (eqb (slice_index lower_digits n) (hex_digit n)) (same_digits n) h in
    elim (cases_lt d n) [
      | inl below ↦ same_digit n d parts.1 below
      | inr top ↦
          let e : d ≡ n = omega arith in
          rw e (eqb-true _ _ parts.0)
    ]

-- each of the sixteen digits is that of the crate hex
digit-lower : (d : ℕ) → d < 16 → slice_index lower_digits d ≡ hex_digit d
unfolding same_digits
digit-lower d small = same_digit 16 d refl small

-- the two digits of a byte
hex-byte : (b : ℕ) → hex 2 b ≡ hex_digit (b / 16 % 16) ∷ hex_digit (b / 1 % 16) ∷ []
unfolding hex
hex-byte b = refl

-- bytes as the crate hex writes them
pub encode-hex : (bytes : List ℕ) → ((k : ℕ) → get_or bytes k 0 < 256) → encode_lower bytes ≡ hex_bytes bytes
unfolding encode_with hex_bytes
encode-hex [] small = refl
encode-hex (b ∷ rest) small =
    let byte : b < 256 = small 0 in
    let high : slice_index lower_digits (b / 16) ≡ hex_digit (b / 16 % 16) = digit-lower (b / 16) (omega arith) ∙ ap hex_digit (let e : b / 16 ≡ b / 16 % 16 = omega arith in e) in
    let low : slice_index lower_digits (b % 16) ≡ hex_digit (b / 1 % 16) = digit-lower (b % 16) (omega arith) ∙ ap (λ n. hex_digit (n % 16)) (sym (div-one b)) in
    rw (hex-byte b, high, low) (ap (λ xs. hex_digit (b / 16 % 16) ∷ hex_digit (b / 1 % 16) ∷ xs) (encode-hex rest (λ k. small (suc k))))
