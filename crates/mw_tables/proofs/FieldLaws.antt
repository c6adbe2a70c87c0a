-- Operands in fields: what is written is read, of the definitions alone.
use Rattle.std.proofs.Common.{◌≡◌, ℕ, zero, suc, ◌+◌, ◌-◌, ◌*◌, ◌/◌, ◌%◌, ◌^◌, ◌<◌, ◌≤◌, true, false, List, [], ◌∷◌, ◌++◌, length, take, drop, ℤ, pos, negsuc, ◌-ℤ◌, bit_and, bit_or, refl, sym, ap, subst, ◌∙◌, arith, mod-eq_of_lt, pow_pos, inl, inr, w64}
use Rattle.std.specs.Int.{cast_unsigned}
use Rattle.std.specs.Int.Bits.{and_zero_l, and_self, or_zero_l, or_zero_r}
use Rattle.std.specs.List.{list_all}
use Rattle.std.proofs.lemmas.Nat.{shl-shr, shl_below, mod_below, mod_low, pow-add}
use Rattle.std.proofs.lemmas.Int.{ints}
use Rattle.std.proofs.lemmas.Bool.{and_parts, ltb-true, cases_Bool, cases_lt, lt-ltb, le-ltb, cond-true, cond-false}
use Rattle.std.proofs.lemmas.List.{map-append}
use Rattle.std.proofs.Math.Nat.{mul_assoc}
use Rattle.std.proofs.Math.Pow.{pow_mono}
use Rattle.mw_tables.specs.declared.layout.Piece.{Piece}
use Rattle.mw_tables.specs.declared.layout.Field.{Field}
use Rattle.mw_tables.specs.Layouts.{pieces_of, width_of, gathered, scattered, signed_of, operand_from, bits_from, operand_in, operands_in, code_with, code_with_all, is_readable, InRange, HasOperands}
use Rattle.mw_tables.specs.Sound.{with_pieces, with_fields, pieces_apart, fields_apart}
use Rattle.mw_tables.proofs.PieceLaws.{Within, or_assoc, or-clear, or-within, within-trans, clear-part, within-with_pieces, scattered-clear, scattered-within, gathered-apart, gathered-clear, gathered-or, gathered-lt, gathered-scattered, scattered-gathered, total}

-- a readable field and what is shifted in have at most 62 bits
pub is_readable-narrow : (f : Field) → is_readable f ≡ true → width_of f + f.shift < 63
is_readable-narrow f test = ltb-true _ _ (and_parts _ _ test).1

-- the operand of an unsigned field
pub operand_from-unsigned : (f : Field) (n : ℕ) → f.signed ≡ false → operand_from f n ≡ pos (n * 2 ^ f.shift)
operand_from-unsigned f n unsigned = rw unsigned

-- the operand of a signed field
pub operand_from-signed : (f : Field) (n : ℕ) → f.signed ≡ true → operand_from f n ≡ signed_of (width_of f + f.shift) (n * 2 ^ f.shift)
operand_from-signed f n signed = rw signed

-- a signed number in the low half
pub signed_of-low : (width n : ℕ) → n < 2 ^ (width - 1) → signed_of width n ≡ pos n
signed_of-low width n low = cond-true _ _ _ (lt-ltb n (2 ^ (width - 1)) low)

-- a signed number in the high half
pub signed_of-high : (width n : ℕ) → 2 ^ (width - 1) ≤ n → signed_of width n ≡ pos n -ℤ pos (2 ^ width)
signed_of-high width n high = cond-false _ _ _ (le-ltb n (2 ^ (width - 1)) high)

below_zero : (n whole : ℕ) → n < whole → pos n -ℤ pos whole ≡ negsuc (whole - suc n)
below_zero n whole below = omega (arith, ints)

-- a negative number in 64 bits
pub cast_unsigned-negative : (n whole : ℕ) → n < whole → whole ≤ 2 ^ 64 → cast_unsigned w64 (pos n -ℤ pos whole) ≡ 2 ^ 64 - whole + n
cast_unsigned-negative n whole below fits = ap (cast_unsigned w64) (below_zero n whole below) ∙ omega arith

-- the bits of a number that is shifted
bits_of_low : (n width shift : ℕ) → n < 2 ^ width → n * 2 ^ shift / 2 ^ shift % 2 ^ width ≡ n
bits_of_low n width shift below = ap (λ k. k % 2 ^ width) (shl-shr n shift) ∙ mod-eq_of_lt below

less_once : (a p m : ℕ) → suc a * p - p + m ≡ a * p + m
less_once a p m = omega arith

summed : (q n c : ℕ) → q * c + n * c ≡ (q + n) * c
summed q n c = omega arith

regrouped : (a b c n : ℕ) → 0 < a → a * (b * c) - b * c + n * c ≡ ((a - 1) * b + n) * c
regrouped zero b c n some = absurd (omega arith)
regrouped (suc a) b c n some =
    less_once a (b * c) (n * c) ∙ ap (λ k. k + n * c) (sym (mul_assoc a b c)) ∙ summed (a * b) n c ∙ ap (λ k. (k * b + n) * c) (omega arith)

-- the bits of a negative number
bits_of_high : (n width shift : ℕ) → n < 2 ^ width → width + shift < 63 → (2 ^ 64 - 2 ^ (width + shift) + n * 2 ^ shift) / 2 ^ shift % 2 ^ width ≡ n
bits_of_high n width shift below narrow =
    let k = 64 - (width + shift) in
    let parts : 2 ^ (width + shift) ≡ 2 ^ width * 2 ^ shift = pow-add 2 width shift in
    let up : 64 ≡ k + (width + shift) = omega arith in
    let whole : 2 ^ 64 ≡ 2 ^ k * (2 ^ width * 2 ^ shift) =
    ap (λ (i : ℕ). 2 ^ i) up ∙ pow-add 2 k (width + shift) ∙ ap (λ (i : ℕ). 2 ^ k * i) parts in
    let same : 2 ^ 64 - 2 ^ (width + shift) + n * 2 ^ shift ≡ ((2 ^ k - 1) * 2 ^ width + n) * 2 ^ shift =
    ap (λ (i : ℕ). i - 2 ^ (width + shift) + n * 2 ^ shift) whole
    ∙ ap (λ (i : ℕ). 2 ^ k * (2 ^ width * 2 ^ shift) - i + n * 2 ^ shift) parts
    ∙ regrouped (2 ^ k) (2 ^ width) (2 ^ shift) n (pow_pos k) in
    ap (λ (i : ℕ). i / 2 ^ shift % 2 ^ width) same
    ∙ ap (λ (i : ℕ). i % 2 ^ width) (shl-shr ((2 ^ k - 1) * 2 ^ width + n) shift)
    ∙ mod_low (2 ^ k - 1) width n below

signed_bits : (n width shift : ℕ) → n < 2 ^ width → width + shift < 63 → cast_unsigned w64 (signed_of (width + shift) (n * 2 ^ shift)) / 2 ^ shift % 2 ^ width ≡ n
signed_bits n width shift below narrow = elim (cases_lt (n * 2 ^ shift) (2 ^ (width + shift - 1))) [
  | inl low ↦
      ap (λ z. cast_unsigned w64 z / 2 ^ shift % 2 ^ width) (signed_of-low (width + shift) (n * 2 ^ shift) low) ∙ bits_of_low n width shift below
  | inr high ↦
      ap (λ z. cast_unsigned w64 z / 2 ^ shift % 2 ^ width) (signed_of-high (width + shift) (n * 2 ^ shift) high)
      ∙ ap (λ i. i / 2 ^ shift % 2 ^ width) (cast_unsigned-negative (n * 2 ^ shift) (2 ^ (width + shift)) (shl_below n width shift below) (pow_mono {i = width + shift} {j = 64} (omega arith)))
      ∙ bits_of_high n width shift below narrow
]

-- the bits that stand for the operand of bits are these bits
pub bits_from-operand_from : (f : Field) (n : ℕ) → is_readable f ≡ true → n < 2 ^ width_of f → bits_from f (operand_from f n) ≡ n
bits_from-operand_from f n test below = elim (cases_Bool f.signed) [
  | inl signed ↦
      ap (λ z. cast_unsigned w64 z / 2 ^ f.shift % 2 ^ width_of f) (operand_from-signed f n signed)
      ∙ signed_bits n (width_of f) f.shift below (is_readable-narrow f test)
  | inr unsigned ↦
      ap (λ z. cast_unsigned w64 z / 2 ^ f.shift % 2 ^ width_of f) (operand_from-unsigned f n unsigned)
      ∙ bits_of_low n (width_of f) f.shift below
]

-- the bits of an operand have room in the field
pub bits_from-lt : (f : Field) (z : ℤ) → bits_from f z < 2 ^ width_of f
bits_from-lt f z = mod_below _ _ (pow_pos (width_of f))

-- an operand in range is the one that its bits stand for
pub InRange-bits : (f : Field) (z : ℤ) → is_readable f ≡ true → InRange f z → operand_from f (bits_from f z) ≡ z
InRange-bits f z test within =
    ap (λ x. operand_from f (bits_from f x)) within.2
    ∙ ap (operand_from f) (bits_from-operand_from f within.0 test within.1)
    ∙ sym within.2

-- an operand that its bits stand for is in range
pub bits-InRange : (f : Field) (z : ℤ) → operand_from f (bits_from f z) ≡ z → InRange f z
bits-InRange f z same = (bits_from f z, bits_from-lt f z, sym same)

total_width : (f : Field) → total (pieces_of f) ≡ width_of f
total_width f = omega arith

-- the number in the pieces of a field has the field's bits
pub gathered-width : (code : ℕ) (f : Field) → gathered code (pieces_of f) < 2 ^ width_of f
gathered-width code f = subst (λ k. gathered code (pieces_of f) < 2 ^ k) (total_width f) (gathered-lt code (pieces_of f))

-- what is read is in range
pub operand_in-InRange : (code : ℕ) (f : Field) → InRange f (operand_in code f)
operand_in-InRange code f = (gathered code (pieces_of f), gathered-width code f, refl)

-- the bits of a field that is written
pub gathered-code_with : (f : Field) (z : ℤ) (used : ℕ) → pieces_apart used (pieces_of f) ≡ true → gathered (code_with f z) (pieces_of f) ≡ bits_from f z
gathered-code_with f z used apart =
    gathered-scattered (bits_from f z) used (pieces_of f) apart
    ∙ ap (λ k. bits_from f z % 2 ^ k) (total_width f)
    ∙ mod-eq_of_lt (bits_from-lt f z)

-- bits that are used stay used
pub within-with_fields : (used : ℕ) (fs : List Field) → Within used (with_fields used fs)
within-with_fields used [] = and_self used
within-with_fields used (f ∷ fs) =
    let more = with_pieces used (pieces_of f) in
    within-trans used more (with_fields more fs) (within-with_pieces used (pieces_of f)) (within-with_fields more fs)

-- what is written to fields has none of the bits that were used before
pub code_with_all-clear : (used : ℕ) (fs : List Field) (zs : List ℤ) → fields_apart used fs ≡ true → bit_and (code_with_all fs zs) used ≡ 0
code_with_all-clear used [] zs apart = and_zero_l used
code_with_all-clear used (f ∷ fs) [] apart = and_zero_l used
code_with_all-clear used (f ∷ fs) (z ∷ zs) apart =
    let more = with_pieces used (pieces_of f) in
    let parts = and_parts (pieces_apart used (pieces_of f)) (fields_apart more fs) apart in
    or-clear (code_with f z) (code_with_all fs zs) used
    (scattered-clear (bits_from f z) used (pieces_of f) parts.0)
    (clear-part (code_with_all fs zs) more used (code_with_all-clear more fs zs parts.1) (within-with_pieces used (pieces_of f)))

-- what is written to fields has no bits elsewhere
pub code_with_all-within : (used : ℕ) (fs : List Field) (zs : List ℤ) → Within (code_with_all fs zs) (with_fields used fs)
code_with_all-within used [] zs = and_zero_l used
code_with_all-within used (f ∷ fs) [] = and_zero_l (with_fields used (f ∷ fs))
code_with_all-within used (f ∷ fs) (z ∷ zs) =
    let more = with_pieces used (pieces_of f) in
    or-within (code_with f z) (code_with_all fs zs) (with_fields more fs)
    (within-trans (code_with f z) more (with_fields more fs) (scattered-within (bits_from f z) used (pieces_of f)) (within-with_fields more fs))
    (code_with_all-within more fs zs)

-- a field among what stands before it and what stands behind it
gathered_among : (a c r used : ℕ) (ps : List Piece) → pieces_apart used ps ≡ true → Within a used → bit_and r (with_pieces used ps) ≡ 0 → gathered (bit_or a (bit_or c r)) ps ≡ gathered c ps
gathered_among a c r used ps apart before behind =
    gathered-or a (bit_or c r) ps
    ∙ ap (λ n. bit_or n (gathered (bit_or c r) ps)) (gathered-apart a used ps apart before)
    ∙ or_zero_l (gathered (bit_or c r) ps)
    ∙ gathered-or c r ps
    ∙ ap (bit_or (gathered c ps)) (gathered-clear r used ps behind)
    ∙ or_zero_r (gathered c ps)

same_lists : (x y : ℤ) (xs ys : List ℤ) → x ≡ y → xs ≡ ys → x ∷ xs ≡ y ∷ ys
same_lists x y xs ys p q = ap (λ z. z ∷ xs) p ∙ ap (λ zs. y ∷ zs) q

-- what is written to fields is read there
pub operands_in-code_with_all : (base used : ℕ) (fs : List Field) (zs : List ℤ) → list_all is_readable fs ≡ true → fields_apart used fs ≡ true → Within base used → HasOperands fs zs → operands_in (bit_or base (code_with_all fs zs)) fs ≡ zs
operands_in-code_with_all base used [] [] test apart within has = refl
operands_in-code_with_all base used [] (z ∷ zs) test apart within has = absurd has
operands_in-code_with_all base used (f ∷ fs) [] test apart within has = absurd has
operands_in-code_with_all base used (f ∷ fs) (z ∷ zs) test apart within has =
    let more = with_pieces used (pieces_of f) in
    let c = code_with f z in
    let r = code_with_all fs zs in
    let tests = and_parts (is_readable f) (list_all is_readable fs) test in
    let parts = and_parts (pieces_apart used (pieces_of f)) (fields_apart more fs) apart in
    let here : operand_in (bit_or base (bit_or c r)) f ≡ z =
    ap (operand_from f) (gathered_among base c r used (pieces_of f) parts.0 within (code_with_all-clear more fs zs parts.1) ∙ gathered-code_with f z used parts.0)
    ∙ InRange-bits f z tests.0 has.0 in
    let joined : Within (bit_or base c) more =
    or-within base c more (within-trans base used more within (within-with_pieces used (pieces_of f))) (scattered-within (bits_from f z) used (pieces_of f)) in
    let rest : operands_in (bit_or base (bit_or c r)) fs ≡ zs =
    ap (λ n. operands_in n fs) (sym (or_assoc base c r)) ∙ operands_in-code_with_all (bit_or base c) more fs zs tests.1 parts.1 joined has.1 in
    same_lists _ z _ zs here rest

-- what is read from fields and written there again are the code's bits there
pub code_with_all-operands_in : (code used : ℕ) (fs : List Field) → list_all is_readable fs ≡ true → bit_or (bit_and code used) (code_with_all fs (operands_in code fs)) ≡ bit_and code (with_fields used fs)
code_with_all-operands_in code used [] test = or_zero_r (bit_and code used)
code_with_all-operands_in code used (f ∷ fs) test =
    let more = with_pieces used (pieces_of f) in
    let tests = and_parts (is_readable f) (list_all is_readable fs) test in
    let r = code_with_all fs (operands_in code fs) in
    ap (λ n. bit_or (bit_and code used) (bit_or (scattered n (pieces_of f)) r)) (bits_from-operand_from f (gathered code (pieces_of f)) tests.0 (gathered-width code f))
    ∙ sym (or_assoc (bit_and code used) (scattered (gathered code (pieces_of f)) (pieces_of f)) r)
    ∙ ap (λ n. bit_or n r) (scattered-gathered code used (pieces_of f))
    ∙ code_with_all-operands_in code more fs tests.1

-- the operands that are read are in range
pub operands_in-HasOperands : (code : ℕ) (fs : List Field) → HasOperands fs (operands_in code fs)
operands_in-HasOperands code [] = tt
operands_in-HasOperands code (f ∷ fs) = (operand_in-InRange code f, operands_in-HasOperands code fs)

-- operands that fields can hold, and operands that more fields can hold, together
pub HasOperands-append : (fs gs : List Field) (xs ys : List ℤ) → HasOperands fs xs → HasOperands gs ys → HasOperands (fs ++ gs) (xs ++ ys)
HasOperands-append [] gs [] ys first second = second
HasOperands-append [] gs (x ∷ xs) ys first second = absurd first
HasOperands-append (f ∷ fs) gs [] ys first second = absurd first
HasOperands-append (f ∷ fs) gs (x ∷ xs) ys first second = (first.0, HasOperands-append fs gs xs ys first.1 second)

-- the first fields can hold the first operands
pub HasOperands-take : (fs gs : List Field) (zs : List ℤ) → HasOperands (fs ++ gs) zs → HasOperands fs (take (length fs) zs)
HasOperands-take [] gs zs has = tt
HasOperands-take (f ∷ fs) gs [] has = absurd has
HasOperands-take (f ∷ fs) gs (z ∷ zs) has = (has.0, HasOperands-take fs gs zs has.1)

-- the last fields can hold the last operands
pub HasOperands-drop : (fs gs : List Field) (zs : List ℤ) → HasOperands (fs ++ gs) zs → HasOperands gs (drop (length fs) zs)
HasOperands-drop [] gs zs has = has
HasOperands-drop (f ∷ fs) gs [] has = absurd has
HasOperands-drop (f ∷ fs) gs (z ∷ zs) has = HasOperands-drop fs gs zs has.1

-- there is one operand for each field
pub HasOperands-length : (fs : List Field) (zs : List ℤ) → HasOperands fs zs → length zs ≡ length fs
HasOperands-length [] [] has = refl
HasOperands-length [] (z ∷ zs) has = absurd has
HasOperands-length (f ∷ fs) [] has = absurd has
HasOperands-length (f ∷ fs) (z ∷ zs) has = ap suc (HasOperands-length fs zs has.1)

-- operands that are cut where the fields are cut are held in both parts
pub HasOperands-split : (fs gs : List Field) (xs ys : List ℤ) → length xs ≡ length fs → HasOperands (fs ++ gs) (xs ++ ys) → HasOperands fs xs × HasOperands gs ys
HasOperands-split [] gs [] ys same has = (tt, has)
HasOperands-split [] gs (x ∷ xs) ys same has = absurd (omega arith)
HasOperands-split (f ∷ fs) gs [] ys same has = absurd (omega arith)
HasOperands-split (f ∷ fs) gs (x ∷ xs) ys same has =
    let rest = HasOperands-split fs gs xs ys (omega arith) has.1 in ((has.0, rest.0), rest.1)

-- the operands that a code has in fields and in more fields
pub operands_in-append : (code : ℕ) (fs gs : List Field) → operands_in code (fs ++ gs) ≡ operands_in code fs ++ operands_in code gs
operands_in-append code fs gs = map-append (operand_in code) fs gs
