-- The parts of a code: its operands, its forms, and its words.
use Rattle.std.proofs.Common.{◌≡◌, ℕ, zero, suc, ◌+◌, ◌-◌, ◌*◌, ◌/◌, ◌%◌, ◌^◌, ◌<◌, ◌==◌, Bool, true, false, not, ◌&&◌, ◌||◌, List, [], ◌∷◌, ◌++◌, length, drop, get_or, slice_get, Some, ℤ, pos, bit_or, bit_and, refl, sym, ap, ◌∙◌, subst, arith, lit≤, mod-eq_of_lt}
use Rattle.std.specs.Int.Bits.{or_zero_l, or_zero_r}
use Rattle.std.proofs.Math.Seq.{drop-cons, drop-length}
use Rattle.std.proofs.lemmas.Nat.{and_mask, and_shr}
use Rattle.std.proofs.lemmas.Nat.Bits.{and_high}
use Rattle.std.proofs.lemmas.Bool.{eqb-true, eq-eqb, and_parts, not-true, cond-true, cond-false}
use Rattle.mw_prefix.specs.Wide.{split_of, is_mls, is_eight}
use Rattle.mw_tables.specs.declared.row.PrefixKind.{PrefixKind}
use Rattle.mw_tables.specs.declared.row.PrefixKind.TheVariants.{Plain, Mls, Eight, Nop}
use Rattle.mw_tables.specs.declared.layout.Field.{Field}
use Rattle.mw_tables.specs.Row.{TableRow, prefix_mask, prefix_value}
use Rattle.mw_tables.specs.Rows.{table, lines}
use Rattle.mw_tables.specs.Layouts.{unsigned, no_bits, pieces_of, gathered, flag, operand_in, code_with, code_with_all, InRange}
use Rattle.mw_tables.specs.Matching.{kind_number, row_place}
use Rattle.mw_tables.proofs.PieceLaws.{or_assoc}
use Rattle.mw_decode.specs.Decode.{place_behind, is_prefix}
use Rattle.mw_decode.specs.Encode.{flag_operand, words_of, number_of}

-- a field that the machine reads past the end of a list
abbrev pub blank : Field
blank = record { low = record { low = 0; width = 0 }; middle = record { low = 0; width = 0 }; high = record { low = 0; width = 0 }; shift = 0; signed = false }

-- an operand that is written beside those before it
pub code_with_all-next : (code : ℕ) (fs : List Field) (zs : List ℤ) (place : ℕ) → place < length fs → place < length zs → bit_or (bit_or code (code_with (get_or fs place blank) (get_or zs place (pos 0)))) (code_with_all (drop (place + 1) fs) (drop (place + 1) zs)) ≡ bit_or code (code_with_all (drop place fs) (drop place zs))
code_with_all-next code fs zs place within_fields within =
    let f = get_or fs place blank in
    let z = get_or zs place (pos 0) in
    let next : place + 1 ≡ suc place = omega arith in
    or_assoc code (code_with f z) (code_with_all (drop (place + 1) fs) (drop (place + 1) zs))
    ∙ ap (λ n. bit_or code (bit_or (code_with f z) (code_with_all (drop n fs) (drop n zs)))) next
    ∙ sym (ap (λ (gs : List Field). bit_or code (code_with_all gs (drop place zs))) (drop-cons fs place blank within_fields)
    ∙ ap (λ (ys : List ℤ). bit_or code (code_with_all (f ∷ drop (suc place) fs) ys)) (drop-cons zs place (pos 0) within))

-- where every field is written, the code is whole
pub code_with_all-end : (code : ℕ) (fs : List Field) (zs : List ℤ) → bit_or code (code_with_all (drop (length fs) fs) (drop (length fs) zs)) ≡ code
code_with_all-end code fs zs = ap (λ (gs : List Field). bit_or code (code_with_all gs (drop (length fs) zs))) (drop-length fs) ∙ or_zero_r code

-- operands in fields and in more fields
pub code_with_all-append : (fs gs : List Field) (xs ys : List ℤ) → length xs ≡ length fs → code_with_all (fs ++ gs) (xs ++ ys) ≡ bit_or (code_with_all fs xs) (code_with_all gs ys)
code_with_all-append [] gs [] ys same = sym (or_zero_l (code_with_all gs ys))
code_with_all-append [] gs (x ∷ xs) ys same = absurd (omega arith)
code_with_all-append (f ∷ fs) gs [] ys same = absurd (omega arith)
code_with_all-append (f ∷ fs) gs (x ∷ xs) ys same =
    ap (bit_or (code_with f x)) (code_with_all-append fs gs xs ys (omega arith)) ∙ sym (or_assoc (code_with f x) (code_with_all fs xs) (code_with_all gs ys))

-- lists that are joined of parts of the same length are the same in their parts
pub append-parts : (xs vs ys ws : List ℤ) → length xs ≡ length vs → xs ++ ys ≡ vs ++ ws → (xs ≡ vs) × (ys ≡ ws)
append-parts [] [] ys ws same e = (refl, e)
append-parts [] (v ∷ vs) ys ws same e = absurd (omega arith)
append-parts (x ∷ xs) [] ys ws same e = absurd (omega arith)
append-parts (x ∷ xs) (v ∷ vs) ys ws same e =
    let heads : x ≡ v = cc in
    let tails : xs ++ ys ≡ vs ++ ws = cc in
    let rest = append-parts xs vs ys ws (omega arith) tails in
    (ap (λ z. z ∷ xs) heads ∙ ap (λ zs. v ∷ zs) rest.0, rest.1)

-- a field of one bit
abbrev pub one_bit : ℕ → Field
one_bit low = unsigned (record { low = low; width = 1 })

bit-operand : (n : ℕ) → n < 2 → pos n ≡ flag_operand (n == 1)
bit-operand zero below = refl
bit-operand (suc zero) below = refl
bit-operand (suc (suc n)) below = absurd (omega arith)

-- a form that is read is the bit, where the row has that form
pub form-read : (code : ℕ) (exists : Bool) (low : ℕ) → operand_in code (flag exists (one_bit low)) ≡ flag_operand (exists && (code / 2 ^ low % 2 == 1))
form-read code true low =
    let bit : gathered code (pieces_of (one_bit low)) * 2 ^ 0 ≡ code / 2 ^ low % 2 = omega arith in
    ap pos bit ∙ bit-operand (code / 2 ^ low % 2) (omega arith)
form-read code false low = let none : gathered code (pieces_of (unsigned no_bits)) * 2 ^ 0 ≡ 0 = omega arith in ap pos none

-- a form that the row has is in range
pub form-InRange : (exists chosen : Bool) (low : ℕ) → (chosen ≡ true → exists ≡ true) → InRange (flag exists (one_bit low)) (flag_operand chosen)
form-InRange true true low has = (1, lit≤ tt, refl)
form-InRange true false low has = (0, lit≤ tt, refl)
form-InRange false true low has = let impossible : false ≡ true = has refl in cc
form-InRange false false low has = (0, lit≤ tt, refl)

-- a form is known by its operand
pub form-same : (a b : Bool) → flag_operand a ≡ flag_operand b → a ≡ b
form-same true true same = refl
form-same true false same = cc
form-same false true same = cc
form-same false false same = refl

-- the words of a code are joined to that code
pub number_of-words_of : (kind : PrefixKind) (code : ℕ) → number_of (words_of kind code) ≡ code
number_of-words_of Plain code = refl
number_of-words_of Mls code = omega arith
number_of-words_of Eight code = omega arith
number_of-words_of Nop code = omega arith

-- the fixed bits of a prefix are its bits 0 to 8
pub prefix-opening : (prefix number : ℕ) → prefix < 2 ^ 32 → bit_and prefix (2 ^ 32 - 2 ^ 23) ≡ number * 2 ^ 23 → prefix / 2 ^ 23 ≡ number
prefix-opening prefix number below is =
    let high : prefix / 2 ^ 23 % 2 ^ 9 * 2 ^ 23 ≡ number * 2 ^ 23 = sym (and_high prefix 9 23) ∙ is in omega arith

-- a prefix with these bits 0 to 8 has them as its fixed bits
pub opening-prefix : (prefix number : ℕ) → number < 2 ^ 9 → prefix / 2 ^ 23 ≡ number → bit_and prefix (2 ^ 32 - 2 ^ 23) ≡ number * 2 ^ 23
opening-prefix prefix number below is =
    and_high prefix 9 23 ∙ ap (λ n. n % 2 ^ 9 * 2 ^ 23) is ∙ ap (λ n. n * 2 ^ 23) (mod-eq_of_lt below)

nop_bits : (prefix : ℕ) → prefix < 2 ^ 32 → bit_and prefix (2 ^ 32 - 1) ≡ 7 * 2 ^ 24 → prefix ≡ 7 * 2 ^ 24
nop_bits prefix below is = sym (mod-eq_of_lt below) ∙ sym (and_mask prefix 32) ∙ is

-- what is known of a prefix of a kind, if of any: its bits say that it is one, and of which kind
pub record IsPrefixOf (kind : PrefixKind) (prefix : ℕ) : Type 0 where
  pub opens : is_prefix prefix ≡ true
  pub leads : (suffix : ℕ) → place_behind (split_of prefix suffix) suffix ≡ row_place kind suffix

mls-IsPrefixOf : (prefix : ℕ) → prefix / 2 ^ 23 ≡ 12 → IsPrefixOf Mls prefix
mls-IsPrefixOf prefix is = record {
  opens = (let top : prefix / 2 ^ 26 % 2 ^ 6 ≡ 1 = omega arith in eq-eqb _ _ top);
  leads = λ suffix. ap (λ r. place_behind r suffix) (cond-true (is_mls prefix) _ _ (eq-eqb _ _ is));
}

eight-IsPrefixOf : (prefix : ℕ) → prefix / 2 ^ 23 ≡ 8 → IsPrefixOf Eight prefix
eight-IsPrefixOf prefix is = record {
  opens = (let top : prefix / 2 ^ 26 % 2 ^ 6 ≡ 1 = omega arith in eq-eqb _ _ top);
  leads = λ suffix. ap (λ r. place_behind r suffix) (cond-false (is_mls prefix) _ _ (ap (λ n. n == 12) is) ∙ cond-true (is_eight prefix) _ _ (eq-eqb _ _ is));
}

nop-IsPrefixOf : IsPrefixOf Nop (7 * 2 ^ 24)
nop-IsPrefixOf = record { opens = refl; leads = λ suffix. refl }

-- what is known of a prefix of this kind, and nothing of a kind without a prefix
abbrev pub OfKind : PrefixKind → ℕ → Type 0
OfKind Plain prefix = Unit {0}
OfKind Mls prefix = IsPrefixOf Mls prefix
OfKind Eight prefix = IsPrefixOf Eight prefix
OfKind Nop prefix = IsPrefixOf Nop prefix

-- a prefix with the fixed bits of a kind is of that kind
pub prefix-IsPrefixOf : (kind : PrefixKind) (prefix : ℕ) → prefix < 2 ^ 32 → bit_and prefix (prefix_mask kind) ≡ prefix_value kind → OfKind kind prefix
prefix-IsPrefixOf Plain prefix below is = tt
prefix-IsPrefixOf Mls prefix below is = mls-IsPrefixOf prefix (prefix-opening prefix 12 below is)
prefix-IsPrefixOf Eight prefix below is = eight-IsPrefixOf prefix (prefix-opening prefix 8 below is)
prefix-IsPrefixOf Nop prefix below is = subst (IsPrefixOf Nop) (sym (nop_bits prefix below is)) nop-IsPrefixOf

-- the row is of words without a prefix: it fixes their opcode, and not as 1
abbrev is_plain : TableRow → Bool
is_plain row = (row.mask / 2 ^ 26 == 63) && not (row.value / 2 ^ 26 == 1)

-- each of these rows that has no prefix fixes its opcode, and not as 1
abbrev are_plain : List TableRow → Bool
are_plain [] = true
are_plain (row ∷ rows) = (not (kind_number row.prefix == 0) || is_plain row) && are_plain rows

table-plain : are_plain table ≡ true
unfolding table lines
table-plain = refl

plain_at : (rows : List TableRow) (place : ℕ) (row : TableRow) → are_plain rows ≡ true → slice_get rows place ≡ Some row → row.prefix ≡ Plain → is_plain row ≡ true
plain_at [] place row all there is = cc
plain_at (r ∷ rows) zero row all there is =
    let same : Some r ≡ Some row = there in
    let one : r ≡ row = cc in
    let kind : kind_number r.prefix ≡ 0 = ap (λ (x : TableRow). kind_number x.prefix) one ∙ ap kind_number is in
    let tested = ap (λ n. not (n == 0) || is_plain r) (sym kind) ∙ (and_parts _ _ all).0 in
    ap is_plain (sym one) ∙ tested
plain_at (r ∷ rows) (suc place) row all there is = plain_at rows place row (and_parts _ _ all).1 there is

-- a word of a row without a prefix is no prefix
pub word-no_prefix : (word place : ℕ) (row : TableRow) → slice_get table place ≡ Some row → row.prefix ≡ Plain → bit_and word row.mask ≡ row.value → is_prefix word ≡ false
word-no_prefix word place row there is bits =
    let tested = and_parts _ _ (plain_at table place row table-plain there is) in
    let top : word / 2 ^ 26 % 2 ^ 6 ≡ row.value / 2 ^ 26 =
    sym (and_mask (word / 2 ^ 26) 6)
    ∙ ap (bit_and (word / 2 ^ 26)) (sym (eqb-true _ _ tested.0))
    ∙ sym (and_shr word row.mask 26)
    ∙ ap (λ n. n / 2 ^ 26) bits in
    ap (λ n. n == 1) top ∙ not-true _ tested.1
