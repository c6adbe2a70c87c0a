-- Words, numbers and marks as they are printed: each is one token where nothing goes on behind it.
use Rattle.std.proofs.Common.{◌≡◌, ℕ, suc, ◌+◌, ◌-◌, ◌^◌, ◌<◌, ◌==◌, Bool, true, false, not, nat_lt, List, [], ◌∷◌, ◌++◌, length, take, Result, codes, decimal, refl, ap, ◌∙◌, arith}
use Rattle.std.specs.Prelude.{slice_index}
use Rattle.std.specs.List.{list_all, prefix_len}
use Rattle.std.specs.Char.{is_ascii_digit, is_ascii_hexdigit}
use Rattle.std.specs.Str.Parse.{digits_value}
use Rattle.std.proofs.lemmas.Bool.{and_from, and_parts, cond-true, cond-false, lt-ltb}
use Rattle.std.proofs.lemmas.Bool.Decides.{nat_tests}
use Rattle.std.proofs.lemmas.List.{take_at}
use Rattle.std.proofs.lemmas.List.Folds.{list_all-append}
use Rattle.mw_text.specs.declared.token.Token.{Token}
use Rattle.mw_text.specs.declared.token.TokenKind.{TokenKind}
use Rattle.mw_text.specs.declared.token.TokenKind.TheVariants.{Word, Number, Comma, Open, Close, Minus}
use Rattle.mw_text.specs.declared.piece.Piece.{Piece}
use Rattle.mw_text.specs.declared.piece.Piece.TheVariants.{Blank, Comment, Found, Bad}
use Rattle.mw_text.specs.Pieces.{begins_hexadecimal, begins_word, decimal_piece, hexadecimal_piece, is_blank, is_of_word, number_piece, piece_at}
use Rattle.mw_text.specs.Lines.{in_front, more_of, with_first, tokens_from}
use Rattle.mw_text.specs.Texts.{is_word}
use Rattle.mw_digits.specs.Digits.{digits_of, hex, short_hex}
use Rattle.mw_digits.proofs.DigitLaws.{hex-hexadecimal, length-hex, value-hex, digits_of-fits, digits_of-some, decimal-digits, value-decimal, decimal-some}
use Rattle.mw_asm.proofs.PrintedForms.{IsClosed, has_no_feed, token_of}

-- what passes one test passes a weaker one
all-weaker : (p q : ℕ → Bool) (text : List ℕ) → ((byte : ℕ) → p byte ≡ true → q byte ≡ true) → list_all p text ≡ true → list_all q text ≡ true
all-weaker p q [] weaker all = refl
all-weaker p q (byte ∷ text) weaker all =
    let parts = and_parts (p byte) (list_all p text) all in
    and_from (q byte) (list_all q text) (weaker byte parts.0) (all-weaker p q text weaker parts.1)

-- the bytes at the front that pass are those of a text of such bytes, where the next doesn't pass
run : (p : ℕ → Bool) (text rest : List ℕ) → list_all p text ≡ true → p (slice_index rest 0) ≡ false → prefix_len p (text ++ rest) ≡ length text
run p [] [] all fails = refl
run p [] (byte ∷ rest) all fails = cond-false (p byte) (1 + prefix_len p rest) 0 fails
run p (byte ∷ text) rest all fails =
    let parts = and_parts (p byte) (list_all p text) all in
    let one : 1 + length text ≡ suc (length text) = omega arith in
    cond-true (p byte) (1 + prefix_len p (text ++ rest)) 0 parts.0 ∙ ap (λ (size : ℕ). 1 + size) (run p text rest parts.1 fails) ∙ one

-- digits may stand in a word
digit-of_word : (byte : ℕ) → is_ascii_digit byte ≡ true → is_of_word byte ≡ true
digit-of_word byte is = grind (arith, nat_tests)

hexdigit-of_word : (byte : ℕ) → is_ascii_hexdigit byte ≡ true → is_of_word byte ≡ true
hexdigit-of_word byte is = grind (arith, nat_tests)

-- other bytes are no digits
closed-digit : (byte : ℕ) → is_of_word byte ≡ false → is_ascii_digit byte ≡ false
closed-digit byte closed = grind (arith, nat_tests)

closed-hexdigit : (byte : ℕ) → is_of_word byte ≡ false → is_ascii_hexdigit byte ≡ false
closed-hexdigit byte closed = grind (arith, nat_tests)

-- neither a digit nor what ends a word is `x`
digit-no_x : (byte : ℕ) → is_ascii_digit byte ≡ true → (byte == 120) ≡ false
digit-no_x byte is = grind (arith, nat_tests)

closed-no_x : (byte : ℕ) → is_of_word byte ≡ false → (byte == 120) ≡ false
closed-no_x byte closed = grind (arith, nat_tests)

-- a text that begins a word begins one with more behind it too
begins-more : (text rest : List ℕ) → begins_word text ≡ true → begins_word (text ++ rest) ≡ true
begins-more [] rest begins = cc
begins-more (byte ∷ []) rest begins = grind (arith, nat_tests)
begins-more (byte ∷ other ∷ text) rest begins = begins

-- a word stands where one begins
piece-begun : (rest : List ℕ) → begins_word rest ≡ true → piece_at rest ≡ Found Word (prefix_len is_of_word rest)
unfolding piece_at
piece-begun rest begins =
    let blank : is_blank (slice_index rest 0) ≡ false = grind (arith, nat_tests) in
    let comment : (slice_index rest 0 == 35) ≡ false = grind (arith, nat_tests) in
    cond-false _ Blank _ blank ∙ cond-false _ Comment _ comment ∙ cond-true _ (Found Word (prefix_len is_of_word rest)) _ begins

-- a word in front of what ends it is a token
pub word-piece : (text rest : List ℕ) → is_word text ≡ true → IsClosed rest → piece_at (text ++ rest) ≡ Found Word (length text)
word-piece text rest is closed =
    let parts = and_parts (begins_word text) (list_all is_of_word text) is in
    piece-begun (text ++ rest) (begins-more text rest parts.0) ∙ ap (λ (size : ℕ). Found Word size) (run is_of_word text rest parts.1 closed)

-- a number of 64 bits is found
number-found : (size value : ℕ) → value < 2 ^ 64 → number_piece size value ≡ Found (Number value) size
number-found size value below = cond-true (nat_lt value (2 ^ 64)) (Found (Number value) size) Bad (lt-ltb value (2 ^ 64) below)

-- decimal digits up to a byte that is none are a number of 64 bits
decimal_piece-found : (text rest : List ℕ) (n : ℕ) → list_all is_ascii_digit text ≡ true → is_ascii_digit (slice_index rest 0) ≡ false → digits_value 10 text ≡ n → n < 2 ^ 64 → decimal_piece (text ++ rest) ≡ Found (Number n) (length text)
unfolding decimal_piece
decimal_piece-found text rest n all fails value below =
    ap (λ (size : ℕ). number_piece size (digits_value 10 (take size (text ++ rest)))) (run is_ascii_digit text rest all fails)
    ∙ ap (λ (bytes : List ℕ). number_piece (length text) (digits_value 10 bytes)) (take_at text rest (length text) refl)
    ∙ ap (λ (number : ℕ). number_piece (length text) number) value
    ∙ number-found (length text) n below

-- hexadecimal digits behind `0x`, up to a byte that is none, are a number of 64 bits
hexadecimal_piece-found : (text rest : List ℕ) (n : ℕ) → list_all is_ascii_hexdigit text ≡ true → is_ascii_hexdigit (slice_index rest 0) ≡ false → digits_value 16 text ≡ n → n < 2 ^ 64 → hexadecimal_piece (48 ∷ 120 ∷ (text ++ rest)) ≡ Found (Number n) (suc (suc (length text)))
unfolding hexadecimal_piece
hexadecimal_piece-found text rest n all fails value below =
    let more : 2 + length text ≡ suc (suc (length text)) = omega arith in
    ap (λ (size : ℕ). number_piece (2 + size) (digits_value 16 (take size (text ++ rest)))) (run is_ascii_hexdigit text rest all fails)
    ∙ ap (λ (bytes : List ℕ). number_piece (2 + length text) (digits_value 16 bytes)) (take_at text rest (length text) refl)
    ∙ ap (λ (number : ℕ). number_piece (2 + length text) number) value
    ∙ number-found (2 + length text) n below
    ∙ ap (λ (size : ℕ). Found (Number n) size) more

-- the first byte of a text passes where all do
first-passes : (p : ℕ → Bool) (text rest : List ℕ) → 0 < length text → list_all p text ≡ true → p (slice_index (text ++ rest) 0) ≡ true
first-passes p [] rest some all = absurd (omega arith)
first-passes p (byte ∷ text) rest some all = (and_parts (p byte) (list_all p text) all).0

-- behind the first digit stands no `x`
second-no_x : (text rest : List ℕ) → 0 < length text → list_all is_ascii_digit text ≡ true → IsClosed rest → (slice_index (text ++ rest) 1 == 120) ≡ false
second-no_x [] rest some all closed = absurd (omega arith)
second-no_x (byte ∷ []) rest some all closed = closed-no_x (slice_index rest 0) closed
second-no_x (byte ∷ other ∷ text) rest some all closed =
    let parts = and_parts (is_ascii_digit byte) (list_all is_ascii_digit (other ∷ text)) all in
    digit-no_x other (and_parts (is_ascii_digit other) (list_all is_ascii_digit text) parts.1).0

-- a decimal number stands where a digit does and no `x` behind it
piece-digit : (rest : List ℕ) → is_ascii_digit (slice_index rest 0) ≡ true → (slice_index rest 1 == 120) ≡ false → piece_at rest ≡ decimal_piece rest
unfolding piece_at
piece-digit rest digit no_x =
    let blank : is_blank (slice_index rest 0) ≡ false = grind (arith, nat_tests) in
    let comment : (slice_index rest 0 == 35) ≡ false = grind (arith, nat_tests) in
    let word : begins_word rest ≡ false = grind (arith, nat_tests) in
    let hexadecimal : begins_hexadecimal rest ≡ false = grind (arith, nat_tests) in
    cond-false _ Blank _ blank ∙ cond-false _ Comment _ comment ∙ cond-false _ (Found Word (prefix_len is_of_word rest)) _ word
    ∙ cond-false _ (hexadecimal_piece rest) _ hexadecimal ∙ cond-true _ (decimal_piece rest) _ digit

-- digits in front of what ends a word
digits-piece : (text rest : List ℕ) (n : ℕ) → 0 < length text → list_all is_ascii_digit text ≡ true → digits_value 10 text ≡ n → n < 2 ^ 64 → IsClosed rest → piece_at (text ++ rest) ≡ Found (Number n) (length text)
digits-piece text rest n some all value below closed =
    piece-digit (text ++ rest) (first-passes is_ascii_digit text rest some all) (second-no_x text rest some all closed)
    ∙ decimal_piece-found text rest n all (closed-digit (slice_index rest 0) closed) value below

-- a decimal number in front of what ends it is a token
pub decimal-piece : (n : ℕ) (rest : List ℕ) → n < 2 ^ 64 → IsClosed rest → piece_at (decimal n ++ rest) ≡ Found (Number n) (length (decimal n))
decimal-piece n rest below closed = digits-piece (decimal n) rest n (decimal-some n) (decimal-digits n below) (value-decimal n below) below closed

-- a hexadecimal number stands where `0x` and a digit do
piece-hexadecimal : (rest : List ℕ) → is_ascii_hexdigit (slice_index rest 0) ≡ true → piece_at (48 ∷ 120 ∷ rest) ≡ hexadecimal_piece (48 ∷ 120 ∷ rest)
unfolding piece_at
piece-hexadecimal rest is = cond-true (is_ascii_hexdigit (slice_index rest 0)) (hexadecimal_piece (48 ∷ 120 ∷ rest)) _ is

-- a hexadecimal number of so many digits
pub hex-piece : (k n : ℕ) (rest : List ℕ) → 0 < k → n < 16 ^ k → n < 2 ^ 64 → IsClosed rest → piece_at ((codes "0x" ++ hex k n) ++ rest) ≡ Found (Number n) (length (codes "0x" ++ hex k n))
hex-piece k n rest some fits below closed =
    let long : 0 < length (hex k n) = omega (arith, length-hex k n) in
    piece-hexadecimal (hex k n ++ rest) (first-passes is_ascii_hexdigit (hex k n) rest long (hex-hexadecimal k n))
    ∙ hexadecimal_piece-found (hex k n) rest n (hex-hexadecimal k n) (closed-hexdigit (slice_index rest 0) closed) (value-hex k n fits) below

-- a hexadecimal number without leading zeros
pub short_hex-piece : (n : ℕ) (rest : List ℕ) → n < 2 ^ 64 → IsClosed rest → piece_at (short_hex n ++ rest) ≡ Found (Number n) (length (short_hex n))
short_hex-piece n rest below closed = hex-piece (digits_of 15 n) n rest (digits_of-some 15 n) (digits_of-fits 15 n below) below closed

-- the bytes of a token are left out behind its first
skipped : (text rest : List ℕ) (place : ℕ) → tokens_from (text ++ rest) (length text) place ≡ tokens_from rest 0 (place + length text)
unfolding tokens_from
skipped [] rest place = ap (λ (at : ℕ). tokens_from rest 0 at) (let none : place ≡ place + 0 = omega arith in none)
skipped (byte ∷ text) rest place =
    let next : place + 1 + length text ≡ place + suc (length text) = omega arith in
    skipped text rest (place + 1) ∙ ap (λ (at : ℕ). tokens_from rest 0 at) next

-- a text that is a token, in front of the tokens behind it
pub piece-tokens : (text rest : List ℕ) (kind : TokenKind) (place : ℕ) → 0 < length text → piece_at (text ++ rest) ≡ Found kind (length text) → tokens_from (text ++ rest) 0 place ≡ with_first (token_of kind place (length text)) (tokens_from rest 0 (place + length text))
unfolding tokens_from
piece-tokens [] rest kind place some found = absurd (omega arith)
piece-tokens (byte ∷ text) rest kind place some found =
    let less : suc (length text) - 1 ≡ length text = omega arith in
    let next : place + 1 + length text ≡ place + suc (length text) = omega arith in
    ap (λ (piece : Piece). in_front piece place (tokens_from (text ++ rest) (more_of piece) (place + 1))) found
    ∙ ap (λ (others : Result (List Token) ℕ). with_first (token_of kind place (suc (length text))) others)
    (ap (λ (skip : ℕ). tokens_from (text ++ rest) skip (place + 1)) less ∙ skipped text rest (place + 1) ∙ ap (λ (at : ℕ). tokens_from rest 0 at) next)

-- a blank and the marks that are printed
pub blank-tokens : (rest : List ℕ) (place : ℕ) → tokens_from (32 ∷ rest) 0 place ≡ tokens_from rest 0 (place + 1)
unfolding tokens_from piece_at
blank-tokens rest place = refl

pub comma-tokens : (rest : List ℕ) (place : ℕ) → tokens_from (44 ∷ rest) 0 place ≡ with_first (token_of Comma place 1) (tokens_from rest 0 (place + 1))
unfolding tokens_from piece_at
comma-tokens rest place = refl

pub open-tokens : (rest : List ℕ) (place : ℕ) → tokens_from (40 ∷ rest) 0 place ≡ with_first (token_of Open place 1) (tokens_from rest 0 (place + 1))
unfolding tokens_from piece_at
open-tokens rest place = refl

pub close-tokens : (rest : List ℕ) (place : ℕ) → tokens_from (41 ∷ rest) 0 place ≡ with_first (token_of Close place 1) (tokens_from rest 0 (place + 1))
unfolding tokens_from piece_at
close-tokens rest place = refl

pub minus-tokens : (rest : List ℕ) (place : ℕ) → tokens_from (45 ∷ rest) 0 place ≡ with_first (token_of Minus place 1) (tokens_from rest 0 (place + 1))
unfolding tokens_from piece_at
minus-tokens rest place = refl

-- the bytes of numbers may stand in a word
pub decimal-of_word : (n : ℕ) → n < 2 ^ 64 → list_all is_of_word (decimal n) ≡ true
decimal-of_word n below = all-weaker is_ascii_digit is_of_word (decimal n) digit-of_word (decimal-digits n below)

pub hex-of_word : (k n : ℕ) → list_all is_of_word (hex k n) ≡ true
hex-of_word k n = all-weaker is_ascii_hexdigit is_of_word (hex k n) hexdigit-of_word (hex-hexadecimal k n)

pub short_hex-of_word : (n : ℕ) → list_all is_of_word (short_hex n) ≡ true
short_hex-of_word n = hex-of_word (digits_of 15 n) n

-- a byte that may stand in a word is no line feed
byte-no_feed : (byte : ℕ) → is_of_word byte ≡ true → not (byte == 10) ≡ true
byte-no_feed byte is = grind (arith, nat_tests)

-- bytes that may stand in a word are no line feeds
pub of_word-no_feed : (text : List ℕ) → list_all is_of_word text ≡ true → has_no_feed text ≡ true
of_word-no_feed text all = all-weaker is_of_word (λ byte. not (byte == 10)) text byte-no_feed all

-- no byte of two texts is a line feed where none of each is
pub append-no_feed : (text rest : List ℕ) → has_no_feed text ≡ true → has_no_feed rest ≡ true → has_no_feed (text ++ rest) ≡ true
append-no_feed text rest first second = list_all-append (λ byte. not (byte == 10)) text rest ∙ and_from (has_no_feed text) (has_no_feed rest) first second
