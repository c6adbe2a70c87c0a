-- What stands at a place of a line is the longest token there.
use Rattle.std.proofs.Common.{cond, get_or, ◌≡◌, ℕ, zero, suc, ◌+◌, ◌-◌, ◌<◌, ◌≤◌, Bool, true, false, List, [], ◌∷◌, length, take, drop, Ok, arith, refl, sym, ap, ◌∙◌, subst, length-drop}
use Rattle.std.specs.Prelude.{if◌then◌else◌, ◌==◌, ◌||◌, ◌&&◌, nat_lt, slice_index}
use Rattle.std.specs.List.{list_all, prefix_len}
use Rattle.std.specs.Char.{is_ascii_digit, is_ascii_hexdigit}
use Rattle.std.proofs.lemmas.List.Sums.{prefix_len-le-length}
use Rattle.std.proofs.lemmas.Bool.Decides.{nat_tests}
use Rattle.std.proofs.lemmas.Grind.{common_steps}
use Rattle.std.proofs.lemmas.List.{get_or-take, length-take-le, drop-take}
use Rattle.mw_text.specs.declared.token.Token.{Token}
use Rattle.mw_text.specs.declared.token.TokenKind.{TokenKind}
use Rattle.mw_text.specs.declared.token.TokenKind.TheVariants.{Word, Number, Comma, Colon, Open, Close, Plus, Minus, Here}
use Rattle.mw_text.specs.declared.piece.Piece.{Piece}
use Rattle.mw_text.specs.declared.piece.Piece.TheVariants.{Blank, Comment, Found, Bad}
use Rattle.mw_text.specs.Lines.{tokens_of, AreTokens}
use Rattle.mw_text.proofs.PieceLemmas.{word-fits}
use Rattle.mw_text.proofs.TokenLemmas.{tokens_of-tokens}
use Rattle.mw_text.specs.Pieces.{begins_hexadecimal, begins_word, decimal_piece, hexadecimal_piece, is_blank, is_of_word, mark_piece, number_piece, piece_at}
use Rattle.mw_text.specs.Texts.{is_decimal, is_hexadecimal, is_mark, is_token, is_word, AreLongest, IsLongest}

-- more bytes than those of a front that passes don't all pass
run-more : (p : ℕ → Bool) (xs : List ℕ) (m : ℕ) → prefix_len p xs < m → m ≤ length xs → list_all p (take m xs) ≡ false
run-more p [] m above within = absurd (omega arith)
run-more p (x ∷ xs) zero above within = absurd (omega arith)
run-more p (x ∷ xs) (suc m) above within =
    let others : prefix_len p xs < m → list_all p (take m xs) ≡ false = λ less. run-more p xs m less (omega arith) in
    grind (arith, common_steps)

-- two bytes or more are no mark
mark-short : (text : List ℕ) → 2 ≤ length text → is_mark text ≡ false
mark-short [] some = absurd (omega arith)
mark-short (byte ∷ []) some = absurd (omega arith)
mark-short (byte ∷ other ∷ rest) some = refl

-- a byte of the front of a list
front-byte : (m k : ℕ) (rest : List ℕ) → k < m → slice_index (take m rest) k ≡ slice_index rest k
front-byte m k rest below = get_or-take m rest k 0 below

-- what begins a word in two bytes or more begins one in all
word-front : (m : ℕ) (rest : List ℕ) → 2 ≤ m → begins_word (take m rest) ≡ begins_word rest
word-front m rest some = rw (front-byte m 0 rest (omega arith), front-byte m 1 rest (omega arith)) refl

-- `and` with a false part
and-left : (a b : Bool) → a ≡ false → (a && b) ≡ false
and-left a b is = ap (λ (c : Bool). c && b) is

and-right : (a b : Bool) → b ≡ false → (a && b) ≡ false
and-right true b is = is
and-right false b is = refl

-- `or` of four that are false
none : (a b c d : Bool) → a ≡ false → b ≡ false → c ≡ false → d ≡ false → (a || b || c || d) ≡ false
none a b c d first second third fourth = simp (first, second, third, fourth)

-- two bytes have no third
third : (rest : List ℕ) → slice_index (take 2 rest) 2 ≡ 0
third [] = refl
third (byte ∷ []) = refl
third (byte ∷ other ∷ rest) = refl

-- a front of two bytes or more begins no number in 0x if the rest doesn't
hexadecimal-front : (m : ℕ) (rest : List ℕ) → 2 ≤ m → begins_hexadecimal rest ≡ false → begins_hexadecimal (take m rest) ≡ false
hexadecimal-front zero rest some fails = absurd (omega arith)
hexadecimal-front (suc zero) rest some fails = absurd (omega arith)
hexadecimal-front (suc (suc zero)) rest some fails = and-right _ (is_ascii_hexdigit (slice_index (take 2 rest) 2)) (ap is_ascii_hexdigit (third rest))
hexadecimal-front (suc (suc (suc m))) rest some fails =
    rw (front-byte (suc (suc (suc m))) 0 rest (omega arith), front-byte (suc (suc (suc m))) 1 rest (omega arith), front-byte (suc (suc (suc m))) 2 rest (omega arith)) fails

-- a front of two bytes or more is no word where no word begins
not-word : (m : ℕ) (rest : List ℕ) → 2 ≤ m → begins_word rest ≡ false → is_word (take m rest) ≡ false
not-word m rest some fails = and-left (begins_word (take m rest)) _ (word-front m rest some ∙ fails)

not-hexadecimal : (m : ℕ) (rest : List ℕ) → 2 ≤ m → begins_hexadecimal rest ≡ false → is_hexadecimal (take m rest) ≡ false
not-hexadecimal m rest some fails = and-left (begins_hexadecimal (take m rest)) _ (hexadecimal-front m rest some fails)

not-decimal : (m : ℕ) (rest : List ℕ) → prefix_len is_ascii_digit rest < m → m ≤ length rest → is_decimal (take m rest) ≡ false
not-decimal m rest above within = and-right (nat_lt 0 (length (take m rest))) _ (run-more is_ascii_digit rest m above within)

not-mark : (m : ℕ) (rest : List ℕ) → 2 ≤ m → m ≤ length rest → is_mark (take m rest) ≡ false
not-mark m rest some within = mark-short (take m rest) (omega (arith, length-take-le m rest within))

-- no digit stands first
no-digit : (rest : List ℕ) → is_ascii_digit (slice_index rest 0) ≡ false → prefix_len is_ascii_digit rest ≡ 0
no-digit [] fails = refl
no-digit (byte ∷ rest) fails = grind (arith, common_steps)

-- a digit may stand first, and none second
one-digit : (rest : List ℕ) → is_ascii_digit (slice_index rest 1) ≡ false → prefix_len is_ascii_digit rest ≤ 1
one-digit [] fails = omega arith
one-digit (byte ∷ rest) fails = let behind = no-digit rest fails in grind (arith, common_steps)

-- no more bytes of the rest than these are a token
abbrev IsNoMore : List ℕ → ℕ → Type 0
IsNoMore rest size = (more : ℕ) → size < more → more ≤ length rest → is_token (take more rest) ≡ false

-- no more bytes than those of a word at the front are a token
word-longest : (rest : List ℕ) → 1 ≤ prefix_len is_of_word rest → begins_word rest ≡ true → IsNoMore rest (prefix_len is_of_word rest)
word-longest rest some does more above within =
    let first : is_ascii_digit (slice_index rest 0) ≡ false = grind (arith, nat_tests) in
    let number : begins_hexadecimal rest ≡ false = grind (arith, nat_tests) in
    none _ _ _ _ (and-right (begins_word (take more rest)) _ (run-more is_of_word rest more above within))
    (not-decimal more rest (omega (arith, no-digit rest first)) within)
    (not-hexadecimal more rest (omega arith) number)
    (not-mark more rest (omega arith) within)

-- no more bytes than those of a decimal number at the front are a token
decimal-longest : (rest : List ℕ) → 1 ≤ prefix_len is_ascii_digit rest → begins_word rest ≡ false → begins_hexadecimal rest ≡ false → IsNoMore rest (prefix_len is_ascii_digit rest)
decimal-longest rest some word number more above within =
    none _ _ _ _ (not-word more rest (omega arith) word) (not-decimal more rest above within)
    (not-hexadecimal more rest (omega arith) number) (not-mark more rest (omega arith) within)

-- no more bytes than those of a hexadecimal number at the front are a token
hexadecimal-longest : (rest : List ℕ) → begins_word rest ≡ false → begins_hexadecimal rest ≡ true → IsNoMore rest (2 + prefix_len is_ascii_hexdigit (drop 2 rest))
hexadecimal-longest rest word does more above within =
    let second : is_ascii_digit (slice_index rest 1) ≡ false = grind (arith, nat_tests) in
    let behind : list_all is_ascii_hexdigit (take (more - 2) (drop 2 rest)) ≡ false = run-more is_ascii_hexdigit (drop 2 rest) (more - 2) (omega arith) (omega (arith, length-drop 2 rest)) in
    let whole : 2 + (more - 2) ≡ more = omega arith in
    let same : drop 2 (take more rest) ≡ take (more - 2) (drop 2 rest) = subst (λ (m : ℕ). drop 2 (take m rest) ≡ take (more - 2) (drop 2 rest)) whole (drop-take 2 (more - 2) rest) in
    none _ _ _ _ (not-word more rest (omega arith) word)
    (not-decimal more rest (omega (arith, one-digit rest second)) within)
    (and-right (begins_hexadecimal (take more rest)) _ (ap (λ (bytes : List ℕ). list_all is_ascii_hexdigit bytes) same ∙ behind))
    (not-mark more rest (omega arith) within)

-- no more bytes than the one of a mark at the front are a token
mark-longest : (rest : List ℕ) → begins_word rest ≡ false → begins_hexadecimal rest ≡ false → is_ascii_digit (slice_index rest 0) ≡ false → IsNoMore rest 1
mark-longest rest word number digit more above within =
    none _ _ _ _ (not-word more rest (omega arith) word)
    (not-decimal more rest (omega (arith, no-digit rest digit)) within)
    (not-hexadecimal more rest (omega arith) number) (not-mark more rest (omega arith) within)

-- one byte more of the front
front-by : (b : Bool) (p : ℕ → Bool) (x : ℕ) (xs : List ℕ) → p x ≡ b → list_all p (take (prefix_len p xs) xs) ≡ true → list_all p (take (cond b (1 + prefix_len p xs) 0) (x ∷ xs)) ≡ true
front-by true p x xs is others =
    let count : 1 + prefix_len p xs ≡ suc (prefix_len p xs) = omega arith in
    let all : (p x && list_all p (take (prefix_len p xs) xs)) ≡ true = ap (λ (b : Bool). b && list_all p (take (prefix_len p xs) xs)) is ∙ others in
    ap (λ (n : ℕ). list_all p (take n (x ∷ xs))) count ∙ all
front-by false p x xs is others = refl

-- `or` of four of which one is true
or-first : (a b c d : Bool) → a ≡ true → (a || b || c || d) ≡ true
or-first a b c d is = grind (arith, is)

or-second : (a b c d : Bool) → b ≡ true → (a || b || c || d) ≡ true
or-second a b c d is = grind (arith, is)

or-third : (a b c d : Bool) → c ≡ true → (a || b || c || d) ≡ true
or-third a b c d is = grind (arith, is)

or-fourth : (a b c d : Bool) → d ≡ true → (a || b || c || d) ≡ true
or-fourth a b c d is = grind (arith, is)

-- the bytes of the front pass
front-passes : (p : ℕ → Bool) (xs : List ℕ) → list_all p (take (prefix_len p xs) xs) ≡ true
front-passes p [] = refl
front-passes p (x ∷ xs) = front-by (p x) p x xs refl (front-passes p xs)

-- `or` and `and` of parts that are true
both : (a b : Bool) → a ≡ true → b ≡ true → (a && b) ≡ true
both a b first second = simp (first, second)

is-word : (text : List ℕ) → is_word text ≡ true → is_token text ≡ true
is-word text is = or-first (is_word text) (is_decimal text) (is_hexadecimal text) (is_mark text) is

is-decimal : (text : List ℕ) → is_decimal text ≡ true → is_token text ≡ true
is-decimal text is = or-second (is_word text) (is_decimal text) (is_hexadecimal text) (is_mark text) is

is-hexadecimal : (text : List ℕ) → is_hexadecimal text ≡ true → is_token text ≡ true
is-hexadecimal text is = or-third (is_word text) (is_decimal text) (is_hexadecimal text) (is_mark text) is

is-mark : (text : List ℕ) → is_mark text ≡ true → is_token text ≡ true
is-mark text is = or-fourth (is_word text) (is_decimal text) (is_hexadecimal text) (is_mark text) is

-- a word of one byte
word-short : (rest : List ℕ) → begins_word rest ≡ true → prefix_len is_of_word rest ≡ 1 → begins_word (take 1 rest) ≡ true
word-short [] does one = cc
word-short (byte ∷ []) does one = does
word-short (byte ∷ other ∷ rest) does one = grind (arith, nat_tests, common_steps)

-- what begins a word begins that word
word-begins : (rest : List ℕ) (size : ℕ) → size ≡ prefix_len is_of_word rest → begins_word rest ≡ true → begins_word (take size rest) ≡ true
word-begins rest zero is does = let some = (word-fits rest does).0 in absurd (omega arith)
word-begins rest (suc zero) is does = word-short rest does (sym is)
word-begins rest (suc (suc size)) is does = word-front (suc (suc size)) rest (omega arith) ∙ does

word-is : (rest : List ℕ) → begins_word rest ≡ true → is_token (take (prefix_len is_of_word rest) rest) ≡ true
word-is rest does = is-word (take (prefix_len is_of_word rest) rest) (both _ _ (word-begins rest (prefix_len is_of_word rest) refl does) (front-passes is_of_word rest))

decimal-is : (rest : List ℕ) → 1 ≤ prefix_len is_ascii_digit rest → is_token (take (prefix_len is_ascii_digit rest) rest) ≡ true
decimal-is rest some =
    let within = prefix_len-le-length is_ascii_digit rest in
    let long : length (take (prefix_len is_ascii_digit rest) rest) ≡ prefix_len is_ascii_digit rest = length-take-le (prefix_len is_ascii_digit rest) rest within in
    let more : nat_lt 0 (length (take (prefix_len is_ascii_digit rest) rest)) ≡ true = grind (arith, nat_tests) in
    is-decimal (take (prefix_len is_ascii_digit rest) rest) (both _ _ more (front-passes is_ascii_digit rest))

-- a digit stands behind `0x`
third-digit : (rest : List ℕ) → begins_hexadecimal rest ≡ true → 1 ≤ prefix_len is_ascii_hexdigit (drop 2 rest)
third-digit [] does = cc
third-digit (byte ∷ []) does = grind (arith, nat_tests)
third-digit (byte ∷ other ∷ []) does = grind (arith, nat_tests)
third-digit (byte ∷ other ∷ digit ∷ rest) does = grind (arith, nat_tests, common_steps)

-- a front of three bytes or more begins a number in 0x if the rest does
hexadecimal-begins : (m : ℕ) (rest : List ℕ) → 3 ≤ m → begins_hexadecimal rest ≡ true → begins_hexadecimal (take m rest) ≡ true
hexadecimal-begins m rest some does = rw (front-byte m 0 rest (omega arith), front-byte m 1 rest (omega arith), front-byte m 2 rest (omega arith)) does

hexadecimal-is : (rest : List ℕ) → begins_hexadecimal rest ≡ true → is_token (take (2 + prefix_len is_ascii_hexdigit (drop 2 rest)) rest) ≡ true
hexadecimal-is rest does =
    let some = third-digit rest does in
    let k : ℕ = prefix_len is_ascii_hexdigit (drop 2 rest) in
    let begins : begins_hexadecimal (take (2 + k) rest) ≡ true = hexadecimal-begins (2 + k) rest (omega arith) does in
    let digits : list_all is_ascii_hexdigit (drop 2 (take (2 + k) rest)) ≡ true = ap (λ (bytes : List ℕ). list_all is_ascii_hexdigit bytes) (drop-take 2 k rest) ∙ front-passes is_ascii_hexdigit (drop 2 rest) in
    is-hexadecimal (take (2 + k) rest) (both _ _ begins digits)

-- where a piece is a token, no more bytes than the token's are one
abbrev IsLongestPiece : List ℕ → Piece → Type 0
IsLongestPiece rest (Found kind length) = IsLongest rest length
IsLongestPiece rest Blank = Unit {0}
IsLongestPiece rest Comment = Unit {0}
IsLongestPiece rest Bad = Unit {0}

-- one of two pieces has no more bytes than its token's, where each has none
choice : (rest : List ℕ) (b : Bool) (p q : Piece) → (b ≡ true → IsLongestPiece rest p) → (b ≡ false → IsLongestPiece rest q) → IsLongestPiece rest (if b then p else q)
choice rest true p q holds fails = holds refl
choice rest false p q holds fails = fails refl

-- a number whose length is the longest
number-piece : (rest : List ℕ) (length value : ℕ) → IsLongest rest length → IsLongestPiece rest (number_piece length value)
number-piece rest length value is = choice rest (nat_lt value 18446744073709551616) (Found (Number value) length) Bad (λ _. is) (λ _. tt)

decimal-piece : (rest : List ℕ) → IsLongest rest (prefix_len is_ascii_digit rest) → IsLongestPiece rest (decimal_piece rest)
unfolding decimal_piece
decimal-piece rest is = number-piece rest _ _ is

hexadecimal-piece : (rest : List ℕ) → IsLongest rest (2 + prefix_len is_ascii_hexdigit (drop 2 rest)) → IsLongestPiece rest (hexadecimal_piece rest)
unfolding hexadecimal_piece
hexadecimal-piece rest is = number-piece rest _ _ is

-- a mark of one byte
mark-is : (byte : ℕ) (rest : List ℕ) → IsNoMore (byte ∷ rest) 1 → is_mark (byte ∷ []) ≡ true → IsLongest (byte ∷ rest) 1
mark-is byte rest no_more is = record { is = is-mark (byte ∷ []) is; longest = no_more }

-- a mark where no two bytes or more are a token
mark-piece : (byte : ℕ) (rest : List ℕ) → IsNoMore (byte ∷ rest) 1 → IsLongestPiece (byte ∷ rest) (mark_piece byte)
mark-piece byte rest no_more =
    let with_mark = λ (is : is_mark (byte ∷ []) ≡ true). mark-is byte rest no_more is in
    choice (byte ∷ rest) (byte == 44) (Found Comma 1) _ (λ is. with_mark (simp is))
    (λ _. choice (byte ∷ rest) (byte == 58) (Found Colon 1) _ (λ is. with_mark (grind (arith, is)))
    (λ _. choice (byte ∷ rest) (byte == 40) (Found Open 1) _ (λ is. with_mark (grind (arith, is)))
    (λ _. choice (byte ∷ rest) (byte == 41) (Found Close 1) _ (λ is. with_mark (grind (arith, is)))
    (λ _. choice (byte ∷ rest) (byte == 43) (Found Plus 1) _ (λ is. with_mark (grind (arith, is)))
    (λ _. choice (byte ∷ rest) (byte == 45) (Found Minus 1) _ (λ is. with_mark (grind (arith, is)))
    (λ _. choice (byte ∷ rest) (byte == 46) (Found Here 1) Bad (λ is. with_mark (grind (arith, is))) (λ _. tt)))))))

-- a mark where it stands, if one does
mark-here : (rest : List ℕ) → IsNoMore rest 1 → IsLongestPiece rest (mark_piece (slice_index rest 0))
mark-here [] no_more = tt
mark-here (byte ∷ rest) no_more = mark-piece byte rest no_more

-- a digit stands first
some-digit : (rest : List ℕ) → is_ascii_digit (slice_index rest 0) ≡ true → 1 ≤ prefix_len is_ascii_digit rest
some-digit [] is = cc
some-digit (byte ∷ rest) is = grind (arith, common_steps)

-- what stands at the front of the rest of a line is the longest token there
longest-piece : (rest : List ℕ) → IsLongestPiece rest (piece_at rest)
unfolding piece_at
longest-piece rest =
    choice rest (is_blank (slice_index rest 0)) Blank _ (λ _. tt)
    (λ _. choice rest (slice_index rest 0 == 35) Comment _ (λ _. tt)
    (λ _. choice rest (begins_word rest) (Found Word (prefix_len is_of_word rest)) _ (λ word. record { is = word-is rest word; longest = word-longest rest (word-fits rest word).0 word })
    (λ word. choice rest (begins_hexadecimal rest) (hexadecimal_piece rest) _ (λ number. hexadecimal-piece rest (record { is = hexadecimal-is rest number; longest = hexadecimal-longest rest word number }))
    (λ number. choice rest (is_ascii_digit (slice_index rest 0)) (decimal_piece rest) _ (λ digit. decimal-piece rest (record { is = decimal-is rest (some-digit rest digit); longest = decimal-longest rest (some-digit rest digit) word number }))
    (λ digit. mark-here rest (mark-longest rest word number digit))))))

-- no more bytes at the front of the rest of a line than a token's are a token
pub piece_at-longest : (rest : List ℕ) (kind : TokenKind) (size : ℕ) → piece_at rest ≡ Found kind size → IsLongest rest size
piece_at-longest rest kind size is = subst (IsLongestPiece rest) is (longest-piece rest)

-- no more bytes at the place of one of a line's tokens than the token's are a token
longest-at : (line : List ℕ) (low : ℕ) (tokens : List Token) → AreTokens line low tokens → (k : ℕ) (d : Token) → k < length tokens → IsLongest (drop (get_or tokens k d).from line) ((get_or tokens k d).to - (get_or tokens k d).from)
longest-at line low [] are k d below = absurd (omega arith)
longest-at line low (token ∷ others) are zero d below = piece_at-longest (drop token.from line) token.kind _ are.1
longest-at line low (token ∷ others) are (suc k) d below = longest-at line token.to others are.2 k d (omega arith)

-- no longer text at the place of one of a line's tokens is a token
pub tokens_of-longest : (line : List ℕ) (tokens : List Token) → tokens_of line ≡ Ok tokens → AreLongest line tokens
tokens_of-longest line tokens are = longest-at line 0 tokens (tokens_of-tokens line tokens are)
