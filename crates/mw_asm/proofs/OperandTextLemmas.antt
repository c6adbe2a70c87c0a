-- Operands as they are printed: their tokens, how long they are, and that they have no line feed.
use Rattle.std.proofs.Common.{◌≡◌, ℕ, suc, ◌+◌, ◌*◌, ◌^◌, ◌<◌, ◌≤◌, Bool, true, List, [], ◌∷◌, ◌++◌, Ok, length, length-append, refl, sym, ap, subst, ◌∙◌, arith}
use Rattle.std.specs.Prelude.{ℤ, pos, negsuc, int_lt, decimal, FitsSigned}
use Rattle.std.specs.Int.{w64}
use Rattle.std.proofs.lemmas.Int.{ints}
use Rattle.std.proofs.lemmas.Bool.{le-ltb, cond-false}
use Rattle.mw_text.specs.declared.token.Token.{Token}
use Rattle.mw_text.specs.declared.token.TokenKind.{TokenKind}
use Rattle.mw_text.specs.declared.token.TokenKind.TheVariants.{Word, Number, Comma as CommaToken, Open as OpenToken, Close as CloseToken, Minus}
use Rattle.mw_text.specs.declared.piece.Piece.TheVariants.{Found}
use Rattle.mw_text.specs.Pieces.{piece_at}
use Rattle.mw_text.specs.Lines.{with_first, tokens_from}
use Rattle.mw_tables.specs.Layouts.{IsRegister}
use Rattle.mw_syntax.specs.declared.item.Item.{Item}
use Rattle.mw_syntax.specs.declared.item.Item.TheVariants.{Operand, Comma, Open, Close}
use Rattle.mw_syntax.specs.declared.item.Kind.{Kind}
use Rattle.mw_syntax.specs.declared.item.Kind.TheVariants.{Register, Value, Target, Upper}
use Rattle.mw_syntax.specs.Items.{kinds_of}
use Rattle.mw_digits.specs.Digits.{short_hex, signed_decimal}
use Rattle.mw_digits.proofs.DigitLaws.{decimal-some, decimal-short, short_hex-short}
use Rattle.mw_asm.specs.Disassembly.{operand_text, operands_text, behind_name}
use Rattle.mw_asm.proofs.TokenTextLemmas.{word-piece, decimal-piece, short_hex-piece, piece-tokens, blank-tokens, comma-tokens, open-tokens, close-tokens, minus-tokens, decimal-of_word, short_hex-of_word, of_word-no_feed, append-no_feed}
use Rattle.mw_asm.proofs.OperandWorthLemmas.{target-address-below}
use Rattle.mw_asm.proofs.PrintedForms.{IsClosed, has_no_feed, token_of, number_tokens, address_of_target, operand_tokens, operands_tokens, is_separated, IsWritable, AreWritable}

-- a number without a sign
pub unsigned-text : (n : ℕ) → signed_decimal (pos n) ≡ decimal n
unsigned-text n = cond-false (int_lt (pos n) (pos 0)) (45 ∷ decimal n) (decimal n) (le-ltb n 0 (omega arith))

-- the token of a number without a sign
pub unsigned-token : (n place : ℕ) → number_tokens (pos n) place ≡ token_of (Number n) place (length (decimal n)) ∷ []
unsigned-token n place = cond-false (int_lt (pos n) (pos 0)) _ (token_of (Number n) place (length (decimal n)) ∷ []) (le-ltb n 0 (omega arith))

-- a number without a sign that fits 64 signed bits is below 2^64
unsigned-below : (n : ℕ) → FitsSigned w64 (pos n) → n < 2 ^ 64
unsigned-below n fits = omega (arith, ints)

negative-below : (n : ℕ) → FitsSigned w64 (negsuc n) → suc n < 2 ^ 64
negative-below n fits = omega (arith, ints)

-- registers are numbers without a sign
pub register-below : (n : ℕ) → IsRegister (pos n) → n < 32
register-below n is = omega (arith, ints, is.1, is.2)

pub register-unsigned : (n : ℕ) → IsRegister (negsuc n) → ⊥
register-unsigned n is = omega (arith, ints, is.2)

-- a text that is a token, in front of the tokens behind it, gives the token and them
token-front : (text rest : List ℕ) (kind : TokenKind) (place : ℕ) (others : List Token) → 0 < length text → piece_at (text ++ rest) ≡ Found kind (length text) → tokens_from rest 0 (place + length text) ≡ Ok others
    → tokens_from (text ++ rest) 0 place ≡ Ok (token_of kind place (length text) ∷ others)
token-front text rest kind place others some found is = piece-tokens text rest kind place some found ∙ ap (with_first (token_of kind place (length text))) is

-- a register's name, in front of other tokens, is a token
register-front : (n : ℕ) (rest : List ℕ) (place : ℕ) (others : List Token) → n < 32 → IsClosed rest → tokens_from rest 0 (place + length (114 ∷ decimal n)) ≡ Ok others
    → tokens_from (114 ∷ decimal n ++ rest) 0 place ≡ Ok (token_of Word place (length (114 ∷ decimal n)) ∷ others)
register-front n rest place others low closed is =
    token-front (114 ∷ decimal n) rest Word place others (omega arith) (word-piece (114 ∷ decimal n) rest (decimal-of_word n (omega arith)) closed) is

-- a decimal number, in front of other tokens, is a token
decimal-front : (n : ℕ) (rest : List ℕ) (place : ℕ) (others : List Token) → n < 2 ^ 64 → IsClosed rest → tokens_from rest 0 (place + length (decimal n)) ≡ Ok others
    → tokens_from (decimal n ++ rest) 0 place ≡ Ok (token_of (Number n) place (length (decimal n)) ∷ others)
decimal-front n rest place others low closed is = token-front (decimal n) rest (Number n) place others (decimal-some n) (decimal-piece n rest low closed) is

-- a negative number, in front of other tokens, gives the tokens of `-` and of the number
negative-front : (n : ℕ) (rest : List ℕ) (place : ℕ) (others : List Token) → n < 2 ^ 64 → IsClosed rest → tokens_from rest 0 (place + length (45 ∷ decimal n)) ≡ Ok others
    → tokens_from (45 ∷ decimal n ++ rest) 0 place ≡ Ok (token_of Minus place 1 ∷ token_of (Number n) (place + 1) (length (decimal n)) ∷ others)
negative-front n rest place others low closed is =
    let behind : place + length (45 ∷ decimal n) ≡ place + 1 + length (decimal n) = omega arith in
    minus-tokens (decimal n ++ rest) place
    ∙ ap (with_first (token_of Minus place 1)) (decimal-front n rest (place + 1) others low closed (ap (tokens_from rest 0) (sym behind) ∙ is))

-- an operand's text, in front of other tokens, gives the operand's tokens
operand-front : (kind : Kind) (aa : Bool) (at : ℕ) (z : ℤ) (rest : List ℕ) (place : ℕ) (others : List Token) → IsWritable kind z → at < 2 ^ 63 → IsClosed rest → tokens_from rest 0 (place + length (operand_text kind aa at z)) ≡ Ok others
    → tokens_from (operand_text kind aa at z ++ rest) 0 place ≡ Ok (operand_tokens kind aa at z place ++ others)
operand-front Register aa at (pos n) rest place others writable low closed is =
    subst (λ (digits : List ℕ). tokens_from rest 0 (place + length (114 ∷ digits)) ≡ Ok others → tokens_from (114 ∷ digits ++ rest) 0 place ≡ Ok (token_of Word place (length (114 ∷ digits)) ∷ others))
    (sym (unsigned-text n)) (register-front n rest place others (register-below n writable) closed) is
operand-front Register aa at (negsuc n) rest place others writable low closed is = absurd (register-unsigned n writable)
operand-front Value aa at (pos n) rest place others writable low closed is =
    subst (λ (digits : List ℕ). tokens_from rest 0 (place + length digits) ≡ Ok others → tokens_from (digits ++ rest) 0 place ≡ Ok (token_of (Number n) place (length (decimal n)) ∷ others))
    (sym (unsigned-text n)) (decimal-front n rest place others (unsigned-below n writable) closed) is
    ∙ ap (λ (tokens : List Token). Ok (tokens ++ others)) (sym (unsigned-token n place))
operand-front Value aa at (negsuc n) rest place others writable low closed is = negative-front (suc n) rest place others (negative-below n writable) closed is
operand-front Target aa at z rest place others writable low closed is =
    token-front (short_hex (address_of_target aa at z)) rest (Number (address_of_target aa at z)) place others (omega arith) (short_hex-piece (address_of_target aa at z) rest (target-address-below aa at z writable low) closed) is
operand-front Upper aa at z rest place others writable low closed is = absurd writable

-- what stands behind an operand ends its last token: a mark, or nothing
behind-closed : (kind : Kind) (items : List Item) (aa : Bool) (at : ℕ) (zs : List ℤ) → is_separated (Operand kind ∷ items) ≡ true → IsClosed (operands_text items aa at zs)
unfolding operands_text
behind-closed kind [] aa at zs separated = refl
behind-closed kind (Operand other ∷ items) aa at zs separated = cc
behind-closed kind (Comma ∷ items) aa at zs separated = refl
behind-closed kind (Open ∷ items) aa at zs separated = refl
behind-closed kind (Close ∷ items) aa at zs separated = refl

-- what stands behind an operand is separated too
pub behind-separated : (kind : Kind) (items : List Item) → is_separated (Operand kind ∷ items) ≡ true → is_separated items ≡ true
behind-separated kind [] separated = refl
behind-separated kind (Operand other ∷ items) separated = cc
behind-separated kind (Comma ∷ items) separated = separated
behind-separated kind (Open ∷ items) separated = separated
behind-separated kind (Close ∷ items) separated = separated

-- the tokens of operands
pub operands-tokens : (items : List Item) (aa : Bool) (at : ℕ) (zs : List ℤ) (place : ℕ) → is_separated items ≡ true → AreWritable (kinds_of items) zs → at < 2 ^ 63 → tokens_from (operands_text items aa at zs) 0 place ≡ Ok (operands_tokens items aa at zs place)
unfolding operands_text operands_tokens tokens_from
operands-tokens [] aa at zs place separated writable low = refl
operands-tokens (Operand kind ∷ items) aa at [] place separated writable low = absurd writable
operands-tokens (Operand kind ∷ items) aa at (z ∷ zs) place separated writable low =
    operand-front kind aa at z (operands_text items aa at zs) place (operands_tokens items aa at zs (place + length (operand_text kind aa at z))) writable.0 low (behind-closed kind items aa at zs separated)
    (operands-tokens items aa at zs (place + length (operand_text kind aa at z)) (behind-separated kind items separated) writable.1 low)
operands-tokens (Comma ∷ items) aa at zs place separated writable low = comma-tokens (operands_text items aa at zs) place ∙ ap (with_first (token_of CommaToken place 1)) (operands-tokens items aa at zs (place + 1) separated writable low)
operands-tokens (Open ∷ items) aa at zs place separated writable low = open-tokens (operands_text items aa at zs) place ∙ ap (with_first (token_of OpenToken place 1)) (operands-tokens items aa at zs (place + 1) separated writable low)
operands-tokens (Close ∷ items) aa at zs place separated writable low = close-tokens (operands_text items aa at zs) place ∙ ap (with_first (token_of CloseToken place 1)) (operands-tokens items aa at zs (place + 1) separated writable low)

-- tokens behind a blank
behind-tokens : (text : List ℕ) (tokens : List Token) (place : ℕ) → tokens_from text 0 (place + 1) ≡ Ok tokens → tokens_from (behind_name text) 0 place ≡ Ok tokens
unfolding tokens_from
behind-tokens [] tokens place is = is
behind-tokens (byte ∷ bytes) tokens place is = blank-tokens (byte ∷ bytes) place ∙ is

-- the tokens of operands behind a name, from the blank before them on
pub behind_name-tokens : (items : List Item) (aa : Bool) (at : ℕ) (zs : List ℤ) (place : ℕ) → is_separated items ≡ true → AreWritable (kinds_of items) zs → at < 2 ^ 63 → tokens_from (behind_name (operands_text items aa at zs)) 0 place ≡ Ok (operands_tokens items aa at zs (place + 1))
behind_name-tokens items aa at zs place separated writable low =
    behind-tokens (operands_text items aa at zs) (operands_tokens items aa at zs (place + 1)) place (operands-tokens items aa at zs (place + 1) separated writable low)

-- an operand's text has at most 22 bytes
operand-short : (kind : Kind) (aa : Bool) (at : ℕ) (z : ℤ) → IsWritable kind z → length (operand_text kind aa at z) ≤ 22
operand-short Register aa at (pos n) writable = let below = register-below n writable in omega (arith, ap length (unsigned-text n), decimal-short n (omega arith))
operand-short Register aa at (negsuc n) writable = absurd (register-unsigned n writable)
operand-short Value aa at (pos n) writable = omega (arith, ap length (unsigned-text n), decimal-short n (unsigned-below n writable))
operand-short Value aa at (negsuc n) writable = omega (arith, decimal-short (suc n) (negative-below n writable))
operand-short Target aa at z writable = omega (arith, short_hex-short (address_of_target aa at z))
operand-short Upper aa at z writable = absurd writable

-- the text of operands, without the blank before them, has at most 22 bytes for each item
texts-short : (items : List Item) (aa : Bool) (at : ℕ) (zs : List ℤ) → AreWritable (kinds_of items) zs → length (operands_text items aa at zs) ≤ 22 * length items
unfolding operands_text
texts-short [] aa at zs writable = omega arith
texts-short (Operand kind ∷ items) aa at [] writable = absurd writable
texts-short (Operand kind ∷ items) aa at (z ∷ zs) writable =
    omega (arith, length-append (operand_text kind aa at z) (operands_text items aa at zs), operand-short kind aa at z writable.0, texts-short items aa at zs writable.1)
texts-short (Comma ∷ items) aa at zs writable = omega (arith, texts-short items aa at zs writable)
texts-short (Open ∷ items) aa at zs writable = omega (arith, texts-short items aa at zs writable)
texts-short (Close ∷ items) aa at zs writable = omega (arith, texts-short items aa at zs writable)

-- a text behind a blank has at most one byte more
behind-short : (text : List ℕ) (most : ℕ) → length text ≤ most → length (behind_name text) ≤ most + 1
behind-short [] most short = omega arith
behind-short (byte ∷ bytes) most short = omega arith

-- the text of operands behind a blank has at most 22 bytes for each item, and one
pub operands-short : (items : List Item) (aa : Bool) (at : ℕ) (zs : List ℤ) → AreWritable (kinds_of items) zs → length (behind_name (operands_text items aa at zs)) ≤ 22 * length items + 1
operands-short items aa at zs writable = behind-short (operands_text items aa at zs) (22 * length items) (texts-short items aa at zs writable)

-- a number without a sign has no line feed
unsigned-no_feed : (n : ℕ) → n < 2 ^ 64 → has_no_feed (signed_decimal (pos n)) ≡ true
unsigned-no_feed n below = ap has_no_feed (unsigned-text n) ∙ of_word-no_feed (decimal n) (decimal-of_word n below)

-- the text of an operand has no line feed
operand-no_feed : (kind : Kind) (aa : Bool) (at : ℕ) (z : ℤ) → IsWritable kind z → has_no_feed (operand_text kind aa at z) ≡ true
operand-no_feed Register aa at (pos n) writable = let below = register-below n writable in unsigned-no_feed n (omega arith)
operand-no_feed Register aa at (negsuc n) writable = absurd (register-unsigned n writable)
operand-no_feed Value aa at (pos n) writable = unsigned-no_feed n (unsigned-below n writable)
operand-no_feed Value aa at (negsuc n) writable = of_word-no_feed (decimal (suc n)) (decimal-of_word (suc n) (negative-below n writable))
operand-no_feed Target aa at z writable = of_word-no_feed (short_hex (address_of_target aa at z)) (short_hex-of_word (address_of_target aa at z))
operand-no_feed Upper aa at z writable = absurd writable

-- the text of operands, without the blank before them, has no line feed
texts-no_feed : (items : List Item) (aa : Bool) (at : ℕ) (zs : List ℤ) → AreWritable (kinds_of items) zs → has_no_feed (operands_text items aa at zs) ≡ true
unfolding operands_text
texts-no_feed [] aa at zs writable = refl
texts-no_feed (Operand kind ∷ items) aa at [] writable = absurd writable
texts-no_feed (Operand kind ∷ items) aa at (z ∷ zs) writable =
    append-no_feed (operand_text kind aa at z) (operands_text items aa at zs) (operand-no_feed kind aa at z writable.0) (texts-no_feed items aa at zs writable.1)
texts-no_feed (Comma ∷ items) aa at zs writable = texts-no_feed items aa at zs writable
texts-no_feed (Open ∷ items) aa at zs writable = texts-no_feed items aa at zs writable
texts-no_feed (Close ∷ items) aa at zs writable = texts-no_feed items aa at zs writable

-- a text behind a blank has no line feed where the text has none
behind-no_feed : (text : List ℕ) → has_no_feed text ≡ true → has_no_feed (behind_name text) ≡ true
behind-no_feed [] all = refl
behind-no_feed (byte ∷ bytes) all = all

-- the text of operands behind a blank has no line feed
pub operands-no_feed : (items : List Item) (aa : Bool) (at : ℕ) (zs : List ℤ) → AreWritable (kinds_of items) zs → has_no_feed (behind_name (operands_text items aa at zs)) ≡ true
operands-no_feed items aa at zs writable = behind-no_feed (operands_text items aa at zs) (texts-no_feed items aa at zs writable)
