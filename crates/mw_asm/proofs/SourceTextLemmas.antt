-- A statement behind `.org`, and a `.long`: what a source of them assembles to.
use Rattle.std.proofs.Common.{◌≡◌, ℕ, ◌+◌, ◌%◌, ◌^◌, ◌<◌, ◌≤◌, true, List, [], if◌then◌else◌, Some, None, ◌∷◌, ◌++◌, Result, Ok, Err, length, refl, sym, ap, subst, ◌∙◌, codes, decimal, replicate, arith, length-append, append_assoc, mod-eq_of_lt}
use Rattle.std.specs.Prelude.{pos, nat_lt}
use Rattle.std.specs.Hash.{le_bytes}
use Rattle.std.proofs.lemmas.Bool.{cond-true, cond-false, lt-ltb, le-ltb}
use Rattle.std.proofs.lemmas.List.{append-nil, length-replicate}
use Rattle.mw_text.specs.declared.token.TokenKind.TheVariants.{Word, Number}
use Rattle.mw_text.specs.declared.piece.Piece.TheVariants.{Found}
use Rattle.mw_text.specs.Pieces.{piece_at}
use Rattle.mw_text.specs.Lines.{with_first, tokens_from, tokens_of}
use Rattle.mw_text.specs.Texts.{is_word}
use Rattle.mw_syntax.specs.declared.expression.Base.TheVariants.{Number as BaseNumber}
use Rattle.mw_syntax.specs.declared.expression.Addend.TheVariants.{Nothing as NoAddend}
use Rattle.mw_syntax.specs.declared.expression.Expression.{Expression}
use Rattle.mw_syntax.specs.declared.fault.What.TheVariants.{Range, Org as OrgFault, TooLong}
use Rattle.mw_syntax.specs.declared.fault.Refusal.{Refusal}
use Rattle.mw_syntax.specs.declared.statement.Unit.TheVariants.{Long}
use Rattle.mw_syntax.specs.declared.statement.Statement.TheVariants.{Org, Data}
use Rattle.mw_syntax.specs.Expressions.{expression_at}
use Rattle.mw_syntax.specs.Lines.{refusal, values_at, line_in, line_of}
use Rattle.mw_asm.specs.Values.{word_bytes, fits_unit, value_by, and_bytes, data_bytes}
use Rattle.mw_asm.specs.Assembled.{org_by, behind_bytes, at_address, first_by, second_by, first_line, second_line, image_limit, source_limit, assembled}
use Rattle.mw_asm.specs.Passes.{start}
use Rattle.mw_asm.specs.Again.{AssemblesTo}
use Rattle.mw_digits.specs.Digits.{hex}
use Rattle.mw_digits.proofs.DigitLaws.{decimal-some, decimal-short, length-hex}
use Rattle.mw_asm.specs.Disassembly.{long_statement}
use Rattle.mw_asm.proofs.PrintedForms.{token_of, GivesBytes}
use Rattle.mw_asm.proofs.TokenTextLemmas.{word-piece, decimal-piece, hex-piece, piece-tokens, blank-tokens, decimal-of_word, hex-of_word, of_word-no_feed, append-no_feed}
use Rattle.mw_asm.proofs.GivenLinesLemmas.{source_of, given-assembled}

-- a text that is the last token
last-tokens : (text : List ℕ) (n place : ℕ) → 0 < length text → piece_at (text ++ []) ≡ Found (Number n) (length text) → tokens_from text 0 place ≡ Ok (token_of (Number n) place (length text) ∷ [])
unfolding tokens_from
last-tokens text n place some found = ap (λ (t : List ℕ). tokens_from t 0 place) (sym (append-nil text)) ∙ piece-tokens text [] (Number n) place some found

-- the tokens of a name, a blank and a number
name-number-tokens : (name text : List ℕ) (n : ℕ) → 0 < length name → is_word name ≡ true → 0 < length text → piece_at (text ++ []) ≡ Found (Number n) (length text) → tokens_of (name ++ 32 ∷ text) ≡ Ok (token_of Word 0 (length name) ∷ token_of (Number n) (length name + 1) (length text) ∷ [])
name-number-tokens name text n named is some found =
    piece-tokens name (32 ∷ text) Word 0 named (word-piece name (32 ∷ text) is refl)
    ∙ ap (with_first (token_of Word 0 (length name))) (ap (λ (at : ℕ). tokens_from (32 ∷ text) 0 at) (omega arith) ∙ blank-tokens text (length name) ∙ last-tokens text n (length name + 1) some found)

-- the expression of a number alone
abbrev number_expression : ℕ → ℕ → Expression
number_expression column n = record { column = column; base = BaseNumber n; addend = NoAddend }

-- an address in an image is a number that is read
image_below : (at : ℕ) → at ≤ image_limit → at < 2 ^ 64
image_below at inside = omega arith

-- `.org` and an address, as they are read
pub org-line : (at : ℕ) → at ≤ image_limit → line_of (codes ".org " ++ decimal at) ≡ Ok (record { label = None; statement = Org 1 (number_expression 6 at) })
unfolding line_of expression_at
org-line at inside = ap (line_in (codes ".org " ++ decimal at)) (name-number-tokens (codes ".org") (decimal at) at (omega arith) refl (decimal-some at) (decimal-piece at [] (image_below at inside) refl))

-- an address in the image is one that `.org` may move to from the start
org_by-inside : (at name : ℕ) (to : Expression) → at ≤ image_limit → org_by 0 name to (Some (pos at)) ≡ Ok at
org_by-inside at name to inside =
    cond-false (nat_lt at 0) (Err (refusal OrgFault to.column)) (if nat_lt image_limit at then Err (refusal TooLong name) else Ok at) (le-ltb at 0 (omega arith))
    ∙ cond-false (nat_lt image_limit at) (Err (refusal TooLong name)) (Ok at) (le-ltb image_limit at inside)

-- `.org` moves from the start to the address
pub org-first : (at : ℕ) → at ≤ image_limit → first_line start (codes ".org " ++ decimal at) ≡ Ok (record { at = at; known = [] })
unfolding first_line
org-first at inside =
    ap (first_by start (codes ".org " ++ decimal at)) (org-line at inside)
    ∙ ap (at_address []) (org_by-inside at 1 (number_expression 6 at) inside)

-- the second pass over an `.org` from the start gives zeros up to the address
pub org-second : (at : ℕ) → at ≤ image_limit → second_line [] 0 (codes ".org " ++ decimal at) ≡ Ok (replicate at 0)
unfolding second_line
org-second at inside =
    ap (second_by [] 0 (codes ".org " ++ decimal at)) (org-line at inside)
    ∙ ap (λ (n : ℕ). Ok (replicate n 0)) (omega arith)

-- the `.org` line is short
org-length : (at : ℕ) → at ≤ image_limit → length (codes ".org " ++ decimal at) ≤ 25
org-length at inside = omega (arith, decimal-short at (image_below at inside))

-- an `.org` line gives zeros from the start of an image up to its address
pub org-gives : (at : ℕ) → at ≤ image_limit → GivesBytes 0 (codes ".org " ++ decimal at) (replicate at 0)
org-gives at inside = record {
  short = omega (arith, org-length at inside);
  one = append-no_feed (codes ".org ") (decimal at) refl (of_word-no_feed (decimal at) (decimal-of_word at (image_below at inside)));
  first = org-first at inside ∙ ap (λ (n : ℕ). Ok (record { at = n; known = [] })) (omega (arith, length-replicate {A = ℕ} at 0));
  second = org-second at inside;
}

-- a short line behind an `.org` makes no source that is too long
org-source-short : (first second : List ℕ) → length first ≤ 25 → length second ≤ 1000 → length (source_of (first ∷ second ∷ [])) ≤ source_limit
org-source-short first second few short = simp length-append (omega arith)

-- a line gives its bytes behind as many zeros as its address says
gives-behind : (at : ℕ) (line bytes : List ℕ) → GivesBytes at line bytes → GivesBytes (0 + length (replicate {A = ℕ} at 0)) line bytes
gives-behind at line bytes gives = subst (λ (place : ℕ). GivesBytes place line bytes) (omega (arith, length-replicate {A = ℕ} at 0)) gives

-- a line behind `.org` with its address assembles to the line's bytes
pub gives-AssemblesTo : (at : ℕ) (line bytes : List ℕ) → at ≤ image_limit → GivesBytes at line bytes → AssemblesTo line at bytes
gives-AssemblesTo at line bytes inside gives =
    ap assembled (append_assoc (codes ".org " ++ decimal at) (10 ∷ line) (10 ∷ []))
    ∙ given-assembled ((codes ".org " ++ decimal at) ∷ line ∷ []) (replicate at 0 ∷ bytes ∷ []) (org-gives at inside, (gives-behind at line bytes gives, tt)) (org-source-short (codes ".org " ++ decimal at) line (org-length at inside) gives.short)
    ∙ ap (λ (bs : List ℕ). Ok (replicate at 0 ++ bs)) (append-nil bytes)

some-hex : (word : ℕ) → 0 < length (codes "0x" ++ hex 8 word)
some-hex word = omega arith

-- `.long` and a word, as they are read
long-line : (word : ℕ) → word < 2 ^ 32 → line_of (long_statement word) ≡ Ok (record { label = None; statement = Data 1 Long (number_expression 7 word ∷ []) })
unfolding line_of expression_at values_at
long-line word below = ap (line_in (long_statement word)) (name-number-tokens (codes ".long") (codes "0x" ++ hex 8 word) word (omega arith) refl (some-hex word) (hex-piece 8 word [] (omega arith) (omega arith) (omega arith) refl))

pub long-length : (word : ℕ) → length (word_bytes word) ≡ 4
unfolding le_bytes
long-length word = refl

-- four bytes that end in the image can be placed
bytes-inside : (at name : ℕ) → at + 4 ≤ image_limit → behind_bytes at name 4 ≡ Ok (at + 4)
bytes-inside at name room = cond-false (nat_lt image_limit (at + 4)) (Err (refusal TooLong name)) (Ok (at + 4)) (le-ltb image_limit (at + 4) room)

fits-long : (word : ℕ) → word < 2 ^ 32 → fits_unit Long (pos word) ≡ true
fits-long word below = lt-ltb word (2 ^ 32) below

-- a word fits a `.long`, which gives its bytes
long-value : (word : ℕ) (e : Expression) → word < 2 ^ 32 → value_by Long e (Some (pos word)) ≡ Ok (word_bytes word)
long-value word e below =
    cond-true (fits_unit Long (pos word)) (Ok (word_bytes (word % 2 ^ 32))) (Err (refusal Range e.column)) (fits-long word below)
    ∙ ap (λ (n : ℕ). Ok (word_bytes n)) (mod-eq_of_lt below)

-- the first pass over a `.long` moves by four bytes, and the second gives its word's bytes
long-first : (at word : ℕ) → word < 2 ^ 32 → at + 4 ≤ image_limit → first_line (record { at = at; known = [] }) (long_statement word) ≡ Ok (record { at = at + 4; known = [] })
unfolding first_line
long-first at word below room =
    ap (first_by (record { at = at; known = [] }) (long_statement word)) (long-line word below)
    ∙ ap (at_address []) (bytes-inside at 1 room)

long-second : (at word : ℕ) → word < 2 ^ 32 → second_line [] at (long_statement word) ≡ Ok (word_bytes word)
unfolding second_line data_bytes
long-second at word below =
    ap (second_by [] at (long_statement word)) (long-line word below)
    ∙ ap (λ (r : Result (List ℕ) Refusal). and_bytes r (Ok [])) (long-value word (number_expression 7 word) below)
    ∙ ap (λ (bs : List ℕ). Ok bs) (append-nil (word_bytes word))

-- a `.long` of a word gives the word's bytes
pub long-gives : (at word : ℕ) → word < 2 ^ 32 → at + 4 ≤ image_limit → GivesBytes at (long_statement word) (word_bytes word)
long-gives at word below room = record {
  short = omega (arith, length-hex 8 word);
  one = append-no_feed (codes ".long 0x") (hex 8 word) refl (of_word-no_feed (hex 8 word) (hex-of_word 8 word));
  first = long-first at word below room ∙ ap (λ (n : ℕ). Ok (record { at = at + n; known = [] })) (sym (long-length word));
  second = long-second at word below;
}
