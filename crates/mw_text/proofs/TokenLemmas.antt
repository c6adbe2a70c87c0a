-- What stands between the tokens of a line, at each of them, and where a line is refused: of the definitions alone.
use Rattle.std.proofs.Common.{get_or, ◌≡◌, ℕ, zero, suc, ◌+◌, ◌-◌, ◌<◌, ◌≤◌, Bool, true, false, List, [], ◌∷◌, length, take, drop, Result, Ok, Err, IfOk, arith, rules, refl, sym, ap, ◌∙◌, subst, length-drop}
use Rattle.std.specs.Prelude.{if◌then◌else◌, ◌==◌, ◌||◌, ◌&&◌, slice_index, IfErr}
use Rattle.std.specs.List.{list_all, prefix_len}
use Rattle.std.specs.Char.{is_ascii_digit}
use Rattle.std.proofs.lemmas.List.{drop_more, drop-drop}
use Rattle.mw_text.specs.declared.token.Token.{Token}
use Rattle.mw_text.specs.declared.token.TokenKind.TheVariants.{Word, Number}
use Rattle.mw_text.specs.declared.piece.Piece.{Piece}
use Rattle.mw_text.specs.declared.piece.Piece.TheVariants.{Blank, Comment, Found, Bad}
use Rattle.mw_text.specs.Pieces.{is_blank, is_of_word, begins_word, begins_hexadecimal, decimal_piece, hexadecimal_piece, mark_piece, number_piece, piece_at, FitsPiece}
use Rattle.mw_text.specs.Lines.{in_front, is_bare, more_of, tokens_from, tokens_of, AreSpans, AreTokens, IsRefused}
use Rattle.mw_text.proofs.PieceLemmas.{piece_at-fits}
use Rattle.mw_text.proofs.SpanLemmas.{tokens_from-spans, more_of-within}

-- a blank is a blank byte, and a comment's first byte is `#`
abbrev Tells : ℕ → Piece → Type 0
Tells byte Blank = is_blank byte ≡ true
Tells byte Comment = (byte == 35) ≡ true
Tells byte (Found kind length) = Unit {0}
Tells byte Bad = Unit {0}

-- one of two pieces tells of a byte what each tells
choice : (byte : ℕ) (b : Bool) (p q : Piece) → (b ≡ true → Tells byte p) → (b ≡ false → Tells byte q) → Tells byte (if b then p else q)
choice byte true p q holds fails = holds refl
choice byte false p q holds fails = fails refl

-- a number is neither a blank nor a comment
number-tells : (byte length value : ℕ) → Tells byte (number_piece length value)
number-tells byte length value = choice byte _ (Found (Number value) length) Bad (λ _. tt) (λ _. tt)

decimal-tells : (byte : ℕ) (rest : List ℕ) → Tells byte (decimal_piece rest)
unfolding decimal_piece
decimal-tells byte rest = number-tells byte _ _

hexadecimal-tells : (byte : ℕ) (rest : List ℕ) → Tells byte (hexadecimal_piece rest)
unfolding hexadecimal_piece
hexadecimal-tells byte rest = number-tells byte _ _

-- a mark is neither a blank nor a comment
mark-tells : (byte : ℕ) → Tells byte (mark_piece byte)
mark-tells byte = search rules

-- what the piece at the front tells of the first byte
piece_at-tells : (rest : List ℕ) → Tells (slice_index rest 0) (piece_at rest)
unfolding piece_at
piece_at-tells rest =
    let first : ℕ = slice_index rest 0 in
    choice first (is_blank first) Blank _ (λ e. e)
    (λ _. choice first (first == 35) Comment _ (λ e. e)
    (λ _. choice first (begins_word rest) (Found Word (prefix_len is_of_word rest)) _ (λ _. tt)
    (λ _. choice first (begins_hexadecimal rest) (hexadecimal_piece rest) _ (λ _. hexadecimal-tells first rest)
    (λ _. choice first (is_ascii_digit first) (decimal_piece rest) _ (λ _. decimal-tells first rest)
    (λ _. mark-tells first)))))

-- a blank before blanks
all-more : (byte : ℕ) (rest : List ℕ) (k : ℕ) → is_blank byte ≡ true → list_all is_blank (take k rest) ≡ true → list_all is_blank (take (suc k) (byte ∷ rest)) ≡ true
all-more byte rest k here there = ap (λ (b : Bool). b && list_all is_blank (take k rest)) here ∙ there

-- `or` of a true second
or-true : (a b : Bool) → b ≡ true → (a || b) ≡ true
or-true true b is = refl
or-true false b is = is

-- a blank before nothing but blanks and a comment
bare-more : (byte : ℕ) (rest : List ℕ) → is_blank byte ≡ true → is_bare rest ≡ true → is_bare (byte ∷ rest) ≡ true
bare-more byte rest here there = or-true (byte == 35) (is_blank byte && is_bare rest) (ap (λ (b : Bool). b && is_bare rest) here ∙ there)

-- the bytes from a place on begin with the byte there
opened : (line : List ℕ) (place : ℕ) → place < length line → drop place line ≡ slice_index (drop place line) 0 ∷ drop (place + 1) line
opened line place within =
    let more = drop_more line place 0 within in
    let first : slice_index (drop place line) 0 ≡ get_or line place 0 = ap (λ (rest : List ℕ). slice_index rest 0) more in
    more ∙ ap (λ byte. byte ∷ drop (place + 1) line) (sym first)

-- a blank before tokens
AreTokens-before : (line : List ℕ) (place high : ℕ) (tokens : List Token) → place < length line → is_blank (slice_index (drop place line) 0) ≡ true → AreSpans (place + 1) high tokens → AreTokens line (place + 1) tokens → AreTokens line place tokens
AreTokens-before line place high [] within blank spans are =
    subst (λ (rest : List ℕ). is_bare rest ≡ true) (sym (opened line place within)) (bare-more (slice_index (drop place line) 0) (drop (place + 1) line) blank are)
AreTokens-before line place high (token ∷ others) within blank spans are =
    let count : token.from - place ≡ suc (token.from - (place + 1)) = omega arith in
    let there : list_all is_blank (take (suc (token.from - (place + 1))) (slice_index (drop place line) 0 ∷ drop (place + 1) line)) ≡ true = all-more (slice_index (drop place line) 0) (drop (place + 1) line) (token.from - (place + 1)) blank are.0 in
    let here : list_all is_blank (take (token.from - place) (drop place line)) ≡ true =
    ap (λ (n : ℕ). list_all is_blank (take n (drop place line))) count
    ∙ ap (λ (rest : List ℕ). list_all is_blank (take (suc (token.from - (place + 1))) rest)) (opened line place within)
    ∙ there in
    (here, are.1, are.2)

-- a comment alone
bare-comment : (line : List ℕ) (place : ℕ) → place < length line → (slice_index (drop place line) 0 == 35) ≡ true → is_bare (drop place line) ≡ true
bare-comment line place within is =
    let begins : is_bare (slice_index (drop place line) 0 ∷ drop (place + 1) line) ≡ true = ap (λ (b : Bool). b || is_blank (slice_index (drop place line) 0) && is_bare (drop (place + 1) line)) is in
    subst (λ (rest : List ℕ). is_bare rest ≡ true) (sym (opened line place within)) begins

-- the tokens of a piece and of what is behind it
in_front-tokens : (line : List ℕ) (piece : Piece) (place size most high : ℕ) (others : Result (List Token) ℕ) → piece_at (drop place line) ≡ piece → Tells (slice_index (drop place line) 0) piece → place < length line → FitsPiece most piece → size ≡ suc (more_of piece) → IfOk others (AreSpans (place + size) high) → IfOk others (AreTokens line (place + size)) → IfOk (in_front piece place others) (AreTokens line place)
in_front-tokens line Blank place size most high (Ok tokens) is tells within fits sized spans are =
    let next : place + size ≡ place + 1 = omega arith in
    AreTokens-before line place high tokens within tells (subst (λ (at : ℕ). AreSpans at high tokens) next spans) (subst (λ (at : ℕ). AreTokens line at tokens) next are)
in_front-tokens line Blank place size most high (Err column) is tells within fits sized spans are = tt
in_front-tokens line Comment place size most high others is tells within fits sized spans are = bare-comment line place within tells
in_front-tokens line (Found kind length) place size most high (Ok tokens) is tells within fits sized spans are =
    let none : place - place ≡ 0 = omega arith in
    let count : length ≡ (place + length) - place = omega arith in
    let next : place + size ≡ place + length = omega arith in
    (ap (λ (n : ℕ). list_all is_blank (take n (drop place line))) none, is ∙ ap (λ (n : ℕ). Found kind n) count, subst (λ (at : ℕ). AreTokens line at tokens) next are)
in_front-tokens line (Found kind length) place size most high (Err column) is tells within fits sized spans are = tt
in_front-tokens line Bad place size most high others is tells within fits sized spans are = tt

-- the bytes behind a byte of a line
behind : (line : List ℕ) (place : ℕ) (byte : ℕ) (rest : List ℕ) → drop place line ≡ byte ∷ rest → drop (place + 1) line ≡ rest
behind line place byte rest is = sym (drop-drop 1 place line) ∙ ap (λ (all : List ℕ). drop 1 all) is

-- a place with a byte is in the line
inside : (line : List ℕ) (place : ℕ) (byte : ℕ) (rest : List ℕ) → drop place line ≡ byte ∷ rest → place < length line
inside line place byte rest is = omega (arith, length-drop place line, ap (λ (all : List ℕ). length all) is)

-- the tokens of the rest of a line
tokens_from-tokens : (line rest : List ℕ) (skip place : ℕ) → drop place line ≡ rest → skip ≤ length rest → IfOk (tokens_from rest skip place) (AreTokens line (place + skip))
unfolding tokens_from
tokens_from-tokens line [] skip place is within =
    let same : place ≡ place + skip = omega arith in
    subst (λ (at : ℕ). is_bare (drop at line) ≡ true) same (ap is_bare is)
tokens_from-tokens line (byte ∷ rest) (suc skip) place is within =
    let there = tokens_from-tokens line rest skip (place + 1) (behind line place byte rest is) (omega arith) in
    let same : place + 1 + skip ≡ place + suc skip = omega arith in
    subst (λ (low : ℕ). IfOk (tokens_from rest skip (place + 1)) (AreTokens line low)) same there
tokens_from-tokens line (byte ∷ rest) zero place is within =
    let piece : Piece = piece_at (byte ∷ rest) in
    let high : ℕ = length (byte ∷ rest) in
    let fits : FitsPiece high piece = piece_at-fits (byte ∷ rest) in
    let room : more_of piece < high = more_of-within high piece (omega arith) fits in
    let end : ℕ = place + 1 + length rest in
    let spans = tokens_from-spans rest (more_of piece) (place + 1) end (omega arith) refl in
    let there = tokens_from-tokens line rest (more_of piece) (place + 1) (behind line place byte rest is) (omega arith) in
    let same : place + 1 + more_of piece ≡ place + suc (more_of piece) = omega arith in
    let others : Result (List Token) ℕ = tokens_from rest (more_of piece) (place + 1) in
    let told : Tells (slice_index (drop place line) 0) piece = subst (λ (all : List ℕ). Tells (slice_index all 0) piece) (sym is) (piece_at-tells (byte ∷ rest)) in
    let here = in_front-tokens line piece place (suc (more_of piece)) high end others (ap piece_at is) told (inside line place byte rest is) fits refl
    (subst (λ (low : ℕ). IfOk others (AreSpans low end)) same spans)
    (subst (λ (low : ℕ). IfOk others (AreTokens line low)) same there) in
    let start : place ≡ place + 0 = omega arith in
    subst (λ (low : ℕ). IfOk (in_front piece place others) (AreTokens line low)) start here

-- each token of a line is what stands at its place, only blanks stand before it, and behind the last only blanks and a comment
pub tokens_of-tokens : (line : List ℕ) (tokens : List Token) → tokens_of line ≡ Ok tokens → AreTokens line 0 tokens
tokens_of-tokens line tokens are =
    let all = tokens_from-tokens line line 0 0 refl (omega arith) in
    subst (λ (r : Result (List Token) ℕ). IfOk r (AreTokens line 0)) are all

-- a column above `low` and at most `high` at which no token stands
record IsRefusedFrom (line : List ℕ) (low high column : ℕ) : Type 0 where
  above : low < column
  within : column ≤ high
  is : piece_at (drop (column - 1) line) ≡ Bad

-- a column above a place is above those before it
IsRefusedFrom-lower : (line : List ℕ) (low before high column : ℕ) → before ≤ low → IsRefusedFrom line low high column → IsRefusedFrom line before high column
IsRefusedFrom-lower line low before high column lower refused = record { above = omega arith; within = refused.within; is = refused.is }

-- the refused column of a piece and of what is behind it
in_front-refused : (line : List ℕ) (piece : Piece) (place size high : ℕ) (others : Result (List Token) ℕ) → piece_at (drop place line) ≡ piece → place < high → size ≡ suc (more_of piece) → IfErr others (IsRefusedFrom line (place + size) high) → IfErr (in_front piece place others) (IsRefusedFrom line place high)
in_front-refused line Blank place size high (Ok tokens) is within sized refused = tt
in_front-refused line Blank place size high (Err column) is within sized refused = IsRefusedFrom-lower line (place + size) place high column (omega arith) refused
in_front-refused line Comment place size high others is within sized refused = tt
in_front-refused line (Found kind length) place size high (Ok tokens) is within sized refused = tt
in_front-refused line (Found kind length) place size high (Err column) is within sized refused = IsRefusedFrom-lower line (place + size) place high column (omega arith) refused
in_front-refused line Bad place size high others is within sized refused =
    let back : (place + 1) - 1 ≡ place = omega arith in
    record { above = omega arith; within = omega arith; is = ap (λ (at : ℕ). piece_at (drop at line)) back ∙ is }

-- the refused column of the rest of a line
tokens_from-refused : (line rest : List ℕ) (skip place high : ℕ) → drop place line ≡ rest → skip ≤ length rest → high ≡ place + length rest → IfErr (tokens_from rest skip place) (IsRefusedFrom line (place + skip) high)
unfolding tokens_from
tokens_from-refused line [] skip place high is within ends = tt
tokens_from-refused line (byte ∷ rest) (suc skip) place high is within ends =
    let there = tokens_from-refused line rest skip (place + 1) high (behind line place byte rest is) (omega arith) (omega arith) in
    let same : place + 1 + skip ≡ place + suc skip = omega arith in
    subst (λ (low : ℕ). IfErr (tokens_from rest skip (place + 1)) (IsRefusedFrom line low high)) same there
tokens_from-refused line (byte ∷ rest) zero place high is within ends =
    let piece : Piece = piece_at (byte ∷ rest) in
    let room : more_of piece < length (byte ∷ rest) = more_of-within (length (byte ∷ rest)) piece (omega arith) (piece_at-fits (byte ∷ rest)) in
    let others : Result (List Token) ℕ = tokens_from rest (more_of piece) (place + 1) in
    let there = tokens_from-refused line rest (more_of piece) (place + 1) high (behind line place byte rest is) (omega arith) (omega arith) in
    let same : place + 1 + more_of piece ≡ place + suc (more_of piece) = omega arith in
    let here = in_front-refused line piece place (suc (more_of piece)) high others (ap piece_at is) (omega arith) refl
    (subst (λ (low : ℕ). IfErr others (IsRefusedFrom line low high)) same there) in
    let start : place ≡ place + 0 = omega arith in
    subst (λ (low : ℕ). IfErr (in_front piece place others) (IsRefusedFrom line low high)) start here

-- a refused column is one of the line's, and no token stands at its byte
pub tokens_of-refused : (line : List ℕ) (column : ℕ) → tokens_of line ≡ Err column → IsRefused line column
tokens_of-refused line column is =
    let all = tokens_from-refused line line 0 0 (length line) refl (omega arith) (omega arith) in
    let one : IsRefusedFrom line 0 (length line) column = subst (λ (r : Result (List Token) ℕ). IfErr r (IsRefusedFrom line 0 (length line))) is all in
    (omega arith, one.within, one.is)
