-- What the tokens of a line are, of the definitions alone.
use Rattle.std.proofs.Common.{get_or, ◌≡◌, ℕ, zero, suc, ◌+◌, ◌<◌, ◌≤◌, List, [], ◌∷◌, length, Result, Ok, Err, IfOk, arith, refl, subst}
use Rattle.std.specs.List.{All}
use Rattle.mw_text.specs.declared.token.Token.{Token}
use Rattle.mw_text.specs.declared.piece.Piece.{Piece}
use Rattle.mw_text.specs.declared.piece.Piece.TheVariants.{Blank, Comment, Found, Bad}
use Rattle.mw_text.specs.Pieces.{piece_at, FitsPiece}
use Rattle.mw_text.specs.Lines.{IsSpan, in_front, more_of, tokens_from, tokens_of, AreSpans}
use Rattle.mw_text.proofs.PieceLemmas.{piece_at-fits}

-- spans that rise from a place rise from those before it
AreSpans-lower : (low before high : ℕ) (tokens : List Token) → before ≤ low → AreSpans low high tokens → AreSpans before high tokens
AreSpans-lower low before high [] lower are = omega arith
AreSpans-lower low before high (token ∷ others) lower are = (omega arith, are.1, are.2)

-- the spans of a piece and of what is behind it
in_front-spans : (piece : Piece) (place size high most : ℕ) (others : Result (List Token) ℕ) → FitsPiece most piece → size ≡ suc (more_of piece) → place + size ≤ high → IfOk others (AreSpans (place + size) high) → IfOk (in_front piece place others) (AreSpans place high)
in_front-spans Blank place size high most (Ok tokens) fits sized within are = AreSpans-lower (place + size) place high tokens (omega arith) are
in_front-spans Blank place size high most (Err column) fits sized within are = tt
in_front-spans Comment place size high most others fits sized within are = omega arith
in_front-spans (Found kind length) place size high most (Ok tokens) fits sized within are =
    (omega arith, omega arith, AreSpans-lower (place + size) (place + length) high tokens (omega arith) are)
in_front-spans (Found kind length) place size high most (Err column) fits sized within are = tt
in_front-spans Bad place size high most others fits sized within are = tt

-- a piece's bytes are those of the rest
pub more_of-within : (most : ℕ) (piece : Piece) → 0 < most → FitsPiece most piece → more_of piece < most
more_of-within most Blank some fits = some
more_of-within most Comment some fits = some
more_of-within most (Found kind length) some fits = omega arith
more_of-within most Bad some fits = some

-- the spans of the tokens of the rest of a line
pub tokens_from-spans : (rest : List ℕ) (skip place high : ℕ) → skip ≤ length rest → high ≡ place + length rest → IfOk (tokens_from rest skip place) (AreSpans (place + skip) high)
unfolding tokens_from
tokens_from-spans [] skip place high within ends = omega arith
tokens_from-spans (byte ∷ rest) (suc skip) place high within ends =
    let there = tokens_from-spans rest skip (place + 1) high (omega arith) (omega arith) in
    let same : place + 1 + skip ≡ place + suc skip = omega arith in
    subst (λ (low : ℕ). IfOk (tokens_from rest skip (place + 1)) (AreSpans low high)) same there
tokens_from-spans (byte ∷ rest) zero place high within ends =
    let piece : Piece = piece_at (byte ∷ rest) in
    let fits : FitsPiece (length (byte ∷ rest)) piece = piece_at-fits (byte ∷ rest) in
    let room : more_of piece < length (byte ∷ rest) = more_of-within _ piece (omega arith) fits in
    let there = tokens_from-spans rest (more_of piece) (place + 1) high (omega arith) (omega arith) in
    let same : place + 1 + more_of piece ≡ place + suc (more_of piece) = omega arith in
    let behind = subst (λ (low : ℕ). IfOk (tokens_from rest (more_of piece) (place + 1)) (AreSpans low high)) same there in
    let others : Result (List Token) ℕ = tokens_from rest (more_of piece) (place + 1) in
    let here = in_front-spans piece place (suc (more_of piece)) high (length (byte ∷ rest)) others fits refl (omega arith) behind in
    let start : place ≡ place + 0 = omega arith in
    subst (λ (low : ℕ). IfOk (in_front piece place (tokens_from rest (more_of piece) (place + 1))) (AreSpans low high)) start here

-- the spans of a line's tokens rise, and lie in the line
pub tokens_of-spans : (line : List ℕ) (tokens : List Token) → tokens_of line ≡ Ok tokens → AreSpans 0 (length line) tokens
tokens_of-spans line tokens are =
    let all = tokens_from-spans line 0 0 (length line) (omega arith) (omega arith) in
    subst (λ (r : Result (List Token) ℕ). IfOk r (AreSpans 0 (length line))) are all

-- spans that rise leave their bounds in order
AreSpans-bounds : (low high : ℕ) (tokens : List Token) → AreSpans low high tokens → low ≤ high
AreSpans-bounds low high [] are = are
AreSpans-bounds low high (token ∷ others) are =
    let behind = AreSpans-bounds token.to high others are.2 in
    omega arith

-- each of spans that rise has a byte, and ends by the bound
pub AreSpans-at : (low high : ℕ) (tokens : List Token) → AreSpans low high tokens → (k : ℕ) (d : Token) → k < length tokens → IsSpan high (get_or tokens k d)
AreSpans-at low high [] are k d below = absurd (omega arith)
AreSpans-at low high (token ∷ others) are zero d below = (are.1, AreSpans-bounds token.to high others are.2)
AreSpans-at low high (token ∷ others) are (suc k) d below = AreSpans-at token.to high others are.2 k d (omega arith)

-- each of a line's tokens has a byte, and ends in the line
pub tokens_of-within : (line : List ℕ) (tokens : List Token) → tokens_of line ≡ Ok tokens → All (IsSpan (length line)) tokens
tokens_of-within line tokens are = AreSpans-at 0 (length line) tokens (tokens_of-spans line tokens are)
