-- The tokens of a line.
use Rattle.std.specs.Prelude.{◌≡◌, ⊤, ℕ, zero, suc, ◌+◌, ◌-◌, ◌<◌, ◌≤◌, ◌==◌, Bool, true, ◌&&◌, ◌||◌, IsTrue, List, [], ◌∷◌, length, take, drop, Result, Ok, Err}
use Rattle.std.specs.List.{list_all}
use Rattle.mw_text.specs.declared.token.Token.{Token}
use Rattle.mw_text.specs.declared.piece.Piece.{Piece}
use Rattle.mw_text.specs.declared.piece.Piece.TheVariants.{Blank, Comment, Found, Bad}
use Rattle.mw_text.specs.declared.line.LineFault.{LineFault}
use Rattle.mw_text.specs.declared.line.LineFault.TheVariants.{Bad as BadColumn, NoMemory}
use Rattle.mw_text.specs.Pieces.{is_blank, piece_at}

-- a token in front of others, unless those are refused
abbrev pub with_first : Token → Result (List Token) ℕ → Result (List Token) ℕ
with_first token (Ok others) = Ok (token ∷ others)
with_first token (Err column) = Err column

-- what a piece at this place gives, in front of what the bytes behind it give
abbrev pub in_front : Piece → ℕ → Result (List Token) ℕ → Result (List Token) ℕ
in_front Blank place others = others
in_front Comment place others = Ok []
in_front (Found kind length) place others = with_first (record { kind = kind; from = place; to = place + length }) others
in_front Bad place others = Err (place + 1)

-- how many bytes a piece has behind its first
abbrev pub more_of : Piece → ℕ
more_of (Found kind length) = length - 1
more_of Blank = 0
more_of Comment = 0
more_of Bad = 0

-- the tokens of the rest of a line, which begins at this place and whose first `skip` bytes belong to the token before, or the refused column
unfoldable pub tokens_from : List ℕ → ℕ → ℕ → Result (List Token) ℕ
tokens_from [] skip place = Ok []
tokens_from (byte ∷ rest) (suc skip) place = tokens_from rest skip (place + 1)
tokens_from (byte ∷ rest) zero place = in_front (piece_at (byte ∷ rest)) place (tokens_from rest (more_of (piece_at (byte ∷ rest))) (place + 1))

-- the tokens of a line, or the first column at which none stands or a number above 64 bits begins
abbrev pub tokens_of : List ℕ → Result (List Token) ℕ
tokens_of line = tokens_from line 0 0

-- a fact on the column of a bad byte; want of memory says nothing
abbrev pub IfBad : LineFault → (ℕ → Type 0) → Type 0
IfBad (BadColumn column) P = P column
IfBad NoMemory P = ⊤

-- the tokens' spans rise from `low` on, none is empty, and they end by `high`
abbrev pub AreSpans : ℕ → ℕ → List Token → Type 0
AreSpans low high [] = low ≤ high
AreSpans low high (token ∷ others) = (low ≤ token.from) × (token.from < token.to) × AreSpans token.to high others

-- a token has a byte, and ends by `high`
abbrev pub IsSpan : ℕ → Token → Type 0
IsSpan high token = (token.from < token.to) × (token.to ≤ high)

-- only blanks stand between two places of a line
abbrev pub are_blank : List ℕ → ℕ → ℕ → Bool
are_blank line low high = list_all is_blank (take (high - low) (drop low line))

-- nothing but blanks, and then a comment where anything is left
abbrev pub is_bare : List ℕ → Bool
is_bare [] = true
is_bare (byte ∷ rest) = byte == 35 || is_blank byte && is_bare rest

-- only blanks stand before each token, each is what stands at its place, and behind the last stand only blanks and a comment
abbrev pub AreTokens : List ℕ → ℕ → List Token → Type 0
AreTokens line low [] = IsTrue (is_bare (drop low line))
AreTokens line low (token ∷ others) =
    IsTrue (are_blank line low token.from) × (piece_at (drop token.from line) ≡ Found token.kind (token.to - token.from)) × AreTokens line token.to others

-- a refused column is one of the line's, and no token stands at its byte
abbrev pub IsRefused : List ℕ → ℕ → Type 0
IsRefused line column = (1 ≤ column) × (column ≤ length line) × (piece_at (drop (column - 1) line) ≡ Bad)
