-- The tokens of a line, piece by piece.
use Rattle.std.proofs.Common.{◌≡◌, ℕ, zero, suc, ◌+◌, ◌-◌, ◌<◌, ◌≤◌, List, [], ◌∷◌, ◌++◌, length, take, drop, Result, Ok, Err, arith, refl, sym, ap, ◌∙◌, append_assoc, length-drop}
use Rattle.std.proofs.lemmas.List.{append-nil, drop-drop, drop_all, take_rest}
use Rattle.mw_text.specs.declared.token.Token.{Token}
use Rattle.mw_text.specs.declared.token.TokenKind.{TokenKind}
use Rattle.mw_text.specs.declared.piece.Piece.{Piece}
use Rattle.mw_text.specs.declared.piece.Piece.TheVariants.{Blank, Comment, Found, Bad}
use Rattle.mw_text.specs.Pieces.{piece_at}
use Rattle.mw_text.specs.Lines.{in_front, more_of, tokens_from, with_first}

-- tokens in front of others, unless those are refused
abbrev pub with_tokens : List Token → Result (List Token) ℕ → Result (List Token) ℕ
with_tokens tokens (Ok others) = Ok (tokens ++ others)
with_tokens tokens (Err column) = Err column

-- a token is put behind tokens, or in front of the tokens behind them
with_tokens-push : (tokens : List Token) (token : Token) (others : Result (List Token) ℕ) → with_tokens (tokens ++ token ∷ []) others ≡ with_tokens tokens (with_first token others)
with_tokens-push tokens token (Ok others) = ap (λ (all : List Token). Ok all) (append_assoc tokens (token ∷ []) others)
with_tokens-push tokens token (Err column) = refl

-- tokens in front of none are the tokens
with_tokens-none : (tokens : List Token) → with_tokens tokens (Ok []) ≡ Ok tokens
with_tokens-none tokens = ap (λ (all : List Token). Ok all) (append-nil tokens)

-- bytes that are skipped
pub tokens_from-skip : (rest : List ℕ) (skip place : ℕ) → tokens_from rest skip place ≡ tokens_from (drop skip rest) 0 (place + skip)
unfolding tokens_from
tokens_from-skip [] zero place = refl
tokens_from-skip [] (suc skip) place = refl
tokens_from-skip (byte ∷ rest) zero place = ap (λ at. tokens_from (byte ∷ rest) 0 at) (omega arith)
tokens_from-skip (byte ∷ rest) (suc skip) place =
    tokens_from-skip rest skip (place + 1) ∙ ap (λ at. tokens_from (drop skip rest) 0 at) (omega arith)

-- the piece at the front, and what is behind it
pub tokens_from-front : (rest : List ℕ) (piece : Piece) (place size : ℕ) → 0 < length rest → piece_at rest ≡ piece → size ≡ suc (more_of piece) → tokens_from rest 0 place ≡ in_front piece place (tokens_from (drop size rest) 0 (place + size))
unfolding tokens_from
tokens_from-front [] piece place size some is sized = absurd (omega arith)
tokens_from-front (byte ∷ rest) piece place size some is sized =
    rw (is, sized) (ap (λ others. in_front piece place others) (tokens_from-skip rest (more_of piece) (place + 1) ∙ ap (λ at. tokens_from (drop (more_of piece) rest) 0 at) (omega arith)))

-- the piece at a place of a line, and what is behind it
front : (line : List ℕ) (at size : ℕ) (piece : Piece) → at < length line → piece ≡ piece_at (take (length line - at) (drop at line)) → size ≡ suc (more_of piece) → tokens_from (drop at line) 0 at ≡ in_front piece at (tokens_from (drop (at + size) line) 0 (at + size))
front line at size piece within is sized =
    let here : piece_at (drop at line) ≡ piece = ap piece_at (sym (take_rest line at)) ∙ sym is in
    tokens_from-front (drop at line) piece at size (omega (arith, length-drop at line)) here sized
    ∙ ap (λ rest. in_front piece at (tokens_from rest 0 (at + size))) (drop-drop size at line)

-- a blank is passed over
pub over-blank : (line : List ℕ) (tokens : List Token) (at : ℕ) (whole : Result (List Token) ℕ) → at < length line → Blank ≡ piece_at (take (length line - at) (drop at line)) → with_tokens tokens (tokens_from (drop at line) 0 at) ≡ whole → with_tokens tokens (tokens_from (drop (at + 1) line) 0 (at + 1)) ≡ whole
over-blank line tokens at whole within is same =
    ap (λ others. with_tokens tokens others) (sym (front line at 1 Blank within is refl)) ∙ same

-- a token is taken
pub over-token : (line : List ℕ) (tokens : List Token) (kind : TokenKind) (at size : ℕ) (whole : Result (List Token) ℕ) → at < length line → Found kind size ≡ piece_at (take (length line - at) (drop at line)) → 1 ≤ size → with_tokens tokens (tokens_from (drop at line) 0 at) ≡ whole → with_tokens (tokens ++ record { kind = kind; from = at; to = at + size } ∷ []) (tokens_from (drop (at + size) line) 0 (at + size)) ≡ whole
over-token line tokens kind at size whole within is some same =
    with_tokens-push tokens _ _
    ∙ ap (λ others. with_tokens tokens others) (sym (front line at size (Found kind size) within is (omega arith))) ∙ same

-- a comment ends the tokens of a line
pub at-comment : (line : List ℕ) (tokens : List Token) (at : ℕ) (whole : Result (List Token) ℕ) → at < length line → Comment ≡ piece_at (take (length line - at) (drop at line)) → with_tokens tokens (tokens_from (drop at line) 0 at) ≡ whole → whole ≡ Ok tokens
at-comment line tokens at whole within is same =
    sym same ∙ ap (λ others. with_tokens tokens others) (front line at 1 Comment within is refl) ∙ with_tokens-none tokens

-- a bad byte refuses the line
pub at-bad : (line : List ℕ) (tokens : List Token) (at : ℕ) (whole : Result (List Token) ℕ) → at < length line → Bad ≡ piece_at (take (length line - at) (drop at line)) → with_tokens tokens (tokens_from (drop at line) 0 at) ≡ whole → whole ≡ Err (at + 1)
at-bad line tokens at whole within is same =
    sym same ∙ ap (λ others. with_tokens tokens others) (front line at 1 Bad within is refl)

-- where no byte is left the tokens are whole
pub at-end : (line : List ℕ) (tokens : List Token) (at : ℕ) (whole : Result (List Token) ℕ) → length line ≤ at → with_tokens tokens (tokens_from (drop at line) 0 at) ≡ whole → whole ≡ Ok tokens
unfolding tokens_from
at-end line tokens at whole past same =
    sym same ∙ ap (λ rest. with_tokens tokens (tokens_from rest 0 at)) (drop_all at line past) ∙ with_tokens-none tokens
