-- What stands at the front of the rest of a line fits the rest.
use Rattle.std.proofs.Common.{◌≡◌, ℕ, ◌≤◌, Bool, true, false, List, [], ◌∷◌, length, drop, arith, rules, length-drop, refl}
use Rattle.std.proofs.lemmas.Bool.Decides.{nat_tests}
use Rattle.std.specs.Prelude.{if◌then◌else◌, ◌==◌, slice_index}
use Rattle.std.specs.List.{prefix_len}
use Rattle.std.specs.Char.{is_ascii_digit, is_ascii_hexdigit}
use Rattle.std.proofs.lemmas.List.Sums.{prefix_len-le-length}
use Rattle.mw_text.specs.declared.piece.Piece.{Piece}
use Rattle.mw_text.specs.declared.piece.Piece.TheVariants.{Found}
use Rattle.mw_text.specs.declared.token.TokenKind.TheVariants.{Word}
use Rattle.mw_text.specs.Pieces.{begins_hexadecimal, begins_word, decimal_piece, hexadecimal_piece, is_blank, is_of_word, mark_piece, number_piece, piece_at, FitsPiece}

-- the front has a byte if the first passes
some : (p : ℕ → Bool) (byte : ℕ) (rest : List ℕ) → p byte ≡ true → 1 ≤ prefix_len p (byte ∷ rest)
some p byte rest passes = grind arith

-- a byte that begins a word may stand in one
begins : (byte : ℕ) (rest : List ℕ) → begins_word (byte ∷ rest) ≡ true → is_of_word byte ≡ true
begins byte rest does = grind (arith, nat_tests)

-- a number fits where its length does
number-fits : (most length value : ℕ) → 1 ≤ length → length ≤ most → FitsPiece most (number_piece length value)
number-fits most length value low high = search rules

-- a word fits
pub word-fits : (rest : List ℕ) → begins_word rest ≡ true → (1 ≤ prefix_len is_of_word rest) × (prefix_len is_of_word rest ≤ length rest)
word-fits [] does = cc
word-fits (byte ∷ rest) does = (some is_of_word byte rest (begins byte rest does), prefix_len-le-length is_of_word (byte ∷ rest))

-- a decimal number fits
pub decimal-fits : (rest : List ℕ) → is_ascii_digit (slice_index rest 0) ≡ true → FitsPiece (length rest) (decimal_piece rest)
unfolding decimal_piece
decimal-fits [] does = cc
decimal-fits (byte ∷ rest) does = number-fits _ _ _ (some is_ascii_digit byte rest does) (prefix_len-le-length is_ascii_digit (byte ∷ rest))

-- `0x` has two bytes
two : (rest : List ℕ) → begins_hexadecimal rest ≡ true → 2 ≤ length rest
two [] does = cc
two (byte ∷ []) does = grind (arith, nat_tests)
two (byte ∷ other ∷ rest) does = omega arith

-- a hexadecimal number fits
pub hexadecimal-fits : (rest : List ℕ) → begins_hexadecimal rest ≡ true → FitsPiece (length rest) (hexadecimal_piece rest)
unfolding hexadecimal_piece
hexadecimal-fits rest does =
    let within = prefix_len-le-length is_ascii_hexdigit (drop 2 rest) in
    let room = two rest does in
    number-fits _ _ _ (omega arith) (omega (arith, within, room, length-drop 2 rest))

-- a mark has one byte
mark : (most byte : ℕ) → 1 ≤ most → FitsPiece most (mark_piece byte)
mark most byte low = search rules

-- a mark fits
pub mark-fits : (rest : List ℕ) → FitsPiece (length rest) (mark_piece (slice_index rest 0))
mark-fits [] = tt
mark-fits (byte ∷ rest) = mark _ byte (omega arith)

-- one piece or the other fits
choice : (most : ℕ) (b : Bool) (p q : Piece) → (b ≡ true → FitsPiece most p) → (b ≡ false → FitsPiece most q) → FitsPiece most (if b then p else q)
choice most true p q holds fails = holds refl
choice most false p q holds fails = fails refl

-- what stands at the front of the rest of a line fits the rest
pub piece_at-fits : (rest : List ℕ) → FitsPiece (length rest) (piece_at rest)
unfolding piece_at
piece_at-fits rest =
    choice _ (is_blank (slice_index rest 0)) _ _ (λ _. tt)
    (λ _. choice _ (slice_index rest 0 == 35) _ _ (λ _. tt)
    (λ _. choice _ (begins_word rest) (Found Word (prefix_len is_of_word rest)) _ (word-fits rest)
    (λ _. choice _ (begins_hexadecimal rest) _ _ (hexadecimal-fits rest)
    (λ _. choice _ (is_ascii_digit (slice_index rest 0)) _ _ (decimal-fits rest)
    (λ _. mark-fits rest)))))
