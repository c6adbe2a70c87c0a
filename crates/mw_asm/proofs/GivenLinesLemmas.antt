-- A source of lines, each of which gives its bytes at its address: both passes give these bytes one behind the other.
use Rattle.std.proofs.Common.{◌≡◌, ℕ, ◌+◌, ◌≤◌, ◌==◌, true, not, List, [], ◌∷◌, ◌++◌, Result, Ok, Err, length, refl, ap, ◌∙◌}
use Rattle.std.specs.Prelude.{⊤, nat_lt}
use Rattle.std.specs.List.{concat, list_all, onto_first}
use Rattle.std.proofs.lemmas.Bool.{and_parts, not-true, cond-false, le-ltb}
use Rattle.std.proofs.lemmas.List.Splits.{slice_split-cons_yes, slice_split-cons_no}
use Rattle.mw_syntax.specs.declared.fault.Refusal.{Refusal}
use Rattle.mw_asm.specs.Assembled.{Pass, lines_of, source_limit, first_line, second_line, and_then, first_pass, in_front, second_pass, both_passes, place_past, assembled}
use Rattle.mw_syntax.specs.Lines.{line_of}
use Rattle.mw_asm.specs.Passes.{start}
use Rattle.mw_text.specs.Lines.{tokens_from}
use Rattle.mw_asm.proofs.CutLemmas.{is_feed}
use Rattle.mw_asm.proofs.PrintedForms.{has_no_feed, GivesBytes}

-- each line gives its bytes at its address, the first from this address on
abbrev pub AreGiven : ℕ → List (List ℕ) → List (List ℕ) → Type 0
AreGiven at [] [] = ⊤
AreGiven at [] (bytes ∷ others) = ⊥
AreGiven at (line ∷ lines) [] = ⊥
AreGiven at (line ∷ lines) (bytes ∷ others) = GivesBytes at line bytes × AreGiven (at + length bytes) lines others

-- the source of lines, with a line feed behind each
abbrev pub source_of : List (List ℕ) → List ℕ
source_of [] = []
source_of (line ∷ lines) = line ++ 10 ∷ source_of lines

-- a line without line feeds is cut off at the line feed behind it
pub no_feed-lines : (line rest : List ℕ) → has_no_feed line ≡ true → lines_of (line ++ 10 ∷ rest) ≡ line ∷ lines_of rest
no_feed-lines [] rest none = slice_split-cons_yes is_feed 10 rest refl
no_feed-lines (x ∷ xs) rest none =
    let parts = and_parts (not (x == 10)) (list_all (λ byte. not (byte == 10)) xs) none in
    slice_split-cons_no is_feed x (xs ++ 10 ∷ rest) (not-true (x == 10) parts.0) ∙ ap (onto_first x) (no_feed-lines xs rest parts.1)

-- the lines of a source of lines, and the empty line behind the last line feed
pub source_of-lines : (at : ℕ) (lines parts : List (List ℕ)) → AreGiven at lines parts → lines_of (source_of lines) ≡ lines ++ [] ∷ []
source_of-lines at [] parts given = refl
source_of-lines at (line ∷ lines) [] given = absurd given
source_of-lines at (line ∷ lines) (bytes ∷ parts) given =
    no_feed-lines line (source_of lines) given.0.one ∙ ap (λ (others : List (List ℕ)). line ∷ others) (source_of-lines (at + length bytes) lines parts given.1)

-- an empty line leaves the address as it is, and gives no byte
empty-first : (at : ℕ) → first_line (record { at = at; known = [] }) [] ≡ Ok (record { at = at; known = [] })
unfolding first_line line_of tokens_from
empty-first at = refl

empty-second : (at : ℕ) → second_line [] at [] ≡ Ok []
unfolding second_line line_of tokens_from
empty-second at = refl

-- the first pass over lines that give their bytes finds no label
first-given : (number at : ℕ) (lines parts : List (List ℕ)) → AreGiven at lines parts → first_pass number (record { at = at; known = [] }) (lines ++ [] ∷ []) ≡ Ok []
first-given number at [] parts given = ap (λ (r : Result Pass Refusal). and_then number r (λ (next : Pass). Ok next.known)) (empty-first at)
first-given number at (line ∷ lines) [] given = absurd given
first-given number at (line ∷ lines) (bytes ∷ parts) given =
    ap (λ (r : Result Pass Refusal). and_then number r (λ (next : Pass). first_pass (number + 1) next (lines ++ [] ∷ []))) given.0.first
    ∙ first-given (number + 1) (at + length bytes) lines parts given.1

-- the second pass over lines that give their bytes gives these bytes
second-given : (number at : ℕ) (lines parts : List (List ℕ)) → AreGiven at lines parts → second_pass number [] at (lines ++ [] ∷ []) ≡ Ok (concat parts)
second-given number at [] [] given = ap (λ (r : Result (List ℕ) Refusal). and_then number r (λ (bytes : List ℕ). in_front bytes (Ok []))) (empty-second at)
second-given number at [] (bytes ∷ parts) given = absurd given
second-given number at (line ∷ lines) [] given = absurd given
second-given number at (line ∷ lines) (bytes ∷ parts) given =
    ap (λ (r : Result (List ℕ) Refusal). and_then number r (λ (bs : List ℕ). in_front bs (second_pass (number + 1) [] (at + length bs) (lines ++ [] ∷ [])))) given.0.second
    ∙ ap (in_front bytes) (second-given (number + 1) (at + length bytes) lines parts given.1)

-- both passes over lines that give their bytes, and an empty line behind them, give the bytes
pub given-passes : (lines : List (List ℕ)) (parts : List (List ℕ)) → AreGiven 0 lines parts → both_passes (lines ++ [] ∷ []) (first_pass 1 start (lines ++ [] ∷ [])) ≡ Ok (concat parts)
given-passes lines parts given = ap (both_passes (lines ++ [] ∷ [])) (first-given 1 0 lines parts given) ∙ second-given 1 0 lines parts given

-- a source of lines that give their bytes, if it isn't too long, gives the bytes
pub given-assembled : (lines parts : List (List ℕ)) → AreGiven 0 lines parts → length (source_of lines) ≤ source_limit → assembled (source_of lines) ≡ Ok (concat parts)
unfolding assembled
given-assembled lines parts given short =
    cond-false (nat_lt source_limit (length (source_of lines))) (Err (place_past (source_of lines))) (both_passes (lines_of (source_of lines)) (first_pass 1 start (lines_of (source_of lines)))) (le-ltb source_limit (length (source_of lines)) short)
    ∙ ap (λ (ls : List (List ℕ)). both_passes ls (first_pass 1 start ls)) (source_of-lines 0 lines parts given)
    ∙ given-passes lines parts given
