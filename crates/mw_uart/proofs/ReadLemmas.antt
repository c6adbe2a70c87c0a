-- Bytes that are put behind those of a script, line by line.
use Rattle.std.proofs.Common.{◌≡◌, ℕ, ◌+◌, ◌<◌, ◌≤◌, nat_lt, List, [], ◌∷◌, ◌++◌, Result, Ok, Err, take, length, get_or, refl, sym, ap, ◌∙◌, arith, append_assoc}
use Rattle.std.specs.Result.{IsOkAnd}
use Rattle.std.proofs.lemmas.Bool.{cond-true, cond-false, lt-ltb, le-ltb}
use Rattle.std.proofs.lemmas.List.{map-append, take_more}
use Rattle.mw_uart.specs.declared.line.LineFault.{LineFault}
use Rattle.mw_uart.specs.declared.line.LineFault.TheVariants.{Refused, NoMemory}
use Rattle.mw_uart.specs.declared.script.BadScript.{BadScript}
use Rattle.mw_uart.specs.declared.script.BadScript.TheVariants.{Bad, NoMemory as NoRoom}
use Rattle.mw_uart.specs.Script.{Given, Place, line_of, lines_of, pairs_of, place_behind, read_from, and_then, script_of, text_limit}
use Rattle.mw_uart.specs.Pairs.{RisesTo, IfBad}
use Rattle.mw_uart.specs.Inside.{IfRefused, fault_at}

-- cycles that rise to a number rise to a later one
pub rises-later : (low high later : ℕ) (pairs : List (ℕ × ℕ)) → high ≤ later → RisesTo low high pairs → RisesTo low later pairs
rises-later low high later [] after is = omega (arith, is)
rises-later low high later (pair ∷ rest) after is = (is.0, is.1, rises-later pair.0 high later rest after is.2)

-- pairs that rise to a cycle do so with one byte more of that cycle
pub rises-more : (low cycle byte : ℕ) (pairs : List (ℕ × ℕ)) → byte < 256 → RisesTo low cycle pairs → RisesTo low cycle (pairs ++ (cycle, byte) ∷ [])
rises-more low cycle byte [] small is = (is, small, omega arith)
rises-more low cycle byte (pair ∷ rest) small is = (is.0, is.1, rises-more pair.0 cycle byte rest small is.2)

-- a refused line ends the reading
pub read-refused : (number before : ℕ) (pairs : List (ℕ × ℕ)) (line : List ℕ) (lines : List (List ℕ)) (whole : Result (List (ℕ × ℕ)) Place) (fault : LineFault) → IfRefused fault (λ column. line_of before line ≡ Err column) → read_from number before pairs (line ∷ lines) ≡ whole → IfBad (fault_at number fault) (λ place. whole ≡ Err place)
unfolding read_from
read-refused number before pairs line lines whole (Refused column) is same =
    sym same ∙ ap (λ given. and_then number given (λ g. read_from (number + 1) g.cycle (pairs ++ pairs_of g.cycle g.bytes) lines)) is
read-refused number before pairs line lines whole NoMemory is same = tt

-- what a line that isn't refused gives
record IsGiven (r : Result Given ℕ) (P : Given → Type 0) : Type 0 where
  pub given : Given
  pub is : r ≡ Ok given
  pub holds : P given

given-from : (r : Result Given ℕ) (P : Given → Type 0) → IsOkAnd r P → IsGiven r P
given-from (Ok given) P is = record { given = given; is = refl; holds = is }
given-from (Err column) P is = absurd is

-- the reading goes on behind a line
pub read-more : (number before cycle : ℕ) (pairs more : List (ℕ × ℕ)) (line : List ℕ) (lines : List (List ℕ)) → IsOkAnd (line_of before line) (λ given. (given.cycle ≡ cycle) × (more ≡ pairs ++ pairs_of given.cycle given.bytes)) → read_from number before pairs (line ∷ lines) ≡ read_from (number + 1) cycle more lines
unfolding read_from
read-more number before cycle pairs more line lines is =
    let g = given-from (line_of before line) _ is in
    ap (λ given. and_then number given (λ g. read_from (number + 1) g.cycle (pairs ++ pairs_of g.cycle g.bytes) lines)) g.is
    ∙ ap (λ ps. read_from (number + 1) g.given.cycle ps lines) (sym g.holds.1)
    ∙ ap (λ k. read_from (number + 1) k more lines) g.holds.0

-- the bytes of a line up to one more of them
pub pairs-more : (cycle i byte : ℕ) (bytes : List ℕ) (front pairs more : List (ℕ × ℕ)) → i < length bytes → byte ≡ get_or bytes i 0 → pairs ≡ front ++ pairs_of cycle (take i bytes) → more ≡ pairs ++ (cycle, byte) ∷ [] → more ≡ front ++ pairs_of cycle (take (i + 1) bytes)
pairs-more cycle i byte bytes front pairs more within is was grown =
    grown
    ∙ ap (λ (ps : List (ℕ × ℕ)). ps ++ (cycle, byte) ∷ []) was
    ∙ append_assoc front (pairs_of cycle (take i bytes)) ((cycle, byte) ∷ [])
    ∙ ap (λ (ps : List (ℕ × ℕ)). front ++ ps)
    (ap (λ b. pairs_of cycle (take i bytes) ++ (cycle, b) ∷ []) is
    ∙ sym (map-append (λ (b : ℕ). (cycle, b)) (take i bytes) (get_or bytes i 0 ∷ []))
    ∙ ap (pairs_of cycle) (sym (take_more bytes i 0 within)))

-- a text that is too long is refused behind its first bytes
pub script-long : (text : List ℕ) → text_limit < length text → script_of text ≡ Err (place_behind (take text_limit text))
unfolding script_of
script-long text long = cond-true (nat_lt text_limit (length text)) _ _ (lt-ltb text_limit (length text) long)

-- a text that isn't too long is read line by line
pub script-short : (text : List ℕ) → length text ≤ text_limit → script_of text ≡ read_from 1 0 [] (lines_of text)
unfolding script_of
script-short text short = cond-false (nat_lt text_limit (length text)) _ _ (le-ltb text_limit (length text) short)

-- a fact on the place of a fault gives each fact that follows from it
pub IfBad-weaker : (fault : BadScript) (P Q : Place → Type 0) → ((place : Place) → P place → Q place) → IfBad fault P → IfBad fault Q
IfBad-weaker (Bad line column) P Q more is = more _ is
IfBad-weaker NoRoom P Q more is = tt

-- at the end of the text all is read
pub read-end : (number before cycle : ℕ) (pairs more : List (ℕ × ℕ)) (line : List ℕ) (whole : Result (List (ℕ × ℕ)) Place) → IsOkAnd (line_of before line) (λ given. (given.cycle ≡ cycle) × (more ≡ pairs ++ pairs_of given.cycle given.bytes)) → read_from number before pairs (line ∷ []) ≡ whole → whole ≡ Ok more
unfolding read_from
read-end number before cycle pairs more line whole is same = sym same ∙ read-more number before cycle pairs more line [] is
