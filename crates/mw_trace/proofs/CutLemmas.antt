-- A text is cut at the first place of a byte.
use Rattle.std.proofs.Common.{◌≡◌, ◌≢◌, ℕ, zero, suc, ◌+◌, ◌<◌, ◌≤◌, ◌==◌, Bool, true, false, cond, nat_lt, List, [], ◌∷◌, ◌++◌, length, take, drop, get_or, Option, Some, None, refl, sym, ap, subst, ◌∙◌, arith}
use denote.Ref.{Bor}
use Rattle.std.specs.Prelude.{MatchOption}
use Rattle.std.specs.List.{position, position_or_len}
use Rattle.std.specs.Option.{option_map_or}
use Rattle.std.proofs.lemmas.Bool.{eqb-true, ltb-false}
use Rattle.std.proofs.lemmas.List.Quantifiers.{position-Some}
use Rattle.std.proofs.lemmas.List.Sums.{fails_before_first}
use Rattle.mw_isa.specs.Reading.{words_of, lines_of}
use Rattle.mw_trace.specs.Inside.{Lacks, IsCut}
use Rattle.mw_trace.proofs.PieceLemmas.{words_of-cut, words_of-one, lines_of-cut, lines_of-none}

-- a byte that doesn't pass the test isn't the byte
differs : (x byte : ℕ) → (x == byte) ≡ false → x ≢ byte
differs x byte fails e = grind (arith, fails, e)

-- a list of which no byte passes lacks the byte
lacks_all :
    (byte : ℕ) (text : List ℕ) → ((k : ℕ) → k < length text → (get_or text k 0 == byte) ≡ false) → Lacks byte text
lacks_all byte [] fails = tt
lacks_all byte (x ∷ xs) fails =
    (differs x byte (fails 0 (omega arith)), lacks_all byte xs (λ k below. fails (suc k) (omega arith)))

-- a text is cut at a place with the byte, if no place before has it
cut_at :
    (byte : ℕ) (text : List ℕ) (place : ℕ) → place < length text → (get_or text place 0 == byte) ≡ true
    → ((k : ℕ) → k < place → (get_or text k 0 == byte) ≡ false)
    → IsCut byte text (take place text) (drop (place + 1) text)
cut_at byte [] place below is before = absurd (omega arith)
cut_at byte (x ∷ xs) zero below is before = (ap (λ b. b ∷ xs) (eqb-true x byte is), tt)
cut_at byte (x ∷ xs) (suc k) below is before =
    let rest = cut_at byte xs k (omega arith) is (λ j lt. before (suc j) (omega arith)) in
    let next : suc k + 1 ≡ suc (k + 1) = omega arith in (
      ap (λ t. x ∷ t) rest.0 ∙ ap (λ (n : ℕ). (x ∷ take k xs) ++ byte ∷ drop n (x ∷ xs)) (sym next),
      (differs x byte (before 0 (omega arith)), rest.1),
    )

-- the byte's first place cuts the text
pub cut-some :
    (byte : ℕ) (text : List ℕ) (place : ℕ) → position (λ other. other == byte) text ≡ Some place
    → IsCut byte text (take place text) (drop (place + 1) text)
cut-some byte text place is =
    let at = position-Some (λ other. other == byte) text place 0 is in
    cut_at byte text place at.0 at.1 at.2

-- a test that leaves nothing fails
fails_by : (b : Bool) (v : ℕ) → cond b (Some v) None ≡ None → b ≡ false
fails_by true v none = cc
fails_by false v none = refl

-- a text without a place of the byte lacks it
pub cut-none : (byte : ℕ) (text : List ℕ) → position (λ other. other == byte) text ≡ None → Lacks byte text
cut-none byte text none =
    let p : ℕ → Bool = λ other. other == byte in
    let past : length text ≤ position_or_len p text =
    ltb-false (position_or_len p text) (length text)
    (fails_by (nat_lt (position_or_len p text) (length text)) (position_or_len p text) none) in
    lacks_all byte text (λ k below. fails_before_first p text k 0 (omega arith))

-- what is cut, or nothing where the byte isn't there
abbrev pub Cuts : ℕ → List ℕ → Option (Bor (List ℕ) × Bor (List ℕ)) → Type 0
Cuts byte text o = MatchOption o (Lacks byte text) (λ parts. IsCut byte text parts.0.now parts.1.now)

-- nothing is cut where the byte isn't there
pub cuts-none :
    (byte : ℕ) (text : List ℕ) (o : Option (Bor (List ℕ) × Bor (List ℕ))) → o ≡ None → Lacks byte text
    → Cuts byte text o
cuts-none byte text o is lacks =
    let P : Option (Bor (List ℕ) × Bor (List ℕ)) → Type 0 = λ r. Cuts byte text r in subst P (sym is) lacks

-- the words of a line by its first one
pub words_by :
    (line : List ℕ) (o : Option (Bor (List ℕ) × Bor (List ℕ))) → Cuts 32 line o
    → words_of line ≡ option_map_or (λ (parts : Bor (List ℕ) × Bor (List ℕ)). parts.0.now ∷ words_of parts.1.now) o
    (line ∷ [])
words_by line None lacks = words_of-one line lacks
words_by line (Some parts) cut = words_of-cut line parts.0.now parts.1.now cut

-- the lines of a text by its first one
pub lines_by :
    (text : List ℕ) (o : Option (Bor (List ℕ) × Bor (List ℕ))) → Cuts 10 text o
    → lines_of text ≡ option_map_or (λ (parts : Bor (List ℕ) × Bor (List ℕ)). parts.0.now ∷ lines_of parts.1.now) o []
lines_by text None lacks = lines_of-none text lacks
lines_by text (Some parts) cut = lines_of-cut text parts.0.now parts.1.now cut
