-- Words joined by blanks into lines, and cut again.
use Rattle.std.proofs.Common.{◌≡◌, ℕ, ◌<◌, ◌≤◌, ◌==◌, eqb, List, [], ◌∷◌, ◌++◌, refl, sym, ap, subst, ◌∙◌, append_assoc, arith}
use Rattle.std.specs.List.{join_with_byte}
use Rattle.std.proofs.lemmas.List.{append-nil}
use Rattle.std.proofs.lemmas.Bool.{eq-eqb, eqb-true, ne_eqb, cond-true, cond-false, cond_both}
use Rattle.mw_isa.specs.Text.{line}
use Rattle.mw_isa.specs.Reading.{pieces_from, words_of, lines_from, lines_of}
use Rattle.mw_trace.specs.Inside.{Lacks, IsCut}

-- every byte is above a bound
abbrev pub AreAbove : ℕ → List ℕ → Type 0
AreAbove bound [] = Unit {0}
AreAbove bound (x ∷ xs) = (bound < x) × AreAbove bound xs

-- every word has bytes above the blank alone
abbrev pub AreWords : List (List ℕ) → Type 0
AreWords [] = Unit {0}
AreWords (word ∷ words) = AreAbove 32 word × AreWords words

-- a list above a bound is above a lower one
pub above-lower : (low high : ℕ) → low ≤ high → (xs : List ℕ) → AreAbove high xs → AreAbove low xs
above-lower low high order [] above = tt
above-lower low high order (x ∷ xs) above =
    let h : high < x = above.0 in
    (omega arith, above-lower low high order xs above.1)

-- two lists above a bound, one behind another
pub above-append : (bound : ℕ) (xs ys : List ℕ) → AreAbove bound xs → AreAbove bound ys → AreAbove bound (xs ++ ys)
above-append bound [] ys first second = second
above-append bound (x ∷ xs) ys first second = (first.0, above-append bound xs ys first.1 second)

-- words joined by blanks have no line feed
pub above-join : (words : List (List ℕ)) → AreWords words → AreAbove 10 (join_with_byte 32 words)
above-join [] are = tt
above-join (word ∷ []) are = above-lower 10 32 (omega arith) word are.0
above-join (word ∷ next ∷ words) are =
    above-append 10 word (32 ∷ join_with_byte 32 (next ∷ words)) (above-lower 10 32 (omega arith) word are.0) (omega arith, above-join (next ∷ words) are.1)

-- a piece with one byte more, in front of the other bytes
longer : (piece : List ℕ) (x : ℕ) (xs : List ℕ) → (piece ++ x ∷ []) ++ xs ≡ piece ++ x ∷ xs
longer piece x xs = append_assoc piece (x ∷ []) xs

-- a list above a bound lacks the bound
above-lacks : (bound : ℕ) (xs : List ℕ) → AreAbove bound xs → Lacks bound xs
above-lacks bound [] above = tt
above-lacks bound (x ∷ xs) above =
    let h : bound < x = above.0 in
    (λ e. absurd (omega arith), above-lacks bound xs above.1)

-- the pieces of a word, a separator and a rest
pieces-cut :
    (separator : ℕ) (piece word rest : List ℕ) → Lacks separator word
    → pieces_from separator piece (word ++ separator ∷ rest) ≡ (piece ++ word) ∷ pieces_from separator [] rest
pieces-cut separator piece [] rest lacks =
    cond-true (eqb separator separator) _ _ (eq-eqb separator separator refl)
    ∙ ap (λ p. p ∷ pieces_from separator [] rest) (sym (append-nil piece))
pieces-cut separator piece (x ∷ xs) rest lacks =
    cond-false (eqb x separator) _ _ (ne_eqb x separator lacks.0)
    ∙ pieces-cut separator (piece ++ x ∷ []) xs rest lacks.1
    ∙ ap (λ p. p ∷ pieces_from separator [] rest) (longer piece x xs)

-- the pieces of a last word
pieces-last :
    (separator : ℕ) (piece word : List ℕ) → Lacks separator word
    → pieces_from separator piece word ≡ (piece ++ word) ∷ []
pieces-last separator piece [] lacks = ap (λ p. p ∷ []) (sym (append-nil piece))
pieces-last separator piece (x ∷ xs) lacks =
    cond-false (eqb x separator) _ _ (ne_eqb x separator lacks.0)
    ∙ pieces-last separator (piece ++ x ∷ []) xs lacks.1
    ∙ ap (λ p. p ∷ []) (longer piece x xs)

-- a list of pieces with a first one
pub record SomePieces (pieces : List (List ℕ)) : Type 0 where
  pub first : List ℕ
  pub others : List (List ℕ)
  pub is : pieces ≡ first ∷ others

-- there is always a piece
pieces-some : (separator : ℕ) (piece text : List ℕ) → SomePieces (pieces_from separator piece text)
pieces-some separator piece [] = record { first = piece; others = []; is = refl }
pieces-some separator piece (x ∷ xs) =
    cond_both (x == separator) (piece ∷ pieces_from separator [] xs) (pieces_from separator (piece ++ x ∷ []) xs)
    SomePieces
    (λ is. record { first = piece; others = pieces_from separator [] xs; is = refl })
    (λ is. pieces-some separator (piece ++ x ∷ []) xs)

-- a line has a word
pub words_of-some : (line : List ℕ) → SomePieces (words_of line)
unfolding words_of
words_of-some line = pieces-some 32 [] line

-- one piece more, joined to the others
join-more :
    (separator : ℕ) (piece : List ℕ) (pieces : List (List ℕ)) → SomePieces pieces
    → join_with_byte separator (piece ∷ pieces) ≡ piece ++ separator ∷ join_with_byte separator pieces
join-more separator piece pieces some =
    subst (λ ps. join_with_byte separator (piece ∷ ps) ≡ piece ++ separator ∷ join_with_byte separator ps) (sym some.is)
    refl

-- the pieces of a text, joined
join-pieces :
    (separator : ℕ) (piece text : List ℕ) → join_with_byte separator (pieces_from separator piece text) ≡ piece ++ text
join-pieces separator piece [] = sym (append-nil piece)
join-pieces separator piece (x ∷ xs) =
    cond_both (x == separator) (piece ∷ pieces_from separator [] xs) (pieces_from separator (piece ++ x ∷ []) xs)
    (λ ps. join_with_byte separator ps ≡ piece ++ x ∷ xs)
    (λ is.
    join-more separator piece (pieces_from separator [] xs) (pieces-some separator [] xs)
    ∙ ap (λ t. piece ++ separator ∷ t) (join-pieces separator [] xs)
    ∙ ap (λ b. piece ++ b ∷ xs) (sym (eqb-true x separator is)))
    (λ is. join-pieces separator (piece ++ x ∷ []) xs ∙ longer piece x xs)

-- the words of a line, joined by blanks
pub join-words_of : (line : List ℕ) → join_with_byte 32 (words_of line) ≡ line
unfolding words_of
join-words_of line = join-pieces 32 [] line

-- the words of words joined by blanks, by their first one
words-join : (word : List ℕ) (words : List (List ℕ)) → AreWords (word ∷ words) → pieces_from 32 [] (join_with_byte 32 (word ∷ words)) ≡ word ∷ words
words-join word [] are = pieces-last 32 [] word (above-lacks 32 word are.0)
words-join word (next ∷ words) are =
    pieces-cut 32 [] word (join_with_byte 32 (next ∷ words)) (above-lacks 32 word are.0)
    ∙ ap (λ p. word ∷ p) (words-join next words are.1)

-- the words of words joined by blanks
pub words_of-join : (word : List ℕ) (words : List (List ℕ)) → AreWords (word ∷ words) → words_of (join_with_byte 32 (word ∷ words)) ≡ word ∷ words
unfolding words_of
words_of-join word words are = words-join word words are

-- a line up to a line feed
lines-cut :
    (piece text rest : List ℕ) → Lacks 10 text
    → lines_from piece (text ++ 10 ∷ rest) ≡ (piece ++ text) ∷ lines_from [] rest
lines-cut piece [] rest lacks = ap (λ p. p ∷ lines_from [] rest) (sym (append-nil piece))
lines-cut piece (x ∷ xs) rest lacks =
    cond-false (eqb x 10) _ _ (ne_eqb x 10 lacks.0)
    ∙ lines-cut (piece ++ x ∷ []) xs rest lacks.1
    ∙ ap (λ p. p ∷ lines_from [] rest) (longer piece x xs)

-- a text without a line feed has no line
lines-none : (piece text : List ℕ) → Lacks 10 text → lines_from piece text ≡ []
lines-none piece [] lacks = refl
lines-none piece (x ∷ xs) lacks =
    cond-false (eqb x 10) _ _ (ne_eqb x 10 lacks.0) ∙ lines-none (piece ++ x ∷ []) xs lacks.1

-- the lines of a line and a rest
pub lines_from-line : (words : List (List ℕ)) (rest : List ℕ) → AreWords words → lines_from [] (line words ++ rest) ≡ join_with_byte 32 words ∷ lines_from [] rest
unfolding line
lines_from-line words rest are =
    ap (lines_from []) (append_assoc (join_with_byte 32 words) (10 ∷ []) rest)
    ∙ lines-cut [] (join_with_byte 32 words) rest (above-lacks 10 (join_with_byte 32 words) (above-join words are))

-- the words of a line that is cut at its first blank, and those of a line without one
pub words_of-cut : (line front behind : List ℕ) → IsCut 32 line front behind → words_of line ≡ front ∷ words_of behind
unfolding words_of
words_of-cut line front behind cut = ap (pieces_from 32 []) cut.0 ∙ pieces-cut 32 [] front behind cut.1

pub words_of-one : (line : List ℕ) → Lacks 32 line → words_of line ≡ line ∷ []
unfolding words_of
words_of-one line lacks = pieces-last 32 [] line lacks

-- the lines of a text that is cut at its first line feed, and those of a text without one
pub lines_of-cut : (text front behind : List ℕ) → IsCut 10 text front behind → lines_of text ≡ front ∷ lines_of behind
unfolding lines_of
lines_of-cut text front behind cut = ap (lines_from []) cut.0 ∙ lines-cut [] front behind cut.1

pub lines_of-none : (text : List ℕ) → Lacks 10 text → lines_of text ≡ []
unfolding lines_of
lines_of-none text lacks = lines-none [] text lacks
