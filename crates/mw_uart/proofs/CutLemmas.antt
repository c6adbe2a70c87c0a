-- The first line of a text.
use Rattle.std.proofs.Common.{◌≡◌, ℕ, zero, suc, ◌+◌, ◌<◌, ◌==◌, Bool, true, false, List, [], ◌∷◌, Option, Some, None, length, take, drop, get_or, refl, sym, ap, subst, ◌∙◌, arith}
use denote.Ref.{Bor}
use Rattle.std.specs.Prelude.{IfSome}
use Rattle.std.specs.Option.{option_map_or}
use Rattle.std.specs.List.{onto_first}
use Rattle.std.proofs.lemmas.List.Splits.{slice_split-cons_yes, slice_split-cons_no}
use Rattle.mw_uart.specs.Script.{lines_of, last_of}

-- the byte ends a line
abbrev pub is_feed : ℕ → Bool
is_feed byte = byte == 10

next_place : (k : ℕ) → suc k + 1 ≡ suc (k + 1)
next_place k = omega arith

-- the first line of a text ends at its first line feed
pub lines_of-cut : (text : List ℕ) (place : ℕ) → ((k : ℕ) → k < place → is_feed (get_or text k 0) ≡ false) → place < length text → is_feed (get_or text place 0) ≡ true → lines_of text ≡ take place text ∷ lines_of (drop (place + 1) text)
lines_of-cut [] place before lt is = absurd (omega arith)
lines_of-cut (x ∷ xs) zero before lt is = slice_split-cons_yes is_feed x xs is
lines_of-cut (x ∷ xs) (suc k) before lt is =
    slice_split-cons_no is_feed x xs (before 0 (omega arith))
    ∙ ap (onto_first x) (lines_of-cut xs k (λ j lt. before (suc j) (omega arith)) (omega arith) is)
    ∙ ap (λ (n : ℕ). (x ∷ take k xs) ∷ lines_of (drop n (x ∷ xs))) (sym (next_place k))

-- a text without a line feed is its one line
pub lines_of-one : (text : List ℕ) → ((k : ℕ) → k < length text → is_feed (get_or text k 0) ≡ false) → lines_of text ≡ text ∷ []
lines_of-one [] before = refl
lines_of-one (x ∷ xs) before =
    slice_split-cons_no is_feed x xs (before 0 (omega arith))
    ∙ ap (onto_first x) (lines_of-one xs (λ j lt. before (suc j) (omega arith)))

-- the lines of a text whose first one is cut off
pub cut-behind : (text line : List ℕ) (behind : Option (Bor (List ℕ))) (rest : Bor (List ℕ)) → lines_of text ≡ line ∷ option_map_or (λ (b : Bor (List ℕ)). lines_of b.now) behind [] → behind ≡ Some rest → lines_of text ≡ line ∷ lines_of rest.now
cut-behind text line behind rest cut is = cut ∙ ap (λ o. line ∷ option_map_or (λ (b : Bor (List ℕ)). lines_of b.now) o []) is

pub cut-last : (text line : List ℕ) (behind : Option (Bor (List ℕ))) → lines_of text ≡ line ∷ option_map_or (λ (b : Bor (List ℕ)). lines_of b.now) behind [] → behind ≡ None → lines_of text ≡ line ∷ []
cut-last text line behind cut is = cut ∙ ap (λ o. line ∷ option_map_or (λ (b : Bor (List ℕ)). lines_of b.now) o []) is

pub cut-shorter : (text : List ℕ) (behind : Option (Bor (List ℕ))) (rest : Bor (List ℕ)) → IfSome behind (λ b. length b.now < length text) → behind ≡ Some rest → length rest.now < length text
cut-shorter text behind rest shorter is = let family : Option (Bor (List ℕ)) → Type 0 = λ o. IfSome o (λ b. length b.now < length text) in subst family is shorter

-- a list of lines has a first one
record SomeLines (lines : List (List ℕ)) : Type 0 where
  pub first : List ℕ
  pub others : List (List ℕ)
  pub is : lines ≡ first ∷ others

onto-some : (x : ℕ) (lines : List (List ℕ)) → SomeLines (onto_first x lines)
onto-some x [] = record { first = x ∷ []; others = []; is = refl }
onto-some x (line ∷ lines) = record { first = x ∷ line; others = lines; is = refl }

split-some : (x : ℕ) (xs : List ℕ) (feed : Bool) → is_feed x ≡ feed → SomeLines (lines_of (x ∷ xs))
split-some x xs true is = record { first = []; others = lines_of xs; is = slice_split-cons_yes is_feed x xs is }
split-some x xs false is = subst SomeLines (sym (slice_split-cons_no is_feed x xs is)) (onto-some x (lines_of xs))

lines_of-some : (text : List ℕ) → SomeLines (lines_of text)
lines_of-some [] = record { first = []; others = []; is = refl }
lines_of-some (x ∷ xs) = split-some x xs (is_feed x) refl

-- the last line is not the one in front of others
pub last_of-behind : (line text : List ℕ) → last_of (line ∷ lines_of text) ≡ last_of (lines_of text)
last_of-behind line text =
    let some = lines_of-some text in
    ap (λ lines. last_of (line ∷ lines)) some.is ∙ sym (ap last_of some.is)
