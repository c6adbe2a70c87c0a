-- A word and its first equals sign.
use Rattle.std.proofs.Common.{◌≡◌, ℕ, suc, ◌+◌, Bool, true, false, not, cond, ◌||◌, List, [], ◌∷◌, length, refl, ap, ap₂, ◌∙◌, arith}
use Rattle.std.specs.List.{list_any, position_or_len, before_first, after_first}
use Rattle.std.proofs.lemmas.List.{take_all}
use Rattle.mw_words.specs.declared.verb.Verb.{Verb}
use Rattle.mw_words.specs.declared.verb.Key.TheVariants.{Name}
use Rattle.mw_words.specs.Grammar.{Said, is_name, is_equals, option_of, now_said, option_said, other_said}

-- a first element that doesn't pass, and none behind it
none_step : (b rest : Bool) (place len : ℕ) → (place ≡ len → rest ≡ false) → cond (not b) (1 + place) 0 ≡ suc len → (b || rest) ≡ false
none_step true rest place len h e = absurd (omega arith)
none_step false rest place len h e = h (omega arith)

-- a list with no element that passes has none
pub none-passes : (p : ℕ → Bool) (xs : List ℕ) → position_or_len p xs ≡ length xs → list_any p xs ≡ false
none-passes p [] e = refl
none-passes p (x ∷ xs) e = none_step (p x) (list_any p xs) (position_or_len p xs) (length xs) (none-passes p xs) e

-- what stands before the first equals sign is the whole word where there is none
pub whole-before : (p : ℕ → Bool) (xs : List ℕ) → position_or_len p xs ≡ length xs → before_first p xs ≡ xs
whole-before p xs e = take_all (position_or_len p xs) xs (omega arith)

-- an option without an equals sign
pub other-whole : (verb : Verb) (word : List ℕ) (said : Said) → is_name word ≡ false → position_or_len is_equals word ≡ length word
    → other_said verb word said ≡ option_said (option_of verb word) false (after_first is_equals word) said
other-whole verb word said dashed whole =
    ap (λ b. cond b (now_said Name word said) (option_said (option_of verb (before_first is_equals word)) (list_any is_equals word) (after_first is_equals word) said)) dashed
    ∙ ap₂ (λ front has. option_said (option_of verb front) has (after_first is_equals word) said) (whole-before is_equals word whole) (none-passes is_equals word whole)
