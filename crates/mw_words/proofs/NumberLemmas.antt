-- Numbers as words write them.
use Rattle.std.proofs.Common.{◌≡◌, ℕ, ◌^◌, ◌<◌, ◌≤◌, Bool, true, false, ◌&&◌, cond, nat_le, List, Some, None, Result, Ok, Err, bytes_eq, refl, sym, ap, ap₂, ◌∙◌, arith}
use Rattle.std.specs.Fmt.{decimal}
use Rattle.std.specs.Str.Parse.{digits_value, ParsesUnsigned}
use Rattle.std.proofs.lemmas.Fmt.{parse-decimal, decimal_is_IsNumeral}
use Rattle.std.proofs.lemmas.Slice.Eq.{bytes_eq-Decides}
use Rattle.std.proofs.lemmas.Bool.{false≢true, leb-true, le-leb}
use Rattle.mw_words.specs.Grammar.{number_up_to}

-- a word is a number's digits
written : (n : ℕ) (word : List ℕ) → bytes_eq (decimal n) word ≡ true → decimal n ≡ word
written n word e = (bytes_eq-Decides (decimal n) word).0 e

-- both parts of a test hold where it holds
first_holds : (a b : Bool) → (a && b) ≡ true → a ≡ true
first_holds true b e = refl
first_holds false b e = e

second_holds : (a b : Bool) → (a && b) ≡ true → b ≡ true
second_holds true b e = e
second_holds false b e = cc

-- a test that can't hold chooses the other value
none_by : (a b : Bool) (v : ℕ) → ((a && b) ≡ true → ⊥) → cond (a && b) (Some v) None ≡ None
none_by true true v h = absurd (h refl)
none_by true false v h = refl
none_by false b v h = refl

-- a word that no number writes
none_written : (most : ℕ) (word : List ℕ) → ((n : ℕ) → n ≤ most → decimal n ≡ word → ⊥) → number_up_to most word ≡ None
none_written most word h =
    let v : ℕ = digits_value 10 word in
    none_by (bytes_eq (decimal (digits_value 10 word)) word) (nat_le (digits_value 10 word) most) (digits_value 10 word) (λ t. h (digits_value 10 word) (leb-true _ _ (second_holds _ _ t)) (written (digits_value 10 word) word (first_holds _ _ t)))

-- a number that isn't too great is what its digits write
pub number-is : (most n : ℕ) (word : List ℕ) → n < 2 ^ 64 → bytes_eq (decimal n) word ≡ true → n ≤ most → number_up_to most word ≡ Some n
number-is most n word fits e small =
    let w = written n word e in
    let v : digits_value 10 word ≡ n = ap (digits_value 10) (sym w) ∙ (decimal_is_IsNumeral n fits).1 in
    ap (λ (k : ℕ). cond (bytes_eq (decimal k) word && nat_le k most) (Some k) None) v
    ∙ ap₂ (λ (a : Bool) (b : Bool). cond (a && b) (Some n) None) e (le-leb n most small)

-- a word that can't be read as a number is no number of the grammar
pub number-unread : {E : Type 0} (most : ℕ) (word : List ℕ) (r : Result ℕ E) (e : E) → most < 2 ^ 64 → ParsesUnsigned 64 10 word r → r ≡ Err e → number_up_to most word ≡ None
number-unread most word r e fits p is = none_written most word (λ n small w. let q : r ≡ Ok n = parse-decimal 64 n word r (omega arith) (omega arith) (sym w) p in cc)

-- a word that is read as a number, but isn't its decimal digits, is no number of the grammar
pub number-other : {E : Type 0} (most n : ℕ) (word : List ℕ) (r : Result ℕ E) → most < 2 ^ 64 → ParsesUnsigned 64 10 word r → r ≡ Ok n → bytes_eq (decimal n) word ≡ false → number_up_to most word ≡ None
number-other most n word r fits p is e = none_written most word (λ m small w.
    let q : r ≡ Ok m = parse-decimal 64 m word r (omega arith) (omega arith) (sym w) p in
    let same : n ≡ m = cc in
    let t : bytes_eq (decimal n) word ≡ true = (bytes_eq-Decides (decimal n) word).1 (ap decimal same ∙ w) in
    false≢true (sym e ∙ t))

-- a word of a number that is too great is no number of the grammar
pub number-great : {E : Type 0} (most n : ℕ) (word : List ℕ) (r : Result ℕ E) → most < 2 ^ 64 → ParsesUnsigned 64 10 word r → r ≡ Ok n → most < n → number_up_to most word ≡ None
number-great most n word r fits p is great = none_written most word (λ m small w.
    let q : r ≡ Ok m = parse-decimal 64 m word r (omega arith) (omega arith) (sym w) p in
    let same : n ≡ m = cc in
    omega arith)
