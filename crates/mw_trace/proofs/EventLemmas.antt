-- The event of words, read word by word.
use Rattle.std.proofs.Common.{◌≡◌, ℕ, ◌^◌, ◌<◌, ◌==◌, ◌&&◌, nat_lt, Bool, true, false, cond, List, [], ◌∷◌, Option, Some, None, option_map, option_and_then, is_some, bytes_eq, codes, decimal, refl, sym, ap, ◌∙◌, subst}
use denote.Ref.{Bor}
use Rattle.std.specs.Option.{option_map_or}
use Rattle.std.specs.Str.Parse.{digits_value}
use Rattle.std.proofs.lemmas.Bool.{false≢true, lt-ltb, eqb-true}
use Rattle.std.proofs.lemmas.Int.Digits.{digits_value-lt}
use Rattle.std.proofs.lemmas.Option.{none-some, same_Some}
use Rattle.std.proofs.lemmas.Slice.Eq.{bytes_eq-Decides}
use Rattle.mw_digits.specs.Digits.{hex}
use Rattle.mw_digits.proofs.DigitLaws.{hex-hexadecimal, length-hex}
use Rattle.mw_isa.specs.declared.event.Event.TheVariants.{Retire, Trap, Irq}
use Rattle.mw_isa.specs.declared.event.Event.{Event}
use Rattle.mw_isa.specs.declared.vector.Vector.{Vector}
use Rattle.mw_isa.specs.declared.vector.Vector.TheVariants.{DataStorage, DataSegment, InstStorage, InstSegment, External, Alignment, Program, FpUnavailable, Decrementer, SystemCall, VectorUnavailable, VsxUnavailable}
use Rattle.mw_isa.specs.Vectors.{address_of}
use Rattle.mw_isa.specs.Reading.{vector_at, event_of, words_of}
use Rattle.mw_trace.specs.Inside.{decimal_in, hex_in, vector_in, event_of_four, event_of_five}
use Rattle.mw_trace.proofs.PieceLemmas.{words_of-some}
use Rattle.mw_trace.proofs.WordLemmas.{hexdigits-value}

-- a test of a word alone, where it implies the other
one_test : (a b : Bool) (v : ℕ) → (a ≡ true → b ≡ true) → cond (a && b) (Some v) None ≡ cond a (Some v) None
one_test true b v h = ap (λ c. cond c (Some v) None) (h refl)
one_test false b v h = refl

-- the number that so many hexadecimal digits write
hex_in-plain :
    (k : ℕ) (word : List ℕ)
    → hex_in k word ≡ cond (bytes_eq (hex k (digits_value 16 word)) word) (Some (digits_value 16 word)) None
hex_in-plain k word =
    one_test (bytes_eq (hex k (digits_value 16 word)) word) (nat_lt (digits_value 16 word) (16 ^ k))
    (digits_value 16 word) (λ same.
    let is : hex k (digits_value 16 word) ≡ word = (bytes_eq-Decides (hex k (digits_value 16 word)) word).0 same in
    let small =
    digits_value-lt 16 (hex k (digits_value 16 word))
    (hexdigits-value (hex k (digits_value 16 word)) (hex-hexadecimal k (digits_value 16 word))) in
    let long : digits_value 16 (hex k (digits_value 16 word)) < 16 ^ k =
    subst (λ (size : ℕ). digits_value 16 (hex k (digits_value 16 word)) < 16 ^ size)
    (length-hex k (digits_value 16 word)) small in
    lt-ltb (digits_value 16 word) (16 ^ k) (subst (λ (w : List ℕ). digits_value 16 w < 16 ^ k) is long))

-- a value behind three tests, in the order of the words, and one at the end
three_tests :
    {A B : Type 0} (a b c d : Bool) (event : ℕ → ℕ → B → A) (x y : ℕ) (z : B)
    → cond ((a && (b && (c && true))) && d) (Some (event x y z)) None ≡ option_and_then
    (λ p. option_and_then (λ q. option_map (λ r. event p q r) (cond c (Some z) None)) (cond b (Some y) None))
    (cond (a && d) (Some x) None)
three_tests false b c d event x y z = refl
three_tests true false c true event x y z = refl
three_tests true false c false event x y z = refl
three_tests true true false true event x y z = refl
three_tests true true false false event x y z = refl
three_tests true true true true event x y z = refl
three_tests true true true false event x y z = refl

-- the same behind four tests
four_tests :
    {A : Type 0} (a b c d e : Bool) (event : ℕ → ℕ → ℕ → ℕ → A) (x y z v : ℕ)
    → cond ((a && (b && (c && (d && true)))) && e) (Some (event x y z v)) None ≡ option_and_then
    (λ p. option_and_then
    (λ q. option_and_then (λ r. option_map (λ s. event p q r s) (cond d (Some v) None)) (cond c (Some z) None))
    (cond b (Some y) None))
    (cond (a && e) (Some x) None)
four_tests false b c d e event x y z v = refl
four_tests true false c d true event x y z v = refl
four_tests true false c d false event x y z v = refl
four_tests true true false d true event x y z v = refl
four_tests true true false d false event x y z v = refl
four_tests true true true false true event x y z v = refl
four_tests true true true false false event x y z v = refl
four_tests true true true true true event x y z v = refl
four_tests true true true true false event x y z v = refl

-- an instruction without a prefix
four-retire :
    (cycle at last : List ℕ) → event_of (codes "R" ∷ cycle ∷ at ∷ last ∷ []) ≡ event_of_four (codes "R") cycle at last
unfolding event_of
four-retire cycle at last =
    let c = digits_value 10 cycle in
    let a = digits_value 16 at in
    let w = digits_value 16 last in
    rw (hex_in-plain 16 at, hex_in-plain 8 last)
    (three_tests (bytes_eq (decimal c) cycle) (bytes_eq (hex 16 a) at) (bytes_eq (hex 8 w) last) (nat_lt c (2 ^ 64))
    (λ x y z. Retire x y z None) c a w)

-- an instruction with a prefix
five-retire :
    (cycle at word suffix : List ℕ)
    → event_of (codes "R" ∷ cycle ∷ at ∷ word ∷ suffix ∷ []) ≡ event_of_five (codes "R") cycle at word suffix
unfolding event_of
five-retire cycle at word suffix =
    let c = digits_value 10 cycle in
    let a = digits_value 16 at in
    let w = digits_value 16 word in
    let s = digits_value 16 suffix in
    rw (hex_in-plain 16 at, hex_in-plain 8 word, hex_in-plain 8 suffix)
    (four_tests (bytes_eq (decimal c) cycle) (bytes_eq (hex 16 a) at) (bytes_eq (hex 8 w) word)
    (bytes_eq (hex 8 s) suffix) (nat_lt c (2 ^ 64)) (λ x y z v. Retire x y z (Some v)) c a w s)

-- nothing is made where the last part isn't there
none_made :
    {A B : Type 0} (event : ℕ → ℕ → B → A) (x y : Option ℕ)
    → option_and_then (λ p. option_and_then (λ q. option_map (event p q) None) y) x ≡ None
none_made event None y = refl
none_made event (Some p) None = refl
none_made event (Some p) (Some q) = refl

none_behind :
    (x y : Option ℕ) → let none : ℕ → ℕ
    → Option Event = λ p q. None in option_and_then (λ p. option_and_then (none p) y) x ≡ None
none_behind None y = refl
none_behind (Some p) None = refl
none_behind (Some p) (Some q) = refl

-- the interrupt that a choice by an address gives stands at this address
chosen :
    (n k : ℕ) (vector v : Vector) (others : Option Vector) (b : Bool) → (n == k) ≡ b → address_of vector ≡ k
    → (others ≡ Some v → address_of v ≡ n) → cond b (Some vector) others ≡ Some v → address_of v ≡ n
chosen n k vector v others true is at behind e =
    let place : n ≡ k = eqb-true n k is in
    let same : vector ≡ v = same_Some vector v e in
    ap address_of (sym same) ∙ at ∙ sym place
chosen n k vector v others false is at behind e = behind e

-- the interrupt at an address has this address
address_of-vector_at : (n : ℕ) (v : Vector) → vector_at n ≡ Some v → address_of v ≡ n
address_of-vector_at n v =
    chosen n 0x300 DataStorage v _ (n == 0x300) refl refl
    (chosen n 0x380 DataSegment v _ (n == 0x380) refl refl
    (chosen n 0x400 InstStorage v _ (n == 0x400) refl refl
    (chosen n 0x480 InstSegment v _ (n == 0x480) refl refl
    (chosen n 0x500 External v _ (n == 0x500) refl refl
    (chosen n 0x600 Alignment v _ (n == 0x600) refl refl
    (chosen n 0x700 Program v _ (n == 0x700) refl refl
    (chosen n 0x800 FpUnavailable v _ (n == 0x800) refl refl
    (chosen n 0x900 Decrementer v _ (n == 0x900) refl refl
    (chosen n 0xC00 SystemCall v _ (n == 0xC00) refl refl
    (chosen n 0xF20 VectorUnavailable v _ (n == 0xF20) refl refl
    (chosen n 0xF40 VsxUnavailable v _ (n == 0xF40) refl refl
    (λ e. absurd (none-some v e)))))))))))))

-- what a choice by a test goes on with
behind_test :
    {A B : Type 0} (b : Bool) (x : A) (next : A → Option B)
    → option_and_then next (cond b (Some x) None) ≡ cond b (next x) None
behind_test true x next = refl
behind_test false x next = refl

-- the interrupt whose address a word is
vector_in-plain :
    (word : List ℕ)
    → vector_in word ≡ cond (bytes_eq (hex 4 (digits_value 16 word)) word) (vector_at (digits_value 16 word)) None
vector_in-plain word =
    ap (option_and_then vector_at) (hex_in-plain 4 word)
    ∙ behind_test (bytes_eq (hex 4 (digits_value 16 word)) word) (digits_value 16 word) vector_at

-- a choice of nothing
cond_none : {A : Type 0} (b : Bool) (o : Option A) → o ≡ None → cond b o None ≡ None
cond_none true o none = none
cond_none false o none = refl

-- an instruction that raised an interrupt, by the interrupt at the address that the last word writes
trap_by :
    (cycle at last : List ℕ) (o : Option Vector) → vector_at (digits_value 16 last) ≡ o
    → event_of (codes "T" ∷ cycle ∷ at ∷ last ∷ []) ≡ event_of_four (codes "T") cycle at last
unfolding event_of
trap_by cycle at last None is =
    let c = digits_value 10 cycle in
    let a = digits_value 16 at in
    let n = digits_value 16 last in
    let none : vector_in last ≡ None = vector_in-plain last ∙ cond_none (bytes_eq (hex 4 n) last) (vector_at n) is in
    rw (is, none) (sym (none_made Trap (decimal_in cycle) (hex_in 16 at)))
trap_by cycle at last (Some v) is =
    let c = digits_value 10 cycle in
    let a = digits_value 16 at in
    let n = digits_value 16 last in
    let place : address_of v ≡ n = address_of-vector_at n v is in
    let some : vector_in last ≡ cond (bytes_eq (hex 4 n) last) (Some v) None =
    vector_in-plain last ∙ ap (λ o. cond (bytes_eq (hex 4 n) last) o None) is in
    rw (is, some, place, hex_in-plain 16 at)
    (three_tests (bytes_eq (decimal c) cycle) (bytes_eq (hex 16 a) at) (bytes_eq (hex 4 n) last) (nat_lt c (2 ^ 64))
    Trap c a v)

-- an interrupt between two instructions, likewise
irq_by :
    (cycle at last : List ℕ) (o : Option Vector) → vector_at (digits_value 16 last) ≡ o
    → event_of (codes "I" ∷ cycle ∷ at ∷ last ∷ []) ≡ event_of_four (codes "I") cycle at last
unfolding event_of
irq_by cycle at last None is =
    let n = digits_value 16 last in
    let none : vector_in last ≡ None = vector_in-plain last ∙ cond_none (bytes_eq (hex 4 n) last) (vector_at n) is in
    rw (is, none) (sym (none_made Irq (decimal_in cycle) (hex_in 16 at)))
irq_by cycle at last (Some v) is =
    let c = digits_value 10 cycle in
    let a = digits_value 16 at in
    let n = digits_value 16 last in
    let place : address_of v ≡ n = address_of-vector_at n v is in
    let some : vector_in last ≡ cond (bytes_eq (hex 4 n) last) (Some v) None =
    vector_in-plain last ∙ ap (λ o. cond (bytes_eq (hex 4 n) last) o None) is in
    rw (is, some, place, hex_in-plain 16 at)
    (three_tests (bytes_eq (decimal c) cycle) (bytes_eq (hex 16 a) at) (bytes_eq (hex 4 n) last) (nat_lt c (2 ^ 64)) Irq
    c a v)

-- a test that can't hold fails
pub false_by : (b : Bool) → (b ≡ true → ⊥) → b ≡ false
false_by true h = absurd (h refl)
false_by false h = refl

-- two words that aren't the same aren't so the other way either
other_way : (word other : List ℕ) → bytes_eq word other ≡ false → bytes_eq other word ≡ false
other_way word other fails = false_by (bytes_eq other word) (λ same.
    false≢true (sym fails ∙ (bytes_eq-Decides word other).1 (sym ((bytes_eq-Decides other word).0 same))))

-- another kind makes no event
other_by :
    (kind cycle at last : List ℕ) (o : Option Vector) → vector_at (digits_value 16 last) ≡ o
    → bytes_eq kind (codes "R") ≡ false → bytes_eq kind (codes "T") ≡ false → bytes_eq kind (codes "I") ≡ false
    → event_of (kind ∷ cycle ∷ at ∷ last ∷ []) ≡ event_of_four kind cycle at last
unfolding event_of
other_by kind cycle at last None is r t i = rw (r, t, i, is) (sym (none_behind (decimal_in cycle) (hex_in 16 at)))
other_by kind cycle at last (Some v) is r t i =
    let way : bytes_eq (codes "I") kind ≡ false = other_way kind (codes "I") i in
    rw (r, t, i, is, way) (sym (none_behind (decimal_in cycle) (hex_in 16 at)))

-- the event of four words, by their kind
four_by :
    (kind cycle at last : List ℕ) (r t i : Bool) → bytes_eq kind (codes "R") ≡ r → bytes_eq kind (codes "T") ≡ t
    → bytes_eq kind (codes "I") ≡ i → event_of (kind ∷ cycle ∷ at ∷ last ∷ []) ≡ event_of_four kind cycle at last
four_by kind cycle at last true t i is_r is_t is_i =
    subst (λ k. event_of (k ∷ cycle ∷ at ∷ last ∷ []) ≡ event_of_four k cycle at last)
    (sym ((bytes_eq-Decides kind (codes "R")).0 is_r)) (four-retire cycle at last)
four_by kind cycle at last false true i is_r is_t is_i =
    subst (λ k. event_of (k ∷ cycle ∷ at ∷ last ∷ []) ≡ event_of_four k cycle at last)
    (sym ((bytes_eq-Decides kind (codes "T")).0 is_t)) (trap_by cycle at last (vector_at (digits_value 16 last)) refl)
four_by kind cycle at last false false true is_r is_t is_i =
    subst (λ k. event_of (k ∷ cycle ∷ at ∷ last ∷ []) ≡ event_of_four k cycle at last)
    (sym ((bytes_eq-Decides kind (codes "I")).0 is_i)) (irq_by cycle at last (vector_at (digits_value 16 last)) refl)
four_by kind cycle at last false false false is_r is_t is_i =
    other_by kind cycle at last (vector_at (digits_value 16 last)) refl is_r is_t is_i

-- the event of four words
pub event_of-four :
    (kind cycle at last : List ℕ) → event_of (kind ∷ cycle ∷ at ∷ last ∷ []) ≡ event_of_four kind cycle at last
event_of-four kind cycle at last =
    four_by kind cycle at last (bytes_eq kind (codes "R")) (bytes_eq kind (codes "T")) (bytes_eq kind (codes "I")) refl
    refl refl

-- the event of five words, by their kind
five_by :
    (kind cycle at word suffix : List ℕ) (r : Bool) → bytes_eq kind (codes "R") ≡ r
    → event_of (kind ∷ cycle ∷ at ∷ word ∷ suffix ∷ []) ≡ event_of_five kind cycle at word suffix
unfolding event_of
five_by kind cycle at word suffix true is =
    subst (λ k. event_of (k ∷ cycle ∷ at ∷ word ∷ suffix ∷ []) ≡ event_of_five k cycle at word suffix)
    (sym ((bytes_eq-Decides kind (codes "R")).0 is)) (five-retire cycle at word suffix)
five_by kind cycle at word suffix false is =
    let way : bytes_eq (codes "R") kind ≡ false = other_way kind (codes "R") is in
    rw (is, way)

-- the event of five words
pub event_of-five :
    (kind cycle at word suffix : List ℕ)
    → event_of (kind ∷ cycle ∷ at ∷ word ∷ suffix ∷ []) ≡ event_of_five kind cycle at word suffix
event_of-five kind cycle at word suffix = five_by kind cycle at word suffix (bytes_eq kind (codes "R")) refl

-- six words or more are no event's
event_of-six :
    (kind cycle at word suffix next : List ℕ) (others : List (List ℕ))
    → event_of (kind ∷ cycle ∷ at ∷ word ∷ suffix ∷ next ∷ others) ≡ None
unfolding event_of
event_of-six kind cycle at word suffix next others = refl

-- the event of a line whose first three words are cut off, by the words behind them
line_by :
    (line kind cycle at rest more last : List ℕ) (words : List (List ℕ)) → words_of line ≡ kind ∷ words_of rest
    → words_of rest ≡ cycle ∷ words_of more → words_of more ≡ at ∷ words_of last → words_of last ≡ words
    → event_of (words_of line) ≡ event_of (kind ∷ cycle ∷ at ∷ words)
line_by line kind cycle at rest more last words first second third fourth =
    ap event_of (first ∙ ap (λ ws. kind ∷ ws) (second ∙ ap (λ ws. cycle ∷ ws) (third ∙ ap (λ ws. at ∷ ws) fourth)))

-- the event of a line of four words
pub line-four :
    (line kind cycle at rest more last : List ℕ) → words_of line ≡ kind ∷ words_of rest
    → words_of rest ≡ cycle ∷ words_of more → words_of more ≡ at ∷ words_of last → words_of last ≡ last ∷ []
    → event_of (words_of line) ≡ event_of_four kind cycle at last
line-four line kind cycle at rest more last first second third fourth =
    line_by line kind cycle at rest more last (last ∷ []) first second third fourth
    ∙ event_of-four kind cycle at last

-- what is cut off a line, or nothing
abbrev pub FirstWord : List ℕ → Option (Bor (List ℕ) × Bor (List ℕ)) → Type 0
FirstWord line o =
    words_of line ≡ option_map_or (λ (parts : Bor (List ℕ) × Bor (List ℕ)). parts.0.now ∷ words_of parts.1.now) o
    (line ∷ [])

-- the event of a line of five words
pub line-five :
    (line kind cycle at rest more last word suffix : List ℕ) (o : Option (Bor (List ℕ) × Bor (List ℕ)))
    → words_of line ≡ kind ∷ words_of rest → words_of rest ≡ cycle ∷ words_of more → words_of more ≡ at ∷ words_of last
    → words_of last ≡ word ∷ words_of suffix → FirstWord suffix o → is_some o ≡ false
    → event_of (words_of line) ≡ event_of_five kind cycle at word suffix
line-five line kind cycle at rest more last word suffix None first second third fourth fifth one =
    line_by line kind cycle at rest more last (word ∷ suffix ∷ []) first second third
    (fourth ∙ ap (λ ws. word ∷ ws) fifth)
    ∙ event_of-five kind cycle at word suffix
line-five line kind cycle at rest more last word suffix (Some parts) first second third fourth fifth one = cc

-- more than five words are no event's
pub line-more :
    (line kind cycle at rest more last word suffix : List ℕ) (o : Option (Bor (List ℕ) × Bor (List ℕ)))
    → words_of line ≡ kind ∷ words_of rest → words_of rest ≡ cycle ∷ words_of more → words_of more ≡ at ∷ words_of last
    → words_of last ≡ word ∷ words_of suffix → FirstWord suffix o → is_some o ≡ true → event_of (words_of line) ≡ None
line-more line kind cycle at rest more last word suffix None first second third fourth fifth many = cc
line-more line kind cycle at rest more last word suffix (Some parts) first second third fourth fifth many =
    let some = words_of-some parts.1.now in
    line_by line kind cycle at rest more last (word ∷ parts.0.now ∷ some.first ∷ some.others) first second third
    (fourth ∙ ap (λ ws. word ∷ ws) (fifth ∙ ap (λ ws. parts.0.now ∷ ws) some.is))
    ∙ event_of-six kind cycle at word parts.0.now some.first some.others
