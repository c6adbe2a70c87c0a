-- What a name that is a mnemonic means: it is one of the spellings, no two of which have one name.
use Rattle.std.proofs.Common.{◌≡◌, ℕ, zero, suc, ◌+◌, ◌*◌, slice_get, Bool, true, false, not, ◌&&◌, cond, List, [], ◌∷◌, Option, Some, None, map, refl, sym, ap, ◌∙◌}
use Rattle.std.specs.Prelude.{◌==◌, bytes_eq, option_map, IsSomeAnd}
use Rattle.std.specs.List.{find, list_all}
use Rattle.std.proofs.lemmas.Bool.{eq-eqb, and_parts, not-true, both_ways}
use Rattle.std.proofs.lemmas.Option.{slice_get-map, same_Some, none-some}
use Rattle.std.proofs.lemmas.Slice.Eq.{bytes_eq-Decides}
use Rattle.mw_syntax.specs.declared.mnemonic.Mnemonic.{Mnemonic}
use Rattle.mw_tables.specs.Rows.{lines, table}
use Rattle.mw_syntax.specs.Mnemonics.{Spelling, spellings, mnemonic_of}
use Rattle.mw_syntax.specs.Index.{AreDistinct}

-- where lists agree, so do their elements
pub same_at : {X Y : Type 0} (f g : X → Y) (xs : List X) → map f xs ≡ map g xs → (place : ℕ) (x : X) → slice_get xs place ≡ Some x → f x ≡ g x
same_at f g xs same place x there =
    same_Some _ _
    (ap (option_map f) (sym there)
    ∙ sym (slice_get-map f xs place)
    ∙ ap (λ l. slice_get l place) same
    ∙ slice_get-map g xs place
    ∙ ap (option_map g) there)

-- what holds of all holds at a place
pub list_all-at : {X : Type 0} (p : X → Bool) (xs : List X) (place : ℕ) (x : X) → list_all p xs ≡ true → slice_get xs place ≡ Some x → p x ≡ true
list_all-at p [] place x all there = absurd (none-some x there)
list_all-at p (y ∷ ys) zero x all there = ap p (sym (same_Some _ _ there)) ∙ (and_parts _ _ all).0
list_all-at p (y ∷ ys) (suc k) x all there = list_all-at p ys k x (and_parts _ _ all).1 there

-- the first element that passes a test, with its place
pub record IsFound {X : Type 0} (p : X → Bool) (xs : List X) (x : X) : Type 0 where
  pub place : ℕ
  pub there : slice_get xs place ≡ Some x
  pub passes : p x ≡ true

found_next : {X : Type 0} (p : X → Bool) (y : X) (ys : List X) (x : X) (first : Bool) (rest : Option X) → p y ≡ first → (rest ≡ Some x → IsFound p ys x) → cond first (Some y) rest ≡ Some x → IsFound p (y ∷ ys) x
found_next p y ys x true rest m later e = record { place = zero; there = e; passes = ap p (sym (same_Some _ _ e)) ∙ m }
found_next p y ys x false rest m later e =
    let found : IsFound p ys x = later e in
    record { place = suc found.place; there = found.there; passes = found.passes }

-- what is found is in the list and passes
pub find-IsFound : {X : Type 0} (p : X → Bool) (xs : List X) (x : X) → find p xs ≡ Some x → IsFound p xs x
find-IsFound p [] x e = absurd (none-some x e)
find-IsFound p (y ∷ ys) x e = found_next p y ys x (p y) (find p ys) refl (find-IsFound p ys x) e

-- a name is a spelling, which means a mnemonic
pub record IsSpelling (name : List ℕ) (mnemonic : Mnemonic) : Type 0 where
  pub place : ℕ
  pub spelling : Spelling
  pub there : slice_get spellings place ≡ Some spelling
  pub named : spelling.name ≡ name
  pub means : spelling.mnemonic ≡ mnemonic

spelling_by : (name : List ℕ) (mnemonic : Mnemonic) (found : Option Spelling) → find (λ (spelling : Spelling). bytes_eq spelling.name name) spellings ≡ found → option_map (λ (spelling : Spelling). spelling.mnemonic) found ≡ Some mnemonic → IsSpelling name mnemonic
spelling_by name mnemonic None f e = absurd (none-some mnemonic e)
spelling_by name mnemonic (Some spelling) f e =
    let found = find-IsFound (λ (s : Spelling). bytes_eq s.name name) spellings spelling f in
    record { place = found.place; spelling = spelling; there = found.there; named = (bytes_eq-Decides spelling.name name).0 found.passes; means = same_Some _ _ e }

-- a name that means a mnemonic is one of the spellings
pub mnemonic_of-IsSpelling : (name : List ℕ) (mnemonic : Mnemonic) → mnemonic_of name ≡ Some mnemonic → IsSpelling name mnemonic
unfolding mnemonic_of
mnemonic_of-IsSpelling name mnemonic e = spelling_by name mnemonic _ refl e

-- a name as a number in base 256
abbrev number_of : List ℕ → ℕ
number_of [] = 0
number_of (c ∷ cs) = c + 256 * number_of cs

-- a number is none of these
abbrev is_new : ℕ → List ℕ → Bool
is_new n [] = true
is_new n (m ∷ ms) = not (n == m) && is_new n ms

-- these numbers are all different
abbrev are_new : List ℕ → Bool
are_new [] = true
are_new (n ∷ ns) = is_new n ns && are_new ns

is_new-other : (n : ℕ) (ns : List ℕ) (place : ℕ) → is_new n ns ≡ true → slice_get ns place ≡ Some n → ⊥
is_new-other n [] place new there = none-some n there
is_new-other n (m ∷ ms) zero new there = both_ways (n == m) (not-true _ (and_parts _ _ new).0) (eq-eqb _ _ (sym (same_Some _ _ there)))
is_new-other n (m ∷ ms) (suc k) new there = is_new-other n ms k (and_parts _ _ new).1 there

-- numbers that are all different stand at one place each
are_new-place : (ns : List ℕ) (n a b : ℕ) → are_new ns ≡ true → slice_get ns a ≡ Some n → slice_get ns b ≡ Some n → a ≡ b
are_new-place [] n a b new p q = absurd (none-some n p)
are_new-place (m ∷ ms) n zero zero new p q = refl
are_new-place (m ∷ ms) n zero (suc b) new p q = absurd (is_new-other m ms b (and_parts _ _ new).0 (q ∙ sym p))
are_new-place (m ∷ ms) n (suc a) zero new p q = absurd (is_new-other m ms a (and_parts _ _ new).0 (p ∙ sym q))
are_new-place (m ∷ ms) n (suc a) (suc b) new p q = ap suc (are_new-place ms n a b (and_parts _ _ new).1 p q)

-- the number of a spelling's name
abbrev spelling_number : Spelling → ℕ
spelling_number spelling = number_of spelling.name

spellings_new : are_new (map spelling_number spellings) ≡ true
unfolding spellings table lines
spellings_new = refl

-- no two spellings have one name
pub spellings-distinct : (a b : ℕ) (s t : Spelling) → slice_get spellings a ≡ Some s → slice_get spellings b ≡ Some t → s.name ≡ t.name → a ≡ b
spellings-distinct a b s t p q same =
    are_new-place (map spelling_number spellings) (spelling_number s) a b spellings_new
    (slice_get-map spelling_number spellings a ∙ ap (option_map spelling_number) p)
    (slice_get-map spelling_number spellings b ∙ ap (option_map spelling_number) q ∙ ap Some (ap number_of (sym same)))

distinct_by : (name : List ℕ) (a b : ℕ) (s t : Option Spelling) → slice_get spellings a ≡ s → slice_get spellings b ≡ t → IsSomeAnd s (λ spelling. spelling.name ≡ name) → IsSomeAnd t (λ spelling. spelling.name ≡ name) → a ≡ b
distinct_by name a b None t p q first second = absurd first
distinct_by name a b (Some s) None p q first second = absurd second
distinct_by name a b (Some s) (Some t) p q first second = spellings-distinct a b s t p q (first ∙ sym second)

-- no two spellings have one name, by their places
pub spellings-AreDistinct : AreDistinct
spellings-AreDistinct name a b p q = distinct_by name a b (slice_get spellings a) (slice_get spellings b) refl refl p q
