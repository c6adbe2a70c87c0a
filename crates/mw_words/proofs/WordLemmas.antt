-- What a word of the grammar is to the reader: one without a minus in front is no flag, and one that names an option is
-- its flag, with the value behind the first equals sign if there is one.
use Rattle.std.proofs.Common.{◌≡◌, ℕ, suc, ◌+◌, ◌==◌, Bool, true, false, not, cond, ◌||◌, ◌⊎◌, inl, inr, List, [], ◌∷◌, take, drop, Option, Some, None, bytes_eq, codes, refl, sym, ap, ap₂, ◌∙◌, arith}
use Rattle.std.specs.Prelude.{option_and_then}
use Rattle.std.specs.List.{list_any, position_or_len, before_first, after_first}
use Rattle.std.proofs.lemmas.Slice.Eq.{bytes_eq-Decides}
use Rattle.clap.specs.Lexer.{long_of, long_of_rest, short_of, short_of_rest, strip_byte}
use Rattle.mw_words.specs.declared.verb.Verb.{Verb}
use Rattle.mw_words.specs.declared.verb.Verb.TheVariants.{Run, Assemble, Disassemble, Generate}
use Rattle.mw_words.specs.declared.verb.Key.{Key}
use Rattle.mw_words.specs.declared.verb.Key.TheVariants.{Name, Cycles, Script, Dump}
use Rattle.mw_words.specs.Grammar.{is_name, is_equals, if_taken, option_of}
use Rattle.mw_words.specs.Reader.{id_of}

-- two minuses
abbrev pub dashes : List ℕ
dashes = 45 ∷ 45 ∷ []

-- a word that is no flag
pub record NoFlag (word : List ℕ) : Type 0 where
  pub long : long_of word ≡ None
  pub short : short_of word ≡ None
  pub other : bytes_eq word dashes ≡ false

no_minus : (b : Bool) → not b ≡ true → b ≡ false
no_minus true e = cc
no_minus false e = refl

pub no-flag : (word : List ℕ) → is_name word ≡ true → NoFlag word
no-flag [] e = cc
no-flag (x ∷ xs) e =
    let f : (x == 45) ≡ false = no_minus (x == 45) e in
    record {
      long = ap (λ b. option_and_then long_of_rest (option_and_then (strip_byte 45) (cond b (Some xs) None))) f;
      short = ap (λ b. option_and_then short_of_rest (cond b (Some xs) None)) f;
      other = rw f refl;
    }

-- the option's flag
pub record IsFlag (word id : List ℕ) (value : Option (List ℕ)) : Type 0 where
  pub long : long_of word ≡ Some (id, value)
  pub other : bytes_eq word dashes ≡ false

-- a word and what stands before the first element that passes, if its first one doesn't
pub record Front (p : ℕ → Bool) (x : ℕ) (xs : List ℕ) (c : ℕ) (front : List ℕ) : Type 0 where
  pub first : x ≡ c
  pub front_is : before_first p xs ≡ front
  pub has : list_any p (x ∷ xs) ≡ list_any p xs
  pub behind : after_first p (x ∷ xs) ≡ after_first p xs

next : (n : ℕ) → suc n + 1 ≡ suc (n + 1)
next n = omega arith

front_by : (p : ℕ → Bool) (x : ℕ) (xs : List ℕ) (c : ℕ) (front : List ℕ) (b : Bool) → p x ≡ b → take (cond (not b) (1 + position_or_len p xs) 0) (x ∷ xs) ≡ c ∷ front → Front p x xs c front
front_by p x xs c front true t e = cc
front_by p x xs c front false t e =
    let n : ℕ = position_or_len p xs in
    let s : 1 + n ≡ suc n = omega arith in
    let e' : x ∷ take n xs ≡ c ∷ front = ap (λ k. take k (x ∷ xs)) (sym s) ∙ e in
    let whole : position_or_len p (x ∷ xs) ≡ suc n = ap (λ b. cond (not b) (1 + n) 0) t ∙ s in
    record {
      first = cc;
      front_is = cc;
      has = ap (λ b. b || list_any p xs) t;
      behind = ap (λ k. drop k (x ∷ xs)) (ap (λ k. k + 1) whole ∙ next n);
    }

pub front-of : (p : ℕ → Bool) (x : ℕ) (xs : List ℕ) (c : ℕ) (front : List ℕ) → before_first p (x ∷ xs) ≡ c ∷ front → Front p x xs c front
front-of p x xs c front e = front_by p x xs c front (p x) refl e

-- the value behind the first equals sign, if there is one
abbrev pub value_in : List ℕ → Option (List ℕ)
value_in word = cond (list_any is_equals word) (Some (after_first is_equals word)) None

flag_by : (x y z : ℕ) (word id : List ℕ) (value : Option (List ℕ)) → x ≡ 45 → y ≡ 45 → before_first is_equals (z ∷ word) ≡ id → value_in (z ∷ word) ≡ value → IsFlag (x ∷ y ∷ z ∷ word) id value
flag_by x y z word id value ex ey name v = record {
  long = rw (ex, ey) (ap₂ (λ n v. Some (n, v)) name v);
  other = rw (ex, ey) refl;
}

-- a flag whose first equals sign stands behind the id
pub flag-of : (word : List ℕ) (first : ℕ) (rest : List ℕ) → before_first is_equals word ≡ 45 ∷ 45 ∷ first ∷ rest → IsFlag word (first ∷ rest) (value_in word)
flag-of [] first rest e = cc
flag-of (x ∷ []) first rest e = let f = front-of is_equals x [] 45 (45 ∷ first ∷ rest) e in let g = f.front_is in cc
flag-of (x ∷ y ∷ []) first rest e =
    let f = front-of is_equals x (y ∷ []) 45 (45 ∷ first ∷ rest) e in
    let g = front-of is_equals y [] 45 (first ∷ rest) f.front_is in
    let h = g.front_is in cc
flag-of (x ∷ y ∷ z ∷ word) first rest e =
    let f = front-of is_equals x (y ∷ z ∷ word) 45 (45 ∷ first ∷ rest) e in
    let g = front-of is_equals y (z ∷ word) 45 (first ∷ rest) f.front_is in
    let value : value_in (z ∷ word) ≡ value_in (x ∷ y ∷ z ∷ word) = ap₂ (λ b v. cond b (Some v) None) (sym (f.has ∙ g.has)) (sym (f.behind ∙ g.behind)) in
    flag_by x y z word (first ∷ rest) (value_in (x ∷ y ∷ z ∷ word)) f.first g.first g.front_is value

-- a command has the option; each has a name
abbrev pub has : Verb → Key → Bool
has verb Name = true
has Run key = true
has Generate Cycles = true
has verb key = false

-- an option of a command: its text, and that the command has it
pub record IsOption (verb : Verb) (word : List ℕ) (key : Key) : Type 0 where
  pub first : ℕ
  pub rest : List ℕ
  pub id_is : id_of key ≡ first ∷ rest
  pub text : word ≡ 45 ∷ 45 ∷ first ∷ rest
  pub taken : has verb key ≡ true
  pub named : key ≡ Name → ⊥

-- a command that has an option takes it
taken_of : (verb : Verb) (option key : Key) → if_taken verb option ≡ Some key → (option ≡ key) × (has verb option ≡ true)
taken_of Run Name key e = (cc, refl)
taken_of Run Cycles key e = (cc, refl)
taken_of Run Script key e = (cc, refl)
taken_of Run Dump key e = (cc, refl)
taken_of Generate Name key e = cc
taken_of Generate Cycles key e = (cc, refl)
taken_of Generate Script key e = cc
taken_of Generate Dump key e = cc
taken_of Assemble option key e = cc
taken_of Disassemble option key e = cc

-- one of two choices gave the option
chosen : (b : Bool) (first second : Option Key) (key : Key) → cond b first second ≡ Some key → ((b ≡ true) × (first ≡ Some key)) ⊎ (second ≡ Some key)
chosen true first second key e = inl (refl, e)
chosen false first second key e = inr e

-- an option by its text
option_by : (verb : Verb) (word : List ℕ) (option key : Key) (first : ℕ) (rest : List ℕ) → id_of option ≡ first ∷ rest → (option ≡ Name → ⊥) → word ≡ 45 ∷ 45 ∷ first ∷ rest → if_taken verb option ≡ Some key → IsOption verb word key
option_by verb word option key first rest id named text e =
    let t = taken_of verb option key e in
    record {
      first = first;
      rest = rest;
      id_is = ap id_of (sym t.0) ∙ id;
      text = text;
      taken = ap (has verb) (sym t.0) ∙ t.1;
      named = λ n. named (t.0 ∙ n);
    }

pub option-of : (verb : Verb) (word : List ℕ) (key : Key) → option_of verb word ≡ Some key → IsOption verb word key
option-of verb word key e = elim (chosen (bytes_eq word (codes "--cycles")) (if_taken verb Cycles) _ key e) [
  | inl h ↦ option_by verb word Cycles key _ _ refl (λ n. cc) ((bytes_eq-Decides word (codes "--cycles")).0 h.0) h.1
  | inr other ↦ elim (chosen (bytes_eq word (codes "--script")) (if_taken verb Script) _ key other) [
    | inl h ↦ option_by verb word Script key _ _ refl (λ n. cc) ((bytes_eq-Decides word (codes "--script")).0 h.0) h.1
    | inr last ↦ elim (chosen (bytes_eq word (codes "--dump")) (if_taken verb Dump) _ key last) [
      | inl h ↦ option_by verb word Dump key _ _ refl (λ n. cc) ((bytes_eq-Decides word (codes "--dump")).0 h.0) h.1
      | inr none ↦ cc
    ]
  ]
]
