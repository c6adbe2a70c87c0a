-- A group leads to the row of its opcode's words.
use Rattle.std.proofs.Common.{◌≡◌, ℕ, zero, suc, ◌+◌, ◌/◌, ◌^◌, ◌<◌, true, List, [], ◌∷◌, length, get_or, sym, ap, ◌∙◌, subst, inl, inr, arith, bit_and, add-zero}
use Rattle.std.specs.Prelude.{◌==◌, ◌⊎◌, ◌&&◌, Bool, false, refl}
use Rattle.std.proofs.lemmas.Nat.{and_assoc, and_comm, and_shr}
use Rattle.std.specs.Int.Bits.{and_self}
use Rattle.std.proofs.lemmas.Bool.{eqb-true, eq-eqb, and_parts, or_cases, not-true, both_ways}
use Rattle.mw_tables.specs.declared.row.PrefixKind.{PrefixKind}
use Rattle.mw_tables.specs.Row.{TableRow}
use Rattle.mw_tables.specs.Matching.{matches, MatchesAt}
use Rattle.mw_decode.specs.declared.groups.Group.{Group}
use Rattle.mw_decode.specs.Groups.{key_of, is_near, codes_lead, is_of, row_leads, rows_lead, is_whole, groups_fit}

-- the place is this one or the next one
abbrev pub IsNear : ℕ → ℕ → Type 0
IsNear p place = (place ≡ p) ⊎ (place ≡ p + 1)

near : (p place : ℕ) → is_near p place ≡ true → IsNear p place
near p place h = elim (or_cases (place == p) (place == p + 1) h) [
  | inl same ↦ inl (eqb-true _ _ same)
  | inr next ↦ inr (eqb-true _ _ next)
]

-- the number that is looked up agrees with the row's
key_of-and : (group : Group) (word mask value : ℕ) → bit_and word mask ≡ value → bit_and (key_of group word) (key_of group mask) ≡ key_of group value
key_of-and group word mask value h =
    let a : ℕ = word / 2 ^ group.shift in
    let b : ℕ = mask / 2 ^ group.shift in
    let m : ℕ = group.mask in
    and_assoc (bit_and b m) a m
    ∙ ap (bit_and a) (and_comm m (bit_and b m) ∙ and_assoc m b m ∙ ap (bit_and b) (and_self m))
    ∙ sym (and_assoc m a b)
    ∙ ap (λ x. bit_and x m) (sym (and_shr word mask group.shift) ∙ ap (λ x. x / 2 ^ group.shift) h)

-- the place at a code that agrees
get_or-codes : (ps : List ℕ) (code i mask value place : ℕ) → codes_lead ps code mask value place ≡ true → i < length ps → bit_and (code + i) mask ≡ value → IsNear (get_or ps i 0) place
get_or-codes [] code i mask value place fit within agrees = absurd (omega arith)
get_or-codes (p ∷ ps) code zero mask value place fit within agrees =
    elim (or_cases _ _ (and_parts _ _ fit).0) [
      | inl other ↦ absurd (both_ways (bit_and code mask == value) (not-true _ other) (eq-eqb _ _ (ap (λ n. bit_and n mask) (sym (add-zero code)) ∙ agrees)))
      | inr same ↦ near p place same
    ]
get_or-codes (p ∷ ps) code (suc i) mask value place fit within agrees =
    let next : code + 1 + i ≡ code + suc i = omega arith in
    let less : i < length ps = omega arith in
    get_or-codes ps (code + 1) i mask value place (and_parts _ _ fit).1 less (ap (λ n. bit_and n mask) next ∙ agrees)

both_true : (a b : Bool) → a ≡ true → b ≡ true → (a && b) ≡ true
both_true true true p q = refl
both_true true false p q = q
both_true false b p q = p

-- a row that matches is of its kind, and of the word's opcode
matches-is_of : (kind : PrefixKind) (word : ℕ) (row : TableRow) → matches kind word row ≡ true → is_of kind (word / 2 ^ 26) row ≡ true
matches-is_of kind word row there =
    let both = and_parts _ _ there in
    let matched : bit_and word row.mask ≡ row.value = eqb-true _ _ both.1 in
    both_true _ _ both.0 (eq-eqb _ _ (sym (and_shr word row.mask 26) ∙ ap (λ n. n / 2 ^ 26) matched))

-- the place that an opcode's group has for a word is that of the row that matches, or the one before it
pub get_or-rows : (rows : List TableRow) (kind : PrefixKind) (group : Group) (from word place : ℕ) → rows_lead kind (word / 2 ^ 26) group rows from ≡ true → key_of group word < length group.places.now → MatchesAt rows kind word place → IsNear (get_or group.places.now (key_of group word) 0) (from + place)
get_or-rows [] kind group from word place fit within there = absurd there
get_or-rows (r ∷ rs) kind group from word zero fit within there =
    let start : 0 + key_of group word ≡ key_of group word = omega arith in
    let matched : bit_and word r.mask ≡ r.value = eqb-true _ _ (and_parts _ _ there).1 in
    let leads : codes_lead group.places.now 0 (key_of group r.mask) (key_of group r.value) from ≡ true =
    subst (λ b. row_leads b group r from ≡ true) (matches-is_of kind word r there) (and_parts _ _ fit).0 in
    subst (λ n. IsNear (get_or group.places.now (key_of group word) 0) n) (sym (add-zero from))
    (get_or-codes group.places.now 0 (key_of group word) (key_of group r.mask) (key_of group r.value) from leads within (ap (λ n. bit_and n (key_of group r.mask)) start ∙ key_of-and group word r.mask r.value matched))
get_or-rows (r ∷ rs) kind group from word (suc k) fit within there =
    let next : from + 1 + k ≡ from + suc k = omega arith in
    subst (λ n. IsNear (get_or group.places.now (key_of group word) 0) n) next
    (get_or-rows rs kind group (from + 1) word k (and_parts _ _ fit).1 within there)

-- what is known of the group of an opcode
pub group-fits : (kind : PrefixKind) (rows : List TableRow) (groups : List Group) (from i : ℕ) (past : Group) → groups_fit kind rows from groups ≡ true → i < length groups → (is_whole (get_or groups i past) ≡ true) × (rows_lead kind (from + i) (get_or groups i past) rows 0 ≡ true)
group-fits kind rows [] from i past fit within = absurd (omega arith)
group-fits kind rows (g ∷ gs) from zero past fit within =
    let both = and_parts _ _ (and_parts _ _ fit).0 in
    (both.0, subst (λ n. rows_lead kind n g rows 0 ≡ true) (sym (add-zero from)) both.1)
group-fits kind rows (g ∷ gs) from (suc i) past fit within =
    let next : from + 1 + i ≡ from + suc i = omega arith in
    let less : i < length gs = omega arith in
    let rest = group-fits kind rows gs (from + 1) i past (and_parts _ _ fit).1 less in
    (rest.0, subst (λ n. rows_lead kind n (get_or gs i past) rows 0 ≡ true) next rest.1)
