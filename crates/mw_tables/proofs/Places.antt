-- The place of the row that matches a word, or has a name: no word matches two rows of one kind of prefix, and no two rows have one name.
use Rattle.std.proofs.Common.{◌≡◌, ℕ, zero, suc, ◌+◌, ◌*◌, ◌<◌, length, slice_get, subst, Bool, true, false, not, ◌&&◌, cond, List, [], ◌∷◌, Option, Some, None, refl, sym, ap, ◌∙◌, arith, add-zero, bit_and}
use Rattle.std.specs.Prelude.{◌==◌, IsSomeAnd, IsTrue, option_map}
use Rattle.std.specs.List.{position_from}
use Rattle.std.proofs.lemmas.Nat.{and_assoc, and_comm}
use Rattle.std.proofs.lemmas.Bool.{eqb-true, eq-eqb, and_parts, not-true, both_ways, false_from_ne_true, cond-true, cond-false}
use Rattle.std.proofs.lemmas.Option.{slice_get-map, slice_get_within, same_Some, none-some}
use Rattle.mw_tables.specs.declared.row.PrefixKind.{PrefixKind}
use Rattle.mw_tables.specs.declared.layout.Layout.{Layout}
use Rattle.mw_tables.specs.Row.{TableRow}
use Rattle.mw_tables.specs.Layouts.{shape_of}
use Rattle.mw_tables.specs.Rows.{lines, table, layouts, row_count}
use Rattle.mw_tables.specs.Matching.{kind_number, matches, MatchesAt, AreApart, IsNamedAt, AreNamed, AreLaidOut, row_place}

-- some word has the fixed bits of both rows, after one kind of prefix
abbrev clash : TableRow → TableRow → Bool
clash a b = kind_number a.prefix == kind_number b.prefix && (bit_and a.value b.mask == bit_and b.value a.mask)

-- a row clashes with none of these
abbrev is_apart : TableRow → List TableRow → Bool
is_apart row [] = true
is_apart row (r ∷ rs) = not (clash row r) && is_apart row rs

-- none of these rows clash
abbrev are_apart : List TableRow → Bool
are_apart [] = true
are_apart (r ∷ rs) = is_apart r rs && are_apart rs

same_bits : (w m v n u : ℕ) → bit_and w m ≡ v → bit_and w n ≡ u → bit_and v n ≡ bit_and u m
same_bits w m v n u p q =
    ap (λ x. bit_and x n) (sym p) ∙ and_assoc n w m ∙ ap (bit_and w) (and_comm m n) ∙ sym (and_assoc m w n) ∙ ap (λ x. bit_and x m) q

both_true : (a b : Bool) → a ≡ true → b ≡ true → (a && b) ≡ true
both_true true true p q = refl
both_true true false p q = q
both_true false b p q = p

-- two rows that match one word clash
matches-clash : (a b : TableRow) (kind : PrefixKind) (word : ℕ) → matches kind word a ≡ true → matches kind word b ≡ true → clash a b ≡ true
matches-clash a b kind word p q =
    let first = and_parts _ _ p in
    let second = and_parts _ _ q in
    both_true _ _
    (eq-eqb _ _ (eqb-true _ _ first.0 ∙ sym (eqb-true _ _ second.0)))
    (eq-eqb _ _ (same_bits word a.mask a.value b.mask b.value (eqb-true _ _ first.1) (eqb-true _ _ second.1)))

-- a row that clashes with none matches no word of theirs
matches-apart : (row : TableRow) (rows : List TableRow) (kind : PrefixKind) (word place : ℕ) → is_apart row rows ≡ true → MatchesAt rows kind word place → matches kind word row ≡ false
matches-apart row [] kind word place apart there = absurd there
matches-apart row (r ∷ rs) kind word zero apart there =
    false_from_ne_true (matches kind word row) (λ m. both_ways (clash row r) (not-true _ (and_parts _ _ apart).0) (matches-clash row r kind word m there))
matches-apart row (r ∷ rs) kind word (suc k) apart there = matches-apart row rs kind word k (and_parts _ _ apart).1 there

-- the first row that matches is the one that matches
position_from-place : (rows : List TableRow) (from : ℕ) (kind : PrefixKind) (word place : ℕ) → are_apart rows ≡ true → MatchesAt rows kind word place → position_from (matches kind word) from rows ≡ Some (from + place)
position_from-place [] from kind word place apart there = absurd there
position_from-place (r ∷ rs) from kind word zero apart there = cond-true _ _ _ there ∙ ap Some (sym (add-zero from))
position_from-place (r ∷ rs) from kind word (suc k) apart there =
    let next : from + 1 + k ≡ from + suc k = omega arith in
    cond-false _ _ _ (matches-apart r rs kind word k (and_parts _ _ apart).0 there)
    ∙ position_from-place rs (from + 1) kind word k (and_parts _ _ apart).1 there
    ∙ ap Some next

-- there is no place of a row that matches where no row matches
position_from-no_place : (rows : List TableRow) (from : ℕ) (kind : PrefixKind) (word : ℕ) → ((place : ℕ) → MatchesAt rows kind word place → ⊥) → position_from (matches kind word) from rows ≡ None
position_from-no_place [] from kind word none = refl
position_from-no_place (r ∷ rs) from kind word none =
    cond-false _ _ _ (false_from_ne_true (matches kind word r) (λ m. none zero m)) ∙ position_from-no_place rs (from + 1) kind word (λ k there. none (suc k) there)

-- the rows of the table do not clash
table_apart : are_apart table ≡ true
unfolding table lines
table_apart = refl

table_count : length table ≡ row_count
unfolding table lines
table_count = refl

-- a place with a row that matches is the place of the word's row
pub row_place-from_place : (kind : PrefixKind) (word place : ℕ) → MatchesAt table kind word place → row_place kind word ≡ Some place
unfolding row_place
row_place-from_place kind word place there =
    let start : 0 + place ≡ place = omega arith in
    position_from-place table 0 kind word place table_apart there ∙ ap Some start

-- a word that no row matches has no place
pub row_place-from_no_place : (kind : PrefixKind) (word : ℕ) → ((place : ℕ) → MatchesAt table kind word place → ⊥) → row_place kind word ≡ None
unfolding row_place
row_place-from_no_place kind word none = position_from-no_place table 0 kind word none

-- no two rows of the table match one word
pub table-AreApart : AreApart table
table-AreApart kind word a b p q =
    let first : row_place kind word ≡ Some a = row_place-from_place kind word a p in
    let second : row_place kind word ≡ Some b = row_place-from_place kind word b q in
    cc

-- a row that matches stands at its place
pub MatchesAt-row : (kind : PrefixKind) (word place : ℕ) (row : TableRow) → slice_get table place ≡ Some row → matches kind word row ≡ true → MatchesAt table kind word place
MatchesAt-row kind word place row there m = subst (λ o. IsSomeAnd o (λ r. IsTrue (matches kind word r))) (sym there) m

-- the place of a row that matches is the word's place
pub row_place-from_row : (kind : PrefixKind) (word place : ℕ) (row : TableRow) → slice_get table place ≡ Some row → matches kind word row ≡ true → row_place kind word ≡ Some place
row_place-from_row kind word place row there m = row_place-from_place kind word place (MatchesAt-row kind word place row there m)

-- at a place where a row is, it is the row that matches there
pub row-MatchesAt : (kind : PrefixKind) (word place : ℕ) (row : TableRow) → slice_get table place ≡ Some row → MatchesAt table kind word place → matches kind word row ≡ true
row-MatchesAt kind word place row there found = subst (λ o. IsSomeAnd o (λ r. IsTrue (matches kind word r))) there found

-- a place with an item of which something holds is in the list
is_at : {T : Type 0} (o : Option T) (P : T → Type 0) → IsSomeAnd o P → (n : ℕ) (xs : List T) → slice_get xs n ≡ o → n < length xs
is_at None P there n xs e = absurd there
is_at (Some x) P there n xs e = slice_get_within xs n x e

-- a place with a row that matches is in the table
pub MatchesAt-below : (kind : PrefixKind) (word place : ℕ) → MatchesAt table kind word place → place < row_count
MatchesAt-below kind word place there =
    let within : place < length table = is_at (slice_get table place) _ there place table refl in
    omega (arith, table_count)

-- the row at a place matches, where the first row's place is this one
abbrev Stands : List TableRow → ℕ → PrefixKind → ℕ → ℕ → Type 0
Stands rows from kind word place = (k : ℕ) × (from + k ≡ place) × MatchesAt rows kind word k

-- the first row that matches is the head, or one of the rest
stands-next : (row : TableRow) (rows : List TableRow) (from : ℕ) (kind : PrefixKind) (word place : ℕ) (first : Bool) (rest : Option ℕ) → matches kind word row ≡ first → (rest ≡ Some place → Stands rows (from + 1) kind word place) → cond first (Some from) rest ≡ Some place → Stands (row ∷ rows) from kind word place
stands-next row rows from kind word place true rest m later e = (zero, add-zero from ∙ same_Some _ _ e, m)
stands-next row rows from kind word place false rest m later e =
    let found : Stands rows (from + 1) kind word place = later e in
    let before : from + 1 + found.0 ≡ place = found.1 in
    let next : from + suc found.0 ≡ place = omega arith in
    (suc found.0, next, found.2)

-- the first row that matches does match
position_from-there : (rows : List TableRow) (from : ℕ) (kind : PrefixKind) (word place : ℕ) → position_from (matches kind word) from rows ≡ Some place → Stands rows from kind word place
position_from-there [] from kind word place e = absurd (none-some place e)
position_from-there (r ∷ rs) from kind word place e =
    stands-next r rs from kind word place (matches kind word r) (position_from (matches kind word) (from + 1) rs) refl (position_from-there rs (from + 1) kind word place) e

-- the row at a word's place matches
pub row_place-MatchesAt : (kind : PrefixKind) (word place : ℕ) → row_place kind word ≡ Some place → MatchesAt table kind word place
unfolding row_place
row_place-MatchesAt kind word place e =
    let found : Stands table 0 kind word place = position_from-there table 0 kind word place e in
    let same : found.0 ≡ place = omega (arith, found.1) in
    subst (λ n. MatchesAt table kind word n) same found.2

-- a word's place is in the table
pub row_place-below : (kind : PrefixKind) (word place : ℕ) → row_place kind word ≡ Some place → place < row_count
row_place-below kind word place e = MatchesAt-below kind word place (row_place-MatchesAt kind word place e)

-- the operand lists of the table are those of the layouts
table-AreLaidOut : AreLaidOut table
unfolding table layouts lines
table-AreLaidOut = refl

-- a row has the operand list of the layout at its place
pub row-layout : (place : ℕ) (row : TableRow) (layout : Layout) → slice_get table place ≡ Some row → slice_get layouts place ≡ Some layout → row.shape ≡ shape_of layout
row-layout place row layout there laid =
    same_Some _ _
    (ap (option_map (λ (r : TableRow). r.shape)) (sym there)
    ∙ sym (slice_get-map (λ (r : TableRow). r.shape) table place)
    ∙ ap (λ xs. slice_get xs place) table-AreLaidOut
    ∙ slice_get-map shape_of layouts place
    ∙ ap (option_map shape_of) laid)

-- a name as a number in base 256
abbrev number_of : List ℕ → ℕ
number_of [] = 0
number_of (c ∷ cs) = c + 256 * number_of cs

-- a row has the name of none of these
abbrev is_new : TableRow → List TableRow → Bool
is_new row [] = true
is_new row (r ∷ rs) = not (number_of row.name == number_of r.name) && is_new row rs

-- no two of these rows have one name
abbrev are_new : List TableRow → Bool
are_new [] = true
are_new (r ∷ rs) = is_new r rs && are_new rs

-- a row that has the name of none of these has no name of theirs
is_new-other : (row : TableRow) (rows : List TableRow) (name : List ℕ) (place : ℕ) → is_new row rows ≡ true → row.name ≡ name → IsNamedAt rows name place → ⊥
is_new-other row [] name place new named there = there
is_new-other row (r ∷ rs) name zero new named there =
    both_ways (number_of row.name == number_of r.name) (not-true _ (and_parts _ _ new).0) (eq-eqb _ _ (ap number_of (named ∙ sym there)))
is_new-other row (r ∷ rs) name (suc k) new named there = is_new-other row rs name k (and_parts _ _ new).1 named there

are_new-AreNamed : (rows : List TableRow) → are_new rows ≡ true → AreNamed rows
are_new-AreNamed [] new name a b p q = absurd p
are_new-AreNamed (r ∷ rs) new name zero zero p q = refl
are_new-AreNamed (r ∷ rs) new name zero (suc b) p q = absurd (is_new-other r rs name b (and_parts _ _ new).0 p q)
are_new-AreNamed (r ∷ rs) new name (suc a) zero p q = absurd (is_new-other r rs name a (and_parts _ _ new).0 q p)
are_new-AreNamed (r ∷ rs) new name (suc a) (suc b) p q = ap suc (are_new-AreNamed rs (and_parts _ _ new).1 name a b p q)

-- the names of the table are all different
table_new : are_new table ≡ true
unfolding table lines
table_new = refl

-- no two rows of the table have one name
pub table-AreNamed : AreNamed table
table-AreNamed = are_new-AreNamed table table_new

-- a place with a row of a name is in the table
pub IsNamedAt-below : (name : List ℕ) (place : ℕ) → IsNamedAt table name place → place < row_count
IsNamedAt-below name place there =
    let within : place < length table = is_at (slice_get table place) _ there place table refl in
    omega (arith, table_count)
