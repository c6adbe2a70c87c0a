-- The names of rows with the endings of their forms: each means its row and forms, and is a word that no directive is; and what is written for the operands of a row.
use Rattle.std.proofs.Common.{◌≡◌, ℕ, zero, suc, ◌+◌, ◌≤◌, Bool, true, false, not, ◌&&◌, cond, List, [], ◌∷◌, ◌++◌, Option, Some, None, map, length, slice_get, codes, refl, sym, ap, ◌∙◌, subst, arith}
use Rattle.std.specs.Prelude.{bytes_eq, nat_le, flat_map, find, option_map, IsSomeAnd}
use Rattle.std.specs.Option.{option_map_or}
use Rattle.std.proofs.lemmas.Bool.{and_parts, not-true, both_ways, leb-true, cond-true}
use Rattle.std.proofs.lemmas.Option.{slice_get-map, same_Some, none-some}
use Rattle.std.proofs.lemmas.Slice.Eq.{bytes_eq-Decides}
use Rattle.mw_text.specs.Texts.{is_word}
use Rattle.mw_tables.specs.declared.row.Shape.{Shape}
use Rattle.mw_tables.specs.declared.row.Shape.TheVariants.{Empty}
use Rattle.mw_tables.specs.declared.layout.Field.{Field}
use Rattle.mw_tables.specs.declared.layout.Layout.{Layout}
use Rattle.mw_tables.specs.Row.{TableRow}
use Rattle.mw_tables.specs.Rows.{lines, table, layouts}
use Rattle.mw_tables.specs.Layouts.{fields_of, shape_of, HasOperands}
use Rattle.mw_tables.proofs.Places.{row-layout}
use Rattle.mw_decode.specs.declared.insn.Insn.{Insn}
use Rattle.mw_decode.specs.Decode.{IsInsn, HasForms}
use Rattle.mw_syntax.specs.declared.item.Item.{Item}
use Rattle.mw_syntax.specs.Items.{items_of, kinds_of}
use Rattle.mw_syntax.specs.Lines.{unit_of, shape_at}
use Rattle.mw_syntax.specs.Mnemonics.{Spelling, choices, spelled, row_spellings, spellings_from, extended_spellings, spellings, mnemonic_of}
use Rattle.mw_asm.specs.Values.{fields_at}
use Rattle.mw_asm.specs.Disassembly.{name_at}
use Rattle.mw_syntax.proofs.MnemonicLemmas.{same_at, find-IsFound, spellings-distinct}
use Rattle.mw_asm.proofs.PrintedForms.{is_separated, hold_kinds}

-- the spelling of an instruction's name
abbrev pub spelling_of : Insn → Spelling
spelling_of insn = spelled (name_at insn.row) insn.row insn.oe insn.lk insn.aa insn.rc

-- an element stands at a place of a list
record Stands {X : Type 0} (xs : List X) (x : X) : Type 0 where
  pub place : ℕ
  pub there : slice_get xs place ≡ Some x

-- an element that stands in a list stands in the list with one more in front
stands_next : {X : Type 0} (y : X) (xs : List X) (x : X) → Stands xs x → Stands (y ∷ xs) x
stands_next y xs x stands = record { place = suc stands.place; there = stands.there }

in_front : {X : Type 0} (xs ys : List X) (x : X) (place : ℕ) → slice_get xs place ≡ Some x → slice_get (xs ++ ys) place ≡ Some x
in_front [] ys x place there = absurd (none-some x there)
in_front (y ∷ xs) ys x zero there = there
in_front (y ∷ xs) ys x (suc k) there = in_front xs ys x k there

-- what stands in a list stands in it with more behind
stands_front : {X : Type 0} (xs ys : List X) (x : X) → Stands xs x → Stands (xs ++ ys) x
stands_front xs ys x stands = record { place = stands.place; there = in_front xs ys x stands.place stands.there }

-- what stands in a list stands in it with more in front
stands_behind : {X : Type 0} (xs ys : List X) (x : X) → Stands ys x → Stands (xs ++ ys) x
stands_behind [] ys x stands = stands
stands_behind (y ∷ xs) ys x stands = stands_next y (xs ++ ys) x (stands_behind xs ys x stands)

-- the image of what stands in a list stands in the list of images
stands_map : {X Y : Type 0} (f : X → Y) (xs : List X) (x : X) → Stands xs x → Stands (map f xs) (f x)
stands_map f xs x stands = record { place = stands.place; there = slice_get-map f xs stands.place ∙ ap (option_map f) stands.there }

flat_map_at : {X Y : Type 0} (f : X → List Y) (xs : List X) (x : X) (y : Y) (place : ℕ) → slice_get xs place ≡ Some x → Stands (f x) y → Stands (flat_map f xs) y
flat_map_at f [] x y place there stands = absurd (none-some x there)
flat_map_at f (first ∷ xs) x y zero there stands =
    stands_front (f first) (flat_map f xs) y (subst (λ z. Stands (f z) y) (sym (same_Some _ _ there)) stands)
flat_map_at f (first ∷ xs) x y (suc k) there stands = stands_behind (f first) (flat_map f xs) y (flat_map_at f xs x y k there stands)

-- what stands in the list of an element stands in the lists of all, joined
stands_flat_map : {X Y : Type 0} (f : X → List Y) (xs : List X) (x : X) (y : Y) → Stands xs x → Stands (f x) y → Stands (flat_map f xs) y
stands_flat_map f xs x y stands = flat_map_at f xs x y stands.place stands.there

-- a form is among the choices, where it is chosen only if it exists
stands_choice : (exists chosen : Bool) → (chosen ≡ true → exists ≡ true) → Stands (choices exists) chosen
stands_choice true true only = record { place = 1; there = refl }
stands_choice false true only = absurd (both_ways false refl (only refl))
stands_choice exists false only = record { place = 0; there = refl }

-- the spelling of a row with forms that it has is among the row's
stands_row : (place : ℕ) (row : TableRow) (insn : Insn) → HasForms row insn → Stands (row_spellings place row) (spelled row.name place insn.oe insn.lk insn.aa insn.rc)
stands_row place row insn has =
    stands_flat_map
    (λ oe. flat_map (λ lk. flat_map (λ aa. map (λ rc. spelled row.name place oe lk aa rc) (choices row.rc)) (choices row.absolute)) (choices row.links))
    (choices row.oe) insn.oe _ (stands_choice row.oe insn.oe has.0)
    (stands_flat_map
    (λ lk. flat_map (λ aa. map (λ rc. spelled row.name place insn.oe lk aa rc) (choices row.rc)) (choices row.absolute))
    (choices row.links) insn.lk _ (stands_choice row.links insn.lk has.3)
    (stands_flat_map
    (λ aa. map (λ rc. spelled row.name place insn.oe insn.lk aa rc) (choices row.rc))
    (choices row.absolute) insn.aa _ (stands_choice row.absolute insn.aa has.2)
    (stands_map (λ rc. spelled row.name place insn.oe insn.lk insn.aa rc) (choices row.rc) insn.rc (stands_choice row.rc insn.rc has.1))))

-- the spellings of a row are among those of the rows
stands_from : (rows : List TableRow) (from at place : ℕ) (row : TableRow) (s : Spelling) → from + place ≡ at → slice_get rows place ≡ Some row → Stands (row_spellings at row) s → Stands (spellings_from from rows) s
stands_from [] from at place row s sum there stands = absurd (none-some row there)
stands_from (r ∷ rows) from at zero row s sum there stands =
    let same : from ≡ at = omega arith in
    let moved = subst (λ n. Stands (row_spellings n r) s) (sym same) (subst (λ z. Stands (row_spellings at z) s) (sym (same_Some _ _ there)) stands) in
    stands_front (row_spellings from r) (spellings_from (from + 1) rows) s moved
stands_from (r ∷ rows) from at (suc k) row s sum there stands =
    let next : from + 1 + k ≡ at = omega arith in
    stands_behind (row_spellings from r) (spellings_from (from + 1) rows) s (stands_from rows (from + 1) at k row s next there stands)

-- the spelling of an instruction is among the spellings, by the row at its place
spelling_by : (insn : Insn) (row : Option TableRow) → slice_get table insn.row ≡ row → IsSomeAnd row (λ r. HasForms r insn) → Stands spellings (spelling_of insn)
unfolding spellings
spelling_by insn None there has = absurd has
spelling_by insn (Some row) there has =
    let start : 0 + insn.row ≡ insn.row = omega arith in
    let named : name_at insn.row ≡ row.name = ap (λ o. option_map_or (λ (r : TableRow). r.name) o []) there in
    subst (λ name. Stands (spellings_from 0 table ++ extended_spellings) (spelled name insn.row insn.oe insn.lk insn.aa insn.rc)) (sym named)
    (stands_front (spellings_from 0 table) extended_spellings _ (stands_from table 0 insn.row insn.row row _ start there (stands_row insn.row row insn has)))

-- the spelling of an instruction is one of the spellings
insn-Stands : (insn : Insn) → IsInsn insn → Stands spellings (spelling_of insn)
insn-Stands insn is = spelling_by insn (slice_get table insn.row) refl is.forms

cond_none : {X : Type 0} (first : Bool) (y : X) (rest : Option X) → cond first (Some y) rest ≡ None → rest ≡ None
cond_none true y rest none = absurd (none-some y (sym none))
cond_none false y rest none = none

-- where an element passes, one is found
find_some : {X : Type 0} (p : X → Bool) (xs : List X) (x : X) (place : ℕ) → slice_get xs place ≡ Some x → p x ≡ true → find p xs ≡ None → ⊥
find_some p [] x place there passes none = none-some x there
find_some p (y ∷ xs) x zero there passes none = none-some y (sym none ∙ cond-true _ _ _ (ap p (same_Some _ _ there) ∙ passes))
find_some p (y ∷ xs) x (suc k) there passes none = find_some p xs x k there passes (cond_none (p y) y (find p xs) none)

-- what is found by the name of a spelling is that spelling
means_by : (s : Spelling) (place : ℕ) (found : Option Spelling) → slice_get spellings place ≡ Some s → find (λ (t : Spelling). bytes_eq t.name s.name) spellings ≡ found → option_map (λ (t : Spelling). t.mnemonic) found ≡ Some s.mnemonic
means_by s place None there f = absurd (find_some (λ (t : Spelling). bytes_eq t.name s.name) spellings s place there ((bytes_eq-Decides s.name s.name).1 refl) f)
means_by s place (Some t) there f =
    let found = find-IsFound (λ (t : Spelling). bytes_eq t.name s.name) spellings t f in
    let same : found.place ≡ place = spellings-distinct found.place place t s found.there there ((bytes_eq-Decides t.name s.name).0 found.passes) in
    let one : t ≡ s = same_Some _ _ (sym found.there ∙ ap (slice_get spellings) same ∙ there) in
    ap (λ (t : Spelling). Some t.mnemonic) one

-- the name of a spelling means its mnemonic
spelling-means : (s : Spelling) → Stands spellings s → mnemonic_of s.name ≡ Some s.mnemonic
unfolding mnemonic_of
spelling-means s stands = means_by s stands.place _ stands.there refl

-- the name means the row and the forms
pub name-means : (insn : Insn) → IsInsn insn → mnemonic_of (spelling_of insn).name ≡ Some (spelling_of insn).mnemonic
name-means insn is = spelling-means (spelling_of insn) (insn-Stands insn is)

-- a short word other than `.org`
abbrev is_short_word : List ℕ → Bool
is_short_word name = is_word name && (not (bytes_eq name (codes ".org")) && nat_le (length name) 20)

-- every spelling's name is a short word other than `.org`
spellings_words : map (λ (s : Spelling). is_short_word s.name) spellings ≡ map (λ (s : Spelling). true) spellings
unfolding spellings table lines
spellings_words = refl

-- no spelling's name is a directive of data
spellings_units : map (λ (s : Spelling). unit_of s.name) spellings ≡ map (λ (s : Spelling). None) spellings
unfolding spellings table lines
spellings_units = refl

-- an instruction's name is a short word other than `.org`
insn-is_short_word : (insn : Insn) → IsInsn insn → is_short_word (spelling_of insn).name ≡ true
insn-is_short_word insn is =
    let stands = insn-Stands insn is in
    same_at (λ (s : Spelling). is_short_word s.name) (λ (s : Spelling). true) spellings spellings_words stands.place (spelling_of insn) stands.there

-- an instruction's name is a word
pub name-word : (insn : Insn) → IsInsn insn → is_word (spelling_of insn).name ≡ true
name-word insn is = (and_parts _ _ (insn-is_short_word insn is)).0

-- an instruction's name is not `.org`
pub name-org : (insn : Insn) → IsInsn insn → bytes_eq (spelling_of insn).name (codes ".org") ≡ false
name-org insn is = not-true _ (and_parts _ _ (and_parts _ _ (insn-is_short_word insn is)).1).0

-- an instruction's name is no directive of data
pub name-unit : (insn : Insn) → IsInsn insn → unit_of (spelling_of insn).name ≡ None
name-unit insn is =
    let stands = insn-Stands insn is in
    same_at (λ (s : Spelling). unit_of s.name) (λ (s : Spelling). None) spellings spellings_units stands.place (spelling_of insn) stands.there

-- an instruction's name has at most 20 bytes
pub name-short : (insn : Insn) → IsInsn insn → length (spelling_of insn).name ≤ 20
name-short insn is = leb-true _ _ (and_parts _ _ (and_parts _ _ (insn-is_short_word insn is)).1).1

-- what is written for the operands of an instruction's row, and the fields that hold them
pub record IsListed (insn : Insn) : Type 0 where
  pub separated : is_separated (items_of (shape_at insn.row)) ≡ true
  pub short : length (items_of (shape_at insn.row)) ≤ 11
  pub hold : hold_kinds (kinds_of (items_of (shape_at insn.row))) (fields_at insn.row) ≡ true
  pub has : HasOperands (fields_at insn.row) insn.ops.items

-- items are separated, short and of the kinds that fields hold
abbrev is_listed : List Item → List Field → Bool
is_listed items fields = is_separated items && (nat_le (length items) 11 && hold_kinds (kinds_of items) fields)

-- what is written for the operand list of each layout fits the fields of the layout
layouts_listed : map (λ (layout : Layout). is_listed (items_of (shape_of layout)) (fields_of layout)) layouts ≡ map (λ (layout : Layout). true) layouts
unfolding layouts lines
layouts_listed = refl

-- the items of an instruction whose row has this operand list and these fields fit the fields
listed_of : (insn : Insn) (shape : Shape) (fields : List Field) → shape_at insn.row ≡ shape → fields_at insn.row ≡ fields → is_listed (items_of shape) fields ≡ true → HasOperands fields insn.ops.items → IsListed insn
listed_of insn shape fields shaped laid listed has =
    let first = and_parts _ _ (ap (λ s. is_listed (items_of s) (fields_at insn.row)) shaped ∙ ap (is_listed (items_of shape)) laid ∙ listed) in
    let second = and_parts _ _ first.1 in
    record { separated = first.0; short = leb-true _ _ second.0; hold = second.1; has = subst (λ fs. HasOperands fs insn.ops.items) (sym laid) has }

-- the items of an instruction fit its fields, by its row and its layout
listed_by : (insn : Insn) (row : Option TableRow) (layout : Option Layout) → slice_get table insn.row ≡ row → slice_get layouts insn.row ≡ layout → IsSomeAnd row (λ r. HasForms r insn) → IsSomeAnd layout (λ l. HasOperands (fields_of l) insn.ops.items) → IsListed insn
listed_by insn None layout there laid forms has = absurd forms
listed_by insn (Some row) None there laid forms has = absurd has
listed_by insn (Some row) (Some layout) there laid forms has =
    listed_of insn (shape_of layout) (fields_of layout)
    (ap (λ o. option_map_or (λ (r : TableRow). r.shape) o Empty) there ∙ row-layout insn.row row layout there laid)
    (ap (λ o. option_map_or fields_of o []) laid)
    (same_at (λ (l : Layout). is_listed (items_of (shape_of l)) (fields_of l)) (λ (l : Layout). true) layouts layouts_listed insn.row layout laid)
    has

-- the items of an instruction's row fit its fields, and the fields hold its operands
pub insn-IsListed : (insn : Insn) → IsInsn insn → IsListed insn
insn-IsListed insn is = listed_by insn (slice_get table insn.row) (slice_get layouts insn.row) refl refl is.forms is.operands
