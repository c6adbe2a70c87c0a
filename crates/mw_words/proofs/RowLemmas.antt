-- Rows of what was said: where one is added, it is found, and the others stay.
use Rattle.std.proofs.Common.{◌≡◌, ℕ, Bool, true, false, cond, ◌||◌, List, [], ◌∷◌, ◌++◌, Option, Some, None, is_some, bytes_eq, refl, ap, ◌∙◌}
use Rattle.std.specs.Prelude.{find, option_and_then, slice_get}
use Rattle.std.specs.List.{list_any}
use Rattle.std.proofs.lemmas.List.{append-nil}
use Rattle.clap.specs.Walk.{Row, Rule, Text, at_row, has_row, more_values, reading_by, used, with_values, without}
use Rattle.clap.specs.declared.builder.value_parser.Reading.{Reading}
use Rattle.clap.specs.Simple.{filled, with_index}
use Rattle.clap.specs.Words.{new_rule}
use Rattle.clap.specs.declared.parser.matches.ValueSource.TheVariants.{CommandLine}
use Rattle.mw_words.specs.declared.verb.Key.{Key}
use Rattle.mw_words.specs.declared.verb.Key.TheVariants.{Name, Cycles, Script, Dump}
use Rattle.mw_words.specs.Grammar.{Said, unless_twice, with_said}
use Rattle.mw_words.specs.Reader.{id_of, option_rule, value_of}

-- the rule of a name or an option as the reader has it when it is built
abbrev pub built_rule : Key → Rule
built_rule Name = with_index 1 (filled (new_rule (id_of Name)))
built_rule key = with_index 2 (filled (option_rule key))

-- the row of what was said once
abbrev pub row_of : Key → List ℕ → Row
row_of key value = record { id = id_of key; values = value ∷ []; count = None; source = Some CommandLine; reading = reading_by (built_rule key) }

-- the row's test
abbrev pub has_id : Text → Row → Bool
has_id id r = bytes_eq r.id id

-- the first text of a row
abbrev pub text_of : Row → Option Text
text_of r = slice_get r.values 0

-- where no row has the id, the missing rows stand at the end
at_row_step : (id : Text) (change : Row → List Row) (missing rest rows : List Row) (r : Row) (b : Bool) → (b || list_any (has_id id) rows) ≡ false → (list_any (has_id id) rows ≡ false → rest ≡ rows ++ missing)
    → cond b (change r ++ rows) (r ∷ rest) ≡ (r ∷ rows) ++ missing
at_row_step id change missing rest rows r true e h = cc
at_row_step id change missing rest rows r false e h = ap (λ l. r ∷ l) (h e)

pub at_row-new : (id : Text) (change : Row → List Row) (missing rows : List Row) → has_row id rows ≡ false → at_row id change missing rows ≡ rows ++ missing
at_row-new id change missing [] e = refl
at_row-new id change missing (r ∷ rows) e = at_row_step id change missing (at_row id change missing rows) rows r (bytes_eq r.id id) e (at_row-new id change missing rows)

pub without-new : (id : Text) (rows : List Row) → has_row id rows ≡ false → without id rows ≡ rows
without-new id rows e = at_row-new id (λ r. []) [] rows e ∙ append-nil rows

-- the row that is found, with one more at the end
abbrev pub or_last : Option Row → Bool → Row → Option Row
or_last (Some found) b r = Some found
or_last None b r = cond b (Some r) None

find_step : (id : Text) (rows : List Row) (r last : Row) (b : Bool) → find (has_id id) (rows ++ last ∷ []) ≡ or_last (find (has_id id) rows) (bytes_eq last.id id) last
    → cond b (Some r) (find (has_id id) (rows ++ last ∷ [])) ≡ or_last (cond b (Some r) (find (has_id id) rows)) (bytes_eq last.id id) last
find_step id rows r last true h = refl
find_step id rows r last false h = h

pub find-added : (id : Text) (rows : List Row) (last : Row) → find (has_id id) (rows ++ last ∷ []) ≡ or_last (find (has_id id) rows) (bytes_eq last.id id) last
find-added id [] last = refl
find-added id (r ∷ rows) last = find_step id rows r last (bytes_eq r.id id) (find-added id rows last)

-- a row is found exactly where there is one
has_step : (id : Text) (rows : List Row) (r : Row) (b : Bool) → list_any (has_id id) rows ≡ is_some (find (has_id id) rows) → (b || list_any (has_id id) rows) ≡ is_some (cond b (Some r) (find (has_id id) rows))
has_step id rows r true h = refl
has_step id rows r false h = h

pub has-found : (id : Text) (rows : List Row) → has_row id rows ≡ is_some (find (has_id id) rows)
has-found id [] = refl
has-found id (r ∷ rows) = has_step id rows r (bytes_eq r.id id) (has-found id rows)

-- the rows hold what was said
abbrev pub Holds : List Row → Said → Type 0
Holds rows said = (key : Key) → (is_some (find (has_id (id_of key)) rows) ≡ is_some (value_of key said)) × (option_and_then text_of (find (has_id (id_of key)) rows) ≡ value_of key said)

-- it wasn't said before
abbrev pub IsNew : Key → Said → Type 0
IsNew key said = value_of key said ≡ None

-- what is said with one thing more
abbrev pub put : Key → List ℕ → Said → Said
put Name value said = record said { name = Some value }
put Cycles value said = record said { cycles = Some value }
put Script value said = record said { script = Some value }
put Dump value said = record said { dump = Some value }

-- what is said once more is refused
new_by : (before : Option (List ℕ)) (now said : Said) → unless_twice before now ≡ Some said → (before ≡ None) × (now ≡ said)
new_by None now said e = (refl, cc)
new_by (Some value) now said e = cc

pub said-new : (key : Key) (value : List ℕ) (said next : Said) → with_said key value said ≡ Some next → IsNew key said × (put key value said ≡ next)
said-new Name value said next e = new_by said.name (record said { name = Some value }) next e
said-new Cycles value said next e = new_by said.cycles (record said { cycles = Some value }) next e
said-new Script value said next e = new_by said.script (record said { script = Some value }) next e
said-new Dump value said next e = new_by said.dump (record said { dump = Some value }) next e

-- no row holds what wasn't said
pub no-row : (key : Key) (rows : List Row) (said : Said) → Holds rows said → IsNew key said → has_row (id_of key) rows ≡ false
no-row key rows said h new = has-found (id_of key) rows ∙ (h key).0 ∙ ap (λ v. is_some v) new

-- values of an id that no row has stand in a row at the end
values-new : (id : Text) (how : Reading) (value : List ℕ) (rows : List Row) → has_row id rows ≡ false
    → with_values id how CommandLine (value ∷ []) (without id rows) ≡ rows ++ record { id = id; values = value ∷ []; count = None; source = Some CommandLine; reading = how } ∷ []
values-new id how value rows e =
    let row : List Row = record { id = id; values = value ∷ []; count = None; source = Some CommandLine; reading = how } ∷ [] in
    ap (λ l. at_row id (more_values CommandLine (value ∷ [])) row l) (without-new id rows e) ∙ at_row-new id (more_values CommandLine (value ∷ [])) row rows e

-- a use that wasn't said before adds its row at the end
pub used-new : (key : Key) (value : List ℕ) (rows : List Row) → has_row (id_of key) rows ≡ false → used (built_rule key) (value ∷ []) rows ≡ rows ++ row_of key value ∷ []
used-new Name value rows e = values-new (id_of Name) (reading_by (built_rule Name)) value rows e
used-new Cycles value rows e = values-new (id_of Cycles) (reading_by (built_rule Cycles)) value rows e
used-new Script value rows e = values-new (id_of Script) (reading_by (built_rule Script)) value rows e
used-new Dump value rows e = values-new (id_of Dump) (reading_by (built_rule Dump)) value rows e

-- what is found of the key itself and of another one, by whether it was there before
own_found : (found : Option Row) (r : Row) (value : List ℕ) → found ≡ None → text_of r ≡ Some value → (is_some (or_last found true r) ≡ true) × (option_and_then text_of (or_last found true r) ≡ Some value)
own_found None r value e t = (refl, t)
own_found (Some x) r value e t = cc

other_found : (found : Option Row) (r : Row) (v : Option (List ℕ)) → (is_some found ≡ is_some v) × (option_and_then text_of found ≡ v) → (is_some (or_last found false r) ≡ is_some v) × (option_and_then text_of (or_last found false r) ≡ v)
other_found None r v h = h
other_found (Some x) r v h = h

-- nothing is found of what wasn't said
none_by : (found : Option Row) (v : Option (List ℕ)) → is_some found ≡ is_some v → v ≡ None → found ≡ None
none_by None v e n = refl
none_by (Some x) None e n = cc
none_by (Some x) (Some y) e n = cc

-- what is found once the row of this key stands at the end
abbrev pub Found : Key → Key → List ℕ → List Row → Said → Type 0
Found key asked value rows said = (is_some (find (has_id (id_of asked)) (rows ++ row_of key value ∷ [])) ≡ is_some (value_of asked (put key value said))) × (option_and_then text_of (find (has_id (id_of asked)) (rows ++ row_of key value ∷ [])) ≡ value_of asked (put key value said))

own : (key : Key) (value : List ℕ) (rows : List Row) (said : Said) → Holds rows said → IsNew key said → (is_some (or_last (find (has_id (id_of key)) rows) true (row_of key value)) ≡ true) × (option_and_then text_of (or_last (find (has_id (id_of key)) rows) true (row_of key value)) ≡ Some value)
own key value rows said h new = own_found (find (has_id (id_of key)) rows) (row_of key value) value (none_by _ (value_of key said) (h key).0 new) refl

other : (asked key : Key) (value : List ℕ) (rows : List Row) (said : Said) → Holds rows said → (is_some (or_last (find (has_id (id_of asked)) rows) false (row_of key value)) ≡ is_some (value_of asked said)) × (option_and_then text_of (or_last (find (has_id (id_of asked)) rows) false (row_of key value)) ≡ value_of asked said)
other asked key value rows said h = other_found (find (has_id (id_of asked)) rows) (row_of key value) (value_of asked said) (h asked)

-- the same, before the row is put at the end
abbrev pub FoundBy : Key → Key → List ℕ → List Row → Said → Type 0
FoundBy key asked value rows said = (is_some (or_last (find (has_id (id_of asked)) rows) (bytes_eq (id_of key) (id_of asked)) (row_of key value)) ≡ is_some (value_of asked (put key value said))) × (option_and_then text_of (or_last (find (has_id (id_of asked)) rows) (bytes_eq (id_of key) (id_of asked)) (row_of key value)) ≡ value_of asked (put key value said))

found_by : (key asked : Key) (value : List ℕ) (rows : List Row) (said : Said) → Holds rows said → IsNew key said → FoundBy key asked value rows said
found_by Name Name value rows said h new = own Name value rows said h new
found_by Name Cycles value rows said h new = other Cycles Name value rows said h
found_by Name Script value rows said h new = other Script Name value rows said h
found_by Name Dump value rows said h new = other Dump Name value rows said h
found_by Cycles Name value rows said h new = other Name Cycles value rows said h
found_by Cycles Cycles value rows said h new = own Cycles value rows said h new
found_by Cycles Script value rows said h new = other Script Cycles value rows said h
found_by Cycles Dump value rows said h new = other Dump Cycles value rows said h
found_by Script Name value rows said h new = other Name Script value rows said h
found_by Script Cycles value rows said h new = other Cycles Script value rows said h
found_by Script Script value rows said h new = own Script value rows said h new
found_by Script Dump value rows said h new = other Dump Script value rows said h
found_by Dump Name value rows said h new = other Name Dump value rows said h
found_by Dump Cycles value rows said h new = other Cycles Dump value rows said h
found_by Dump Script value rows said h new = other Script Dump value rows said h
found_by Dump Dump value rows said h new = own Dump value rows said h new

-- the row of what wasn't said before, at the end, holds it beside what was said
pub holds-more : (key : Key) (value : List ℕ) (rows : List Row) (said : Said) → Holds rows said → IsNew key said → Holds (rows ++ row_of key value ∷ []) (put key value said)
holds-more key value rows said h new asked =
    let e = find-added (id_of asked) rows (row_of key value) in
    let f = found_by key asked value rows said h new in
    (ap (λ r. is_some r) e ∙ f.0, ap (option_and_then text_of) e ∙ f.1)
