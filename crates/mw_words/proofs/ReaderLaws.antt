-- The reader takes the words of the grammar, and has what they say.
use Rattle.std.proofs.Common.{◌≡◌, ℕ, Bool, true, false, cond, ◌&&◌, List, [], ◌∷◌, Option, Some, None, is_some, refl, sym, ap, ap₂, subst, ◌∙◌}
use Rattle.std.specs.Prelude.{fold, option_map, option_and_then}
use Rattle.std.specs.Option.{option_map_or}
use Rattle.std.specs.List.{list_any, before_first, after_first}
use Rattle.clap.specs.Walk.{Row, Rule, Text, Walk, has_row, rows_of, nothing_held, settled_rows, used, used_by_id, walk_from, walked, with_default}
use Rattle.clap.specs.Matches.{first_value}
use Rattle.clap.specs.declared.parser.matches.Found.{Found}
use Rattle.clap.proofs.WalkLemmas.{first_value-rows}
use Rattle.clap.specs.Takes.{entered_passes, settle_passes, takes, turn_passes, use_passes, walk_passes}
use Rattle.clap.specs.Simple.{App, built, is_simple, matches_of}
use Rattle.mw_words.specs.declared.verb.Verb.{Verb}
use Rattle.mw_words.specs.declared.verb.Verb.TheVariants.{Run, Assemble, Disassemble, Generate}
use Rattle.mw_words.specs.declared.verb.Key.{Key}
use Rattle.mw_words.specs.declared.verb.Key.TheVariants.{Name, Cycles, Script, Dump}
use Rattle.mw_words.specs.Grammar.{Said, Reading, idle, is_equals, is_name, now_said, option_of, option_said, said_by, unless_awaited, unsaid, with_said, word_said, all_said}
use Rattle.mw_words.specs.Reader.{id_of, reader_of, said_found, value_of}
use Rattle.mw_words.proofs.RowLemmas.{Holds, built_rule, holds-more, no-row, put, said-new, used-new}
use Rattle.mw_words.proofs.WordLemmas.{IsFlag, IsOption, flag-of, has, no-flag, option-of, value_in}
use Rattle.mw_words.proofs.WalkLemmas.{Left, nothing, given, pend, held, stands, awaits, shape, rules, rule-by-id, rule-by-index, rule-by-long, once, name-walk, name-turn, value-walk, value-turn, opens-walk, opens-pass, whole-walk, whole-pass, flag-turn, use-passes}

-- nothing waits: the rows, with what was given last, hold what was said
pub record Rests (verb : Verb) (said : Said) (w : Walk) : Type 0 where
  pub rows : List Row
  pub left : Left
  pub position : ℕ
  pub is : w ≡ stands rows left position
  pub passes : settle_passes (rules verb) (shape verb).args_override_self (held rows left) ≡ true
  pub holds : Holds (settled_rows (rules verb) (pend left) rows) said
  pub first : said.name ≡ None → position ≡ 1

-- an option waits for its value
pub record Awaits (verb : Verb) (key : Key) (said : Said) (w : Walk) : Type 0 where
  pub rows : List Row
  pub position : ℕ
  pub is : w ≡ awaits rows key position
  pub taken : has verb key ≡ true
  pub named : key ≡ Name → ⊥
  pub holds : Holds rows said
  pub first : said.name ≡ None → position ≡ 1

-- the walk stands where the words were read to
abbrev pub Fits : Verb → Option Key → Said → Walk → Type 0
Fits verb None said w = Rests verb said w
Fits verb (Some key) said w = Awaits verb key said w

-- the walk takes a word, and stands where it is read
abbrev pub Goes : Verb → Option Key → Said → Walk → List ℕ → Type 0
Goes verb awaited said w word = (turn_passes (shape verb) [] w word ≡ true) × Fits verb awaited said (walked (rules verb) [] w word)

-- what is used once more, with its row
used_is : (verb : Verb) (key : Key) (value : List ℕ) (rows : List Row) (said next : Said) → Holds rows said → with_said key value said ≡ Some next
    → (Holds (used (built_rule key) (value ∷ []) rows) next) × (use_passes false (built_rule key) (value ∷ []) rows ≡ true)
used_is verb key value rows said next h e =
    let new = said-new key value said next e in
    let free : has_row (id_of key) rows ≡ false = no-row key rows said h new.0 in
    (subst (λ s. Holds (used (built_rule key) (value ∷ []) rows) s) new.1 (subst (λ r. Holds r (put key value said)) (sym (used-new key value rows free)) (holds-more key value rows said h new.0)), use-passes key value rows free)

-- what was given last is used once it is settled
given_is : (verb : Verb) (key : Key) (value : List ℕ) (rows : List Row) (said next : Said) → has verb key ≡ true → Holds rows said → with_said key value said ≡ Some next
    → (Holds (settled_rows (rules verb) (pend (given key value)) rows) next) × (settle_passes (rules verb) (shape verb).args_override_self (held rows (given key value)) ≡ true)
given_is verb key value rows said next taken h e =
    let u = used_is verb key value rows said next h e in
    let rule = rule-by-id verb key taken in (
      subst (λ r. Holds (used_by_id r (value ∷ []) rows) next) (sym rule) u.0,
      ap₂ (λ r again. option_map_or (λ a. use_passes again a (value ∷ []) rows) r true) rule (once verb) ∙ u.1,
    )

-- what is said with a name or a value, when nothing is awaited any more
now_by : (o : Option Said) (r : Reading) → option_map idle o ≡ Some r → (said : Said) × (o ≡ Some said) × (r ≡ idle said)
now_by None r e = cc
now_by (Some said) r e = (said, refl, cc)

if_by : (b : Bool) (o : Option Reading) (r : Reading) → cond b o None ≡ Some r → (b ≡ true) × (o ≡ Some r)
if_by true o r e = (refl, e)
if_by false o r e = cc

-- a name was said, so the position doesn't matter any more
named_now : (said next : Said) (value : List ℕ) (p : ℕ) → with_said Name value said ≡ Some next → next.name ≡ None → p ≡ 1
named_now said next value p e none = let n = said-new Name value said next e in let f : next.name ≡ Some value = ap (λ s. s.name) (sym n.1) in cc

-- an option leaves the name as it was
same_name : (key : Key) (value : List ℕ) (said next : Said) → (key ≡ Name → ⊥) → with_said key value said ≡ Some next → next.name ≡ said.name
same_name Name value said next named e = absurd (named refl)
same_name Cycles value said next named e = ap (λ s. s.name) (sym (said-new Cycles value said next e).1)
same_name Script value said next named e = ap (λ s. s.name) (sym (said-new Script value said next e).1)
same_name Dump value said next named e = ap (λ s. s.name) (sym (said-new Dump value said next e).1)

-- a flag's id is the option's
flag_at : (verb : Verb) (word : List ℕ) (key : Key) → IsOption verb (before_first is_equals word) key → IsFlag word (id_of key) (value_in word)
flag_at verb word key o = subst (λ id. IsFlag word id (value_in word)) (sym o.id_is) (flag-of word o.first o.rest o.text)

-- a name where nothing is awaited
name_goes : (verb : Verb) (said after : Said) (w : Walk) (word : List ℕ) → Rests verb said w → is_name word ≡ true → with_said Name word said ≡ Some after → Goes verb None after w word
name_goes verb said after w word r name e =
    let n = no-flag word name in
    let new = said-new Name word said after e in
    let at : w ≡ stands r.rows r.left 1 = r.is ∙ ap (λ p. stands r.rows r.left p) (r.first new.0) in
    let g = given_is verb Name word (settled_rows (rules verb) (pend r.left) r.rows) said after refl r.holds e in
    subst (λ (v : Walk). Goes verb None after v word) (sym at) (
      name-turn (shape verb) word r.rows r.left n (rule-by-index verb) r.passes,
      record {
        rows = settled_rows (rules verb) (pend r.left) r.rows;
        left = given Name word;
        position = 2;
        is = name-walk (rules verb) word r.rows r.left n (rule-by-index verb);
        passes = g.1;
        holds = g.0;
        first = named_now said after word 2 e;
      },
    )

-- a value that is awaited
value_goes : (verb : Verb) (key : Key) (said after : Said) (w : Walk) (word : List ℕ) → Awaits verb key said w → is_name word ≡ true → with_said key word said ≡ Some after → Goes verb None after w word
value_goes verb key said after w word r name e =
    let n = no-flag word name in
    let g = given_is verb key word r.rows said after r.taken r.holds e in
    subst (λ (v : Walk). Goes verb None after v word) (sym r.is) (
      value-turn (shape verb) key word r.rows r.position n,
      record {
        rows = r.rows;
        left = given key word;
        position = r.position;
        is = value-walk (rules verb) key word r.rows r.position n (rule-by-id verb key r.taken);
        passes = g.1;
        holds = g.0;
        first = λ none. r.first (sym (same_name key word said after r.named e) ∙ none);
      },
    )

-- an option that awaits its value
opens_goes : (verb : Verb) (key : Key) (said : Said) (w : Walk) (word : List ℕ) → Rests verb said w → IsOption verb (before_first is_equals word) key → list_any is_equals word ≡ false → Goes verb (Some key) said w word
opens_goes verb key said w word r o without =
    let f : IsFlag word (id_of key) None = subst (λ v. IsFlag word (id_of key) v) (ap (λ b. cond b (Some (after_first is_equals word)) None) without) (flag_at verb word key o) in
    let rule = rule-by-long verb key o.named o.taken in
    subst (λ (v : Walk). Goes verb (Some key) said v word) (sym r.is) (
      flag-turn (shape verb) key word None r.rows r.left r.position f rule (opens-pass (rules verb) (shape verb).args_override_self key (held r.rows r.left) r.passes),
      record {
        rows = settled_rows (rules verb) (pend r.left) r.rows;
        position = r.position;
        is = opens-walk (rules verb) key word r.rows r.left r.position f rule;
        taken = o.taken;
        named = o.named;
        holds = r.holds;
        first = r.first;
      },
    )

-- an option with its value
whole_goes : (verb : Verb) (key : Key) (said after : Said) (w : Walk) (word value : List ℕ) → Rests verb said w → IsOption verb (before_first is_equals word) key → value_in word ≡ Some value → with_said key value said ≡ Some after → Goes verb None after w word
whole_goes verb key said after w word value r o v e =
    let f : IsFlag word (id_of key) (Some value) = subst (λ x. IsFlag word (id_of key) x) v (flag_at verb word key o) in
    let rule = rule-by-long verb key o.named o.taken in
    let u = used_is verb key value (settled_rows (rules verb) (pend r.left) r.rows) said after r.holds e in
    let passes : use_passes (shape verb).args_override_self (built_rule key) (value ∷ []) (settled_rows (rules verb) (pend r.left) r.rows) ≡ true = ap (λ again. use_passes again (built_rule key) (value ∷ []) (settled_rows (rules verb) (pend r.left) r.rows)) (once verb) ∙ u.1 in
    subst (λ (x : Walk). Goes verb None after x word) (sym r.is) (
      flag-turn (shape verb) key word (Some value) r.rows r.left r.position f rule (whole-pass (rules verb) (shape verb).args_override_self key value (held r.rows r.left) r.passes passes),
      record {
        rows = used (built_rule key) (value ∷ []) (settled_rows (rules verb) (pend r.left) r.rows);
        left = nothing;
        position = r.position;
        is = whole-walk (rules verb) key word value r.rows r.left r.position f rule;
        passes = refl;
        holds = u.0;
        first = λ none. r.first (sym (same_name key value said after o.named e) ∙ none);
      },
    )

-- the walk goes on as the words are read
abbrev pub GoesOn : Verb → Reading → Walk → List ℕ → Type 0
GoesOn verb reading w word = Goes verb reading.awaited reading.said w word

option_goes : (verb : Verb) (o : Option Key) (b : Bool) (said : Said) (reading : Reading) (w : Walk) (word : List ℕ) → Rests verb said w → option_of verb (before_first is_equals word) ≡ o → list_any is_equals word ≡ b
    → option_said o b (after_first is_equals word) said ≡ Some reading → GoesOn verb reading w word
option_goes verb None b said reading w word r eo eb e = cc
option_goes verb (Some key) false said reading w word r eo eb e =
    let is : record { awaited = Some key; said = said } ≡ reading = cc in
    subst (λ (x : Reading). GoesOn verb x w word) is (opens_goes verb key said w word r (option-of verb _ key eo) eb)
option_goes verb (Some key) true said reading w word r eo eb e =
    let value : List ℕ = after_first is_equals word in
    let i = if_by (is_name value) (now_said key value said) reading e in
    let n = now_by (with_said key value said) reading i.1 in
    subst (λ (x : Reading). GoesOn verb x w word) (sym n.2) (whole_goes verb key said n.0 w word value r (option-of verb _ key eo) (ap (λ b. cond b (Some value) None) eb) n.1)

other_goes : (verb : Verb) (b : Bool) (said : Said) (reading : Reading) (w : Walk) (word : List ℕ) → Rests verb said w → is_name word ≡ b
    → cond b (now_said Name word said) (option_said (option_of verb (before_first is_equals word)) (list_any is_equals word) (after_first is_equals word) said) ≡ Some reading → GoesOn verb reading w word
other_goes verb true said reading w word r name e =
    let n = now_by (with_said Name word said) reading e in
    subst (λ (x : Reading). GoesOn verb x w word) (sym n.2) (name_goes verb said n.0 w word r name n.1)
other_goes verb false said reading w word r name e = option_goes verb (option_of verb (before_first is_equals word)) (list_any is_equals word) said reading w word r refl refl e

word_goes : (verb : Verb) (awaited : Option Key) (said : Said) (reading : Reading) (w : Walk) (word : List ℕ) → Fits verb awaited said w → said_by verb awaited word said ≡ Some reading → GoesOn verb reading w word
word_goes verb None said reading w word r e = other_goes verb (is_name word) said reading w word r refl e
word_goes verb (Some key) said reading w word r e =
    let i = if_by (is_name word) (now_said key word said) reading e in
    let n = now_by (with_said key word said) reading i.1 in
    subst (λ (x : Reading). GoesOn verb x w word) (sym n.2) (value_goes verb key said n.0 w word r i.0 n.1)

-- the walk over all the words takes them, and ends where nothing waits
abbrev pub Ends : Verb → Said → Walk → List (List ℕ) → Type 0
Ends verb said w words = (walk_passes (shape verb) [] w words ≡ true) × Rests verb said (fold (walked (rules verb) []) w words)

end_by : (verb : Verb) (awaited : Option Key) (before said : Said) (w : Walk) → Fits verb awaited before w → unless_awaited awaited before ≡ Some said → Rests verb said w
end_by verb None before said w r e = let is : before ≡ said = cc in subst (λ (s : Said). Rests verb s w) is r
end_by verb (Some key) before said w r e = cc

said_first : (o : Option Reading) (verb : Verb) (words : List (List ℕ)) (said : Said) → option_and_then (λ reading. all_said verb reading words) o ≡ Some said → (reading : Reading) × (o ≡ Some reading) × (all_said verb reading words ≡ Some said)
said_first None verb words said e = cc
said_first (Some reading) verb words said e = (reading, refl, e)

words_end : (verb : Verb) (words : List (List ℕ)) (reading : Reading) (said : Said) (w : Walk) → Fits verb reading.awaited reading.said w → all_said verb reading words ≡ Some said → Ends verb said w words
unfolding walk_passes all_said word_said
words_end verb [] reading said w r e = (refl, end_by verb reading.awaited reading.said said w r e)
words_end verb (word ∷ words) reading said w r e =
    let s = said_first (word_said verb reading word) verb words said e in
    let g = word_goes verb reading.awaited reading.said s.0 w word r s.1 in
    let h = words_end verb words s.0 said (walked (rules verb) [] w word) g.1 s.2 in
    (ap (λ b. b && walk_passes (shape verb) [] (walked (rules verb) [] w word) words) g.0 ∙ h.0, h.1)

-- nothing was said before the first word
start : (verb : Verb) → Rests verb unsaid (walk_from nothing_held)
start verb = record {
  rows = [];
  left = nothing;
  position = 1;
  is = refl;
  passes = refl;
  holds = none_held;
  first = λ e. refl;
}
  where
    none_held : Holds [] unsaid
    none_held Name = (refl, refl)
    none_held Cycles = (refl, refl)
    none_held Script = (refl, refl)
    none_held Dump = (refl, refl)

-- where the walk ends
abbrev end : Verb → List (List ℕ) → Walk
end verb words = fold (walked (rules verb) []) (walk_from nothing_held) words

-- no rule has a default
same_rows : (b : Bool) (rows : List Row) → cond b rows rows ≡ rows
same_rows true rows = refl
same_rows false rows = refl

no_default : (key : Key) (rest : List Rule) (rows : List Row) → fold with_default rows (built_rule key ∷ rest) ≡ fold with_default rows rest
no_default Name rest rows = ap (λ r. fold with_default r rest) (same_rows (has_row (id_of Name) rows) rows)
no_default Cycles rest rows = ap (λ r. fold with_default r rest) (same_rows (has_row (id_of Cycles) rows) rows)
no_default Script rest rows = ap (λ r. fold with_default r rest) (same_rows (has_row (id_of Script) rows) rows)
no_default Dump rest rows = ap (λ r. fold with_default r rest) (same_rows (has_row (id_of Dump) rows) rows)

no_defaults : (verb : Verb) (rows : List Row) → fold with_default rows (rules verb) ≡ rows
no_defaults Run rows = no_default Name (built_rule Cycles ∷ built_rule Script ∷ built_rule Dump ∷ []) rows ∙ no_default Cycles (built_rule Script ∷ built_rule Dump ∷ []) rows ∙ no_default Script (built_rule Dump ∷ []) rows ∙ no_default Dump [] rows
no_defaults Assemble rows = no_default Name [] rows
no_defaults Disassemble rows = no_default Name [] rows
no_defaults Generate rows = no_default Name (built_rule Cycles ∷ []) rows ∙ no_default Cycles [] rows

-- the rows are those at the walk's end
rows_at_end : (verb : Verb) (words : List (List ℕ)) → matches_of (reader_of verb) words ≡ fold with_default (settled_rows (rules verb) (end verb words).held.pending (end verb words).held.rows) (rules verb)
rows_at_end Run words = refl
rows_at_end Assemble words = refl
rows_at_end Disassemble words = refl
rows_at_end Generate words = refl

-- both tests hold
both : (a b : Bool) → a ≡ true → b ≡ true → (a && b) ≡ true
both a b e f = ap₂ (λ x y. x && y) e f

-- no command is entered, the walk passes, and what was given last does
all_pass : (app : App) (stop : Option (Text × List Text)) (walks settles : Bool) → stop ≡ None → walks ≡ true → settles ≡ true → (entered_passes (built app) stop && (walks && (settles && true))) ≡ true
all_pass app stop walks settles none w s = both (entered_passes (built app) stop) (walks && (settles && true)) (ap (entered_passes (built app)) none) (both walks (settles && true) w (both settles true s refl))

-- the reader takes the words where its walk does
taken_by : (verb : Verb) (words : List (List ℕ)) → (end verb words).stopped ≡ None → walk_passes (shape verb) [] (walk_from nothing_held) words ≡ true → settle_passes (rules verb) (shape verb).args_override_self (end verb words).held ≡ true → takes (reader_of verb) words ≡ true
taken_by Run words stop walks settles = all_pass (reader_of Run) (end Run words).stopped _ _ stop walks settles
taken_by Assemble words stop walks settles = all_pass (reader_of Assemble) (end Assemble words).stopped _ _ stop walks settles
taken_by Disassemble words stop walks settles = all_pass (reader_of Disassemble) (end Disassemble words).stopped _ _ stop walks settles
taken_by Generate words stop walks settles = all_pass (reader_of Generate) (end Generate words).stopped _ _ stop walks settles

-- words that say this are taken by the command's reader, whose rows hold it
pub reader-takes : (verb : Verb) (words : List (List ℕ)) (said : Said) → all_said verb (idle unsaid) words ≡ Some said → (takes (reader_of verb) words ≡ true) × Holds (matches_of (reader_of verb) words) said
reader-takes verb words said e =
    let g = words_end verb words (idle unsaid) said (walk_from nothing_held) (start verb) e in
    let r = g.1 in
    let settles = ap (λ (w : Walk). settle_passes (rules verb) (shape verb).args_override_self w.held) r.is ∙ r.passes in
    let rows : matches_of (reader_of verb) words ≡ settled_rows (rules verb) (pend r.left) r.rows = rows_at_end verb words ∙ no_defaults verb _ ∙ ap (λ (w : Walk). settled_rows (rules verb) w.held.pending w.held.rows) r.is in
    (taken_by verb words (ap (λ (w : Walk). w.stopped) r.is) g.0 settles, subst (λ l. Holds l said) (sym rows) r.holds)

-- what the reader found is what was said
found_by : (found : Found) (said : Said) → Holds (rows_of found) said → (key : Key) → first_value found (id_of key) ≡ value_of key said
found_by found said h key = first_value-rows found (id_of key) ∙ (h key).1

pub found-said : (found : Found) (said : Said) → Holds (rows_of found) said → said_found found ≡ said
found-said found said h =
    let f = found_by found said h in
    rw (f Name, f Cycles, f Script, f Dump) refl

-- the words say something
pub said-of : (o : Option Said) → is_some o ≡ true → (said : Said) × (o ≡ Some said)
said-of None e = cc
said-of (Some said) e = (said, refl)

-- a command's reader is one whose rows the library tells
pub reader-simple : (verb : Verb) → is_simple (reader_of verb) ≡ true
reader-simple Run = refl
reader-simple Assemble = refl
reader-simple Disassemble = refl
reader-simple Generate = refl
