-- The reader's walk over the words of the grammar: it takes each, and its rows hold what was said.
use Rattle.std.proofs.Common.{◌≡◌, ℕ, Bool, true, false, not, cond, ◌||◌, ◌&&◌, List, [], ◌∷◌, Option, Some, None, refl, ap, ap₂, ◌∙◌}
use Rattle.std.specs.Option.{option_map_or}
use Rattle.clap.specs.Lexer.{long_of}
use Rattle.clap.specs.Walk.{Held, Row, Rule, Text, Waiting, Walk, after_flag, after_step, arg_by_id, arg_by_index, arg_by_long, has_row, idle as resting, is_pending, long_met, long_word, next, settled, takes_several, long_or_other, option as waiting_for, option_word, plain_word, settled_rows, short_or_plain, subcommand_or_other, to_positional, trailing, used, walked}
use Rattle.clap.specs.Takes.{bundle_passes, flag_word_passes, long_passes, other_passes, positional_passes, settle_passes, step_passes, turn_passes, use_passes, values_pass}
use Rattle.clap.specs.Simple.{Shape, built}
use Rattle.mw_words.specs.declared.verb.Verb.{Verb}
use Rattle.mw_words.specs.declared.verb.Verb.TheVariants.{Run, Assemble, Disassemble, Generate}
use Rattle.mw_words.specs.declared.verb.Key.{Key}
use Rattle.mw_words.specs.declared.verb.Key.TheVariants.{Name, Cycles, Script, Dump}
use Rattle.mw_words.specs.Reader.{id_of, reader_of}
use Rattle.mw_words.proofs.RowLemmas.{built_rule}
use Rattle.mw_words.proofs.WordLemmas.{IsFlag, NoFlag, has}

-- what the reader reads of a command, once it is built
abbrev pub shape : Verb → Shape
shape verb = (built (reader_of verb)).top

abbrev pub rules : Verb → List Rule
rules verb = (shape verb).rules

-- the rules are found by id, by position and by the option's name
pub rule-by-id : (verb : Verb) (key : Key) → has verb key ≡ true → arg_by_id (rules verb) (id_of key) ≡ Some (built_rule key)
rule-by-id Run Name e = refl
rule-by-id Run Cycles e = refl
rule-by-id Run Script e = refl
rule-by-id Run Dump e = refl
rule-by-id Assemble Name e = refl
rule-by-id Assemble Cycles e = cc
rule-by-id Assemble Script e = cc
rule-by-id Assemble Dump e = cc
rule-by-id Disassemble Name e = refl
rule-by-id Disassemble Cycles e = cc
rule-by-id Disassemble Script e = cc
rule-by-id Disassemble Dump e = cc
rule-by-id Generate Name e = refl
rule-by-id Generate Cycles e = refl
rule-by-id Generate Script e = cc
rule-by-id Generate Dump e = cc

pub rule-by-index : (verb : Verb) → arg_by_index (rules verb) 1 ≡ Some (built_rule Name)
rule-by-index Run = refl
rule-by-index Assemble = refl
rule-by-index Disassemble = refl
rule-by-index Generate = refl

pub rule-by-long : (verb : Verb) (key : Key) → (key ≡ Name → ⊥) → has verb key ≡ true → arg_by_long (rules verb) (id_of key) ≡ Some (built_rule key)
rule-by-long verb Name named e = absurd (named refl)
rule-by-long Run Cycles named e = refl
rule-by-long Run Script named e = refl
rule-by-long Run Dump named e = refl
rule-by-long Generate Cycles named e = refl
rule-by-long Generate Script named e = cc
rule-by-long Generate Dump named e = cc
rule-by-long Assemble Cycles named e = cc
rule-by-long Assemble Script named e = cc
rule-by-long Assemble Dump named e = cc
rule-by-long Disassemble Cycles named e = cc
rule-by-long Disassemble Script named e = cc
rule-by-long Disassemble Dump named e = cc

-- no option is taken twice
pub once : (verb : Verb) → (shape verb).args_override_self ≡ false
once Run = refl
once Assemble = refl
once Disassemble = refl
once Generate = refl

-- what was given last, and isn't among the rows yet
pub data Left : Type 0 where
  nothing : Left
  given : Key → List ℕ → Left

abbrev pub pend : Left → Option (Text × List Text)
pend nothing = None
pend (given key value) = Some (id_of key, value ∷ [])

abbrev pub held : List Row → Left → Held
held rows left = record { rows = rows; pending = pend left; skip = 0 }

-- the walk between two words: nothing waits, or an option waits for its value
abbrev pub stands : List Row → Left → ℕ → Walk
stands rows left position = record { held = held rows left; waiting = resting; position = position; is_trailing = false; stopped = None }

abbrev pub awaits : List Row → Key → ℕ → Walk
awaits rows key position = record { held = record { rows = rows; pending = Some (id_of key, []); skip = 0 }; waiting = waiting_for (id_of key); position = position; is_trailing = false; stopped = None }

-- a word that is no flag is a plain one
met-plain : (c : List Rule) (waiting : Waiting) (p : ℕ) (word : List ℕ) (h : Held) → NoFlag word → subcommand_or_other c None waiting p word h ≡ plain_word c waiting word h
met-plain c waiting p word h n =
    ap (λ b. cond b (h, trailing p) (long_or_other c waiting word (long_of word) h)) n.other
    ∙ ap (λ l. long_or_other c waiting word l h) n.long
    ∙ ap (λ s. short_or_plain c waiting word s h) n.short

-- and it passes
plain-passes : (s : Shape) (word : List ℕ) (h : Held) → NoFlag word → other_passes s None word h ≡ true
plain-passes s word h n =
    ap (λ b. b || flag_word_passes s.rules s.args_override_self (long_of word) word h) n.other
    ∙ ap (λ l. flag_word_passes s.rules s.args_override_self l word h) n.long
    ∙ ap (λ f. option_map_or (λ flags. bundle_passes s.rules s.args_override_self flags h) f true) n.short

-- a flag is the rule of its name
met-flag : (c : List Rule) (p : ℕ) (word id : List ℕ) (value : Option (List ℕ)) (h : Held) → IsFlag word id value → subcommand_or_other c None resting p word h ≡ long_word c resting word id value h
met-flag c p word id value h f =
    ap (λ b. cond b (h, trailing p) (long_or_other c resting word (long_of word) h)) f.other
    ∙ ap (λ l. long_or_other c resting word l h) f.long

flag-passes : (s : Shape) (word id : List ℕ) (value : Option (List ℕ)) (h : Held) → IsFlag word id value → other_passes s None word h ≡ long_passes s.rules s.args_override_self (arg_by_long s.rules id) value h
flag-passes s word id value h f =
    ap (λ b. b || flag_word_passes s.rules s.args_override_self (long_of word) word h) f.other
    ∙ ap (λ l. flag_word_passes s.rules s.args_override_self l word h) f.long

-- two tests that hold
both : (a b : Bool) → a ≡ true → b ≡ true → (a && b) ≡ true
both a b e f = ap₂ (λ x y. x && y) e f

-- the last of two tests holds
either : (a b : Bool) → b ≡ true → (a || b) ≡ true
either true b e = refl
either false b e = e

-- a name is a value of the first position
name_held : (c : List Rule) (word : List ℕ) (rows : List Row) (left : Left) → to_positional c (Some (built_rule Name)) word (stands rows left 1) (held rows left) ≡ stands (settled_rows c (pend left) rows) (given Name word) 2
name_held c word rows nothing = refl
name_held c word rows (given Name value) = refl
name_held c word rows (given Cycles value) = refl
name_held c word rows (given Script value) = refl
name_held c word rows (given Dump value) = refl

pub name-walk : (c : List Rule) (word : List ℕ) (rows : List Row) (left : Left) → NoFlag word → arg_by_index c 1 ≡ Some (built_rule Name)
    → walked c [] (stands rows left 1) word ≡ stands (settled_rows c (pend left) rows) (given Name word) 2
unfolding walked
name-walk c word rows left n index =
    ap (λ m. after_step c word (stands rows left 1) m.0 m.1) (met-plain c resting 1 word (held rows left) n)
    ∙ ap (λ r. to_positional c r word (stands rows left 1) (held rows left)) index
    ∙ name_held c word rows left

pub name-turn : (s : Shape) (word : List ℕ) (rows : List Row) (left : Left) → NoFlag word → arg_by_index s.rules 1 ≡ Some (built_rule Name) → settle_passes s.rules s.args_override_self (held rows left) ≡ true
    → turn_passes s [] (stands rows left 1) word ≡ true
name-turn s word rows left n index settles =
    both (other_passes s None word (held rows left)) (step_passes s 1 (subcommand_or_other s.rules None resting 1 word (held rows left)).0 (subcommand_or_other s.rules None resting 1 word (held rows left)).1)
    (plain-passes s word (held rows left) n)
    (ap (λ m. step_passes s 1 m.0 m.1) (met-plain s.rules resting 1 word (held rows left) n)
    ∙ ap (λ r. option_map_or (λ a. positional_passes s.rules s.args_override_self a (held rows left)) r false) index
    ∙ either (is_pending (built_rule Name) (pend left) && takes_several (built_rule Name)) (settle_passes s.rules s.args_override_self (held rows left)) settles)

-- a word behind an option is its value
value_held : (c : List Rule) (key : Key) (word : List ℕ) (rows : List Row) (p : ℕ) → after_step c word (awaits rows key p) (option_word (Some (built_rule key)) (id_of key) word (awaits rows key p).held).0 (next (option_word (Some (built_rule key)) (id_of key) word (awaits rows key p).held).1) ≡ stands rows (given key word) p
value_held c Name word rows p = refl
value_held c Cycles word rows p = refl
value_held c Script word rows p = refl
value_held c Dump word rows p = refl

pub value-walk : (c : List Rule) (key : Key) (word : List ℕ) (rows : List Row) (p : ℕ) → NoFlag word → arg_by_id c (id_of key) ≡ Some (built_rule key)
    → walked c [] (awaits rows key p) word ≡ stands rows (given key word) p
unfolding walked
value-walk c key word rows p n rule =
    let w : Walk = awaits rows key p in
    ap (λ m. after_step c word w m.0 m.1) (met-plain c (waiting_for (id_of key)) p word w.held n)
    ∙ ap (λ r. after_step c word w (option_word r (id_of key) word w.held).0 (next (option_word r (id_of key) word w.held).1)) rule
    ∙ value_held c key word rows p

pub value-turn : (s : Shape) (key : Key) (word : List ℕ) (rows : List Row) (p : ℕ) → NoFlag word → turn_passes s [] (awaits rows key p) word ≡ true
value-turn s key word rows p n =
    let w : Walk = awaits rows key p in
    both (other_passes s None word w.held) (step_passes s p (subcommand_or_other s.rules None w.waiting p word w.held).0 (subcommand_or_other s.rules None w.waiting p word w.held).1)
    (plain-passes s word w.held n)
    (ap (λ m. step_passes s p m.0 m.1) (met-plain s.rules w.waiting p word w.held n))

-- an option waits for its value
opens_held : (c : List Rule) (key : Key) (word : List ℕ) (rows : List Row) (left : Left) (p : ℕ)
    → after_step c word (stands rows left p) (after_flag c resting word (long_met c (Some (built_rule key)) None (held rows left)).0 (long_met c (Some (built_rule key)) None (held rows left)).1).0 (after_flag c resting word (long_met c (Some (built_rule key)) None (held rows left)).0 (long_met c (Some (built_rule key)) None (held rows left)).1).1
    ≡ awaits (settled_rows c (pend left) rows) key p
opens_held c Name word rows left p = refl
opens_held c Cycles word rows left p = refl
opens_held c Script word rows left p = refl
opens_held c Dump word rows left p = refl

-- the walk behind a flag, by the rule that has its name
abbrev flag_walk : List Rule → List ℕ → Option (List ℕ) → List Row → Left → ℕ → Option Rule → Walk
flag_walk c word value rows left p r = after_step c word (stands rows left p) (after_flag c resting word (long_met c r value (held rows left)).0 (long_met c r value (held rows left)).1).0 (after_flag c resting word (long_met c r value (held rows left)).0 (long_met c r value (held rows left)).1).1

flag-walk : (c : List Rule) (key : Key) (word : List ℕ) (value : Option (List ℕ)) (rows : List Row) (left : Left) (p : ℕ) → IsFlag word (id_of key) value → arg_by_long c (id_of key) ≡ Some (built_rule key)
    → walked c [] (stands rows left p) word ≡ flag_walk c word value rows left p (Some (built_rule key))
unfolding walked
flag-walk c key word value rows left p f rule =
    ap (λ m. after_step c word (stands rows left p) m.0 m.1) (met-flag c p word (id_of key) value (held rows left) f)
    ∙ ap (flag_walk c word value rows left p) rule

pub opens-walk : (c : List Rule) (key : Key) (word : List ℕ) (rows : List Row) (left : Left) (p : ℕ) → IsFlag word (id_of key) None → arg_by_long c (id_of key) ≡ Some (built_rule key)
    → walked c [] (stands rows left p) word ≡ awaits (settled_rows c (pend left) rows) key p
opens-walk c key word rows left p f rule = flag-walk c key word None rows left p f rule ∙ opens_held c key word rows left p

-- an option with its value is a use of it
whole_held : (c : List Rule) (key : Key) (word value : List ℕ) (rows : List Row) (left : Left) (p : ℕ) → flag_walk c word (Some value) rows left p (Some (built_rule key)) ≡ stands (used (built_rule key) (value ∷ []) (settled_rows c (pend left) rows)) nothing p
whole_held c Name word value rows left p = refl
whole_held c Cycles word value rows left p = refl
whole_held c Script word value rows left p = refl
whole_held c Dump word value rows left p = refl

pub whole-walk : (c : List Rule) (key : Key) (word value : List ℕ) (rows : List Row) (left : Left) (p : ℕ) → IsFlag word (id_of key) (Some value) → arg_by_long c (id_of key) ≡ Some (built_rule key)
    → walked c [] (stands rows left p) word ≡ stands (used (built_rule key) (value ∷ []) (settled_rows c (pend left) rows)) nothing p
whole-walk c key word value rows left p f rule = flag-walk c key word (Some value) rows left p f rule ∙ whole_held c key word value rows left p

-- what a flag passes, by the rule that has its name; any step behind it is one to a next word
next_passes : (s : Shape) (key : Key) (word : List ℕ) (value : Option (List ℕ)) (rows : List Row) (left : Left) (p : ℕ)
    → step_passes s p (long_word s.rules resting word (id_of key) value (held rows left)).0 (long_word s.rules resting word (id_of key) value (held rows left)).1 ≡ true → arg_by_long s.rules (id_of key) ≡ Some (built_rule key) → IsFlag word (id_of key) value
    → long_passes s.rules s.args_override_self (Some (built_rule key)) value (held rows left) ≡ true → turn_passes s [] (stands rows left p) word ≡ true
next_passes s key word value rows left p step rule f passes =
    both (other_passes s None word (held rows left)) (step_passes s p (subcommand_or_other s.rules None resting p word (held rows left)).0 (subcommand_or_other s.rules None resting p word (held rows left)).1)
    (flag-passes s word (id_of key) value (held rows left) f ∙ ap (λ r. long_passes s.rules s.args_override_self r value (held rows left)) rule ∙ passes)
    (ap (λ m. step_passes s p m.0 m.1) (met-flag s.rules p word (id_of key) value (held rows left) f) ∙ step)

-- the step behind a flag, by the rule that has its name
abbrev flag_step : Shape → List ℕ → Option (List ℕ) → List Row → Left → ℕ → Option Rule → Bool
flag_step s word value rows left p r = step_passes s p (after_flag s.rules resting word (long_met s.rules r value (held rows left)).0 (long_met s.rules r value (held rows left)).1).0 (after_flag s.rules resting word (long_met s.rules r value (held rows left)).0 (long_met s.rules r value (held rows left)).1).1

any_step : (s : Shape) (key : Key) (word : List ℕ) (value : Option (List ℕ)) (rows : List Row) (left : Left) (p : ℕ) → flag_step s word value rows left p (Some (built_rule key)) ≡ true
any_step s Name word None rows left p = refl
any_step s Cycles word None rows left p = refl
any_step s Script word None rows left p = refl
any_step s Dump word None rows left p = refl
any_step s Name word (Some v) rows left p = refl
any_step s Cycles word (Some v) rows left p = refl
any_step s Script word (Some v) rows left p = refl
any_step s Dump word (Some v) rows left p = refl

pub flag-turn : (s : Shape) (key : Key) (word : List ℕ) (value : Option (List ℕ)) (rows : List Row) (left : Left) (p : ℕ) → IsFlag word (id_of key) value → arg_by_long s.rules (id_of key) ≡ Some (built_rule key)
    → long_passes s.rules s.args_override_self (Some (built_rule key)) value (held rows left) ≡ true → turn_passes s [] (stands rows left p) word ≡ true
flag-turn s key word value rows left p f rule passes = next_passes s key word value rows left p (ap (flag_step s word value rows left p) rule ∙ any_step s key word value rows left p) rule f passes

-- an option without a value passes where what was given last does
pub opens-pass : (c : List Rule) (again : Bool) (key : Key) (h : Held) → settle_passes c again h ≡ true → long_passes c again (Some (built_rule key)) None h ≡ true
opens-pass c again Name h e = e
opens-pass c again Cycles h e = e
opens-pass c again Script h e = e
opens-pass c again Dump h e = e

-- a use of what no row has passes
pub use-passes : (key : Key) (value : List ℕ) (rows : List Row) → has_row (id_of key) rows ≡ false → use_passes false (built_rule key) (value ∷ []) rows ≡ true
use-passes Name value rows e = ap (λ b. (not b || false) && values_pass (built_rule Name) (value ∷ [])) e
use-passes Cycles value rows e = ap (λ b. (not b || false) && values_pass (built_rule Cycles) (value ∷ [])) e
use-passes Script value rows e = ap (λ b. (not b || false) && values_pass (built_rule Script) (value ∷ [])) e
use-passes Dump value rows e = ap (λ b. (not b || false) && values_pass (built_rule Dump) (value ∷ [])) e

-- an option with its value passes where what was given last does, and then the use
pub whole-pass : (c : List Rule) (again : Bool) (key : Key) (value : List ℕ) (h : Held) → settle_passes c again h ≡ true → use_passes again (built_rule key) (value ∷ []) (settled c h).rows ≡ true → long_passes c again (Some (built_rule key)) (Some value) h ≡ true
whole-pass c again Name value h e u = both _ _ e u
whole-pass c again Cycles value h e u = both _ _ e u
whole-pass c again Script value h e u = both _ _ e u
whole-pass c again Dump value h e u = both _ _ e u
