-- The words of the command line: what they say, and what that asks for.
use Rattle.std.specs.Prelude.{ℕ, ◌+◌, ◌==◌, Bool, true, false, not, ◌&&◌, if◌then◌else◌, nat_le, List, [], ◌∷◌, Option, Some, None, option_map, option_and_then, bytes_eq, codes, decimal}
use Rattle.std.specs.List.{list_any, before_first, after_first}
use Rattle.std.specs.Str.Parse.{digits_value}
use Rattle.mw_bus.specs.Memory.{ram_size}
use Rattle.mw_isa.specs.declared.access.Span.{Span}
use Rattle.mw_words.specs.declared.verb.Verb.{Verb}
use Rattle.mw_words.specs.declared.verb.Verb.TheVariants.{Run as ToRun, Assemble as ToAssemble, Disassemble as ToDisassemble, Generate as ToGenerate}
use Rattle.mw_words.specs.declared.verb.Key.{Key}
use Rattle.mw_words.specs.declared.verb.Key.TheVariants.{Name, Cycles, Script, Dump}

-- a name or a value: not empty, and not beginning with a minus
abbrev pub is_name : List ℕ → Bool
is_name [] = false
is_name (first ∷ others) = not (first == 45)

-- the command that a word names
abbrev pub verb_of : List ℕ → Option Verb
verb_of word =
    if bytes_eq word (codes "run") then Some ToRun
    else if bytes_eq word (codes "asm") then Some ToAssemble
    else if bytes_eq word (codes "dis") then Some ToDisassemble
    else if bytes_eq word (codes "gen") then Some ToGenerate
    else None

-- the option, if a command takes it: a run takes each, and a generated run its number of cycles
abbrev pub if_taken : Verb → Key → Option Key
if_taken ToRun key = Some key
if_taken ToGenerate Cycles = Some Cycles
if_taken verb key = None

-- the option of a command that a word names
abbrev pub option_of : Verb → List ℕ → Option Key
option_of verb word =
    if bytes_eq word (codes "--cycles") then if_taken verb Cycles
    else if bytes_eq word (codes "--script") then if_taken verb Script
    else if bytes_eq word (codes "--dump") then if_taken verb Dump
    else None

-- what the words behind the command's say: a name, and the values of options
pub record Said : Type 0 where
  pub name : Option (List ℕ)
  pub cycles : Option (List ℕ)
  pub script : Option (List ℕ)
  pub dump : Option (List ℕ)

-- no word yet
abbrev pub unsaid : Said
unsaid = record { name = None; cycles = None; script = None; dump = None }

-- what is said now, unless it was said before
abbrev pub unless_twice : Option (List ℕ) → Said → Option Said
unless_twice None now = Some now
unless_twice (Some before) now = None

-- what is said with a name or an option's value, each at most once
abbrev pub with_said : Key → List ℕ → Said → Option Said
with_said Name value said = unless_twice said.name (record said { name = Some value })
with_said Cycles value said = unless_twice said.cycles (record said { cycles = Some value })
with_said Script value said = unless_twice said.script (record said { script = Some value })
with_said Dump value said = unless_twice said.dump (record said { dump = Some value })

-- between two words: the option whose value is the next word, if there is one, and what was said
pub record Reading : Type 0 where
  pub awaited : Option Key
  pub said : Said

-- nothing is awaited
abbrev pub idle : Said → Reading
idle said = record { awaited = None; said = said }

-- a name or a value is said, and nothing is awaited
abbrev pub now_said : Key → List ℕ → Said → Option Reading
now_said key value said = option_map idle (with_said key value said)

-- a value is said, if it is one
abbrev pub if_name : Key → List ℕ → Said → Option Reading
if_name key value said = if is_name value then now_said key value said else None

-- an equals sign
abbrev pub is_equals : ℕ → Bool
is_equals byte = byte == 61

-- an option without its value, or with it behind the first equals sign
abbrev pub option_said : Option Key → Bool → List ℕ → Said → Option Reading
option_said None has_value value said = None
option_said (Some key) false value said = Some (record { awaited = Some key; said = said })
option_said (Some key) true value said = if_name key value said

-- a word that is no awaited value: a name, an option whose value is the next word, or an option and its value
abbrev pub other_said : Verb → List ℕ → Said → Option Reading
other_said verb word said =
    if is_name word then now_said Name word said
    else option_said (option_of verb (before_first is_equals word)) (list_any is_equals word) (after_first is_equals word) said

-- what is said with a word by what is awaited: an option's value, or nothing
abbrev pub said_by : Verb → Option Key → List ℕ → Said → Option Reading
said_by verb (Some key) word said = if_name key word said
said_by verb None word said = other_said verb word said

-- what is said with one word more, if the word can stand there
unfoldable pub word_said : Verb → Reading → List ℕ → Option Reading
word_said verb reading word = said_by verb reading.awaited word reading.said

-- what is said where the words end, unless an option lacks its value
abbrev pub unless_awaited : Option Key → Said → Option Said
unless_awaited None said = Some said
unless_awaited (Some key) said = None

-- what the words say from here on, in any order
unfoldable pub all_said : Verb → Reading → List (List ℕ) → Option Said
all_said verb reading [] = unless_awaited reading.awaited reading.said
all_said verb reading (word ∷ words) = option_and_then (λ next. all_said verb next words) (word_said verb reading word)

-- the number that a word writes in decimal digits without a leading zero, if it is at most this
abbrev pub number_up_to : ℕ → List ℕ → Option ℕ
number_up_to most word = if bytes_eq (decimal (digits_value 10 word)) word && nat_le (digits_value 10 word) most then Some (digits_value 10 word) else None

-- the number of cycles that a word writes
abbrev pub cycles_of : List ℕ → Option ℕ
cycles_of word = number_up_to 4000000 word

-- the seed that a word writes, which has 64 bits
abbrev pub seed_of : List ℕ → Option ℕ
seed_of word = number_up_to 18446744073709551615 word

-- the stretch of RAM from an address on, if it has a byte and ends in RAM
abbrev pub span_at : ℕ → ℕ → Option Span
span_at at len = if nat_le 1 len && nat_le (at + len) ram_size then Some (record { at = at; len = len }) else None

-- the stretch of RAM that two words name, if they write its address and its length, at most 65,536 bytes
abbrev pub span_by : List ℕ → List ℕ → Option Span
span_by at len = option_and_then (λ a. option_and_then (span_at a) (number_up_to 65536 len)) (number_up_to ram_size at)

-- a colon
abbrev pub is_colon : ℕ → Bool
is_colon byte = byte == 58

-- the stretch of RAM that a word A:L names, cut at its first colon; a word without one leaves nothing for L, which is
-- no number
abbrev pub span_of : List ℕ → Option Span
span_of word = span_by (before_first is_colon word) (after_first is_colon word)

-- the dump that is asked for: none, or the stretch of RAM that a word names
abbrev pub dump_of : Option (List ℕ) → Option (Option Span)
dump_of None = Some None
dump_of (Some word) = option_map (λ span. Some span) (span_of word)

-- run IMAGE --cycles N, with --script FILE and --dump A:L or without: the image's name, the number of cycles, the stretch
-- of RAM, and the script's name
pub record RunOrder : Type 0 where
  pub image : List ℕ
  pub cycles : ℕ
  pub dump : Option Span
  pub script : Option (List ℕ)

-- gen SEED --cycles N: the seed of the image, and the number of cycles
pub record SeedOrder : Type 0 where
  pub seed : ℕ
  pub cycles : ℕ

-- what the words ask for: a run, or with asm SOURCE the image of the source of this name, or with dis IMAGE the
-- disassembly of the image of this name, or the run of an image that is made from a seed
pub data Order : Type 0 where
  Run : RunOrder → Order
  Assemble : List ℕ → Order
  Disassemble : List ℕ → Order
  Generate : SeedOrder → Order

-- a run of the image of this name for so many cycles, with this dump
abbrev pub run_of : Option (List ℕ) → List ℕ → ℕ → Option Span → Order
run_of script image cycles dump = Run (record { image = image; cycles = cycles; dump = dump; script = script })

-- the order of a run with this image, of which a number of cycles and what else is asked for was said
abbrev pub run_by : Said → List ℕ → Option Order
run_by said image = option_and_then (λ n. option_map (run_of said.script image n) (dump_of said.dump)) (option_and_then cycles_of said.cycles)

-- the order of a run for so many cycles from a seed
abbrev pub seed_run : ℕ → ℕ → Order
seed_run seed cycles = Generate (record { seed = seed; cycles = cycles })

-- the order of a run from the seed that a word writes
abbrev pub seed_by : Said → List ℕ → Option Order
seed_by said word = option_and_then (λ seed. option_map (seed_run seed) (option_and_then cycles_of said.cycles)) (seed_of word)

-- the order of a command with this name, by what else was said
abbrev pub named_order : Verb → Said → List ℕ → Option Order
named_order ToRun said name = run_by said name
named_order ToAssemble said name = Some (Assemble name)
named_order ToDisassemble said name = Some (Disassemble name)
named_order ToGenerate said name = seed_by said name

-- the order of a command by what its words say: each has one name
abbrev pub order_by : Verb → Said → Option Order
order_by verb said = option_and_then (named_order verb said) said.name

-- the order of a command and of the words behind it, in any order
abbrev pub order_from : List (List ℕ) → Verb → Option Order
order_from words verb = option_and_then (order_by verb) (all_said verb (idle unsaid) words)

-- what the words behind the program's name ask for, if they are in the grammar: a command, and what it takes
unfoldable pub order_of : List (List ℕ) → Option Order
order_of [] = None
order_of (word ∷ words) = option_and_then (order_from words) (verb_of word)
