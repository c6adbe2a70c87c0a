-- The reader of the words: what it is built of, and where it keeps what was said.
use Rattle.std.specs.Prelude.{ℕ, true, List, Option, Some, codes}
use Rattle.clap.specs.Words.{App, Rule, Shape, first_value, new_app, new_rule, with_rule}
use Rattle.clap.specs.declared.parser.matches.Found.{Found}
use Rattle.clap.specs.Simple.{on_top}
use Rattle.mw_words.specs.declared.verb.Verb.{Verb}
use Rattle.mw_words.specs.declared.verb.Verb.TheVariants.{Run, Assemble, Disassemble, Generate}
use Rattle.mw_words.specs.declared.verb.Key.{Key}
use Rattle.mw_words.specs.declared.verb.Key.TheVariants.{Name, Cycles, Script, Dump}
use Rattle.mw_words.specs.Grammar.{Said}

-- the id of what a command's words may say; an option's is its name behind the two minuses
abbrev pub id_of : Key → List ℕ
id_of Name = codes "name"
id_of Cycles = codes "cycles"
id_of Script = codes "script"
id_of Dump = codes "dump"

-- what was said of it
abbrev pub value_of : Key → Said → Option (List ℕ)
value_of Name said = said.name
value_of Cycles said = said.cycles
value_of Script said = said.script
value_of Dump said = said.dump

-- the rule of an option
abbrev pub option_rule : Key → Rule
option_rule key = record (new_rule (id_of key)) { long = Some (id_of key) }

-- neither the program's name is among the words, nor is there a flag for help or for the version
abbrev pub bare : Shape → Shape
bare shape = record shape { no_binary_name = true; disable_help_flag = true; disable_version_flag = true }

-- the reader of a name
abbrev pub name_reader : App
name_reader = with_rule (on_top bare (new_app (codes "mw"))) (new_rule (id_of Name))

-- the reader with one option more
abbrev pub with_option : App → Key → App
with_option app key = with_rule app (option_rule key)

-- the reader of a command's words
abbrev pub reader_of : Verb → App
reader_of Run = with_option (with_option (with_option name_reader Cycles) Script) Dump
reader_of Assemble = name_reader
reader_of Disassemble = name_reader
reader_of Generate = with_option name_reader Cycles

-- what a reader found, as what was said
abbrev pub said_found : Found → Said
said_found found = record {
  name = first_value found (id_of Name);
  cycles = first_value found (id_of Cycles);
  script = first_value found (id_of Script);
  dump = first_value found (id_of Dump);
}
