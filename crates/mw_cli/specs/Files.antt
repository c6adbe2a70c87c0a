-- The files that the words ask for.
use Rattle.std.specs.Prelude.{ℕ, List, [], ◌∷◌, Option, Some, None}
use Rattle.std.specs.Option.{option_map_or}
use Rattle.mw_bus.specs.Memory.{ram_size}
use Rattle.mw_uart.specs.Script.{text_limit}
use Rattle.mw_words.specs.Grammar.{Order, Run, Assemble, Disassemble, Generate, order_of}

-- a file that is asked for: its name, and the most bytes that it may have
pub record Wanted : Type 0 where
  pub name : List ℕ
  pub most : ℕ

-- the file of a script, where one is named: it has at most 1 MiB
abbrev pub script_files : Option (List ℕ) → List Wanted
script_files None = []
script_files (Some name) = record { name = name; most = text_limit } ∷ []

-- the files that an order asks for, in their order: an image has at most as many bytes as RAM, and a source 4 MiB; an image
-- that is made from a seed is no file
abbrev pub files_of : Order → List Wanted
files_of (Run order) = record { name = order.image; most = ram_size } ∷ script_files order.script
files_of (Assemble source) = record { name = source; most = 4194304 } ∷ []
files_of (Disassemble image) = record { name = image; most = ram_size } ∷ []
files_of (Generate order) = []

-- the files that the words ask for: none where they are no order
abbrev pub files_by : List (List ℕ) → List Wanted
files_by words = option_map_or files_of (order_of words) []
