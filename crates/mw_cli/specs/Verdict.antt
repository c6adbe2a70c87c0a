-- What an order comes to, given what its files have.
use Rattle.std.specs.Prelude.{ℕ, ◌≡◌, ◌⊎◌, if◌then◌else◌, nat_lt, List, [], ◌∷◌, ◌++◌, length, Option, Some, None, unwrap_or, Result, Ok, Err, codes, decimal}
use Rattle.mw_bus.specs.Memory.{ram_size}
use Rattle.mw_uart.specs.Script.{Place as ScriptPlace, script_of}
use Rattle.mw_isa.specs.declared.event.End.{End}
use Rattle.mw_isa.specs.Reading.{end_of}
use Rattle.mw_asm.specs.declared.fault.Place.{Place}
use Rattle.mw_asm.specs.Assembled.{assembled}
use Rattle.mw_asm.specs.Disassembly.{disassembly}
use Rattle.mw_cli.specs.declared.status.Status.{Status}
use Rattle.mw_cli.specs.declared.status.Status.TheVariants.{Done, Offence, ImageTooLarge, BadInput}
use Rattle.mw_words.specs.Grammar.{RunOrder, SeedOrder, Order, Run, Assemble, Disassemble, Generate}
use Rattle.mw_cli.specs.Headline.{AskedRun, run_of, SpellsRun, SumsUp}

-- the line on err for an image that is longer than RAM
abbrev pub too_large_line : List ℕ
too_large_line = codes "mw: image exceeds 16777216 bytes\n"

-- the end of the line on err for a refused source or script: its line and column, in decimal
abbrev pub place_line : ℕ → ℕ → List ℕ
place_line line column = decimal line ++ codes ":" ++ (decimal column ++ codes ": bad input\n")

-- the line on err for a refused source or script, with its name
abbrev pub bad_line : List ℕ → ℕ → ℕ → List ℕ
bad_line name line column = codes "mw: " ++ name ++ codes ":" ++ place_line line column

-- what is to be written: a text of this run, a summary of a run from this seed, or just these bytes
pub data Output : Type 0 where
  TextOf : AskedRun → Output
  SummaryOf : SeedOrder → Output
  Bytes : List ℕ → Output

-- the text is such an output, and this is the end of the run that it is of, if it is of one
abbrev pub IsOutput : Output → List ℕ → Option End → Type 0
IsOutput (TextOf run) text end = SpellsRun run text × (end ≡ end_of text)
IsOutput (SummaryOf order) text end = SumsUp order text end
IsOutput (Bytes bytes) text end = (text ≡ bytes) × (end ≡ None)

-- what an order comes to: something is written, or the order is refused with a status and a line on err
pub data Verdict : Type 0 where
  Writes : Output → Verdict
  Refuses : Status → List ℕ → Verdict

-- an output that is written may have this status: Done, and what is told of a run Offence too
abbrev pub MayEnd : Output → Status → Type 0
MayEnd (TextOf run) status = (status ≡ Done) ⊎ (status ≡ Offence)
MayEnd (SummaryOf order) status = (status ≡ Done) ⊎ (status ≡ Offence)
MayEnd (Bytes bytes) status = status ≡ Done

-- a verdict may have this status: a refusal its own alone
abbrev pub MayGive : Verdict → Status → Type 0
MayGive (Writes output) status = MayEnd output status
MayGive (Refuses refused line) status = status ≡ refused

-- the first of the files' contents
abbrev pub first_of : List (List ℕ) → List ℕ
first_of [] = []
first_of (bytes ∷ others) = bytes

-- the second of the files' contents
abbrev pub second_of : List (List ℕ) → List ℕ
second_of [] = []
second_of (bytes ∷ others) = first_of others

-- the text of a run's script: that of its file, and an empty one where none is named
abbrev pub text_by : Option (List ℕ) → List (List ℕ) → List ℕ
text_by None contents = []
text_by (Some name) contents = second_of contents

-- this verdict, unless the image is longer than RAM
abbrev pub unless_too_large : List ℕ → Verdict → Verdict
unless_too_large image verdict = if nat_lt ram_size (length image) then Refuses ImageTooLarge too_large_line else verdict

-- the run that an order asks for, given what the image's file has, and its script
abbrev pub run_by : RunOrder → List ℕ → List (ℕ × ℕ) → AskedRun
run_by order image script = run_of image script order.cycles order.dump

-- the bytes of the source of this name are written, unless it is refused at a place
abbrev pub unless_bad : List ℕ → Result (List ℕ) Place → Verdict
unless_bad name (Ok bytes) = Writes (Bytes bytes)
unless_bad name (Err place) = Refuses BadInput (bad_line name place.line place.column)

-- what the script of this name leads to, unless its text is refused at a place
abbrev pub with_script : List ℕ → Result (List (ℕ × ℕ)) ScriptPlace → (List (ℕ × ℕ) → Verdict) → Verdict
with_script name (Ok script) verdict = verdict script
with_script name (Err place) verdict = Refuses BadInput (bad_line name place.line place.column)

-- what a run comes to, given what its image's file has and the text of its script: the image's length is judged first,
-- then the script, and behind them the text of the run is written
abbrev pub verdict_by : RunOrder → List ℕ → List ℕ → Verdict
verdict_by order image text = unless_too_large image (with_script (unwrap_or order.script []) (script_of text) (λ script. Writes (TextOf (run_by order image script))))

-- what an order comes to, given what its files have, in their order
abbrev pub verdict_of : Order → List (List ℕ) → Verdict
verdict_of (Run order) contents = verdict_by order (first_of contents) (text_by order.script contents)
verdict_of (Assemble source) contents = unless_bad source (assembled (first_of contents))
verdict_of (Generate order) contents = Writes (SummaryOf order)
verdict_of (Disassemble image) contents = unless_too_large (first_of contents) (Writes (Bytes (disassembly (first_of contents))))
