-- The code's objects, as what they stand for.
use Rattle.std.specs.Prelude.{◌+◌, ◌≤◌, Option, IfSome, option_map}
use Rattle.mw_bus.specs.Memory.{ram_size}
use Rattle.mw_isa.specs.declared.access.Span.{Span}
use Rattle.mw_words.specs.declared.said.Said.{Said as SaidWords}
use Rattle.mw_words.specs.declared.said.Reading.{Reading as ReadingWords}
use Rattle.mw_words.specs.declared.command.RunCommand.{RunCommand}
use Rattle.mw_words.specs.declared.command.Command.{Command}
use Rattle.mw_words.specs.declared.command.Command.TheVariants.{Run as RunWords, Assemble as AssembleWords, Disassemble as DisassembleWords, Generate as GenerateWords}
use Rattle.mw_words.specs.Grammar.{Said, Reading, RunOrder, Order, Run, Assemble, Disassemble, Generate}

-- what was said
abbrev pub said_in : SaidWords → Said
said_in said = record {
  name = option_map (λ word. word.now) said.name;
  cycles = option_map (λ word. word.now) said.cycles;
  script = option_map (λ word. word.now) said.script;
  dump = option_map (λ word. word.now) said.dump;
}

-- what is awaited and what was said
abbrev pub reading_in : ReadingWords → Reading
reading_in reading = record { awaited = reading.awaited; said = said_in reading.said }

-- the run that the code's object stands for
abbrev pub run_in : RunCommand → RunOrder
run_in command = record { image = command.image.now; cycles = command.cycles; dump = command.dump; script = option_map (λ name. name.now) command.script }

-- the order that the code's object stands for
abbrev pub order_in : Command → Order
order_in (RunWords command) = Run (run_in command)
order_in (AssembleWords source) = Assemble source.now
order_in (DisassembleWords image) = Disassemble image.now
order_in (GenerateWords seed cycles) = Generate (record { seed = seed; cycles = cycles })

-- the stretch that is dumped ends in RAM
abbrev pub IsInRam : Option Span → Type 0
IsInRam dump = IfSome dump (λ span. span.at + span.len ≤ ram_size)

-- what is asked for is within the limits
abbrev pub IsBounded : Command → Type 0
IsBounded (RunWords command) = (command.cycles ≤ 4000000) × IsInRam command.dump
IsBounded (AssembleWords source) = Unit {0}
IsBounded (DisassembleWords image) = Unit {0}
IsBounded (GenerateWords seed cycles) = cycles ≤ 4000000
