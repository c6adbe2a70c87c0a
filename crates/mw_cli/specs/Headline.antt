-- A text that a run prints: the events and the end that stand in it, and the last state that the machine gives from
-- them, are a run of what the board was started with, and the text is theirs, with the dump of the last state's RAM that
-- is asked for, and no more.
use Rattle.std.specs.Prelude.{ℕ, ◌≡◌, List, [], Option, Some}
use Rattle.std.specs.List.{range_with_len}
use Rattle.mw_isa.specs.declared.access.Span.{Span}
use Rattle.mw_isa.specs.declared.event.Event.{Event}
use Rattle.mw_isa.specs.declared.event.End.{End}
use Rattle.mw_isa.specs.State.{State}
use Rattle.mw_isa.specs.Start.{Boot}
use Rattle.mw_isa.specs.Stops.{stop_of}
use Rattle.mw_isa.specs.Replay.{cycles_of}
use Rattle.mw_isa.specs.Text.{text_of}
use Rattle.mw_isa.specs.Reading.{OnRun}
use Rattle.mw_isa.specs.Runs.{Runs}
use Rattle.mw_trace.specs.Summary.{summary_of}
use Rattle.mw_generator.specs.Generated.{generated}
use Rattle.mw_words.specs.Grammar.{SeedOrder}

-- a run that is asked for: what the board is started with, the number of cycles, and the stretch of RAM that is dumped
pub record AskedRun : Type 0 where
  pub boot : Boot
  pub cycles : ℕ
  pub dump : Option Span

-- a run of an image and a script
abbrev pub run_of : List ℕ → List (ℕ × ℕ) → ℕ → Option Span → AskedRun
run_of image script cycles dump = record { boot = record { image = image; script = script }; cycles = cycles; dump = dump }

-- the text is printed of this run, which has these events, this end and this last state
pub record Prints (run : AskedRun) (text : List ℕ) (events : List Event) (end : End) (last : State) : Type 0 where
  -- the text is that of the run's events and end, with the dump that is asked for, and no more
  pub whole : text ≡ text_of events end last run.dump
  -- event k has cycle k, up to the stop
  pub each_cycle : cycles_of events ≡ range_with_len 0 (stop_of end)

-- the text is printed of this run, whose events and end stand in it
abbrev pub SpellsRun : AskedRun → List ℕ → Type 0
SpellsRun run text = OnRun run.boot run.cycles text (Prints run text)

-- what the board is started with for a run from a seed: the image of the seed, and no byte that arrives
abbrev pub seed_boot : ℕ → Boot
seed_boot seed = record { image = generated seed; script = [] }

-- the text is the summary of a run from a seed, and this is its end
abbrev pub SumsUp : SeedOrder → List ℕ → Option End → Type 0
SumsUp order text ended = (events : List Event) × (end : End) × (last : State) × Runs (seed_boot order.seed) order.cycles events end last × (text ≡ summary_of order.seed order.cycles events end last.regs.gpr) × (ended ≡ Some end)
