-- What is printed spells its run.
use Rattle.std.proofs.Common.{◌≡◌, ℕ, List, ◌++◌, Option, All, sym, ap, ◌∙◌, append_assoc}
use Rattle.std.specs.List.{range_with_len}
use Rattle.mw_isa.specs.declared.event.Event.{Event}
use Rattle.mw_isa.specs.declared.event.End.{End}
use Rattle.mw_isa.specs.State.{State}
use Rattle.mw_isa.specs.Stops.{stop_of}
use Rattle.mw_isa.specs.Replay.{cycles_of}
use Rattle.mw_isa.specs.Runs.{Runs}
use Rattle.mw_isa.specs.declared.access.Span.{Span}
use Rattle.mw_isa.specs.Text.{event_lines, end_line, state_lines, text_of}
use Rattle.mw_isa.specs.Reading.{FitsEvent, FitsEnd, Spells}
use Rattle.mw_isa.proofs.RunLaws.{on-run}
use Rattle.mw_trace.proofs.SpellLemmas.{spells_from_text}
use Rattle.mw_cli.specs.Headline.{AskedRun, Prints, SpellsRun}

-- the text of a run spells it
pub spells-run : (run : AskedRun) (text : List ℕ) (events : List Event) (end : End) (last : State) → Runs run.boot run.cycles events end last → text ≡ text_of events end last run.dump → Spells text events end → cycles_of events ≡ range_with_len 0 (stop_of end) → SpellsRun run text
spells-run run text events end last runs whole spells each =
    on-run run.boot run.cycles text events end last (Prints run text) spells runs (record { whole = whole; each_cycle = each })

-- the lines of the events and what stands behind them are the text
pub pieces-whole : (events : List Event) (end : End) (last : State) (dump : Option Span) (rest : List ℕ) → rest ≡ end_line end ++ state_lines last dump → event_lines events ++ rest ≡ text_of events end last dump
unfolding text_of
pieces-whole events end last dump rest e = ap (λ (r : List ℕ). event_lines events ++ r) e ∙ sym (append_assoc (event_lines events) (end_line end) (state_lines last dump))

-- so they spell the events and the end
pub pieces-spell : (events : List Event) (end : End) (last : State) (dump : Option Span) (rest : List ℕ) → rest ≡ end_line end ++ state_lines last dump → All FitsEvent events → FitsEnd end → Spells (event_lines events ++ rest) events end
pieces-spell events end last dump rest e fits fit = spells_from_text (event_lines events ++ rest) events end last dump (pieces-whole events end last dump rest e) fits fit
