-- What a text of event lines alone is read as.
use Rattle.std.specs.Prelude.{ℕ, ◌≡◌, ◌≢◌, ◌↔◌, ◌+◌, ◌<◌, nat_lt, Bool, true, if◌then◌else◌, List, [], ◌∷◌, ◌++◌, length, Option, Some, None, Result, Ok, Err, All, bytes_eq}
use Rattle.std.specs.List.Sorted.{IsStrictlyIncreasing}
use Rattle.mw_isa.specs.declared.event.Event.{Event}
use Rattle.mw_isa.specs.Replay.{cycle_of_event, cycles_of}
use Rattle.mw_isa.specs.Text.{line, event_words, event_lines}
use Rattle.mw_isa.specs.Reading.{events_of, FitsEvent}
use Rattle.mw_trace.specs.declared.reading.BadLine.{BadLine}
use Rattle.mw_trace.specs.declared.reading.BadLine.TheVariants.{Bad, NoMemory}

-- an event comes behind a cycle, if there is one
abbrev pub comes_behind : Option ℕ → Event → Bool
comes_behind None event = true
comes_behind (Some before) event = nat_lt before (cycle_of_event event)

-- the first events, as long as each comes behind the one before, and the first behind this cycle
abbrev pub rising_behind : Option ℕ → List Event → List Event
rising_behind before [] = []
rising_behind before (event ∷ events) =
    if comes_behind before event then event ∷ rising_behind (Some (cycle_of_event event)) events
    else []

-- the events whose lines a text is, or else the number of the line behind theirs, counted from 1
abbrev pub whole_or_next : List ℕ → List Event → Result (List Event) ℕ
whole_or_next text events = if bytes_eq (event_lines events) text then Ok events else Err (length events + 1)

-- the events that a text of event lines with rising cycles is read as; or else the number of its first line that isn't
-- an event's line with a line feed, or whose cycle isn't above that of the line before
unfoldable pub events_read : List ℕ → Result (List Event) ℕ
events_read text = whole_or_next text (rising_behind None (events_of text))

-- what holds of the line that is refused, where one is
abbrev pub IfBad : BadLine → (ℕ → Type 0) → Type 0
IfBad (Bad number) Holds = Holds number
IfBad NoMemory Holds = Unit {0}

-- a text is the lines of these events, whose numbers fit and whose cycles rise
pub record AreLines (text : List ℕ) (events : List Event) : Type 0 where
  pub whole : text ≡ event_lines events
  pub fit : All FitsEvent events
  pub rising : IsStrictlyIncreasing (cycles_of events)

-- a text is read as events exactly where it is their lines
abbrev pub LinesRead : Type 0
LinesRead = (text : List ℕ) (events : List Event) → (events_read text ≡ Ok events) ↔ AreLines text events

-- the line of this number is the first of a text that isn't an event's line or whose cycle doesn't rise
pub record IsRefusedAt (number : ℕ) (text : List ℕ) : Type 0 where
  -- the events of the lines before it
  pub events : List Event
  -- the text from it on
  pub rest : List ℕ
  pub whole : text ≡ event_lines events ++ rest
  pub numbered : number ≡ length events + 1
  -- the cycles of the lines before it rise
  pub rising : IsStrictlyIncreasing (cycles_of events)
  -- there is something from it on
  pub some : 0 < length rest
  -- it isn't the line of an event with which they rise too
  pub other :
      (event : Event) (behind : List ℕ)
      → FitsEvent event → IsStrictlyIncreasing (cycles_of (events ++ event ∷ []))
      → rest ≢ line (event_words event) ++ behind

-- a text that isn't read as events is refused at its first line that isn't an event's or whose cycle doesn't rise
abbrev pub LinesRefused : Type 0
LinesRefused = (text : List ℕ) (number : ℕ) → events_read text ≡ Err number → IsRefusedAt number text
