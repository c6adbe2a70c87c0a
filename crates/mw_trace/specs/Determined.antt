-- What the text of a run determines.
use Rattle.std.specs.Prelude.{◌≡◌, List, Option, All}
use Rattle.mw_isa.specs.declared.access.Span.{Span}
use Rattle.mw_isa.specs.declared.event.Event.{Event}
use Rattle.mw_isa.specs.declared.event.End.{End}
use Rattle.mw_isa.specs.State.{State}
use Rattle.mw_isa.specs.Text.{text_of}
use Rattle.mw_isa.specs.Reading.{FitsEvent, FitsEnd, Spells}

-- every text spells the events and the end that it was made of, whatever the last state and the dump
abbrev pub TextsSpell : Type 0
TextsSpell = (events : List Event) (end : End) (last : State) (dump : Option Span) → All FitsEvent events → FitsEnd end → Spells (text_of events end last dump) events end

-- two runs of the same text have the same events and the same end
abbrev pub TextsDetermine : Type 0
TextsDetermine =
    (events others : List Event) (end stop : End) (last final : State) (dump other : Option Span)
    → All FitsEvent events → FitsEnd end
    → All FitsEvent others → FitsEnd stop
    → text_of events end last dump ≡ text_of others stop final other
    → (events ≡ others) × (end ≡ stop)
