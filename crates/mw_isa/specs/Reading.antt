-- What a text spells: the events and the end that its lines are those of, and the run that these are.
use Rattle.std.specs.Prelude.{ℕ, ◌≡◌, ◌==◌, ◌^◌, ◌<◌, Bool, true, false, ◌&&◌, if◌then◌else◌, nat_lt, List, [], ◌∷◌, ◌++◌, Option, Some, None, is_some, IfSome, IsSomeAnd, codes, bytes_eq, option_map, option_and_then}
use Rattle.std.specs.Str.Parse.{digits_value}
use Rattle.mw_isa.specs.declared.event.Event.{Event}
use Rattle.mw_isa.specs.declared.event.Event.TheVariants.{Retire, Trap, Irq}
use Rattle.mw_isa.specs.declared.event.End.{End}
use Rattle.mw_isa.specs.declared.event.End.TheVariants.{Ran, Offence}
use Rattle.mw_isa.specs.declared.access.Kind.{Kind}
use Rattle.mw_isa.specs.declared.access.Kind.TheVariants.{Fetch, Load, Store}
use Rattle.mw_isa.specs.declared.offence.BlockStatus.{BlockStatus}
use Rattle.mw_isa.specs.declared.offence.BlockStatus.TheVariants.{Changed, Invalidated}
use Rattle.mw_isa.specs.declared.offence.Fresh.TheVariants.{Page, Fault}
use Rattle.mw_isa.specs.declared.offence.Why.{Why}
use Rattle.mw_isa.specs.declared.offence.Why.TheVariants.{Page as KeptPage, Block}
use Rattle.mw_isa.specs.declared.vector.Vector.{Vector}
use Rattle.mw_isa.specs.declared.vector.Vector.TheVariants.{DataStorage, DataSegment, InstStorage, InstSegment, External, Alignment, Program, FpUnavailable, Decrementer, SystemCall, VectorUnavailable, VsxUnavailable}
use Rattle.mw_isa.specs.State.{State}
use Rattle.mw_isa.specs.Start.{Boot}
use Rattle.mw_isa.specs.Replay.{cycle_of_event, state_after}
use Rattle.mw_isa.specs.Stops.{stop_of}
use Rattle.mw_isa.specs.Runs.{Runs}
use Rattle.mw_isa.specs.Text.{event_words, end_words}

-- the pieces before, between and behind a separator; the first one goes on with what was read of it
abbrev pub pieces_from : ℕ → List ℕ → List ℕ → List (List ℕ)
pieces_from separator piece [] = piece ∷ []
pieces_from separator piece (x ∷ xs) = if x == separator then piece ∷ pieces_from separator [] xs else pieces_from separator (piece ++ x ∷ []) xs

-- the words of a line
unfoldable pub words_of : List ℕ → List (List ℕ)
words_of text = pieces_from 32 [] text

-- the lines that start with what was read of the first one; what stands behind the last line feed is no line
abbrev pub lines_from : List ℕ → List ℕ → List (List ℕ)
lines_from piece [] = []
lines_from piece (x ∷ xs) = if x == 10 then piece ∷ lines_from [] xs else lines_from (piece ++ x ∷ []) xs

-- the lines of a text
unfoldable pub lines_of : List ℕ → List (List ℕ)
lines_of text = lines_from [] text

-- two lists of words are the same
abbrev pub same_words : List (List ℕ) → List (List ℕ) → Bool
same_words [] [] = true
same_words [] (y ∷ ys) = false
same_words (x ∷ xs) [] = false
same_words (x ∷ xs) (y ∷ ys) = bytes_eq x y && same_words xs ys

-- the interrupt at an address
abbrev pub vector_at : ℕ → Option Vector
vector_at address =
    if address == 0x300 then Some DataStorage
    else (if address == 0x380 then Some DataSegment
    else (if address == 0x400 then Some InstStorage
    else (if address == 0x480 then Some InstSegment
    else (if address == 0x500 then Some External
    else (if address == 0x600 then Some Alignment
    else (if address == 0x700 then Some Program
    else (if address == 0x800 then Some FpUnavailable
    else (if address == 0x900 then Some Decrementer
    else (if address == 0xC00 then Some SystemCall
    else (if address == 0xF20 then Some VectorUnavailable
    else (if address == 0xF40 then Some VsxUnavailable
    else None)))))))))))

-- the event that words of these kinds could be: a kind, a cycle, an address, and a word or a vector
abbrev pub event_by : List ℕ → ℕ → ℕ → ℕ → Option Event
event_by kind cycle at last =
    if bytes_eq kind (codes "R") then Some (Retire cycle at last None)
    else (if bytes_eq kind (codes "T") then option_map (Trap cycle at) (vector_at last)
    else option_map (Irq cycle at) (vector_at last))

-- the event that words could be
abbrev pub guess_event : List (List ℕ) → Option Event
guess_event (kind ∷ cycle ∷ at ∷ last ∷ []) = event_by kind (digits_value 10 cycle) (digits_value 16 at) (digits_value 16 last)
guess_event (kind ∷ cycle ∷ at ∷ prefix ∷ suffix ∷ []) = Some (Retire (digits_value 10 cycle) (digits_value 16 at) (digits_value 16 prefix) (Some (digits_value 16 suffix)))
guess_event words = None

-- the event of a cycle of 64 bits whose words these are, if there is one
unfoldable pub event_of : List (List ℕ) → Option Event
event_of words = option_and_then (λ event. if same_words (event_words event) words && nat_lt (cycle_of_event event) (2 ^ 64) then Some event else None) (guess_event words)

-- the kind of access that a word could tell
abbrev pub kind_by : List ℕ → Kind
kind_by word = if bytes_eq word (codes "fetch") then Fetch else (if bytes_eq word (codes "load") then Load else Store)

-- the status of a block that a word could tell
abbrev pub status_by : List ℕ → BlockStatus
status_by word = if bytes_eq word (codes "changed") then Changed else Invalidated

-- why an access breaks the update discipline, as two words could tell behind what they are of
abbrev pub why_by : List ℕ → List ℕ → List ℕ → Why
why_by what first second =
    if bytes_eq what (codes "page") then KeptPage (digits_value 16 first) (Page (digits_value 16 second))
    else Block (digits_value 16 first) (status_by second)

-- the end by an offence that words of these could be
abbrev pub offence_by : List ℕ → List ℕ → List ℕ → Why → End
offence_by cycle kind ea why = Offence (digits_value 10 cycle) (record { kind = kind_by kind; ea = digits_value 16 ea; why = why })

-- the end that words could be
abbrev pub guess_end : List (List ℕ) → Option End
guess_end (end ∷ ran ∷ cycle ∷ []) = Some (Ran (digits_value 10 cycle))
guess_end (end ∷ offence ∷ cycle ∷ kind ∷ ea ∷ what ∷ first ∷ second ∷ []) = Some (offence_by cycle kind ea (why_by what first second))
guess_end (end ∷ offence ∷ cycle ∷ kind ∷ ea ∷ page ∷ kept ∷ fault ∷ vector ∷ []) = option_map (λ v. offence_by cycle kind ea (KeptPage (digits_value 16 kept) (Fault v))) (vector_at (digits_value 16 vector))
guess_end words = None

-- the end of a cycle of 64 bits whose words these are, if there is one
unfoldable pub end_by : List (List ℕ) → Option End
end_by words = option_and_then (λ end. if same_words (end_words end) words && nat_lt (stop_of end) (2 ^ 64) then Some end else None) (guess_end words)

-- an event in front, and none where a line isn't an event's
abbrev pub more_events : Option Event → List Event → List Event
more_events None events = []
more_events (Some event) events = event ∷ events

-- the events of lines, as long as they are event lines
abbrev pub events_in : List (List ℕ) → List Event
events_in [] = []
events_in (first ∷ others) = more_events (event_of (words_of first)) (events_in others)

-- the end of lines: the first one that isn't an event line
abbrev pub end_in : List (List ℕ) → Option End
end_in [] = None
end_in (first ∷ others) = if is_some (event_of (words_of first)) then end_in others else end_by (words_of first)

-- the events that a text spells
unfoldable pub events_of : List ℕ → List Event
events_of text = events_in (lines_of text)

-- the end that a text spells, if it has one
unfoldable pub end_of : List ℕ → Option End
end_of text = end_in (lines_of text)

-- the numbers of an event fit their types
abbrev pub FitsEvent : Event → Type 0
FitsEvent (Retire cycle cia word suffix) = (cycle < 2 ^ 64) × (cia < 2 ^ 64) × (word < 2 ^ 32) × IfSome suffix (λ second. second < 2 ^ 32)
FitsEvent (Trap cycle cia vector) = (cycle < 2 ^ 64) × (cia < 2 ^ 64)
FitsEvent (Irq cycle nia vector) = (cycle < 2 ^ 64) × (nia < 2 ^ 64)

-- the numbers of why an access breaks the update discipline fit their types
abbrev pub FitsWhy : Why → Type 0
FitsWhy (KeptPage kept (Page real)) = (kept < 2 ^ 64) × (real < 2 ^ 64)
FitsWhy (KeptPage kept (Fault vector)) = kept < 2 ^ 64
FitsWhy (Block block status) = block < 2 ^ 64

-- the numbers of an end fit their types
abbrev pub FitsEnd : End → Type 0
FitsEnd (Ran cycle) = cycle < 2 ^ 64
FitsEnd (Offence cycle access) = (cycle < 2 ^ 64) × (access.ea < 2 ^ 64) × FitsWhy access.why

-- a text spells these events and this end, and no others
pub record Spells (text : List ℕ) (events : List Event) (end : End) : Type 0 where
  pub events_are : events_of text ≡ events
  pub end_is : end_of text ≡ Some end

-- the events and the end that stand in a text, and the last state that the machine gives from them, are a run of this
-- boot for n cycles, and this holds of them
unfoldable pub OnRun : Boot → ℕ → List ℕ → (List Event → End → State → Type 0) → Type 0
OnRun boot n text Holds = IsSomeAnd (end_of text) (λ end. IsSomeAnd (state_after boot (events_of text) (stop_of end)) (λ last. Runs boot n (events_of text) end last × Holds (events_of text) end last))
