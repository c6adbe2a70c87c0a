-- What a text spells of a run, from the run and back.
use Rattle.std.proofs.Common.{◌≡◌, ℕ, List, Option, Some, None, IsSomeAnd, refl, sym, ap, ◌∙◌, subst}
use Rattle.mw_isa.specs.declared.event.Event.{Event}
use Rattle.mw_isa.specs.declared.event.End.{End}
use Rattle.mw_isa.specs.State.{State}
use Rattle.mw_isa.specs.Start.{Boot}
use Rattle.mw_isa.specs.Stops.{stop_of}
use Rattle.mw_isa.specs.Replay.{state_after}
use Rattle.mw_isa.specs.Runs.{Runs}
use Rattle.mw_isa.specs.Reading.{events_of, end_of, Spells, OnRun}

-- what the one value has, some value has
pub has_some : {A : Type 0} (o : Option A) (x : A) (P : A → Type 0) → o ≡ Some x → P x → IsSomeAnd o P
has_some o x P e h = subst (λ (v : Option _). IsSomeAnd v P) (sym e) h

-- what follows for each value follows for some
some_gives : {A R : Type 0} (o : Option A) (P : A → Type 0) → IsSomeAnd o P → ((x : A) → o ≡ Some x → P x → R) → R
some_gives None P h f = absurd h
some_gives (Some x) P h f = f x refl h

-- a text that spells the events and the end of a run is on it
pub on-run : (boot : Boot) (n : ℕ) (text : List ℕ) (events : List Event) (end : End) (last : State) (Holds : List Event → End → State → Type 0) → Spells text events end → Runs boot n events end last → Holds events end last → OnRun boot n text Holds
unfolding OnRun
on-run boot n text events end last Holds spells runs holds =
    let after : state_after boot (events_of text) (stop_of end) ≡ Some last = ap (λ (es : List Event). state_after boot es (stop_of end)) spells.events_are ∙ runs.replayed in
    has_some (end_of text) end _ spells.end_is (has_some (state_after boot (events_of text) (stop_of end)) last _ after
    (subst (λ (es : List Event). Runs boot n es end last × Holds es end last) (sym spells.events_are) (runs, holds)))

-- what follows from each run that a text spells follows from the text
pub run-spelled : {R : Type 0} (boot : Boot) (n : ℕ) (text : List ℕ) (Holds : List Event → End → State → Type 0) → OnRun boot n text Holds → ((end : End) (last : State) → Spells text (events_of text) end → Runs boot n (events_of text) end last → Holds (events_of text) end last → R) → R
unfolding OnRun
run-spelled boot n text Holds spells gives =
    some_gives (end_of text) _ spells (λ end e h.
    some_gives (state_after boot (events_of text) (stop_of end)) _ h (λ last a p. gives end last (record { events_are = refl; end_is = e }) p.0 p.1))
