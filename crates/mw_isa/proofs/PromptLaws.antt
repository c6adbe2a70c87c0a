-- An interrupt that stands and is enabled is taken at once, and is the one that is chosen.
use Rattle.std.proofs.Common.{◌≡◌, ℕ, Bool, true, false, not, cond, List, [], ◌∷◌, ◌++◌, Option, Some, None, IsTrue, IfSome, is_some, option_map, option_and_then, unwrap_or, refl, sym, ap, ◌∙◌, subst}
use Rattle.std.specs.Prelude.{⊤}
use Rattle.std.proofs.lemmas.Bool.{and_parts, eqb-true}
use Rattle.mw_isa.specs.declared.event.Event.{Event}
use Rattle.mw_isa.specs.declared.event.Event.TheVariants.{Retire, Trap, Irq}
use Rattle.mw_isa.specs.declared.event.End.{End}
use Rattle.mw_isa.specs.declared.vector.Vector.{Vector}
use Rattle.mw_isa.specs.declared.vector.Vector.TheVariants.{DataStorage, DataSegment, InstStorage, InstSegment, External, Alignment, Program, FpUnavailable, Decrementer, SystemCall, VectorUnavailable, VsxUnavailable}
use Rattle.mw_isa.specs.Vectors.{address_of}
use Rattle.mw_isa.specs.State.{State, brought}
use Rattle.mw_isa.specs.Start.{Boot, start}
use Rattle.mw_isa.specs.Choose.{chosen}
use Rattle.mw_isa.specs.Replay.{acted, applied, chooses, cycle_of_event, interrupts, replay, state_after}
use Rattle.mw_isa.specs.Stops.{stop_of}
use Rattle.mw_isa.specs.Prompt.{irq_of, is_prompt, IsPrompt}
use Rattle.mw_isa.specs.Runs.{Runs}
use Rattle.mw_isa.specs.Reading.{vector_at}

-- the vector at a vector's address
pub vector_at-address_of : (vector : Vector) → vector_at (address_of vector) ≡ Some vector
vector_at-address_of DataStorage = refl
vector_at-address_of DataSegment = refl
vector_at-address_of InstStorage = refl
vector_at-address_of InstSegment = refl
vector_at-address_of External = refl
vector_at-address_of Alignment = refl
vector_at-address_of Program = refl
vector_at-address_of FpUnavailable = refl
vector_at-address_of Decrementer = refl
vector_at-address_of SystemCall = refl
vector_at-address_of VectorUnavailable = refl
vector_at-address_of VsxUnavailable = refl

-- two vectors of one address are one
same-vector : (first second : Vector) → address_of first ≡ address_of second → first ≡ second
same-vector first second e =
    ap (λ (o : Option Vector). unwrap_or o first) (sym (vector_at-address_of first) ∙ ap vector_at e ∙ vector_at-address_of second)

-- the interrupt that is accepted is the one that is chosen
chosen-is : (choice : Option Vector) (vector : Vector) → chooses choice vector ≡ true → choice ≡ Some vector
chosen-is None vector e = cc
chosen-is (Some other) vector e = ap Some (same-vector other vector (eqb-true (address_of other) (address_of vector) e))

-- a test holds where what is there only with it is there
held-by : (test : Bool) (state after : State) → cond test (Some state) None ≡ Some after → test ≡ true
held-by true state after e = refl
held-by false state after e = cc

-- no interrupt is the one that is chosen where none is chosen
none-chosen : (choice : Option Vector) → IsTrue (not (is_some choice)) → None ≡ choice
none-chosen None calm = refl
none-chosen (Some vector) calm = cc

-- an event that is prompt and accepted takes the interrupt that is chosen, and none where none is
pub irq-chosen : (event : Event) (state after : State) → IsTrue (is_prompt event state) → acted event state ≡ Some after → irq_of event ≡ chosen state
unfolding acted
irq-chosen (Retire cycle cia word suffix) state after prompt acts = none-chosen (chosen state) prompt
irq-chosen (Trap cycle cia vector) state after prompt acts = none-chosen (chosen state) prompt
irq-chosen (Irq cycle nia vector) state after prompt acts =
    sym (chosen-is (chosen state) vector (and_parts _ _ (held-by (interrupts state nia vector) _ after acts)).1)

-- each event takes the interrupt that is chosen on the state before it, and none where none is
abbrev pub IsTimely : List Event → State → Type 0
IsTimely [] state = ⊤
IsTimely (event ∷ events) state =
    (irq_of event ≡ chosen (brought (cycle_of_event event) state)) × IfSome (applied event state) (IsTimely events)

-- an event is timely, where the events behind it are
timely-more : (event : Event) (events : List Event) (state last : State) (middle : Option State) → applied event state ≡ middle → IsTrue (is_prompt event (brought (cycle_of_event event) state)) → IfSome middle (IsPrompt events) → option_and_then (replay events) middle ≡ Some last → ((s : State) → IsPrompt events s → replay events s ≡ Some last → IsTimely events s) → (irq_of event ≡ chosen (brought (cycle_of_event event) state)) × IfSome middle (IsTimely events)
timely-more event events state last None acts here rest ends follows = cc
timely-more event events state last (Some s) acts here rest ends follows =
    (irq-chosen event (brought (cycle_of_event event) state) s here acts, follows s rest ends)

-- events that are prompt and are replayed are timely
pub prompt-timely : (events : List Event) (state last : State) → IsPrompt events state → replay events state ≡ Some last → IsTimely events state
prompt-timely [] state last prompt ends = tt
prompt-timely (event ∷ events) state last prompt ends =
    timely-more event events state last (applied event state) refl prompt.0 prompt.1 ends (λ s rest on. prompt-timely events s last rest on)

-- events that leave a state at the stop are timely
replayed-timely : (events : List Event) (state last : State) (stop : ℕ) (middle : Option State) → replay events state ≡ middle → option_map (brought stop) middle ≡ Some last → IsPrompt events state → IsTimely events state
replayed-timely events state last stop None ends brings prompt = cc
replayed-timely events state last stop (Some s) ends brings prompt = prompt-timely events state s prompt ends

-- in a run an event is an interrupt between two instructions if and only if one is chosen there, and it is that one
pub runs-timely : (boot : Boot) (n : ℕ) (events : List Event) (end : End) (last : State) → Runs boot n events end last → IsTimely events (start boot)
unfolding state_after
runs-timely boot n events end last runs =
    replayed-timely events (start boot) last (stop_of end) (replay events (start boot)) refl runs.replayed runs.prompt

-- no event behind the last one has to be prompt
none-behind : (state : Option State) → IfSome state (IsPrompt [])
none-behind None = tt
none-behind (Some state) = tt

-- one event is prompt by itself
one-prompt : (event : Event) (state : State) → IsTrue (is_prompt event (brought (cycle_of_event event) state)) → IsPrompt (event ∷ []) state
one-prompt event state here = (here, none-behind (applied event state))

-- prompt events behind a state that may be there give the prompt events that follow from them
prompt-follows : (middle : Option State) (events more : List Event) (last : State) → IfSome middle (IsPrompt events) → option_and_then (replay events) middle ≡ Some last → ((s : State) → IsPrompt events s → replay events s ≡ Some last → IsPrompt more s) → IfSome middle (IsPrompt more)
prompt-follows None events more last rest ends follows = tt
prompt-follows (Some s) events more last rest ends follows = follows s rest ends

-- prompt events with one more prompt event behind them are prompt
pub prompt-push : (events : List Event) (event : Event) (first middle : State) → IsPrompt events first → replay events first ≡ Some middle → IsTrue (is_prompt event (brought (cycle_of_event event) middle)) → IsPrompt (events ++ event ∷ []) first
prompt-push [] event first middle prompt ends here =
    let same : middle ≡ first = ap (λ (o : Option State). unwrap_or o first) (sym ends) in
    subst (IsPrompt (event ∷ [])) same (one-prompt event middle here)
prompt-push (head ∷ events) event first middle prompt ends here =
    (prompt.0, prompt-follows (applied head first) events (events ++ event ∷ []) middle prompt.1 ends (λ s rest on. prompt-push events event s middle rest on here))
