-- One more event that keeps the update discipline, and what is kept behind it.
use Rattle.std.proofs.Common.{◌≡◌, List, [], ◌∷◌, ◌++◌, Option, Some, None, IfSome, option_and_then, unwrap_or, refl, sym, ap, subst}
use Rattle.std.specs.Option.{option_map_or}
use Rattle.mw_isa.specs.declared.event.Event.{Event}
use Rattle.mw_isa.specs.State.{State, brought}
use Rattle.mw_isa.specs.Discipline.{Kept}
use Rattle.mw_isa.specs.Disciplined.{IsAllowed, IsDisciplined, kept_after, kept_behind}
use Rattle.mw_isa.specs.Replay.{applied, cycle_of_event, replay}

-- a state that is there is the one that no event leads from
same-state : (first middle : State) → replay [] first ≡ Some middle → middle ≡ first
same-state first middle e = ap (λ (o : Option State). unwrap_or o first) (sym e)

-- what is kept behind one more event follows from each state that may be there
kept-follows : (middle : Option State) (events : List Event) (event : Event) (kept otherwise : Kept) (last : State) → option_and_then (replay events) middle ≡ Some last → ((s : State) → replay events s ≡ Some last → kept_after (events ++ event ∷ []) kept s ≡ kept_behind (kept_after events kept s) event (brought (cycle_of_event event) last)) → option_map_or (kept_after (events ++ event ∷ []) kept) middle otherwise ≡ kept_behind (option_map_or (kept_after events kept) middle otherwise) event (brought (cycle_of_event event) last)
kept-follows None events event kept otherwise last ends follows = cc
kept-follows (Some s) events event kept otherwise last ends follows = follows s ends

-- one event that is defined leaves what it leaves
kept-one : (after : Option State) (state : State) (here otherwise : Kept) → after ≡ Some state → option_map_or (kept_after [] here) after otherwise ≡ here
kept-one None state here otherwise e = cc
kept-one (Some s) state here otherwise e = refl

-- what is kept behind events and one more behind them
pub kept_after-push : (events : List Event) (event : Event) (kept : Kept) (first middle last : State) → replay events first ≡ Some middle → applied event middle ≡ Some last → kept_after (events ++ event ∷ []) kept first ≡ kept_behind (kept_after events kept first) event (brought (cycle_of_event event) middle)
kept_after-push [] event kept first middle last ends acts =
    let same = same-state first middle ends in
    subst (λ (s : State). kept_after (event ∷ []) kept s ≡ kept_behind kept event (brought (cycle_of_event event) middle)) same
    (kept-one (applied event middle) last (kept_behind kept event (brought (cycle_of_event event) middle)) kept acts)
kept_after-push (head ∷ events) event kept first middle last ends acts =
    kept-follows (applied head first) events event (kept_behind kept head (brought (cycle_of_event head) first)) kept middle ends
    (λ s rest. kept_after-push events event (kept_behind kept head (brought (cycle_of_event head) first)) s middle last rest acts)

-- no event behind the last one has to keep the discipline
none-behind : (state : Option State) (kept : Kept) → IfSome state (IsDisciplined [] kept)
none-behind None kept = tt
none-behind (Some state) kept = tt

-- one event that keeps the discipline does so by itself
one-disciplined : (event : Event) (kept : Kept) (state : State) → IsAllowed event kept (brought (cycle_of_event event) state) → IsDisciplined (event ∷ []) kept state
one-disciplined event kept state here = (here, none-behind (applied event state) (kept_behind kept event (brought (cycle_of_event event) state)))

-- events behind a state that may be there keep the discipline with one more, if it does
disciplined-follows : (middle : Option State) (events : List Event) (event : Event) (kept otherwise : Kept) (last : State) → IfSome middle (IsDisciplined events kept) → option_and_then (replay events) middle ≡ Some last → IsAllowed event (option_map_or (kept_after events kept) middle otherwise) (brought (cycle_of_event event) last) → ((s : State) → IsDisciplined events kept s → replay events s ≡ Some last → IsAllowed event (kept_after events kept s) (brought (cycle_of_event event) last) → IsDisciplined (events ++ event ∷ []) kept s) → IfSome middle (IsDisciplined (events ++ event ∷ []) kept)
disciplined-follows None events event kept otherwise last rest ends here follows = tt
disciplined-follows (Some s) events event kept otherwise last rest ends here follows = follows s rest ends here

-- events that keep the discipline keep it with one more behind them that does
pub disciplined-push : (events : List Event) (event : Event) (kept : Kept) (first middle : State) → IsDisciplined events kept first → replay events first ≡ Some middle → IsAllowed event (kept_after events kept first) (brought (cycle_of_event event) middle) → IsDisciplined (events ++ event ∷ []) kept first
disciplined-push [] event kept first middle before ends here =
    subst (IsDisciplined (event ∷ []) kept) (same-state first middle ends) (one-disciplined event kept middle here)
disciplined-push (head ∷ events) event kept first middle before ends here = (
  before.0,
  disciplined-follows (applied head first) events event (kept_behind kept head (brought (cycle_of_event head) first)) kept middle before.1 ends here
      (λ s rest on allowed. disciplined-push events event (kept_behind kept head (brought (cycle_of_event head) first)) s middle rest on allowed),
)
