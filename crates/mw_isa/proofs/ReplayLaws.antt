-- What events make of a state, one after another.
use Rattle.std.proofs.Common.{◌≡◌, List, [], ◌∷◌, ◌++◌, Option, Some, None, option_and_then, unwrap_or, sym, ap, subst}
use Rattle.mw_isa.specs.declared.event.Event.{Event}
use Rattle.mw_isa.specs.State.{State}
use Rattle.mw_isa.specs.Replay.{applied, replay}

-- where one function finds an end, another that agrees with it on the way finds its own
follows : (o : Option State) (f g : State → Option State) (middle last : State) → option_and_then f o ≡ Some middle → ((s : State) → f s ≡ Some middle → g s ≡ Some last) → option_and_then g o ≡ Some last
follows None f g middle last e h = cc
follows (Some s) f g middle last e h = h s e

-- what events and one more event behind them make of a state
pub replay-push : (events : List Event) (event : Event) (first middle last : State) → replay events first ≡ Some middle → applied event middle ≡ Some last → replay (events ++ event ∷ []) first ≡ Some last
replay-push [] event first middle last e a =
    let m : middle ≡ first = ap (λ (o : Option State). unwrap_or o first) (sym e) in
    subst (λ (s : State). option_and_then (λ (x : State). Some x) (applied event s) ≡ Some last) m (ap (option_and_then (λ (x : State). Some x)) a)
replay-push (head ∷ events) event first middle last e a =
    follows (applied head first) (replay events) (replay (events ++ event ∷ [])) middle last e (λ s f. replay-push events event s middle last f a)
