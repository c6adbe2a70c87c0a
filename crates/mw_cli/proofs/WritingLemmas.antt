-- What a sink took of pieces that were written one after another.
use Rattle.std.proofs.Common.{◌≡◌, ℕ, ◌+◌, ◌<◌, ◌≤◌, ◌⊎◌, inl, inr, Bool, true, false, MatchBool, List, ◌++◌, length, take, drop, map, Result, Ok, Err, IfErr, Option, Some, None, sym, ap, ap₂, ◌∙◌, subst, arith, append_assoc, length-append}
use Rattle.mw_io.specs.Outside.{SinkState, Rose, with_more}
use Rattle.mw_cli.specs.declared.refusal.Refusal.{Refusal}
use Rattle.std.specs.List.{flat_map}
use Rattle.mw_isa.specs.declared.event.Event.{Event}
use Rattle.mw_isa.specs.Text.{event_lines, event_words, line}
use Rattle.mw_cli.specs.declared.refusal.Refusal.TheVariants.{Unreadable, Unwritable, TooLarge, Bad, OutOfMemory}
use Rattle.mw_cli.specs.Outside.{Change, change, Took, TookFront, Stopped, TookUnlessFault}
use Rattle.mw_cli.specs.Stages.{line_of, IsWriteRefusal}
use Rattle.std.proofs.Math.Seq.{take-append-add}
use Rattle.std.proofs.lemmas.List.{take-append-le, take-append-drop, take-take, drop-take, map-append}
use Rattle.std.proofs.lemmas.Grind.{flat_map-append}

-- a sink that took one piece and then another took both
pub both-took : (t u v : Option (List ℕ)) (a b : List ℕ) → u ≡ with_more t a → v ≡ with_more u b → v ≡ with_more t (a ++ b)
both-took None u v a b p q = q ∙ ap (λ (x : Option (List ℕ)). with_more x b) p
both-took (Some x) u v a b p q = q ∙ ap (λ (x : Option (List ℕ)). with_more x b) p ∙ ap Some (append_assoc x a b)

-- a count that rose later has risen since before
pub rose-since : (a b c : ℕ) → a ≤ b → Rose b c → Rose a c
rose-since a b c h r = omega arith

-- one of two counts that rose later has risen since before
either-since : (f g h w x y : ℕ) → f ≤ g → w ≤ x → (Rose g h ⊎ Rose x y) → (Rose f h ⊎ Rose w y)
either-since f g h w x y fg wx (inl r) = inl (rose-since f g h fg r)
either-since f g h w x y fg wx (inr r) = inr (rose-since w x y wx r)

-- a sink that stopped within the first of two pieces
pub first-stopped : (sink : Change SinkState) (a b : List ℕ) → Stopped sink a → Stopped sink (a ++ b)
first-stopped sink a b ((k, within, took), rose) =
    let fits : k < length (a ++ b) = omega (arith, length-append a b) in
    ((k, fits, took ∙ ap (with_more sink.before.taken) (sym (take-append-le k a b (omega arith)))), rose)

-- a sink that took the first of two pieces and stopped within the second
pub second-stopped : (s t u : SinkState) (a b : List ℕ) → s.faults ≤ t.faults → s.wants ≤ t.wants → Took (change s t) a → Stopped (change t u) b → Stopped (change s u) (a ++ b)
second-stopped s t u a b faults wants first ((k, within, took), rose) =
    let fits : length a + k < length (a ++ b) = omega (arith, length-append a b) in
    ((length a + k, fits, both-took s.taken t.taken u.taken a (take k b) first took ∙ ap (with_more s.taken) (sym (take-append-add a b k))), either-since s.faults t.faults u.faults s.wants t.wants u.wants faults wants rose)

-- two pieces, as the second one went
pub both-cases : (r : Bool) (s t u : SinkState) (a b : List ℕ) → s.faults ≤ t.faults → s.wants ≤ t.wants → Took (change s t) a → MatchBool r (Took (change t u) b) (Stopped (change t u) b) → MatchBool r (Took (change s u) (a ++ b)) (Stopped (change s u) (a ++ b))
both-cases true s t u a b faults wants first second = both-took s.taken t.taken u.taken a b first second
both-cases false s t u a b faults wants first second = second-stopped s t u a b faults wants first second

-- a sink took all the bytes, or stopped within them
pub took_or_stopped : (r : Bool) (sink : Change SinkState) (bytes : List ℕ) → MatchBool r (Took sink bytes) (Stopped sink bytes) → TookUnlessFault sink bytes
took_or_stopped true sink bytes took = inl took
took_or_stopped false sink bytes stopped = inr stopped

-- the line that was told is that of the refusal
pub told : (sink : Change SinkState) (bytes : List ℕ) (refusal which : Refusal) → refusal ≡ which → bytes ≡ line_of which → TookUnlessFault sink bytes → TookUnlessFault sink (line_of refusal)
told sink bytes refusal which is e took =
    subst (TookUnlessFault sink) (e ∙ ap line_of (sym is)) took

-- ---- a text that is written in pieces

-- a front of what comes behind a front is a front of both
front-behind : (s t u : SinkState) (a b : List ℕ) → Took (change s t) a → TookFront (change t u) b → TookFront (change s u) (a ++ b)
front-behind s t u a b first (k, within, took) =
    (length a + k, omega (arith, length-append a b), both-took s.taken t.taken u.taken a (take k b) first took ∙ ap (with_more s.taken) (sym (take-append-add a b k)))

-- a front of the first of two pieces is a front of both
front-first : (sink : Change SinkState) (a b : List ℕ) → TookFront sink a → TookFront sink (a ++ b)
front-first sink a b (k, within, took) =
    (k, omega (arith, length-append a b), took ∙ ap (with_more sink.before.taken) (sym (take-append-le k a b (omega arith))))

-- why the second piece isn't written is why both aren't, where the first one was and the count of wants stayed
pub refused-behind : (s t u : SinkState) (a b : List ℕ) (refusal : Refusal) → Took (change s t) a → t.wants ≡ s.wants → IsWriteRefusal (change t u) b refusal → IsWriteRefusal (change s u) (a ++ b) refusal
refused-behind s t u a b (Unreadable name) first same cause = absurd cause
refused-behind s t u a b TooLarge first same cause = absurd cause
refused-behind s t u a b (Bad name line column) first same cause = absurd cause
refused-behind s t u a b Unwritable first same cause = front-behind s t u a b first cause
refused-behind s t u a b OutOfMemory first same (rose, cause) = (subst (λ (n : ℕ). Rose n u.wants) same rose, front-behind s t u a b first cause)

pub refused-rest : {T : Type 0} (r : Result T Refusal) (s t u : SinkState) (a b : List ℕ) → Took (change s t) a → t.wants ≡ s.wants → IfErr r (IsWriteRefusal (change t u) b) → IfErr r (IsWriteRefusal (change s u) (a ++ b))
refused-rest (Ok value) s t u a b first same cause = tt
refused-rest (Err refusal) s t u a b first same cause = refused-behind s t u a b refusal first same cause

-- why the first piece isn't written is why both aren't
pub refused-first : (sink : Change SinkState) (a b : List ℕ) (refusal : Refusal) → IsWriteRefusal sink a refusal → IsWriteRefusal sink (a ++ b) refusal
refused-first sink a b (Unreadable name) cause = absurd cause
refused-first sink a b TooLarge cause = absurd cause
refused-first sink a b (Bad name line column) cause = absurd cause
refused-first sink a b Unwritable cause = front-first sink a b cause
refused-first sink a b OutOfMemory (rose, cause) = (rose, front-first sink a b cause)

-- the lines of events, those of some first
lines-append : (xs ys : List Event) → event_lines xs ++ event_lines ys ≡ event_lines (xs ++ ys)
lines-append xs ys = sym (ap (flat_map line) (map-append event_words xs ys) ∙ flat_map-append line (map event_words xs) (map event_words ys))

lines-split : (n : ℕ) (events : List Event) → event_lines (take n events) ++ event_lines (drop n events) ≡ event_lines events
lines-split n events = lines-append (take n events) (drop n events) ∙ ap event_lines (take-append-drop n events)

-- some elements and then some more
take-both : (at n : ℕ) (events : List Event) → take at events ++ take n (drop at events) ≡ take (at + n) events
take-both at n events =
    ap₂ (λ (a b : List Event). a ++ b) (sym (take-take at (at + n) events (omega arith))) (sym (drop-take at n events))
    ∙ take-append-drop at (take (at + n) events)

-- out took the lines of some events, and then those of the next ones
pub lines-took : (s t u : SinkState) (events : List Event) (at n : ℕ) → Took (change s t) (event_lines (take at events)) → Took (change t u) (event_lines (take n (drop at events))) → Took (change s u) (event_lines (take (at + n) events))
lines-took s t u events at n first second =
    both-took s.taken t.taken u.taken (event_lines (take at events)) (event_lines (take n (drop at events))) first second
    ∙ ap (with_more s.taken) (lines-append (take at events) (take n (drop at events)) ∙ ap event_lines (take-both at n events))

-- why the next ones' lines aren't written is why those of all aren't
pub lines-refused : (s t u : SinkState) (events : List Event) (at n : ℕ) (refusal : Refusal) → Took (change s t) (event_lines (take at events)) → t.wants ≡ s.wants → IsWriteRefusal (change t u) (event_lines (take n (drop at events))) refusal → IsWriteRefusal (change s u) (event_lines events) refusal
lines-refused s t u events at n refusal first same cause =
    subst (λ (text : List ℕ). IsWriteRefusal (change s u) text refusal) (lines-split at events)
    (refused-behind s t u (event_lines (take at events)) (event_lines (drop at events)) refusal first same
    (subst (λ (text : List ℕ). IsWriteRefusal (change t u) text refusal) (lines-split n (drop at events))
    (refused-first (change t u) (event_lines (take n (drop at events))) (event_lines (drop n (drop at events))) refusal cause)))
