-- A text is read as events exactly where it is their lines.
use Rattle.std.proofs.Common.{◌≡◌, ℕ, zero, suc, ◌+◌, ◌^◌, ◌<◌, ◌≤◌, nat_lt, List, [], ◌∷◌, ◌++◌, length, get_or, Option, Some, None, option_map, option_and_then, Ok, Err, bytes_eq, codes, refl, sym, ap, ◌∙◌, subst, All, append_assoc, length-append, arith, ◌==◌}
use Rattle.std.specs.List.Sorted.{IsStrictlyIncreasing}
use Rattle.std.proofs.lemmas.Bool.{cond-true, cond_both, eqb-true, false≢true, ltb-true, lt-ltb}
use Rattle.std.proofs.lemmas.List.{append-nil}
use Rattle.std.proofs.lemmas.List.Elements.{All-nil, All-cons, All-head, All-tail, All-push}
use Rattle.std.proofs.lemmas.Option.{none-some, same_Some, option_and_then_some}
use Rattle.std.proofs.lemmas.Slice.Eq.{bytes_eq-Decides}
use Rattle.mw_isa.specs.declared.event.Event.{Event}
use Rattle.mw_isa.specs.declared.event.Event.TheVariants.{Retire, Trap, Irq}
use Rattle.mw_isa.specs.Replay.{cycle_of_event, cycles_of}
use Rattle.mw_isa.specs.Text.{line, event_words, event_lines}
use Rattle.mw_isa.specs.Reading.{event_of, words_of, lines_from, lines_of, more_events, events_in, events_of, FitsEvent}
use Rattle.mw_trace.specs.Inside.{decimal_in, hex_in, vector_in, event_with, prefixed_with, event_of_four, event_of_five}
use Rattle.mw_trace.specs.ReadLines.{comes_behind, rising_behind, whole_or_next, events_read, AreLines, LinesRead, LinesRefused}
use Rattle.mw_trace.proofs.WordLemmas.{decimal-small, hex-small}
use Rattle.mw_trace.proofs.EventLemmas.{event_of-four, event_of-five}
use Rattle.mw_trace.proofs.SpellLemmas.{events_in-lines}
use Rattle.mw_trace.proofs.ReadLemmas.{text-line, event_lines-push}

-- what a value of an option is made of
map_some :
    {A B : Type 0} (f : A → B) (o : Option A) (y : B) (P : B → Type 0) → option_map f o ≡ Some y
    → ((x : A) → o ≡ Some x → P (f x)) → P y
map_some f None y P e h = absurd (none-some y e)
map_some f (Some x) y P e h = subst P (same_Some (f x) y e) (h x refl)

-- the numbers of an event that is made of a kind and numbers that fit
event_with-fits :
    (kind : List ℕ) (cycle at : ℕ) (last : List ℕ) (event : Event) → cycle < 2 ^ 64 → at < 2 ^ 64
    → event_with kind cycle at last ≡ Some event → FitsEvent event
event_with-fits kind cycle at last event small low =
    cond_both (bytes_eq kind (codes "R")) _ _ (λ o. o ≡ Some event → FitsEvent event)
    (λ r e. map_some (λ word. Retire cycle at word None) (hex_in 8 last) event FitsEvent e
    (λ word is. (small, low, hex-small 8 last word is, tt)))
    (λ r. cond_both (bytes_eq kind (codes "T")) _ _ (λ o. o ≡ Some event → FitsEvent event)
    (λ t e. map_some (Trap cycle at) (vector_in last) event FitsEvent e (λ vector is. (small, low)))
    (λ t. cond_both (bytes_eq kind (codes "I")) _ _ (λ o. o ≡ Some event → FitsEvent event)
    (λ i e. map_some (Irq cycle at) (vector_in last) event FitsEvent e (λ vector is. (small, low)))
    (λ i e. absurd (none-some event e))))

-- the numbers of an event of four words
four-fits :
    (kind cycle at last : List ℕ) (event : Event) → event_of_four kind cycle at last ≡ Some event → FitsEvent event
four-fits kind cycle at last event e =
    option_and_then_some (λ c. option_and_then (λ a. event_with kind c a last) (hex_in 16 at)) (decimal_in cycle) event
    e (λ c cycle_is e_c.
    option_and_then_some (λ a. event_with kind c a last) (hex_in 16 at) event e_c (λ a at_is e_a.
    event_with-fits kind c a last event (decimal-small cycle c cycle_is) (hex-small 16 at a at_is) e_a))

-- the numbers of an event of five words
five-fits :
    (kind cycle at word suffix : List ℕ) (event : Event) → event_of_five kind cycle at word suffix ≡ Some event
    → FitsEvent event
five-fits kind cycle at word suffix event =
    cond_both (bytes_eq kind (codes "R")) _ _ (λ o. o ≡ Some event → FitsEvent event)
    (λ r e.
    option_and_then_some (λ c. option_and_then (λ a. prefixed_with c a word suffix) (hex_in 16 at)) (decimal_in cycle)
    event e (λ c cycle_is e_c.
    option_and_then_some (λ a. prefixed_with c a word suffix) (hex_in 16 at) event e_c (λ a at_is e_a.
    option_and_then_some (λ w. option_map (λ s. Retire c a w (Some s)) (hex_in 8 suffix)) (hex_in 8 word) event e_a
    (λ w word_is e_w.
    map_some (λ s. Retire c a w (Some s)) (hex_in 8 suffix) event FitsEvent e_w (λ s suffix_is. (
      decimal-small cycle c cycle_is,
      hex-small 16 at a at_is,
      hex-small 8 word w word_is,
      hex-small 8 suffix s
          suffix_is,
    ))))))
    (λ r e. absurd (none-some event e))

-- the numbers of an event of words
event_of-fits : (words : List (List ℕ)) (event : Event) → event_of words ≡ Some event → FitsEvent event
unfolding event_of
event_of-fits [] event e = absurd (none-some event e)
event_of-fits (a ∷ []) event e = absurd (none-some event e)
event_of-fits (a ∷ b ∷ []) event e = absurd (none-some event e)
event_of-fits (a ∷ b ∷ c ∷ []) event e = absurd (none-some event e)
event_of-fits (a ∷ b ∷ c ∷ d ∷ []) event e = four-fits a b c d event (sym (event_of-four a b c d) ∙ e)
event_of-fits (a ∷ b ∷ c ∷ d ∷ f ∷ []) event e = five-fits a b c d f event (sym (event_of-five a b c d f) ∙ e)
event_of-fits (a ∷ b ∷ c ∷ d ∷ f ∷ g ∷ others) event e = absurd (none-some event e)

-- an event in front of others that fit
more-fit :
    (words : List (List ℕ)) (o : Option Event) (events : List Event) → event_of words ≡ o → All FitsEvent events
    → All FitsEvent (more_events o events)
more-fit words None events is fit = All-nil FitsEvent
more-fit words (Some event) events is fit = All-cons FitsEvent event events (event_of-fits words event is) fit

-- the numbers of the events of lines
events_in-fit : (lines : List (List ℕ)) → All FitsEvent (events_in lines)
events_in-fit [] = All-nil FitsEvent
events_in-fit (first ∷ others) =
    more-fit (words_of first) (event_of (words_of first)) (events_in others) refl (events_in-fit others)

-- the numbers of the events of a text
events_of-fit : (text : List ℕ) → All FitsEvent (events_of text)
unfolding events_of
events_of-fit text = events_in-fit (lines_of text)

-- the first events that rise fit where all do
rising-fit :
    (before : Option ℕ) (events : List Event) → All FitsEvent events → All FitsEvent (rising_behind before events)
rising-fit before [] fit = fit
rising-fit before (event ∷ events) fit =
    cond_both (comes_behind before event) (event ∷ rising_behind (Some (cycle_of_event event)) events) []
    (All FitsEvent)
    (λ is. All-cons FitsEvent event (rising_behind (Some (cycle_of_event event)) events)
    (All-head FitsEvent event events fit)
    (rising-fit (Some (cycle_of_event event)) events (All-tail FitsEvent event events fit)))
    (λ is. All-nil FitsEvent)

-- a number is below the first of a list, if there is one
abbrev IsBelowFirst : ℕ → List ℕ → Type 0
IsBelowFirst n [] = Unit {0}
IsBelowFirst n (x ∷ xs) = n < x

-- the cycle before is below that of the first event that rises
rising-above : (before : ℕ) (events : List Event) → IsBelowFirst before (cycles_of (rising_behind (Some before) events))
rising-above before [] = tt
rising-above before (event ∷ events) =
    cond_both (nat_lt before (cycle_of_event event)) (event ∷ rising_behind (Some (cycle_of_event event)) events) []
    (λ es. IsBelowFirst before (cycles_of es))
    (λ is. ltb-true before (cycle_of_event event) is)
    (λ is. tt)

-- two successive numbers of a list, with a number before it
later :
    (n k : ℕ) (xs : List ℕ) → get_or xs k 0 < get_or xs (k + 1) 0
    → get_or (n ∷ xs) (suc k) 0 < get_or (n ∷ xs) (suc k + 1) 0
later n k xs lt =
    let next : suc k + 1 ≡ suc (k + 1) = omega arith in
    subst (λ (j : ℕ). get_or xs k 0 < get_or (n ∷ xs) j 0) (sym next) lt

earlier :
    (n k : ℕ) (xs : List ℕ) → get_or (n ∷ xs) (suc k) 0 < get_or (n ∷ xs) (suc k + 1) 0
    → get_or xs k 0 < get_or xs (k + 1) 0
earlier n k xs lt =
    let next : suc k + 1 ≡ suc (k + 1) = omega arith in
    subst (λ (j : ℕ). get_or xs k 0 < get_or (n ∷ xs) j 0) next lt

-- a list rises behind a number that is below its first
increasing-cons : (n : ℕ) (xs : List ℕ) → IsBelowFirst n xs → IsStrictlyIncreasing xs → IsStrictlyIncreasing (n ∷ xs)
increasing-cons n [] below rises k lt = absurd (omega arith)
increasing-cons n (x ∷ xs) below rises zero lt = below
increasing-cons n (x ∷ xs) below rises (suc k) lt = later n k (x ∷ xs) (rises k (omega arith))

-- the first events that rise have rising cycles
rising-increasing :
    (before : Option ℕ) (events : List Event) → IsStrictlyIncreasing (cycles_of (rising_behind before events))
rising-increasing before [] = λ k lt. absurd (omega arith)
rising-increasing before (event ∷ events) =
    cond_both (comes_behind before event) (event ∷ rising_behind (Some (cycle_of_event event)) events) []
    (λ es. IsStrictlyIncreasing (cycles_of es))
    (λ is. increasing-cons (cycle_of_event event) (cycles_of (rising_behind (Some (cycle_of_event event)) events))
    (rising-above (cycle_of_event event) events) (rising-increasing (Some (cycle_of_event event)) events))
    (λ is. λ k lt. absurd (omega arith))

-- what is behind the first of a rising list rises
increasing-tail : (x : ℕ) (xs : List ℕ) → IsStrictlyIncreasing (x ∷ xs) → IsStrictlyIncreasing xs
increasing-tail x xs rises k lt = earlier x k xs (rises (suc k) (omega arith))

-- the first of a rising list is below the second
increasing-head : (x : ℕ) (xs : List ℕ) → IsStrictlyIncreasing (x ∷ xs) → IsBelowFirst x xs
increasing-head x [] rises = tt
increasing-head x (y ∷ ys) rises = rises 0 (omega arith)

-- an event comes behind a cycle below its own
behind_by :
    (before : ℕ) (events : List Event) → IsBelowFirst before (cycles_of events)
    → IsStrictlyIncreasing (cycles_of events) → rising_behind (Some before) events ≡ events
behind_by before [] below rises = refl
behind_by before (event ∷ events) below rises =
    cond-true (nat_lt before (cycle_of_event event)) _ _ (lt-ltb before (cycle_of_event event) below)
    ∙ ap (λ es. event ∷ es)
    (behind_by (cycle_of_event event) events (increasing-head (cycle_of_event event) (cycles_of events) rises)
    (increasing-tail (cycle_of_event event) (cycles_of events) rises))

-- events with rising cycles are all in front
rising-all : (events : List Event) → IsStrictlyIncreasing (cycles_of events) → rising_behind None events ≡ events
rising-all [] rises = refl
rising-all (event ∷ events) rises =
    ap (λ es. event ∷ es)
    (behind_by (cycle_of_event event) events (increasing-head (cycle_of_event event) (cycles_of events) rises)
    (increasing-tail (cycle_of_event event) (cycles_of events) rises))

-- the events of the lines of events
events_of-lines : (events : List Event) → All FitsEvent events → events_of (event_lines events) ≡ events
unfolding events_of lines_of
events_of-lines events fit =
    ap (λ t. events_in (lines_from [] t)) (sym (append-nil (event_lines events)))
    ∙ events_in-lines events [] fit
    ∙ append-nil events

-- the lines of events are read as the events
pub read-lines : (text : List ℕ) (events : List Event) → AreLines text events → events_read text ≡ Ok events
unfolding events_read
read-lines text events are =
    let front : rising_behind None (events_of text) ≡ events =
    ap (λ t. rising_behind None (events_of t)) are.whole
    ∙ ap (rising_behind None) (events_of-lines events are.fit)
    ∙ rising-all events are.rising in
    ap (whole_or_next text) front
    ∙ cond-true (bytes_eq (event_lines events) text) (Ok events) (Err (length events + 1))
    ((bytes_eq-Decides (event_lines events) text).1 (sym are.whole))

-- what a choice of events that are a whole text gives is these events
whole-is :
    (text : List ℕ) (front events : List Event) → whole_or_next text front ≡ Ok events
    → (front ≡ events) × (event_lines front ≡ text)
whole-is text front events =
    cond_both (bytes_eq (event_lines front) text) (Ok front) (Err (length front + 1))
    (λ r. r ≡ Ok events → (front ≡ events) × (event_lines front ≡ text))
    (λ is e. let same : front ≡ events = cc in (same, (bytes_eq-Decides (event_lines front) text).0 is))
    (λ is e. cc)

-- a text that is read as events is their lines
pub lines-read : (text : List ℕ) (events : List Event) → events_read text ≡ Ok events → AreLines text events
unfolding events_read
lines-read text events is =
    let parts = whole-is text (rising_behind None (events_of text)) events is in
    let Fit : List Event → Type 0 = λ es. All FitsEvent es in
    let Rises : List Event → Type 0 = λ es. IsStrictlyIncreasing (cycles_of es) in
    record {
      whole = sym parts.1 ∙ ap event_lines parts.0;
      fit = subst Fit parts.0 (rising-fit None (events_of text) (events_of-fit text));
      rising = subst Rises parts.0 (rising-increasing None (events_of text));
    }

-- a text is read as events exactly where it is their lines
pub lines_read : LinesRead
lines_read text events = (lines-read text events, read-lines text events)

-- a text whose lines have a first one is this line and what stands behind it
record FirstLine (text first : List ℕ) (others : List (List ℕ)) : Type 0 where
  behind : List ℕ
  whole : text ≡ first ++ 10 ∷ behind
  lines : lines_from [] behind ≡ others

-- a line goes on with what was read of it
first_from :
    (piece text first : List ℕ) (others : List (List ℕ)) → lines_from piece text ≡ first ∷ others
    → FirstLine (piece ++ text) first others
first_from piece [] first others e = cc
first_from piece (x ∷ xs) first others e =
    cond_both (x == 10) (piece ∷ lines_from [] xs) (lines_from (piece ++ x ∷ []) xs)
    (λ ls. ls ≡ first ∷ others → FirstLine (piece ++ x ∷ xs) first others)
    (λ is e.
    let same : piece ≡ first = cc in
    let rest : lines_from [] xs ≡ others = cc in
    record
    { behind = xs; whole = ap (λ b. piece ++ b ∷ xs) (eqb-true x 10 is) ∙ ap (λ t. t ++ 10 ∷ xs) same; lines = rest })
    (λ is e. subst (λ t. FirstLine t first others) (append_assoc piece (x ∷ []) xs)
    (first_from (piece ++ x ∷ []) xs first others e))
    e

-- the lines of a text, with what stands behind the last of them
record Begins (text front : List ℕ) : Type 0 where
  rest : List ℕ
  whole : text ≡ front ++ rest

-- the whole text stands behind nothing
begins-none : (text front : List ℕ) → front ≡ [] → Begins text front
begins-none text front none = record { rest = text; whole = ap (λ t. t ++ text) (sym none) }

-- a text whose first line is an event's begins with it, and with what the text behind it begins with
begins-more :
    (text first behind : List ℕ) (event : Event) (front : List ℕ) → text ≡ first ++ 10 ∷ behind
    → event_of (words_of first) ≡ Some event → Begins behind front → Begins text (line (event_words event) ++ front)
begins-more text first behind event front whole is begins = record {
  rest = begins.rest;
  whole =
      text-line text first behind event whole is
      ∙ ap (λ t. line (event_words event) ++ t) begins.whole
      ∙ sym (append_assoc (line (event_words event)) front begins.rest);
}

-- a text begins with the line of its first event that rises
begins_line :
    (text first : List ℕ) (others : List (List ℕ)) (before : Option ℕ) (o : Option Event)
    → event_of (words_of first) ≡ o → (is : FirstLine text first others)
    → ((cycle : Option ℕ) → Begins is.behind (event_lines (rising_behind cycle (events_in others))))
    → Begins text (event_lines (rising_behind before (more_events o (events_in others))))
begins_line text first others before None none is later = begins-none text _ refl
begins_line text first others before (Some event) some is later =
    cond_both (comes_behind before event) (event ∷ rising_behind (Some (cycle_of_event event)) (events_in others)) []
    (λ es. Begins text (event_lines es))
    (λ rises. begins-more text first is.behind event
    (event_lines (rising_behind (Some (cycle_of_event event)) (events_in others))) is.whole some
    (later (Some (cycle_of_event event))))
    (λ late. begins-none text _ refl)

-- a text begins with the lines of its events that rise
begins_by :
    (lines : List (List ℕ)) (text : List ℕ) (before : Option ℕ) → lines_from [] text ≡ lines
    → Begins text (event_lines (rising_behind before (events_in lines)))
begins_by [] text before e = begins-none text _ refl
begins_by (first ∷ others) text before e =
    let is : FirstLine text first others = first_from [] text first others e in
    begins_line text first others before (event_of (words_of first)) refl is
    (λ cycle. begins_by others is.behind cycle is.lines)

begins : (text : List ℕ) → Begins text (event_lines (rising_behind None (events_of text)))
unfolding events_of lines_of
begins text = begins_by (lines_from [] text) text None refl

-- events that rise are in front, whatever stands behind them
behind_long :
    (before : ℕ) (events others : List Event) → IsBelowFirst before (cycles_of events)
    → IsStrictlyIncreasing (cycles_of events) → length events ≤ length (rising_behind (Some before) (events ++ others))
behind_long before [] others below rises = omega arith
behind_long before (event ∷ events) others below rises =
    let more :
    rising_behind (Some before) (event ∷ (events ++ others))
    ≡ event ∷ rising_behind (Some (cycle_of_event event)) (events ++ others) =
    cond-true (nat_lt before (cycle_of_event event)) _ _ (lt-ltb before (cycle_of_event event) below) in
    let long =
    behind_long (cycle_of_event event) events others (increasing-head (cycle_of_event event) (cycles_of events) rises)
    (increasing-tail (cycle_of_event event) (cycles_of events) rises) in
    omega (arith, ap length more, long)

rising-long :
    (events others : List Event) → IsStrictlyIncreasing (cycles_of events)
    → length events ≤ length (rising_behind None (events ++ others))
rising-long [] others rises = omega arith
rising-long (event ∷ events) others rises =
    let long =
    behind_long (cycle_of_event event) events others (increasing-head (cycle_of_event event) (cycles_of events) rises)
    (increasing-tail (cycle_of_event event) (cycles_of events) rises) in
    omega (arith, long)

-- the events of a text that begins with the lines of events
events_of-begin :
    (events : List Event) (rest : List ℕ) → All FitsEvent events
    → events_of (event_lines events ++ rest) ≡ events ++ events_of rest
unfolding events_of lines_of
events_of-begin events rest fit = events_in-lines events rest fit

-- no event more goes on behind those in front
none-more :
    (text : List ℕ) (rest : List ℕ) (event : Event) (behind : List ℕ)
    → text ≡ event_lines (rising_behind None (events_of text)) ++ rest → FitsEvent event
    → IsStrictlyIncreasing (cycles_of (rising_behind None (events_of text) ++ event ∷ []))
    → rest ≡ line (event_words event) ++ behind → ⊥
none-more text rest event behind whole fits rises is =
    let front : List Event = rising_behind None (events_of text) in
    let fit : All FitsEvent (front ++ event ∷ []) =
    All-push FitsEvent front event (rising-fit None (events_of text) (events_of-fit text)) fits in
    let begun : text ≡ event_lines (front ++ event ∷ []) ++ behind =
    whole
    ∙ ap (λ t. event_lines front ++ t) is
    ∙ sym (append_assoc (event_lines front) (line (event_words event)) behind)
    ∙ ap (λ t. t ++ behind) (sym (event_lines-push front event)) in
    let all : events_of text ≡ (front ++ event ∷ []) ++ events_of behind =
    ap events_of begun ∙ events_of-begin (front ++ event ∷ []) behind fit in
    let long = rising-long (front ++ event ∷ []) (events_of behind) rises in
    let one : length (front ++ event ∷ []) ≡ length front + 1 = length-append front (event ∷ []) in
    let same : length front ≡ length (rising_behind None ((front ++ event ∷ []) ++ events_of behind)) =
    ap (λ es. length (rising_behind None es)) all in
    omega arith

-- what a choice of events that aren't a whole text gives is the line behind theirs
next-is :
    (text : List ℕ) (front : List Event) (number : ℕ) → whole_or_next text front ≡ Err number
    → (number ≡ length front + 1) × (event_lines front ≡ text → ⊥)
next-is text front number =
    cond_both (bytes_eq (event_lines front) text) (Ok front) (Err (length front + 1))
    (λ r. r ≡ Err number → (number ≡ length front + 1) × (event_lines front ≡ text → ⊥))
    (λ is e. cc)
    (λ is e. let same : number ≡ length front + 1 = cc in
    (same, λ whole. false≢true (sym is ∙ (bytes_eq-Decides (event_lines front) text).1 whole)))

-- what isn't empty has an element
some-by : (xs : List ℕ) → (xs ≡ [] → ⊥) → 0 < length xs
some-by [] some = absurd (some refl)
some-by (x ∷ xs) some = omega arith

-- a text that isn't read is refused at its first line that doesn't go on
pub lines_refused : LinesRefused
unfolding events_read
lines_refused text number is =
    let next = next-is text (rising_behind None (events_of text)) number is in
    let begun = begins text in
    record {
      events = rising_behind None (events_of text);
      rest = begun.rest;
      whole = begun.whole;
      numbered = next.0;
      rising = rising-increasing None (events_of text);
      some = some-by begun.rest
          (λ none. next.1 (sym (begun.whole ∙ ap (λ t. event_lines (rising_behind None (events_of text)) ++ t) none
          ∙ append-nil (event_lines (rising_behind None (events_of text))))));
      other = λ event behind fits rises same. none-more text begun.rest event behind begun.whole fits rises same;
    }
