-- A text is read as events line by line.
use Rattle.std.proofs.Common.{◌≡◌, ℕ, ◌+◌, ◌^◌, ◌<◌, ◌&&◌, nat_lt, true, false, cond, List, [], ◌∷◌, ◌++◌, length, Option, Some, None, Ok, Err, bytes_eq, refl, sym, ap, ap₂, ◌∙◌, subst, append_assoc, length-append, arith}
use Rattle.std.specs.List.{join_with_byte}
use Rattle.std.specs.Option.{option_map_or}
use Rattle.std.proofs.lemmas.Bool.{and_parts, cond-true, cond-false}
use Rattle.std.proofs.lemmas.List.{append-nil}
use Rattle.std.proofs.lemmas.Option.{cond_some, option_and_then_some}
use Rattle.std.proofs.lemmas.Slice.Eq.{bytes_eq-Decides}
use Rattle.mw_isa.specs.declared.event.Event.{Event}
use Rattle.mw_isa.specs.Replay.{cycle_of_event}
use Rattle.mw_isa.specs.Text.{line, event_words, event_lines}
use Rattle.mw_isa.specs.Reading.{same_words, guess_event, event_of, words_of, lines_of, more_events, events_in, events_of}
use Rattle.mw_trace.specs.ReadLines.{comes_behind, rising_behind, whole_or_next, events_read}
use Rattle.mw_trace.proofs.PieceLemmas.{join-words_of}
use Rattle.mw_trace.proofs.EventLemmas.{false_by}

-- words that are tested as the same are the same
same_words-is : (words others : List (List ℕ)) → same_words words others ≡ true → words ≡ others
same_words-is [] [] same = refl
same_words-is [] (y ∷ ys) same = cc
same_words-is (x ∷ xs) [] same = cc
same_words-is (x ∷ xs) (y ∷ ys) same =
    let parts = and_parts (bytes_eq x y) (same_words xs ys) same in
    ap₂ (λ (w : List ℕ) (ws : List (List ℕ)). w ∷ ws) ((bytes_eq-Decides x y).0 parts.0) (same_words-is xs ys parts.1)

-- the words that make an event are the event's
pub words-event_of : (words : List (List ℕ)) (event : Event) → event_of words ≡ Some event → event_words event ≡ words
unfolding event_of
words-event_of words event is =
    option_and_then_some
    (λ guess. cond (same_words (event_words guess) words && nat_lt (cycle_of_event guess) (2 ^ 64)) (Some guess) None)
    (guess_event words) event is (λ guess guessed tested.
    let parts =
    cond_some (same_words (event_words guess) words && nat_lt (cycle_of_event guess) (2 ^ 64)) guess event tested in
    let same = (and_parts (same_words (event_words guess) words) (nat_lt (cycle_of_event guess) (2 ^ 64)) parts.0).0 in
    subst (λ e. event_words e ≡ words) parts.1 (same_words-is (event_words guess) words same))

-- the line of the event that a line's words make
pub line-event_of :
    (front : List ℕ) (event : Event) → event_of (words_of front) ≡ Some event
    → line (event_words event) ≡ front ++ 10 ∷ []
unfolding line
line-event_of front event is =
    ap (λ ws. join_with_byte 32 ws ++ 10 ∷ []) (words-event_of (words_of front) event is)
    ∙ ap (λ t. t ++ 10 ∷ []) (join-words_of front)

-- the events of a text whose first line is an event's
events_of-line :
    (text front behind : List ℕ) (event : Event) → lines_of text ≡ front ∷ lines_of behind
    → event_of (words_of front) ≡ Some event → events_of text ≡ event ∷ events_of behind
unfolding events_of
events_of-line text front behind event lines is =
    ap events_in lines
    ∙ ap (λ o. more_events o (events_in (lines_of behind))) is

-- a text whose first line is no event's has no events
events_of-other :
    (text front behind : List ℕ) → lines_of text ≡ front ∷ lines_of behind → event_of (words_of front) ≡ None
    → events_of text ≡ []
unfolding events_of
events_of-other text front behind lines is =
    ap events_in lines
    ∙ ap (λ o. more_events o (events_in (lines_of behind))) is

-- a text without a line has no events
events_of-none : (text : List ℕ) → lines_of text ≡ [] → events_of text ≡ []
unfolding events_of
events_of-none text lines = ap events_in lines

-- nothing is in front where nothing is told
pub nothing :
    {A B : Type 0} (xs : List B) (f : A → List B) (o : Option A) → xs ≡ [] → o ≡ None → xs ≡ option_map_or f o []
nothing xs f o none is = none ∙ ap (λ r. option_map_or f r []) (sym is)

-- no event is in front of a text without a line
pub rising-none : (before : Option ℕ) (text : List ℕ) → lines_of text ≡ [] → rising_behind before (events_of text) ≡ []
rising-none before text lines = ap (rising_behind before) (events_of-none text lines)

-- no event is in front of a text whose first line is no event's
pub rising-other :
    (before : Option ℕ) (text front behind : List ℕ) → lines_of text ≡ front ∷ lines_of behind
    → event_of (words_of front) ≡ None → rising_behind before (events_of text) ≡ []
rising-other before text front behind lines is = ap (rising_behind before) (events_of-other text front behind lines is)

-- no event is in front of a text whose first line's cycle doesn't rise
pub rising-late :
    (before : Option ℕ) (text front behind : List ℕ) (event : Event) → lines_of text ≡ front ∷ lines_of behind
    → event_of (words_of front) ≡ Some event → comes_behind before event ≡ false
    → rising_behind before (events_of text) ≡ []
rising-late before text front behind event lines is late =
    ap (rising_behind before) (events_of-line text front behind event lines is)
    ∙ cond-false (comes_behind before event) _ _ late

-- the event of the first line is in front of those behind it
pub rising-line :
    (before : Option ℕ) (text front behind : List ℕ) (event : Event) → lines_of text ≡ front ∷ lines_of behind
    → event_of (words_of front) ≡ Some event → comes_behind before event ≡ true
    → rising_behind before (events_of text) ≡ event ∷ rising_behind (Some (cycle_of_event event)) (events_of behind)
rising-line before text front behind event lines is rises =
    ap (rising_behind before) (events_of-line text front behind event lines is)
    ∙ cond-true (comes_behind before event) _ _ rises

-- a text is its first line, where that is an event's, and what stands behind it
pub text-line :
    (text front behind : List ℕ) (event : Event) → text ≡ front ++ 10 ∷ behind → event_of (words_of front) ≡ Some event
    → text ≡ line (event_words event) ++ behind
text-line text front behind event whole is =
    whole
    ∙ sym (append_assoc front (10 ∷ []) behind)
    ∙ ap (λ t. t ++ behind) (sym (line-event_of front event is))

-- the lines of one event more
pub event_lines-push :
    (events : List Event) (event : Event)
    → event_lines (events ++ event ∷ []) ≡ event_lines events ++ line (event_words event)
event_lines-push [] event = append-nil (line (event_words event))
event_lines-push (first ∷ events) event =
    ap (λ t. line (event_words first) ++ t) (event_lines-push events event)
    ∙ sym (append_assoc (line (event_words first)) (event_lines events) (line (event_words event)))

-- a line has a byte
line-some : (words : List (List ℕ)) → 0 < length (line words)
unfolding line
line-some words = let long = length-append (join_with_byte 32 words) (10 ∷ []) in omega arith

-- these events are read of a text, and this is left of it, behind this cycle
pub record ReadSo (text : List ℕ) (events : List Event) (before : Option ℕ) (rest : List ℕ) : Type 0 where
  pub front : rising_behind None (events_of text) ≡ events ++ rising_behind before (events_of rest)
  pub whole : text ≡ event_lines events ++ rest

-- one event more is read
pub read-more :
    (text : List ℕ) (events : List Event) (before : Option ℕ) (rest behind : List ℕ) (event : Event)
    (longer : List Event) (cycle : ℕ)
    → ReadSo text events before rest
    → rising_behind before (events_of rest) ≡ event ∷ rising_behind (Some (cycle_of_event event)) (events_of behind)
    → rest ≡ line (event_words event) ++ behind → longer ≡ events ++ event ∷ [] → cycle ≡ cycle_of_event event
    → ReadSo text longer (Some cycle) behind × (length behind < length rest)
read-more text events before rest behind event longer cycle so front whole more is =
    let before_more :
    events ++ (event ∷ rising_behind (Some (cycle_of_event event)) (events_of behind))
    ≡ (events ++ event ∷ []) ++ rising_behind (Some (cycle_of_event event)) (events_of behind) =
    sym (append_assoc events (event ∷ []) (rising_behind (Some (cycle_of_event event)) (events_of behind))) in
    let lines_more :
    event_lines events ++ (line (event_words event) ++ behind)
    ≡ event_lines (events ++ event ∷ []) ++ behind =
    sym (append_assoc (event_lines events) (line (event_words event)) behind)
    ∙ ap (λ t. t ++ behind) (sym (event_lines-push events event)) in
    let some = line-some (event_words event) in
    let long : length rest ≡ length (line (event_words event)) + length behind =
    ap length whole ∙ length-append (line (event_words event)) behind in (
      record {
        front = so.front
            ∙ ap (λ es. events ++ es) front
            ∙ before_more
            ∙ ap₂ (λ (es : List Event) (c : ℕ). es ++ rising_behind (Some c) (events_of behind)) (sym more) (sym is);
        whole = so.whole
            ∙ ap (λ t. event_lines events ++ t) whole
            ∙ lines_more
            ∙ ap (λ es. event_lines es ++ behind) (sym more);
      },
      omega arith,
    )

-- before the first line nothing is read
pub read-none : (text : List ℕ) (events : List Event) → events ≡ [] → ReadSo text events None text
read-none text events none =
    subst (λ (es : List Event). ReadSo text es None text) (sym none) (record { front = refl; whole = refl })

-- a list without an element
empty : (text : List ℕ) → length text ≡ 0 → text ≡ []
empty [] none = refl
empty (x ∷ xs) none = absurd (omega arith)

-- all is read where nothing is left
pub read-whole :
    (text : List ℕ) (events : List Event) (before : Option ℕ) (rest : List ℕ) → ReadSo text events before rest
    → rising_behind before (events_of rest) ≡ [] → length rest ≡ 0 → events_read text ≡ Ok events
unfolding events_read
read-whole text events before rest so none nothing_left =
    let all : rising_behind None (events_of text) ≡ events =
    so.front ∙ ap (λ es. events ++ es) none ∙ append-nil events in
    let whole : event_lines events ≡ text =
    sym (so.whole ∙ ap (λ t. event_lines events ++ t) (empty rest nothing_left) ∙ append-nil (event_lines events)) in
    ap (whole_or_next text) all
    ∙ cond-true (bytes_eq (event_lines events) text) (Ok events) (Err (length events + 1))
    ((bytes_eq-Decides (event_lines events) text).1 whole)

-- the next line is refused where something is left
pub read-refused :
    (text : List ℕ) (events : List Event) (before : Option ℕ) (rest : List ℕ) → ReadSo text events before rest
    → rising_behind before (events_of rest) ≡ [] → 0 < length rest → events_read text ≡ Err (length events + 1)
unfolding events_read
read-refused text events before rest so none some =
    let all : rising_behind None (events_of text) ≡ events =
    so.front ∙ ap (λ es. events ++ es) none ∙ append-nil events in
    let long : length text ≡ length (event_lines events) + length rest =
    ap length so.whole ∙ length-append (event_lines events) rest in
    ap (whole_or_next text) all
    ∙ cond-false (bytes_eq (event_lines events) text) (Ok events) (Err (length events + 1))
    (false_by (bytes_eq (event_lines events) text) (λ same.
    let whole : length (event_lines events) ≡ length text =
    ap length ((bytes_eq-Decides (event_lines events) text).0 same) in
    absurd (omega arith)))
