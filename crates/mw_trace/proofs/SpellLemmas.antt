-- The text of a run spells its events and its end.
use Rattle.std.proofs.Common.{◌≡◌, ℕ, ◌^◌, ◌<◌, true, ◌&&◌, nat_lt, List, [], ◌∷◌, ◌++◌, Option, Some, None, option_and_then, cond, sym, ap, ◌∙◌, subst, refl, append_assoc, All, lit<, is_some, codes, decimal}
use Rattle.std.specs.List.{join_with_byte}
use Rattle.std.proofs.lemmas.Bool.{cond-true, lt-ltb}
use Rattle.std.proofs.lemmas.List.{append-nil}
use Rattle.std.proofs.lemmas.List.Elements.{All-head, All-tail}
use Rattle.std.proofs.lemmas.Slice.Eq.{bytes_eq-Decides}
use Rattle.mw_digits.specs.Digits.{hex}
use Rattle.mw_digits.proofs.DigitLaws.{value-decimal, value-hex}
use Rattle.mw_isa.specs.declared.access.Span.{Span}
use Rattle.mw_isa.specs.declared.event.Event.{Event}
use Rattle.mw_isa.specs.declared.event.Event.TheVariants.{Retire, Trap, Irq}
use Rattle.mw_isa.specs.declared.event.End.{End}
use Rattle.mw_isa.specs.declared.event.End.TheVariants.{Ran, Offence}
use Rattle.mw_isa.specs.declared.access.Kind.{Kind}
use Rattle.mw_isa.specs.declared.access.Kind.TheVariants.{Fetch, Load, Store}
use Rattle.mw_isa.specs.declared.offence.BlockStatus.{BlockStatus}
use Rattle.mw_isa.specs.declared.offence.BlockStatus.TheVariants.{Changed, Invalidated}
use Rattle.mw_isa.specs.declared.offence.Fresh.{Fresh}
use Rattle.mw_isa.specs.declared.offence.Fresh.TheVariants.{Page, Fault}
use Rattle.mw_isa.specs.declared.offence.Why.{Why}
use Rattle.mw_isa.specs.declared.offence.Why.TheVariants.{Page as KeptPage, Block}
use Rattle.mw_isa.specs.declared.vector.Vector.{Vector}
use Rattle.mw_isa.specs.declared.vector.Vector.TheVariants.{DataStorage, DataSegment, InstStorage, InstSegment, External, Alignment, Program, FpUnavailable, Decrementer, SystemCall, VectorUnavailable, VsxUnavailable}
use Rattle.mw_isa.specs.Vectors.{address_of}
use Rattle.mw_isa.specs.Replay.{cycle_of_event}
use Rattle.mw_isa.specs.State.{State}
use Rattle.mw_isa.specs.Stops.{stop_of}
use Rattle.mw_isa.specs.Text.{line, event_words, kind_word, status_word, fresh_words, why_words, end_words, event_lines, end_line, state_lines, text_of}
use Rattle.mw_isa.proofs.PromptLaws.{vector_at-address_of}
use Rattle.mw_isa.specs.Reading.{same_words, guess_event, event_of, words_of, kind_by, status_by, guess_end, end_by, events_in, end_in, more_events, lines_from, lines_of, events_of, end_of, FitsEvent, FitsWhy, FitsEnd, Spells}
use Rattle.mw_trace.specs.Determined.{TextsSpell, TextsDetermine}
use Rattle.mw_trace.proofs.PieceLemmas.{AreAbove, AreWords, words_of-join, lines_from-line}
use Rattle.mw_trace.proofs.NumeralLemmas.{above-word, above-hex, above-decimal}

-- words are the same as themselves
same_words-refl : (words : List (List ℕ)) → same_words words words ≡ true
same_words-refl [] = refl
same_words-refl (word ∷ words) = ap (λ b. b && same_words words words) ((bytes_eq-Decides word word).1 refl) ∙ same_words-refl words

-- a vector's address has four digits
address_of-lt : (vector : Vector) → address_of vector < 16 ^ 4
address_of-lt DataStorage = lit< tt
address_of-lt DataSegment = lit< tt
address_of-lt InstStorage = lit< tt
address_of-lt InstSegment = lit< tt
address_of-lt External = lit< tt
address_of-lt Alignment = lit< tt
address_of-lt Program = lit< tt
address_of-lt FpUnavailable = lit< tt
address_of-lt Decrementer = lit< tt
address_of-lt SystemCall = lit< tt
address_of-lt VectorUnavailable = lit< tt
address_of-lt VsxUnavailable = lit< tt

-- the words of an event
pub words_of_event : (event : Event) → FitsEvent event → AreWords (event_words event)
words_of_event (Retire cycle cia word None) fits =
    (above-word (codes "R") refl, (above-decimal cycle fits.0, (above-hex 16 cia, (above-hex 8 word, tt))))
words_of_event (Retire cycle cia word (Some suffix)) fits = (
  above-word (codes "R") refl,
  (above-decimal cycle fits.0, (above-hex 16 cia, (above-hex 8 word, (above-hex 8 suffix, tt)))),
)
words_of_event (Trap cycle cia vector) fits = (
  above-word (codes "T") refl,
  (above-decimal cycle fits.0, (above-hex 16 cia, (above-hex 4 (address_of vector), tt))),
)
words_of_event (Irq cycle nia vector) fits = (
  above-word (codes "I") refl,
  (above-decimal cycle fits.0, (above-hex 16 nia, (above-hex 4 (address_of vector), tt))),
)

-- the event that an event's words could be
guess_event-words : (event : Event) → FitsEvent event → guess_event (event_words event) ≡ Some event
guess_event-words (Retire cycle cia word None) fits = rw (value-decimal cycle fits.0, value-hex 16 cia fits.1, value-hex 8 word fits.2)
guess_event-words (Retire cycle cia word (Some suffix)) fits = rw (value-decimal cycle fits.0, value-hex 16 cia fits.1, value-hex 8 word fits.2, value-hex 8 suffix fits.3)
guess_event-words (Trap cycle cia vector) fits = rw (value-decimal cycle fits.0, value-hex 16 cia fits.1, value-hex 4 (address_of vector) (address_of-lt vector), vector_at-address_of vector)
guess_event-words (Irq cycle nia vector) fits = rw (value-decimal cycle fits.0, value-hex 16 nia fits.1, value-hex 4 (address_of vector) (address_of-lt vector), vector_at-address_of vector)

-- the cycle of an event fits
cycle_fits : (event : Event) → FitsEvent event → cycle_of_event event < 2 ^ 64
cycle_fits (Retire cycle cia word suffix) fits = fits.0
cycle_fits (Trap cycle cia vector) fits = fits.0
cycle_fits (Irq cycle nia vector) fits = fits.0

-- the event of an event's words
event_of-words : (event : Event) → FitsEvent event → event_of (event_words event) ≡ Some event
unfolding event_of
event_of-words event fits =
    let words = event_words event in
    let same : (same_words words words && nat_lt (cycle_of_event event) (2 ^ 64)) ≡ true =
    ap (λ b. b && nat_lt (cycle_of_event event) (2 ^ 64)) (same_words-refl words) ∙ lt-ltb (cycle_of_event event) (2 ^ 64) (cycle_fits event fits) in
    ap (option_and_then (λ e. cond (same_words (event_words e) words && nat_lt (cycle_of_event e) (2 ^ 64)) (Some e) None)) (guess_event-words event fits)
    ∙ cond-true (same_words words words && nat_lt (cycle_of_event event) (2 ^ 64)) (Some event) None same

-- the words of an event's line
words_of-event : (event : Event) → FitsEvent event → words_of (join_with_byte 32 (event_words event)) ≡ event_words event
words_of-event (Retire cycle cia word None) fits = words_of-join _ _ (words_of_event (Retire cycle cia word None) fits)
words_of-event (Retire cycle cia word (Some suffix)) fits = words_of-join _ _ (words_of_event (Retire cycle cia word (Some suffix)) fits)
words_of-event (Trap cycle cia vector) fits = words_of-join _ _ (words_of_event (Trap cycle cia vector) fits)
words_of-event (Irq cycle nia vector) fits = words_of-join _ _ (words_of_event (Irq cycle nia vector) fits)

-- the event of an event's line
event_of-line : (event : Event) → FitsEvent event → event_of (words_of (join_with_byte 32 (event_words event))) ≡ Some event
event_of-line event fits = ap event_of (words_of-event event fits) ∙ event_of-words event fits

-- the lines of an event's line and more lines
lines_from-event : (event : Event) (others rest : List ℕ) → FitsEvent event → lines_from [] ((line (event_words event) ++ others) ++ rest) ≡ join_with_byte 32 (event_words event) ∷ lines_from [] (others ++ rest)
lines_from-event event others rest fits =
    ap (lines_from []) (append_assoc (line (event_words event)) others rest)
    ∙ lines_from-line (event_words event) (others ++ rest) (words_of_event event fits)

-- the events of lines that begin with those of events
pub events_in-lines :
    (events : List Event) (rest : List ℕ) → All FitsEvent events
    → events_in (lines_from [] (event_lines events ++ rest)) ≡ events ++ events_in (lines_from [] rest)
events_in-lines [] rest fit = refl
events_in-lines (event ∷ events) rest fit =
    let fits = All-head FitsEvent event events fit in
    let others = event_lines events in
    ap events_in (lines_from-event event others rest fits)
    ∙ ap (λ o. more_events o (events_in (lines_from [] (others ++ rest)))) (event_of-line event fits)
    ∙ ap (λ xs. event ∷ xs) (events_in-lines events rest (All-tail FitsEvent event events fit))

-- the end of lines that begin with those of events
end_in-lines :
    (events : List Event) (rest : List ℕ) → All FitsEvent events
    → end_in (lines_from [] (event_lines events ++ rest)) ≡ end_in (lines_from [] rest)
end_in-lines [] rest fit = refl
end_in-lines (event ∷ events) rest fit =
    let fits = All-head FitsEvent event events fit in
    let others = event_lines events in
    let first = words_of (join_with_byte 32 (event_words event)) in
    ap end_in (lines_from-event event others rest fits)
    ∙ ap (λ o. cond (is_some o) (end_in (lines_from [] (others ++ rest))) (end_by first)) (event_of-line event fits)
    ∙ end_in-lines events rest (All-tail FitsEvent event events fit)

-- the word of what an access is for
kind_word-above : (kind : Kind) → AreAbove 32 (kind_word kind)
kind_word-above Fetch = above-word (codes "fetch") refl
kind_word-above Load = above-word (codes "load") refl
kind_word-above Store = above-word (codes "store") refl

-- the word of what was done to a block
status_word-above : (status : BlockStatus) → AreAbove 32 (status_word status)
status_word-above Changed = above-word (codes "changed") refl
status_word-above Invalidated = above-word (codes "invalidated") refl

-- the words of what a page comes to
words_of_fresh : (fresh : Fresh) → AreWords (fresh_words fresh)
words_of_fresh (Page real) = (above-hex 16 real, tt)
words_of_fresh (Fault vector) = (above-word (codes "fault") refl, (above-hex 4 (address_of vector), tt))

-- the words of why an access breaks the discipline
words_of_why : (why : Why) → AreWords (why_words why)
words_of_why (KeptPage kept fresh) = (above-word (codes "page") refl, (above-hex 16 kept, words_of_fresh fresh))
words_of_why (Block block status) =
    (above-word (codes "block") refl, (above-hex 16 block, (status_word-above status, tt)))

-- the words of an end
pub words_of_end : (end : End) → FitsEnd end → AreWords (end_words end)
words_of_end (Ran cycle) fits =
    (above-word (codes "end") refl, (above-word (codes "ran") refl, (above-decimal cycle fits, tt)))
words_of_end (Offence cycle access) fits = (
  above-word (codes "end") refl,
  (
    above-word (codes "offence") refl,
    (above-decimal cycle fits.0, (kind_word-above access.kind, (above-hex 16 access.ea, words_of_why access.why))),
  ),
)

-- the words of an end's line
words_of-end : (end : End) → FitsEnd end → words_of (join_with_byte 32 (end_words end)) ≡ end_words end
words_of-end (Ran cycle) fits = words_of-join _ _ (words_of_end (Ran cycle) fits)
words_of-end (Offence cycle access) fits = words_of-join _ _ (words_of_end (Offence cycle access) fits)

-- more than five words are no event's
event_of-offence :
    (end offence cycle kind ea : List ℕ) (why : Why)
    → event_of (end ∷ offence ∷ cycle ∷ kind ∷ ea ∷ why_words why) ≡ None
unfolding event_of
event_of-offence end offence cycle kind ea (KeptPage kept (Page real)) = refl
event_of-offence end offence cycle kind ea (KeptPage kept (Fault vector)) = refl
event_of-offence end offence cycle kind ea (Block block status) = refl

-- an end's words are no event's
event_of-end_words : (end : End) → event_of (end_words end) ≡ None
unfolding event_of
event_of-end_words (Ran cycle) = refl
event_of-end_words (Offence cycle access) =
    event_of-offence (codes "end") (codes "offence") (decimal cycle) (kind_word access.kind) (hex 16 access.ea)
    access.why

-- an end's line is no event's
event_of-end : (end : End) → FitsEnd end → event_of (words_of (join_with_byte 32 (end_words end))) ≡ None
event_of-end end fits = ap event_of (words_of-end end fits) ∙ event_of-end_words end

-- the kind of access that a kind's word tells
kind_by-word : (kind : Kind) → kind_by (kind_word kind) ≡ kind
kind_by-word Fetch = refl
kind_by-word Load = refl
kind_by-word Store = refl

-- the status that a status's word tells
status_by-word : (status : BlockStatus) → status_by (status_word status) ≡ status
status_by-word Changed = refl
status_by-word Invalidated = refl

-- the end that the words of an offence could be
guess_end-offence :
    (cycle : ℕ) (kind : Kind) (ea : ℕ) (why : Why) → cycle < 2 ^ 64 → ea < 2 ^ 64 → FitsWhy why
    → guess_end (codes "end" ∷ codes "offence" ∷ decimal cycle ∷ kind_word kind ∷ hex 16 ea ∷ why_words why) ≡ Some
    (Offence cycle (record { kind = kind; ea = ea; why = why }))
guess_end-offence cycle kind ea (KeptPage kept (Page real)) small low fits =
    rw (
      value-decimal cycle small,
      kind_by-word kind,
      value-hex 16 ea low,
      value-hex 16 kept fits.0,
      value-hex 16 real
          fits.1,
    )
guess_end-offence cycle kind ea (KeptPage kept (Fault vector)) small low fits =
    rw (
      value-decimal cycle small,
      kind_by-word kind,
      value-hex 16 ea low,
      value-hex 16 kept fits,
      value-hex 4
          (address_of vector) (address_of-lt vector),
      vector_at-address_of vector,
    )
guess_end-offence cycle kind ea (Block block status) small low fits =
    rw (
      value-decimal cycle small,
      kind_by-word kind,
      value-hex 16 ea low,
      value-hex 16 block fits,
      status_by-word
          status,
    )

-- the end that an end's words could be
guess_end-words : (end : End) → FitsEnd end → guess_end (end_words end) ≡ Some end
guess_end-words (Ran cycle) fits = rw (value-decimal cycle fits)
guess_end-words (Offence cycle access) fits =
    guess_end-offence cycle access.kind access.ea access.why fits.0 fits.1 fits.2

-- the cycle of an end fits
stop_fits : (end : End) → FitsEnd end → stop_of end < 2 ^ 64
stop_fits (Ran cycle) fits = fits
stop_fits (Offence cycle access) fits = fits.0

-- the end of an end's words
end_by-words : (end : End) → FitsEnd end → end_by (end_words end) ≡ Some end
unfolding end_by
end_by-words end fits =
    let words = end_words end in
    let same : (same_words words words && nat_lt (stop_of end) (2 ^ 64)) ≡ true =
    ap (λ b. b && nat_lt (stop_of end) (2 ^ 64)) (same_words-refl words)
    ∙ lt-ltb (stop_of end) (2 ^ 64) (stop_fits end fits) in
    ap (option_and_then (λ e. cond (same_words (end_words e) words && nat_lt (stop_of e) (2 ^ 64)) (Some e) None))
    (guess_end-words end fits)
    ∙ cond-true (same_words words words && nat_lt (stop_of end) (2 ^ 64)) (Some end) None same

-- the lines of the events, of the end, and of the state with the dump
text_lines :
    (events : List Event) (end : End) (state : State) (dump : Option Span)
    → text_of events end state dump ≡ event_lines events ++ (end_line end ++ state_lines state dump)
unfolding text_of
text_lines events end state dump = append_assoc (event_lines events) (end_line end) (state_lines state dump)

-- the events of a text
events_of-text_of : (events : List Event) (end : End) (last : State) (dump : Option Span) → All FitsEvent events → FitsEnd end → events_of (text_of events end last dump) ≡ events
unfolding events_of lines_of
events_of-text_of events end last dump fit fits =
    let behind = state_lines last dump in
    ap (λ t. events_in (lines_from [] t)) (text_lines events end last dump)
    ∙ events_in-lines events (end_line end ++ behind) fit
    ∙ ap (λ ls. events ++ events_in ls) (lines_from-line (end_words end) behind (words_of_end end fits))
    ∙ ap (λ o. events ++ more_events o (events_in (lines_from [] behind))) (event_of-end end fits)
    ∙ append-nil events

-- the end of a text
end_of-text_of : (events : List Event) (end : End) (last : State) (dump : Option Span) → All FitsEvent events → FitsEnd end → end_of (text_of events end last dump) ≡ Some end
unfolding end_of lines_of
end_of-text_of events end last dump fit fits =
    let behind = state_lines last dump in
    let first = words_of (join_with_byte 32 (end_words end)) in
    ap (λ t. end_in (lines_from [] t)) (text_lines events end last dump)
    ∙ end_in-lines events (end_line end ++ behind) fit
    ∙ ap end_in (lines_from-line (end_words end) behind (words_of_end end fits))
    ∙ ap (λ o. cond (is_some o) (end_in (lines_from [] behind)) (end_by first)) (event_of-end end fits)
    ∙ ap end_by (words_of-end end fits)
    ∙ end_by-words end fits

-- the text of a run spells its events and its end
pub texts_spell : TextsSpell
texts_spell events end last dump fit fits = record {
  events_are = events_of-text_of events end last dump fit fits;
  end_is = end_of-text_of events end last dump fit fits;
}

-- a text spells only these events and this end
spells_once : (text : List ℕ) (events others : List Event) (end stop : End) → Spells text events end → Spells text others stop → (events ≡ others) × (end ≡ stop)
spells_once text events others end stop first second =
    let ends : Some end ≡ Some stop = sym first.end_is ∙ second.end_is in
    (sym first.events_are ∙ second.events_are, cc)

-- two runs of the same text have the same events and the same end
pub texts_determine : TextsDetermine
texts_determine events others end stop last final dump other fit fits fit_others fits_stop same =
    let P : List ℕ → Type 0 = λ text. Spells text others stop in
    let second = subst P (sym same) (texts_spell others stop final other fit_others fits_stop) in
    spells_once (text_of events end last dump) events others end stop (texts_spell events end last dump fit fits) second

-- what is the text of a run spells its events and its end
pub spells_from_text : (text : List ℕ) (events : List Event) (end : End) (last : State) (dump : Option Span) → text ≡ text_of events end last dump → All FitsEvent events → FitsEnd end → Spells text events end
spells_from_text text events end last dump is fit fits =
    let P : List ℕ → Type 0 = λ t. Spells t events end in
    subst P (sym is) (texts_spell events end last dump fit fits)
