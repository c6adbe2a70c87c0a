-- What the answers say of each status by itself, for any order and for a run, a source and a disassembly.
use Rattle.std.proofs.Common.{◌≡◌, ℕ, ◌<◌, ◌≤◌, ◌⊎◌, inl, inr, List, [], ◌∷◌, length, Option, Some, None, Result, Ok, Err, IfSome, IsSome, IsSomeAnd, IsTrue, ◌++◌, option_map, slice_get, unwrap_or, refl, sym, ap, ◌∙◌, subst, arith}
use Rattle.std.specs.Option.{option_map_or}
use Rattle.std.proofs.lemmas.Bool.{cases_lt}
use Rattle.std.proofs.lemmas.List.{append_cancel_left}
use Rattle.mw_isa.specs.declared.event.End.{End}
use Rattle.mw_isa.specs.declared.event.End.TheVariants.{Ran}
use Rattle.mw_isa.specs.Stops.{StopsBy}
use Rattle.mw_isa.specs.Reading.{end_of}
use Rattle.mw_isa.proofs.RunLaws.{run-spelled}
use Rattle.mw_io.specs.Outside.{HostState, Counts, Rose, content_of, with_more}
use Rattle.mw_bus.specs.Memory.{ram_size}
use Rattle.mw_uart.specs.Script.{Place as ScriptPlace, script_of}
use Rattle.mw_uart.proofs.Laws.{script_of-empty}
use Rattle.mw_asm.specs.declared.fault.Place.{Place}
use Rattle.mw_asm.specs.Assembled.{assembled}
use Rattle.mw_asm.specs.Disassembly.{disassembly}
use Rattle.mw_cli.specs.declared.status.Status.{Status}
use Rattle.mw_cli.specs.declared.status.Status.TheVariants.{Done, Offence, Usage, ReadFault, WriteFault, ImageTooLarge, BadInput, NoMemory}
use Rattle.mw_words.specs.Grammar.{RunOrder, SeedOrder, Order, Run, Assemble, Disassemble, Generate, order_of}
use Rattle.mw_cli.specs.Files.{Wanted, files_of, script_files}
use Rattle.mw_cli.specs.Headline.{AskedRun, Prints, SpellsRun, SumsUp}
use Rattle.mw_cli.specs.Verdict.{Output, TextOf, SummaryOf, Bytes, IsOutput, Verdict, Writes, Refuses, first_of, second_of, text_by, run_by, verdict_by, with_script, unless_too_large, unless_bad, too_large_line, bad_line}
use Rattle.mw_cli.specs.Numbers.{ended}
use Rattle.mw_cli.specs.Outside.{Change, contents_of, TookNothing, Took, TookFront}
use Rattle.mw_cli.specs.Answers.{Call, ComesTo, Written, CutShort, OnOrder, Refused, Asks, IsUnanswered, Answers, GoesThrough, verdict_with}
use Rattle.mw_cli.specs.Stages.{IsContent, IsTooLong, IsStart, IsBadScript}
use Rattle.mw_cli.proofs.FileLemmas.{Files}
use Rattle.mw_cli.proofs.EndLemmas.{OffendsBelow, ran-to, offended}
use Rattle.mw_cli.proofs.VerdictLemmas.{IsText, fits, too_long, starts, refused, script-from, run-written}
use Rattle.mw_cli.proofs.AnswerLemmas.{at_some}

-- ---- Usage

-- with Usage the words are no order
pub usage : (call : Call) → Answers call Usage → order_of call.words ≡ None
usage call a = a.says.0

-- words that are some order are an order
no_order : (o : Option Order) (P : Order → Type 0) → o ≡ None → IsSomeAnd o P → ⊥
no_order o P e h = subst (λ (v : Option Order). IsSomeAnd v P) e h

-- where the words are no order Usage comes, or memory is wanting and out took nothing
pub always-usage : (call : Call) (status : Status) → order_of call.words ≡ None → Answers call status → (status ≡ Usage) ⊎ ((status ≡ NoMemory) × TookNothing call.out)
always-usage call Done none a = absurd (no_order _ _ none a.says.0)
always-usage call Offence none a = absurd (no_order _ _ none a.says.0)
always-usage call Usage none a = inl refl
always-usage call ReadFault none a = absurd (no_order _ _ none a.says)
always-usage call WriteFault none a = absurd (no_order _ _ none a.says.0)
always-usage call ImageTooLarge none a = absurd (no_order _ _ none a.says)
always-usage call BadInput none a = absurd (no_order _ _ none a.says)
always-usage call NoMemory none a = elim a.says.0 [ inl silent ↦ inr (refl, silent) | inr (rose, cut) ↦ absurd (no_order _ _ none cut) ]

-- ---- ReadFault and WriteFault

-- with ReadFault the host's count of faults rose
pub read-fault : (call : Call) → Answers call ReadFault → Rose call.host.before.faults call.host.after.faults
read-fault call a = a.faults.reads.rose refl

-- what holds of some order gives what follows from it
missing : (o : Option Order) (P Q : Order → Type 0) → IsSomeAnd o P → ((order : Order) → P order → Q order) → IsSomeAnd o Q
missing None P Q h f = h
missing (Some order) P Q h f = f order h

-- with ReadFault over a sound host a file that the words name isn't there
pub absent : (call : Call) → Answers call ReadFault → IsTrue call.host.before.is_sound → OnOrder call (λ order. (k : ℕ) × (name : List ℕ) × (option_map (λ file. file.name) (slice_get (files_of order) k) ≡ Some name) × IsSomeAnd call.host.before.files (λ told. told name ≡ None))
absent call a sound = missing (order_of call.words) _ _ a.says (λ order (name, (k, named, opened, gone), only). (k, name, named, gone sound))

-- with WriteFault out's count of faults rose
pub write-fault : (call : Call) → Answers call WriteFault → Rose call.out.before.faults call.out.after.faults
write-fault call a = a.faults.writes.rose refl

-- a count that is greater than before didn't stay
risen : (before after : ℕ) (came : Type 0) → before < after → Counts before after came → ¬ came → ⊥
risen before after came greater counts h = let e = counts.stays h in omega arith

-- where the host's count is greater than before, ReadFault comes
pub always-read-fault : (call : Call) (status : Status) → call.host.before.faults < call.host.after.faults → Answers call status → status ≡ ReadFault
always-read-fault call Done greater a = absurd (risen _ _ _ greater a.faults.reads (λ (e : Done ≡ ReadFault). cc))
always-read-fault call Offence greater a = absurd (risen _ _ _ greater a.faults.reads (λ (e : Offence ≡ ReadFault). cc))
always-read-fault call Usage greater a = absurd (risen _ _ _ greater a.faults.reads (λ (e : Usage ≡ ReadFault). cc))
always-read-fault call ReadFault greater a = refl
always-read-fault call WriteFault greater a = absurd (risen _ _ _ greater a.faults.reads (λ (e : WriteFault ≡ ReadFault). cc))
always-read-fault call ImageTooLarge greater a = absurd (risen _ _ _ greater a.faults.reads (λ (e : ImageTooLarge ≡ ReadFault). cc))
always-read-fault call BadInput greater a = absurd (risen _ _ _ greater a.faults.reads (λ (e : BadInput ≡ ReadFault). cc))
always-read-fault call NoMemory greater a = absurd (risen _ _ _ greater a.faults.reads (λ (e : NoMemory ≡ ReadFault). cc))

-- where out's count of faults is greater than before, WriteFault comes
pub always-write-fault : (call : Call) (status : Status) → call.out.before.faults < call.out.after.faults → Answers call status → status ≡ WriteFault
always-write-fault call Done greater a = absurd (risen _ _ _ greater a.faults.writes (λ (e : Done ≡ WriteFault). cc))
always-write-fault call Offence greater a = absurd (risen _ _ _ greater a.faults.writes (λ (e : Offence ≡ WriteFault). cc))
always-write-fault call Usage greater a = absurd (risen _ _ _ greater a.faults.writes (λ (e : Usage ≡ WriteFault). cc))
always-write-fault call ReadFault greater a = absurd (risen _ _ _ greater a.faults.writes (λ (e : ReadFault ≡ WriteFault). cc))
always-write-fault call WriteFault greater a = refl
always-write-fault call ImageTooLarge greater a = absurd (risen _ _ _ greater a.faults.writes (λ (e : ImageTooLarge ≡ WriteFault). cc))
always-write-fault call BadInput greater a = absurd (risen _ _ _ greater a.faults.writes (λ (e : BadInput ≡ WriteFault). cc))
always-write-fault call NoMemory greater a = absurd (risen _ _ _ greater a.faults.writes (λ (e : NoMemory ≡ WriteFault). cc))

-- ---- what an order of each kind comes to

-- the first content is that of the first file
first-is : (files : Files) (first : Wanted) (others : List Wanted) (contents : List (List ℕ)) → IfSome files (λ told. contents ≡ contents_of told (first ∷ others)) → IfSome files (λ told. first_of contents ≡ content_of told first.name)
first-is None first others contents are = tt
first-is (Some told) first others contents are = ap first_of are

-- the text of a run's script is that of the second file
text-is : (files : Files) (first : Wanted) (named : Option (List ℕ)) (contents : List (List ℕ)) → IfSome files (λ told. contents ≡ contents_of told (first ∷ script_files named)) → IsText files named (text_by named contents)
text-is files first None contents are = refl
text-is None first (Some name) contents are = tt
text-is (Some told) first (Some name) contents are = ap second_of are

-- a verdict that is refused for length shows the length, or is refused so without it
long-or-so : (image : List ℕ) (verdict : Verdict) (status : Status) (line : List ℕ) → unless_too_large image verdict ≡ Refuses status line → ((16777216 < length image) × (ImageTooLarge ≡ status)) ⊎ ((length image ≤ 16777216) × (verdict ≡ Refuses status line))
long-or-so image verdict status line e = elim (cases_lt 16777216 (length image)) [
  | inl long ↦
      let same : Refuses ImageTooLarge too_large_line ≡ Refuses status line = sym (too_long image verdict long) ∙ e in
      let is : ImageTooLarge ≡ status = cc in
      inl (long, is)
  | inr short ↦ inr (short, sym (fits image verdict short) ∙ e)
]

-- a script that is refused at a place, with its line
abbrev IsBad : List ℕ → Result (List (ℕ × ℕ)) ScriptPlace → Status → List ℕ → Type 0
IsBad name read status line = (place : ScriptPlace) × (read ≡ Err place) × (status ≡ BadInput) × (line ≡ bad_line name place.line place.column)

-- behind its image a run is refused for its script alone
only-bad : (name : List ℕ) (order : RunOrder) (image : List ℕ) (read : Result (List (ℕ × ℕ)) ScriptPlace) (status : Status) (line : List ℕ) → with_script name read (λ script. Writes (TextOf (run_by order image script))) ≡ Refuses status line → IsBad name read status line
only-bad name order image (Ok script) status line e = cc
only-bad name order image (Err place) status line e = let same : status ≡ BadInput = cc in (place, refl, same, cc)

-- with ImageTooLarge the image of a run is longer than RAM
run-too-large : (host : Change HostState) (order : RunOrder) (line : List ℕ) → ComesTo host (Run order) (Refuses ImageTooLarge line) → IsTooLong host order.image
run-too-large host order line (contents, are, comes) = elim (long-or-so (first_of contents) _ ImageTooLarge line comes) [
  | inl (long, e) ↦ (first_of contents, first-is host.before.files (record { name = order.image; most = ram_size }) (script_files order.script) contents are, long)
  | inr (short, e) ↦ let (place, read, other, rest) = only-bad _ order (first_of contents) _ ImageTooLarge line e in cc
]

-- with ImageTooLarge the image of a disassembly is longer than RAM
listing-too-large : (host : Change HostState) (name line : List ℕ) → ComesTo host (Disassemble name) (Refuses ImageTooLarge line) → IsTooLong host name
listing-too-large host name line (contents, are, comes) = elim (long-or-so (first_of contents) _ ImageTooLarge line comes) [
  | inl (long, e) ↦ (first_of contents, first-is host.before.files (record { name = name; most = ram_size }) [] contents are, long)
  | inr (short, e) ↦ cc
]

-- a source is refused as BadInput alone, with the place that the assembler refuses
source-refused : (name : List ℕ) (r : Result (List ℕ) Place) (status : Status) (line : List ℕ) → unless_bad name r ≡ Refuses status line → (status ≡ BadInput) × ((place : Place) × (r ≡ Err place) × (line ≡ bad_line name place.line place.column))
source-refused name (Ok bytes) status line e = cc
source-refused name (Err place) status line e = let same : status ≡ BadInput = cc in (same, (place, refl, cc))

-- a source is never refused for length
source-too-large : (host : Change HostState) (name line : List ℕ) → ComesTo host (Assemble name) (Refuses ImageTooLarge line) → ⊥
source-too-large host name line (contents, are, comes) = let (other, rest) = source-refused name _ ImageTooLarge line comes in cc

-- with BadInput a source is refused, and its place is told
source-bad : (host : Change HostState) (name line : List ℕ) → ComesTo host (Assemble name) (Refuses BadInput line) → (source : List ℕ) × (place : Place) × IsContent host name source × (assembled source ≡ Err place) × (line ≡ bad_line name place.line place.column)
source-bad host name line (contents, are, comes) =
    let (same, (place, e, told)) = source-refused name _ BadInput line comes in
    (first_of contents, place, first-is host.before.files (record { name = name; most = 4194304 }) [] contents are, e, told)

-- with BadInput the script of a run is refused, and its image fits
abbrev IsBadRun : Change HostState → RunOrder → List ℕ → Type 0
IsBadRun host order line = (image : List ℕ) × IsContent host order.image image × (length image ≤ 16777216) × ((name : List ℕ) × (place : ScriptPlace) × (order.script ≡ Some name) × IsBadScript host name place.line place.column × (line ≡ bad_line name place.line place.column))

-- the script that is refused is one that is named
named-bad : (host : Change HostState) (named : Option (List ℕ)) (text line : List ℕ) (place : ScriptPlace) → IsText host.before.files named text → script_of text ≡ Err place → line ≡ bad_line (unwrap_or named []) place.line place.column → (name : List ℕ) × (place : ScriptPlace) × (named ≡ Some name) × IsBadScript host name place.line place.column × (line ≡ bad_line name place.line place.column)
named-bad host None text line place is bad told = let empty : script_of text ≡ Ok [] = ap script_of is ∙ script_of-empty in cc
named-bad host (Some name) text line place is bad told = (name, place, refl, (text, is, bad), told)

run-bad : (host : Change HostState) (order : RunOrder) (line : List ℕ) → ComesTo host (Run order) (Refuses BadInput line) → IsBadRun host order line
run-bad host order line (contents, are, comes) = elim (long-or-so (first_of contents) _ BadInput line comes) [
  | inl (long, e) ↦ cc
  | inr (short, e) ↦
      let (place, bad, same, told) = only-bad (unwrap_or order.script []) order (first_of contents) (script_of (text_by order.script contents)) BadInput line e in
      (first_of contents, first-is host.before.files (record { name = order.image; most = ram_size }) (script_files order.script) contents are, short, named-bad host order.script (text_by order.script contents) line place (text-is host.before.files (record { name = order.image; most = ram_size }) order.script contents are) bad told)
]

-- a disassembly is never refused as BadInput

listing-bad : (host : Change HostState) (name line : List ℕ) → ComesTo host (Disassemble name) (Refuses BadInput line) → ⊥
listing-bad host name line (contents, are, comes) = elim (long-or-so (first_of contents) _ BadInput line comes) [ inl (long, e) ↦ cc | inr (short, e) ↦ cc ]

-- the text of a run that isn't refused is of a run of the image's content and the script's
run-gives-text : (host : Change HostState) (order : RunOrder) (output : Output) (text : List ℕ) (end : Option End) → ComesTo host (Run order) (Writes output) → IsOutput output text end → (image : List ℕ) × (script : List (ℕ × ℕ)) × IsStart host order image script × IsOutput (TextOf (run_by order image script)) text end
run-gives-text host order output text end (contents, are, gives) is =
    let (short, (script, read, same)) = run-written order (first_of contents) (text_by order.script contents) output gives in (
      first_of contents,
      script,
      record {
        image_is = first-is host.before.files (record { name = order.image; most = ram_size }) (script_files order.script) contents are;
        image_fits = short;
        script_is = script-from host order.script (text_by order.script contents) script (text-is host.before.files (record { name = order.image; most = ram_size }) order.script contents are) read;
      },
      subst (λ (o : Output). IsOutput o text end) same is,
    )

-- ---- Done, Offence and WriteFault, of a run

-- out took a text of a run of the image and the script, whose end has this status
abbrev RanWith : Call → RunOrder → Status → Type 0
RanWith call order status = (image : List ℕ) × (script : List (ℕ × ℕ)) × (text : List ℕ) × IsStart call.host order image script × SpellsRun (run_by order image script) text × Took call.out text × (status ≡ ended (end_of text))

-- a run that was carried out
ran-with : (call : Call) (order : RunOrder) (status : Status) → order_of call.words ≡ Some (Run order) → OnOrder call (λ o. Written call.host call.out o status) → RanWith call order status
ran-with call order status asked says =
    let (text, end, (output, gives, is), took, ends) = at_some (order_of call.words) (λ (o : Order). Written call.host call.out o status) (Run order) asked says in
    let (image, script, start, (spells, told)) = run-gives-text call.host order output text end gives is in
    (image, script, text, start, spells, took, ends ∙ ap ended told)

-- a text that spells a run has its end, which is one of so many cycles
spelled-end : (run : AskedRun) (text : List ℕ) → SpellsRun run text → (end : End) × (end_of text ≡ Some end) × StopsBy run.cycles end
spelled-end run text spells = run-spelled run.boot run.cycles text (Prints run text) spells (λ end last s runs prints. (end, s.end_is, runs.stops))

-- with Done out took a text of a run of the image and the script, which ran to the number of cycles
pub done-run : (call : Call) (order : RunOrder) → order_of call.words ≡ Some (Run order) → Answers call Done → (image : List ℕ) × (script : List (ℕ × ℕ)) × (text : List ℕ) × IsStart call.host order image script × SpellsRun (run_by order image script) text × Took call.out text × (end_of text ≡ Some (Ran order.cycles))
done-run call order asked a =
    let (image, script, text, start, spells, took, ends) = ran-with call order Done asked a.says.0 in
    let (end, is, stops) = spelled-end (run_by order image script) text spells in
    (image, script, text, start, spells, took, is ∙ ap Some (ran-to order.cycles end stops (ends ∙ ap ended is)))

-- with Offence out took a text of a run of the image and the script, which ended with an offence below the number of cycles
pub offence-run : (call : Call) (order : RunOrder) → order_of call.words ≡ Some (Run order) → Answers call Offence → (image : List ℕ) × (script : List (ℕ × ℕ)) × (text : List ℕ) × IsStart call.host order image script × SpellsRun (run_by order image script) text × Took call.out text × OffendsBelow order.cycles (end_of text)
offence-run call order asked a =
    let (image, script, text, start, spells, took, ends) = ran-with call order Offence asked a.says.0 in
    let (end, is, stops) = spelled-end (run_by order image script) text spells in
    (image, script, text, start, spells, took, offended order.cycles (end_of text) end is stops (ends ∙ ap ended is))

-- what a sink took that tells its bytes is one text
took-one : (taken after : Option (List ℕ)) (text other : List ℕ) → IsSome taken → after ≡ with_more taken text → after ≡ with_more taken other → text ≡ other
took-one None after text other told e o = cc
took-one (Some bytes) after text other told e o =
    let same : Some (bytes ++ text) ≡ Some (bytes ++ other) = sym e ∙ o in
    let both : bytes ++ text ≡ bytes ++ other = cc in
    append_cancel_left bytes text other both

-- where a run is answered with Done or Offence, it is that of the end of the text that out took, where out tells its bytes
pub end-tells : (call : Call) (status : Status) (order : RunOrder) (text : List ℕ) → order_of call.words ≡ Some (Run order) → IsSome call.out.before.taken → Took call.out text → (status ≡ Done) ⊎ (status ≡ Offence) → Answers call status → status ≡ ended (end_of text)
end-tells call Done order text asked told took either a =
    let (image, script, other, start, spells, took_other, ends) = ran-with call order Done asked a.says.0 in
    ends ∙ ap (λ (t : List ℕ). ended (end_of t)) (took-one call.out.before.taken call.out.after.taken other text told took_other took)
end-tells call Offence order text asked told took either a =
    let (image, script, other, start, spells, took_other, ends) = ran-with call order Offence asked a.says.0 in
    ends ∙ ap (λ (t : List ℕ). ended (end_of t)) (took-one call.out.before.taken call.out.after.taken other text told took_other took)
end-tells call Usage order text asked told took (inl e) a = cc
end-tells call Usage order text asked told took (inr e) a = cc
end-tells call ReadFault order text asked told took (inl e) a = cc
end-tells call ReadFault order text asked told took (inr e) a = cc
end-tells call WriteFault order text asked told took (inl e) a = cc
end-tells call WriteFault order text asked told took (inr e) a = cc
end-tells call ImageTooLarge order text asked told took (inl e) a = cc
end-tells call ImageTooLarge order text asked told took (inr e) a = cc
end-tells call BadInput order text asked told took (inl e) a = cc
end-tells call BadInput order text asked told took (inr e) a = cc
end-tells call NoMemory order text asked told took (inl e) a = cc
end-tells call NoMemory order text asked told took (inr e) a = cc

-- ---- an assembly and a disassembly never end with an offence

-- where what is written for the words' order isn't of a run
no-offence : (call : Call) (order : Order) → order_of call.words ≡ Some order → ((output : Output) → ComesTo call.host order (Writes output) → (bytes : List ℕ) × (output ≡ Bytes bytes)) → Answers call Offence → ⊥
no-offence call order asked plain a =
    let (text, end, (output, comes, is), took, ends) = at_some (order_of call.words) (λ (o : Order). Written call.host call.out o Offence) order asked a.says.0 in
    let (bytes, same) = plain output comes in
    let (t, none) = subst (λ (o : Output). IsOutput o text end) same is in
    let done : Offence ≡ Done = ends ∙ ap ended none in
    cc

-- what is written of a source are its bytes
source-plain : (name : List ℕ) (r : Result (List ℕ) Place) (output : Output) → unless_bad name r ≡ Writes output → (bytes : List ℕ) × (output ≡ Bytes bytes)
source-plain name (Ok bytes) output e = (bytes, cc)
source-plain name (Err place) output e = cc

pub no-offence-source : (call : Call) (source : List ℕ) → order_of call.words ≡ Some (Assemble source) → Answers call Offence → ⊥
no-offence-source call source asked a = no-offence call (Assemble source) asked (λ output (contents, are, comes). source-plain source (assembled (first_of contents)) output comes) a

-- what is written of a disassembly is its text
listing-plain : (image text : List ℕ) (output : Output) → unless_too_large image (Writes (Bytes text)) ≡ Writes output → (bytes : List ℕ) × (output ≡ Bytes bytes)
listing-plain image text output e = elim (cases_lt 16777216 (length image)) [
  | inl long ↦ let refused : Refuses ImageTooLarge too_large_line ≡ Writes output = sym (too_long image (Writes (Bytes text)) long) ∙ e in cc
  | inr short ↦ let same : Writes (Bytes text) ≡ Writes output = sym (fits image (Writes (Bytes text)) short) ∙ e in (text, cc)
]

pub no-offence-disassembly : (call : Call) (image : List ℕ) → order_of call.words ≡ Some (Disassemble image) → Answers call Offence → ⊥
no-offence-disassembly call image asked a = no-offence call (Disassemble image) asked (λ output (contents, are, comes). listing-plain (first_of contents) (disassembly (first_of contents)) output comes) a

-- ---- a run from a seed

-- out took the summary of a run from the seed, whose end has this status
abbrev SummedWith : Call → SeedOrder → Status → Type 0
SummedWith call order status = (text : List ℕ) × (end : Option End) × SumsUp order text end × Took call.out text × (status ≡ ended end)

-- what is written of a seed is the summary of a run from it
summed : (host : Change HostState) (order : SeedOrder) (output : Output) (text : List ℕ) (end : Option End) → ComesTo host (Generate order) (Writes output) → IsOutput output text end → SumsUp order text end
summed host order output text end (contents, are, comes) is =
    let same : output ≡ SummaryOf order = cc in
    subst (λ (o : Output). IsOutput o text end) same is

summed-with : (call : Call) (order : SeedOrder) (status : Status) → order_of call.words ≡ Some (Generate order) → OnOrder call (λ o. Written call.host call.out o status) → SummedWith call order status
summed-with call order status asked says =
    let (text, end, (output, comes, is), took, ends) = at_some (order_of call.words) (λ (o : Order). Written call.host call.out o status) (Generate order) asked says in
    (text, end, summed call.host order output text end comes is, took, ends)

-- with Done out took the summary of a run from the seed, which ran to the number of cycles
pub done-seed : (call : Call) (order : SeedOrder) → order_of call.words ≡ Some (Generate order) → Answers call Done → (text : List ℕ) × SumsUp order text (Some (Ran order.cycles)) × Took call.out text
done-seed call order asked a =
    let (text, all, (events, end, last, runs, whole, is), took, ends) = summed-with call order Done asked a.says.0 in
    let ran : end ≡ Ran order.cycles = ran-to order.cycles end runs.stops (ends ∙ ap ended is) in
    (text, (events, end, last, runs, whole, ap Some (sym ran)), took)

-- with Offence it is that of a run that ended with an offence below the number of cycles
pub offence-seed : (call : Call) (order : SeedOrder) → order_of call.words ≡ Some (Generate order) → Answers call Offence → (text : List ℕ) × (end : Option End) × SumsUp order text end × Took call.out text × OffendsBelow order.cycles end
offence-seed call order asked a =
    let (text, all, (events, end, last, runs, whole, is), took, ends) = summed-with call order Offence asked a.says.0 in
    (text, all, (events, end, last, runs, whole, is), took, offended order.cycles all end is runs.stops (ends ∙ ap ended is))

-- with WriteFault out took a front of such a summary
pub cut-seed : (call : Call) (order : SeedOrder) → order_of call.words ≡ Some (Generate order) → Answers call WriteFault → (text : List ℕ) × (end : Option End) × SumsUp order text end × TookFront call.out text
cut-seed call order asked a =
    let (text, end, (output, comes, is), took) = at_some (order_of call.words) (CutShort call.host call.out) (Generate order) asked a.says.0 in
    (text, end, summed call.host order output text end comes is, took)

-- it opens no file, so none is unread
pub no-file-seed : (call : Call) (order : SeedOrder) → order_of call.words ≡ Some (Generate order) → Answers call ReadFault → ⊥
no-file-seed call order asked a = let (name, (k, named, opened, absent), only) = at_some (order_of call.words) _ (Generate order) asked a.says in cc

-- it is never refused
never-refused : (call : Call) (order : SeedOrder) (status : Status) → order_of call.words ≡ Some (Generate order) → Refused call status → ⊥
never-refused call order status asked h = let (line, (contents, are, comes), only) = at_some (order_of call.words) _ (Generate order) asked h in cc

pub too-large-seed : (call : Call) (order : SeedOrder) → order_of call.words ≡ Some (Generate order) → Answers call ImageTooLarge → ⊥
too-large-seed call order asked a = never-refused call order ImageTooLarge asked a.says

pub bad-seed : (call : Call) (order : SeedOrder) → order_of call.words ≡ Some (Generate order) → Answers call BadInput → ⊥
bad-seed call order asked a = never-refused call order BadInput asked a.says

-- it leaves the host as it is
pub host-stays-seed : (call : Call) (order : SeedOrder) (status : Status) → order_of call.words ≡ Some (Generate order) → GoesThrough call status → call.host.after ≡ call.host.before
host-stays-seed call order status asked goes = goes.1 (ap (λ (o : Option Order). option_map_or files_of o []) asked)

-- ---- WriteFault, of a run

-- with WriteFault out took a front of a text of a run of the image and the script
pub cut-run : (call : Call) (order : RunOrder) → order_of call.words ≡ Some (Run order) → Answers call WriteFault → (image : List ℕ) × (script : List (ℕ × ℕ)) × (text : List ℕ) × IsStart call.host order image script × SpellsRun (run_by order image script) text × TookFront call.out text
cut-run call order asked a =
    let (text, end, (output, gives, is), took) = at_some (order_of call.words) (CutShort call.host call.out) (Run order) asked a.says.0 in
    let (image, script, start, (spells, told)) = run-gives-text call.host order output text end gives is in
    (image, script, text, start, spells, took)

-- ---- ImageTooLarge and BadInput come only with their causes

-- what an order that is refused comes to
comes : (call : Call) (status : Status) (order : Order) → order_of call.words ≡ Some order → Refused call status → (line : List ℕ) × ComesTo call.host order (Refuses status line)
comes call status order asked h = let (line, is, only) = at_some (order_of call.words) _ order asked h in (line, is)

pub too-large : (call : Call) (order : RunOrder) → order_of call.words ≡ Some (Run order) → Answers call ImageTooLarge → IsTooLong call.host order.image
too-large call order asked a = let (line, is) = comes call ImageTooLarge (Run order) asked a.says in run-too-large call.host order line is

pub too-large-disassembly : (call : Call) (image : List ℕ) → order_of call.words ≡ Some (Disassemble image) → Answers call ImageTooLarge → IsTooLong call.host image
too-large-disassembly call image asked a = let (line, is) = comes call ImageTooLarge (Disassemble image) asked a.says in listing-too-large call.host image line is

pub too-large-source : (call : Call) (source : List ℕ) → order_of call.words ≡ Some (Assemble source) → Answers call ImageTooLarge → ⊥
too-large-source call source asked a = let (line, is) = comes call ImageTooLarge (Assemble source) asked a.says in source-too-large call.host source line is

pub bad-input : (call : Call) (name : List ℕ) → order_of call.words ≡ Some (Assemble name) → Answers call BadInput → (source : List ℕ) × (place : Place) × IsContent call.host name source × (assembled source ≡ Err place)
bad-input call name asked a =
    let (line, is) = comes call BadInput (Assemble name) asked a.says in
    let (source, place, content, bad, told) = source-bad call.host name line is in
    (source, place, content, bad)

pub bad-run : (call : Call) (order : RunOrder) → order_of call.words ≡ Some (Run order) → Answers call BadInput → (name : List ℕ) × (place : ScriptPlace) × (order.script ≡ Some name) × IsBadScript call.host name place.line place.column
bad-run call order asked a =
    let (line, is) = comes call BadInput (Run order) asked a.says in
    let (image, content, short, (name, place, named, bad, told)) = run-bad call.host order line is in
    (name, place, named, bad)

pub bad-disassembly : (call : Call) (image : List ℕ) → order_of call.words ≡ Some (Disassemble image) → Answers call BadInput → ⊥
bad-disassembly call image asked a = let (line, is) = comes call BadInput (Disassemble image) asked a.says in listing-bad call.host image line is

-- ---- ImageTooLarge and BadInput always come with their causes, but for a call of the host that failed and for want of memory

pub always-too-large : (call : Call) (status : Status) (order : RunOrder) (told : List ℕ → Option (List ℕ)) → Asks call (Run order) told → 16777216 < length (content_of told order.image) → Answers call status → (status ≡ ImageTooLarge) ⊎ IsUnanswered call status
always-too-large call status order told asks long a = a.exactly (Run order) told ImageTooLarge too_large_line asks (too_long (content_of told order.image) _ long)

pub always-too-large-disassembly : (call : Call) (status : Status) (image : List ℕ) (told : List ℕ → Option (List ℕ)) → Asks call (Disassemble image) told → 16777216 < length (content_of told image) → Answers call status → (status ≡ ImageTooLarge) ⊎ IsUnanswered call status
always-too-large-disassembly call status image told asks long a = a.exactly (Disassemble image) told ImageTooLarge too_large_line asks (too_long (content_of told image) _ long)

-- the text of a run's script in these files
abbrev pub script_text : (List ℕ → Option (List ℕ)) → Option (List ℕ) → List ℕ
script_text told None = []
script_text told (Some name) = content_of told name

-- the text of a run's script, by what the order's files have, is the text in these files
text-told : (told : List ℕ → Option (List ℕ)) (first : Wanted) (named : Option (List ℕ)) → text_by named (contents_of told (first ∷ script_files named)) ≡ script_text told named
text-told told first None = refl
text-told told first (Some name) = refl

-- what a run comes to with these files, whose image fits and whose script is read
comes-to : (order : RunOrder) (told : List ℕ → Option (List ℕ)) (script : List (ℕ × ℕ)) → length (content_of told order.image) ≤ 16777216 → script_of (script_text told order.script) ≡ Ok script → verdict_with told (Run order) ≡ Writes (TextOf (run_by order (content_of told order.image) script))
comes-to order told script short read =
    ap (verdict_by order (content_of told order.image)) (text-told told (record { name = order.image; most = ram_size }) order.script)
    ∙ starts order (content_of told order.image) (script_text told order.script) script short read

pub always-bad-script : (call : Call) (status : Status) (order : RunOrder) (told : List ℕ → Option (List ℕ)) (name : List ℕ) (place : ScriptPlace) → Asks call (Run order) told → length (content_of told order.image) ≤ 16777216 → order.script ≡ Some name → script_of (content_of told name) ≡ Err place → Answers call status → (status ≡ BadInput) ⊎ IsUnanswered call status
always-bad-script call status order told name place asks short named bad a = a.exactly (Run order) told BadInput (bad_line name place.line place.column) asks (
    ap (verdict_by order (content_of told order.image)) (text-told told (record { name = order.image; most = ram_size }) order.script ∙ ap (script_text told) named)
    ∙ refused order (content_of told order.image) name (content_of told name) place short named bad)

pub always-bad-input : (call : Call) (status : Status) (source : List ℕ) (told : List ℕ → Option (List ℕ)) (place : Place) → Asks call (Assemble source) told → assembled (content_of told source) ≡ Err place → Answers call status → (status ≡ BadInput) ⊎ IsUnanswered call status
always-bad-input call status source told place asks bad a = a.exactly (Assemble source) told BadInput (bad_line source place.line place.column) asks (ap (unless_bad source) bad)

-- ---- an order that isn't refused is done where no call failed, or its run ends with an offence, unless memory is wanting

pub complete-run : (call : Call) (status : Status) (order : RunOrder) (told : List ℕ → Option (List ℕ)) (script : List (ℕ × ℕ)) → Asks call (Run order) told → length (content_of told order.image) ≤ 16777216 → script_of (script_text told order.script) ≡ Ok script → ¬ (Rose call.host.before.faults call.host.after.faults) → ¬ (Rose call.out.before.faults call.out.after.faults) → Answers call status → ((status ≡ Done) ⊎ (status ≡ Offence)) ⊎ (status ≡ NoMemory)
complete-run call status order told script asks short read host out a = a.complete (Run order) told (TextOf (run_by order (content_of told order.image) script)) asks (comes-to order told script short read) host out

pub complete-seed : (call : Call) (status : Status) (order : SeedOrder) (told : List ℕ → Option (List ℕ)) → Asks call (Generate order) told → ¬ (Rose call.host.before.faults call.host.after.faults) → ¬ (Rose call.out.before.faults call.out.after.faults) → Answers call status → ((status ≡ Done) ⊎ (status ≡ Offence)) ⊎ (status ≡ NoMemory)
complete-seed call status order told asks host out a = a.complete (Generate order) told (SummaryOf order) asks refl host out

pub complete-source : (call : Call) (status : Status) (source : List ℕ) (told : List ℕ → Option (List ℕ)) (bytes : List ℕ) → Asks call (Assemble source) told → assembled (content_of told source) ≡ Ok bytes → ¬ (Rose call.host.before.faults call.host.after.faults) → ¬ (Rose call.out.before.faults call.out.after.faults) → Answers call status → (status ≡ Done) ⊎ (status ≡ NoMemory)
complete-source call status source told bytes asks ok host out a = a.complete (Assemble source) told (Bytes bytes) asks (ap (unless_bad source) ok) host out

pub complete-disassembly : (call : Call) (status : Status) (image : List ℕ) (told : List ℕ → Option (List ℕ)) → Asks call (Disassemble image) told → length (content_of told image) ≤ 16777216 → ¬ (Rose call.host.before.faults call.host.after.faults) → ¬ (Rose call.out.before.faults call.out.after.faults) → Answers call status → (status ≡ Done) ⊎ (status ≡ NoMemory)
complete-disassembly call status image told asks short host out a = a.complete (Disassemble image) told (Bytes (disassembly (content_of told image))) asks (fits (content_of told image) _ short) host out
