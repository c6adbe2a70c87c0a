-- What an order comes to, from what its part found.
use Rattle.std.proofs.Common.{◌≡◌, ℕ, inl, inr, ◌<◌, ◌≤◌, Bool, cond, List, [], ◌∷◌, length, Option, Some, None, Result, Ok, Err, IfOk, IfErr, IfSome, IsSomeAnd, IsTrue, option_map, slice_get, unwrap_or, refl, sym, ap, ap₂, ◌∙◌, subst, arith}
use Rattle.std.proofs.lemmas.Bool.{lt-ltb, le-ltb, cases_lt}
use Rattle.mw_io.specs.Outside.{HostState, Counts, RoseBy, content_of}
use Rattle.mw_asm.specs.declared.fault.Place.{Place}
use Rattle.mw_isa.specs.declared.event.End.{End}
use Rattle.mw_isa.specs.Reading.{end_of}
use Rattle.mw_asm.specs.Assembled.{assembled}
use Rattle.mw_asm.specs.Disassembly.{disassembly}
use Rattle.mw_cli.specs.declared.status.Status.TheVariants.{Done, ReadFault, ImageTooLarge, BadInput}
use Rattle.mw_cli.specs.declared.refusal.Refusal.{Refusal}
use Rattle.mw_cli.specs.declared.refusal.Refusal.TheVariants.{Unreadable, Unwritable, TooLarge, Bad, OutOfMemory}
use Rattle.mw_cli.specs.declared.product.Product.{Product}
use Rattle.mw_cli.specs.Products.{bytes_of}
use Rattle.mw_words.specs.Grammar.{RunOrder, SeedOrder, Order, Run, Assemble, Disassemble, Generate}
use Rattle.mw_cli.specs.Files.{Wanted, files_of, script_files}
use Rattle.mw_cli.specs.Headline.{SpellsRun, SumsUp}
use Rattle.mw_cli.specs.Verdict.{Output, TextOf, SummaryOf, Bytes, Verdict, Writes, Refuses, first_of, text_by, run_by, verdict_by, verdict_of, with_script, unless_too_large, unless_bad, too_large_line, bad_line}
use Rattle.mw_cli.specs.Outside.{Change, change, contents_of}
use Rattle.mw_cli.specs.Numbers.{status_of}
use Rattle.mw_cli.specs.Answers.{ComesTo, Gives, IsUnread}
use Rattle.mw_cli.specs.Stages.{ending, IsContent, IsAbsent, IsReadRefusal, IsLoadRefusal, IsScriptOf, IsStart, IsScriptRefusal, IsRunRefusal, GivesNothing}
use Rattle.mw_bus.specs.Memory.{ram_size}
use Rattle.mw_uart.specs.Script.{Place as ScriptPlace, script_of}
use Rattle.mw_uart.proofs.Laws.{script_of-empty}
use Rattle.mw_cli.proofs.GoesLemmas.{rose-twice}
use Rattle.mw_cli.proofs.FileLemmas.{Files}

-- an image that fits RAM leaves the verdict
pub fits : (image : List ℕ) (verdict : Verdict) → length image ≤ 16777216 → unless_too_large image verdict ≡ verdict
fits image verdict h = ap (λ (b : Bool). cond b (Refuses ImageTooLarge too_large_line) verdict) (le-ltb 16777216 (length image) h)

-- an image that is longer than RAM is refused
pub too_long : (image : List ℕ) (verdict : Verdict) → 16777216 < length image → unless_too_large image verdict ≡ Refuses ImageTooLarge too_large_line
too_long image verdict h = ap (λ (b : Bool). cond b (Refuses ImageTooLarge too_large_line) verdict) (lt-ltb 16777216 (length image) h)

-- an order of one file has one content
one-content : (files : Files) (name bytes : List ℕ) → IfSome files (λ told. bytes ≡ content_of told name) → IfSome files (λ told. bytes ∷ [] ≡ content_of told name ∷ [])
one-content None name bytes is = tt
one-content (Some told) name bytes is = ap (λ (x : List ℕ). x ∷ []) is

-- the script of a run has this text, where the host tells its files; where none is named, it is empty
abbrev pub IsText : Files → Option (List ℕ) → List ℕ → Type 0
IsText files None text = text ≡ []
IsText files (Some name) text = IfSome files (λ told. text ≡ content_of told name)

-- what the files of a run have, where the image has these bytes
image-contents : (files : Files) (name : List ℕ) (script : Option (List ℕ)) (image : List ℕ) → IfSome files (λ told. image ≡ content_of told name) → (contents : List (List ℕ)) × IfSome files (λ told. contents ≡ contents_of told (record { name = name; most = ram_size } ∷ script_files script)) × (first_of contents ≡ image)
image-contents None name script image is = (image ∷ [], tt, refl)
image-contents (Some told) name script image is = (contents_of told (record { name = name; most = ram_size } ∷ script_files script), refl, sym is)

-- what the files of a run have, where the image has these bytes and the script this text
both-contents : (files : Files) (name : List ℕ) (script : Option (List ℕ)) (image text : List ℕ) → IfSome files (λ told. image ≡ content_of told name) → IsText files script text → (contents : List (List ℕ)) × IfSome files (λ told. contents ≡ contents_of told (record { name = name; most = ram_size } ∷ script_files script)) × (first_of contents ≡ image) × (text_by script contents ≡ text)
both-contents None name None image text is t = (image ∷ [], tt, refl, sym t)
both-contents None name (Some script) image text is t = (image ∷ text ∷ [], tt, refl, refl)
both-contents (Some told) name None image text is t = (content_of told name ∷ [], refl, sym is, sym t)
both-contents (Some told) name (Some script) image text is t = (content_of told name ∷ content_of told script ∷ [], refl, sym is, sym t)

-- what an order of each kind comes to, with the contents of its files
comes-long : (host : Change HostState) (order : RunOrder) (image : List ℕ) → IsContent host order.image image → ram_size < length image → ComesTo host (Run order) (Refuses ImageTooLarge too_large_line)
comes-long host order image is long =
    let (contents, are, first) = image-contents host.before.files order.image order.script image is in
    (contents, are, ap (λ (bytes : List ℕ). verdict_by order bytes (text_by order.script contents)) first ∙ too_long image _ long)

comes-run : (host : Change HostState) (order : RunOrder) (image text : List ℕ) (verdict : Verdict) → IsContent host order.image image → IsText host.before.files order.script text → verdict_by order image text ≡ verdict → ComesTo host (Run order) verdict
comes-run host order image text verdict is t e =
    let (contents, are, first, second) = both-contents host.before.files order.image order.script image text is t in
    (contents, are, ap₂ (verdict_by order) first second ∙ e)

comes-source : (host : Change HostState) (name source : List ℕ) (verdict : Verdict) → IsContent host name source → verdict_of (Assemble name) (source ∷ []) ≡ verdict → ComesTo host (Assemble name) verdict
comes-source host name source verdict is e = (source ∷ [], one-content host.before.files name source is, e)

comes-listing : (host : Change HostState) (name image : List ℕ) (verdict : Verdict) → IsContent host name image → verdict_of (Disassemble name) (image ∷ []) ≡ verdict → ComesTo host (Disassemble name) verdict
comes-listing host name image verdict is e = (image ∷ [], one-content host.before.files name image is, e)

-- the text of a script that is read
text-from : (host : Change HostState) (named : Option (List ℕ)) (script : List (ℕ × ℕ)) → IsScriptOf host named script → (text : List ℕ) × IsText host.before.files named text × (script_of text ≡ Ok script)
text-from host None script is = ([], refl, is)
text-from host (Some name) script is = is

-- what a run comes to whose image fits and whose script is read
pub starts : (order : RunOrder) (image text : List ℕ) (script : List (ℕ × ℕ)) → length image ≤ 16777216 → script_of text ≡ Ok script → verdict_by order image text ≡ Writes (TextOf (run_by order image script))
starts order image text script short read =
    fits image _ short
    ∙ ap (λ (r : Result (List (ℕ × ℕ)) ScriptPlace). with_script (unwrap_or order.script []) r (λ s. Writes (TextOf (run_by order image s)))) read

-- what is written of a run that isn't refused is its text
script-written : (name : List ℕ) (order : RunOrder) (image : List ℕ) (read : Result (List (ℕ × ℕ)) ScriptPlace) (output : Output) → with_script name read (λ script. Writes (TextOf (run_by order image script))) ≡ Writes output → (script : List (ℕ × ℕ)) × (read ≡ Ok script) × (output ≡ TextOf (run_by order image script))
script-written name order image (Ok script) output e = (script, refl, cc)
script-written name order image (Err place) output e = cc

pub run-written : (order : RunOrder) (image text : List ℕ) (output : Output) → verdict_by order image text ≡ Writes output → (length image ≤ 16777216) × ((script : List (ℕ × ℕ)) × (script_of text ≡ Ok script) × (output ≡ TextOf (run_by order image script)))
run-written order image text output e = elim (cases_lt 16777216 (length image)) [
  | inl long ↦ let refused : Refuses ImageTooLarge too_large_line ≡ Writes output = sym (too_long image _ long) ∙ e in cc
  | inr short ↦ (short, script-written (unwrap_or order.script []) order image (script_of text) output (sym (fits image _ short) ∙ e))
]

-- a run gives its text
gives-run : (host : Change HostState) (order : RunOrder) (image : List ℕ) (script : List (ℕ × ℕ)) (text : List ℕ) (end : Option End) → IsStart host order image script → SpellsRun (run_by order image script) text → end ≡ end_of text → Gives host (Run order) text end
gives-run host order image script text end start spells ends =
    let (source, is, read) = text-from host order.script script start.script_is in
    (TextOf (run_by order image script), comes-run host order image source (Writes (TextOf (run_by order image script))) start.image_is is (starts order image source script start.image_fits read), (spells, ends))

-- a source gives its bytes
pub gives-source : (host : Change HostState) (name bytes : List ℕ) → (source : List ℕ) × IsContent host name source × (assembled source ≡ Ok bytes) → Gives host (Assemble name) bytes None
gives-source host name bytes (source, is, e) = (Bytes bytes, comes-source host name source (Writes (Bytes bytes)) is (ap (unless_bad name) e), (refl, refl))

-- an image gives its disassembly
pub gives-listing : (host : Change HostState) (name image text : List ℕ) → IsContent host name image → length image ≤ 16777216 → text ≡ disassembly image → Gives host (Disassemble name) text None
gives-listing host name image text is short e = (Bytes (disassembly image), comes-listing host name image (Writes (Bytes (disassembly image))) is (fits image _ short), (e, refl))

-- an order without a file has no content
no-content : (files : Files) → IfSome files (λ told. [] ≡ contents_of told [])
no-content None = tt
no-content (Some told) = refl

-- a seed gives the summary of a run
pub gives-seed : {E : Type 0} (host : Change HostState) (order : SeedOrder) (r : Result Product E) → IfOk r (λ product. SumsUp order (bytes_of product) product.end) → IfOk r (λ product. Gives host (Generate order) (bytes_of product) product.end)
gives-seed host order (Ok product) sums = (SummaryOf order, ([], no-content host.before.files, refl), sums)
gives-seed host order (Err error) sums = tt

-- a file that isn't read is the one that the order asked for last
unread : (host : Change HostState) (order : Order) (name which : List ℕ) → option_map (λ (file : Wanted). file.name) (slice_get (files_of order) 0) ≡ Some name → RoseBy 1 host.before.opened host.after.opened → which ≡ name → IsAbsent host name → IsUnread host order which
unread host order name which first opened e absent =
    (0, first ∙ ap Some (sym e), opened, λ sound. subst (λ (n : List ℕ). IsSomeAnd host.before.files (λ told. told n ≡ None)) (sym e) (absent sound))

-- why the image of a run isn't there
pub run-unread : (host : Change HostState) (order : RunOrder) (refusal : Refusal) → RoseBy 1 host.before.opened host.after.opened → IsLoadRefusal host order.image refusal → GivesNothing host (Run order) refusal
run-unread host order (Unreadable which) opened (e, absent) = unread host (Run order) order.image which.now refl opened e absent
run-unread host order TooLarge opened (image, is, long) = comes-long host order image is long
run-unread host order (Bad name line column) opened cause = absurd cause
run-unread host order Unwritable opened cause = absurd cause
run-unread host order OutOfMemory opened cause = tt

-- why the image of a disassembly isn't there
pub listing-unread : (host : Change HostState) (name : List ℕ) (refusal : Refusal) → RoseBy 1 host.before.opened host.after.opened → IsLoadRefusal host name refusal → GivesNothing host (Disassemble name) refusal
listing-unread host name (Unreadable which) opened (e, absent) = unread host (Disassemble name) name which.now refl opened e absent
listing-unread host name TooLarge opened (image, is, long) = comes-listing host name image (Refuses ImageTooLarge too_large_line) is (too_long image _ long)
listing-unread host name (Bad which line column) opened cause = absurd cause
listing-unread host name Unwritable opened cause = absurd cause
listing-unread host name OutOfMemory opened cause = tt

-- why a source isn't there
pub source-unread : (host : Change HostState) (name : List ℕ) (refusal : Refusal) → RoseBy 1 host.before.opened host.after.opened → IsReadRefusal host name refusal → GivesNothing host (Assemble name) refusal
source-unread host name (Unreadable which) opened (e, absent) = unread host (Assemble name) name which.now refl opened e absent
source-unread host name TooLarge opened cause = absurd cause
source-unread host name (Bad which line column) opened cause = absurd cause
source-unread host name Unwritable opened cause = absurd cause
source-unread host name OutOfMemory opened cause = tt

-- a source that is refused comes to BadInput with its place
pub source-bad : (host : Change HostState) (name : List ℕ) (place : Place) → (source : List ℕ) × IsContent host name source × (assembled source ≡ Err place) → ComesTo host (Assemble name) (Refuses BadInput (bad_line name place.line place.column))
source-bad host name place (source, is, e) = comes-source host name source (Refuses BadInput (bad_line name place.line place.column)) is (ap (unless_bad name) e)

-- a text of the script that is named, by files that are the same
text-since : (files since : Files) (named : Option (List ℕ)) (name text : List ℕ) → since ≡ files → named ≡ Some name → IfSome since (λ told. text ≡ content_of told name) → IsText files named text
text-since files since named name text same e is =
    subst (λ (n : Option (List ℕ)). IsText files n text) (sym e) (subst (λ (f : Files). IfSome f (λ told. text ≡ content_of told name)) same is)

-- a run without a script is started without a byte that arrives
pub starts-alone : (host : Change HostState) (order : RunOrder) (image : List ℕ) (script : List (ℕ × ℕ)) → order.script ≡ None → script ≡ [] → IsContent host order.image image → length image ≤ ram_size → IsStart host order image script
starts-alone host order image script e none is short = record {
  image_is = is;
  image_fits = short;
  script_is = subst (λ (n : Option (List ℕ)). IsScriptOf host n script) (sym e) (script_of-empty ∙ ap Ok (sym none));
}

-- the script of a run that isn't read
absent-since : (before middle after : HostState) (name which : List ℕ) → middle.files ≡ before.files → (IsTrue before.is_sound → IsTrue middle.is_sound) → which ≡ name → IsAbsent (change middle after) name → IsAbsent (change before after) which
absent-since before middle after name which same sound e absent = λ s.
    subst (λ (n : List ℕ). IsSomeAnd before.files (λ told. told n ≡ None)) (sym e)
    (subst (λ (f : Files). IsSomeAnd f (λ told. told name ≡ None)) same (absent (sound s)))

second-name : (image : Wanted) (named : Option (List ℕ)) (name which : List ℕ) → named ≡ Some name → which ≡ name → option_map (λ (file : Wanted). file.name) (slice_get (image ∷ script_files named) 1) ≡ Some which
second-name image named name which e w = ap (λ (n : Option (List ℕ)). option_map (λ (file : Wanted). file.name) (slice_get (image ∷ script_files n) 1)) e ∙ ap Some (sym w)

-- a run whose script is refused at a place comes to BadInput with that place
pub refused : (order : RunOrder) (image name text : List ℕ) (place : ScriptPlace) → length image ≤ 16777216 → order.script ≡ Some name → script_of text ≡ Err place → verdict_by order image text ≡ Refuses BadInput (bad_line name place.line place.column)
refused order image name text place short e bad =
    fits image _ short
    ∙ ap₂ (λ (n : List ℕ) (r : Result (List (ℕ × ℕ)) ScriptPlace). with_script n r (λ s. Writes (TextOf (run_by order image s)))) (ap (λ (n : Option (List ℕ)). unwrap_or n []) e) bad

comes-bad : (host : Change HostState) (order : RunOrder) (image name which text : List ℕ) (place : ScriptPlace) → IsContent host order.image image → length image ≤ 16777216 → order.script ≡ Some name → which ≡ name → IsText host.before.files order.script text → script_of text ≡ Err place → ComesTo host (Run order) (Refuses BadInput (bad_line which place.line place.column))
comes-bad host order image name which text place is short e w t bad =
    comes-run host order image text (Refuses BadInput (bad_line which place.line place.column)) is t (refused order image which text place short (e ∙ ap Some (sym w)) bad)

-- a script that a text of its file gives is the script of the run
pub script-from : (host : Change HostState) (named : Option (List ℕ)) (text : List ℕ) (script : List (ℕ × ℕ)) → IsText host.before.files named text → script_of text ≡ Ok script → IsScriptOf host named script
script-from host None text script is read = sym (ap script_of is) ∙ read
script-from host (Some name) text script is read = (text, is, read)

-- why the script of a run isn't there
pub run-unscripted : (before middle after : HostState) (order : RunOrder) (image name : List ℕ) (refusal : Refusal) → middle.files ≡ before.files → (IsTrue before.is_sound → IsTrue middle.is_sound) → RoseBy 1 before.opened middle.opened → RoseBy 1 middle.opened after.opened → order.script ≡ Some name → IsContent (change before middle) order.image image → length image ≤ 16777216 → IsScriptRefusal (change middle after) name refusal → GivesNothing (change before after) (Run order) refusal
run-unscripted before middle after order image name (Unreadable which) same sound first second e is short (w, absent) =
    (1, second-name (record { name = order.image; most = ram_size }) order.script name which.now e w, rose-twice before.opened middle.opened after.opened first second, absent-since before middle after name which.now same sound w absent)
run-unscripted before middle after order image name TooLarge same sound first second e is short cause = absurd cause
run-unscripted before middle after order image name (Bad which line column) same sound first second e is short (w, (text, t, bad)) =
    comes-bad (change before after) order image name which.now text (record { line = line; column = column }) is short e w (text-since before.files middle.files order.script name text same e t) bad
run-unscripted before middle after order image name Unwritable same sound first second e is short cause = absurd cause
run-unscripted before middle after order image name OutOfMemory same sound first second e is short cause = tt

-- why a run has no text
run-stops : (host : Change HostState) (order : Order) (refusal : Refusal) → IsRunRefusal refusal → GivesNothing host order refusal
run-stops host order (Unreadable which) cause = absurd cause
run-stops host order TooLarge cause = absurd cause
run-stops host order (Bad name line column) cause = absurd cause
run-stops host order Unwritable cause = absurd cause
run-stops host order OutOfMemory cause = tt

-- what a run gives, and why it gives nothing
pub run-gives : (host : Change HostState) (order : RunOrder) (image : List ℕ) (script : List (ℕ × ℕ)) (r : Result Product Refusal) → IsStart host order image script → IfOk r (λ product. SpellsRun (run_by order image script) (bytes_of product)) → IfOk r (λ product. product.end ≡ end_of (bytes_of product)) → IfOk r (λ product. Gives host (Run order) (bytes_of product) product.end)
run-gives host order image script (Ok product) start spells ends = gives-run host order image script (bytes_of product) product.end start spells ends
run-gives host order image script (Err refusal) start spells ends = tt

pub run-refused : {T : Type 0} (host : Change HostState) (order : Order) (r : Result T Refusal) → IfErr r IsRunRefusal → IfErr r (GivesNothing host order)
run-refused host order (Ok value) cause = tt
run-refused host order (Err refusal) cause = run-stops host order refusal cause

-- a count that stays, where its cause didn't come
pub calm : (before after : ℕ) (came : Type 0) → after ≡ before → ¬ came → Counts before after came
calm before after came e h = record { later = omega arith; rose = λ c. absurd (h c); stays = λ n. e }

-- what a count of faults did in a part that came to its end
pub stayed : (before after : ℕ) → Counts before after (Done ≡ ReadFault) → after ≡ before
stayed before after counts = counts.stays (λ (e : Done ≡ ReadFault). cc)

-- a run that has no text didn't fail to read
run-read : (refusal : Refusal) → IsRunRefusal refusal → status_of refusal ≡ ReadFault → ⊥
run-read (Unreadable which) cause e = absurd cause
run-read TooLarge cause e = absurd cause
run-read (Bad name line column) cause e = absurd cause
run-read Unwritable cause e = absurd cause
run-read OutOfMemory cause e = cc

pub run-calm : {T : Type 0} (before after : ℕ) (r : Result T Refusal) → after ≡ before → IfErr r IsRunRefusal → Counts before after (ending r ≡ ReadFault)
run-calm before after (Ok value) e cause = calm before after (Done ≡ ReadFault) e (λ (same : Done ≡ ReadFault). cc)
run-calm before after (Err refusal) e cause = calm before after (status_of refusal ≡ ReadFault) e (run-read refusal cause)
