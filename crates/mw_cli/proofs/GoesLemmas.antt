-- How far a host goes through the files of an order.
use Rattle.std.proofs.Common.{◌≡◌, ℕ, ◌≤◌, inl, inr, List, [], ◌∷◌, length, Option, Some, Result, Ok, Err, IfErr, IfSome, refl, sym, ◌∙◌, subst, arith, append-nil}
use Rattle.std.specs.Option.{option_map_or}
use Rattle.mw_isa.specs.declared.event.End.{End}
use Rattle.mw_io.specs.Outside.{HostState, RoseBy, IsReadOn, content_of}
use Rattle.mw_cli.specs.declared.status.Status.{Status}
use Rattle.mw_cli.specs.declared.status.Status.TheVariants.{Done, Offence, ImageTooLarge, NoMemory}
use Rattle.mw_cli.specs.declared.refusal.Refusal.{Refusal}
use Rattle.mw_cli.specs.declared.refusal.Refusal.TheVariants.{Unreadable, Unwritable, TooLarge, Bad, OutOfMemory}
use Rattle.mw_uart.specs.Script.{text_limit}
use Rattle.mw_words.specs.Grammar.{Order, order_of}
use Rattle.mw_cli.specs.Files.{Wanted, script_files, files_of, files_by}
use Rattle.mw_cli.specs.Numbers.{status_of, ended}
use Rattle.mw_cli.specs.Outside.{Change, change, Opens, IsLeft, reach}
use Rattle.mw_cli.specs.Answers.{Goes, StaysWithout}
use Rattle.mw_cli.specs.Stages.{ending, IsRunRefusal, IsScriptRefusal}
use Rattle.mw_cli.proofs.FileLemmas.{Files}
use Rattle.mw_cli.proofs.EndLemmas.{ended-other}

-- a host that opened no file
pub opens-none : (host : HostState) → Opens (change host host) []
opens-none host = record {
  opened = (omega arith, omega arith);
  given = omega arith;
  left = tt;
}

-- a host that opened all files went as far as the status says, if with ImageTooLarge there is one file at most
pub goes-all : (host : Change HostState) (files : List Wanted) (status : Status) → Opens host files → (status ≡ ImageTooLarge → length files ≤ 1) → Goes host files status
goes-all host files status opens short = (
  files,
  [],
  sym (append-nil files),
  opens,
  record {
    to_last = λ e. refl;
    no_further = short;
    to_first = λ n e. refl;
  },
)

-- a host that went as far as Done says went as far as any other status but ImageTooLarge says
goes-on : (host : Change HostState) (files : List Wanted) (status : Status) → (status ≡ ImageTooLarge → ⊥) → Goes host files Done → Goes host files status
goes-on host files status other (opened, others, is, opens, far) = (
  opened,
  others,
  is,
  opens,
  record {
    to_last = λ e. far.to_last (inl refl);
    no_further = λ e. absurd (other e);
    to_first = λ n e. far.to_last (inl refl);
  },
)

-- a run that has no text isn't one of an image that is too long
run-other : (refusal : Refusal) → IsRunRefusal refusal → status_of refusal ≡ ImageTooLarge → ⊥
run-other (Unreadable which) cause e = absurd cause
run-other TooLarge cause e = absurd cause
run-other (Bad name line column) cause e = absurd cause
run-other Unwritable cause e = absurd cause
run-other OutOfMemory cause e = cc

pub goes-run : {T : Type 0} (host : Change HostState) (files : List Wanted) (r : Result T Refusal) → IfErr r IsRunRefusal → Goes host files Done → Goes host files (ending r)
goes-run host files (Ok value) cause goes = goes
goes-run host files (Err refusal) cause goes = goes-on host files (status_of refusal) (run-other refusal cause) goes

-- an order that was carried out, whatever the end of its run
pub goes-ended : (host : Change HostState) (files : List Wanted) (end : Option End) (status : Status) → status ≡ ended end → Goes host files Done → Goes host files status
goes-ended host files end status is goes =
    goes-on host files status (λ e. ended-other end ImageTooLarge (λ (d : Done ≡ ImageTooLarge). cc) (λ (o : Offence ≡ ImageTooLarge). cc) (sym is ∙ e)) goes

-- a script that isn't there isn't refused as ImageTooLarge
pub script-other : (host : Change HostState) (name : List ℕ) (refusal : Refusal) → IsScriptRefusal host name refusal → status_of refusal ≡ ImageTooLarge → ⊥
script-other host name (Unreadable which) cause e = cc
script-other host name TooLarge cause e = absurd cause
script-other host name (Bad which line column) cause e = cc
script-other host name Unwritable cause e = absurd cause
script-other host name OutOfMemory cause e = cc

-- Done isn't ImageTooLarge
pub done-other : Done ≡ ImageTooLarge → ⊥
done-other e = cc

-- what is left of a file, by files that are the same
left-since : (before middle after : HostState) (file : Wanted) → middle.files ≡ before.files → IsLeft (change middle after) file → IsLeft (change before after) file
left-since before middle after file same left = λ is. subst (λ (f : Files). IfSome f (λ told. IsReadOn (reach file) (content_of told file.name) after.rest)) same (left is)

-- a count that rose by one and by one
pub rose-twice : (before middle after : ℕ) → RoseBy 1 before middle → RoseBy 1 middle after → RoseBy 2 before after
rose-twice before middle after first second =
    let up = first.0 in
    let more = second.0 in
    let least = first.1 in
    let last = second.1 in
    (omega arith, omega arith)

-- one file and then another
pub opens-both : (before middle after : HostState) (file other : Wanted) → middle.files ≡ before.files → Opens (change before middle) (file ∷ []) → Opens (change middle after) (other ∷ []) → Opens (change before after) (file ∷ other ∷ [])
opens-both before middle after file other same first second =
    let given = first.given in
    let more = second.given in
    record {
      opened = rose-twice before.opened middle.opened after.opened first.opened second.opened;
      given = omega arith;
      left = left-since before middle after other same second.left;
    }

-- an image and then its script
pub goes-both : (before middle after : HostState) (image : Wanted) (named : Option (List ℕ)) (name : List ℕ) (status : Status) → named ≡ Some name → middle.files ≡ before.files → (status ≡ ImageTooLarge → ⊥) → Opens (change before middle) (image ∷ []) → Opens (change middle after) (record { name = name; most = text_limit } ∷ []) → Goes (change before after) (image ∷ script_files named) status
goes-both before middle after image named name status e same other first second =
    subst (λ (n : Option (List ℕ)). Goes (change before after) (image ∷ script_files n) status) (sym e)
    (goes-all (change before after) (image ∷ record { name = name; most = text_limit } ∷ []) status (opens-both before middle after image (record { name = name; most = text_limit }) same first second) (λ s. absurd (other s)))

-- a call that ends before it opens a file, for want of memory
pub goes-nowhere : (host : HostState) (files : List Wanted) → Goes (change host host) files NoMemory
goes-nowhere host files = (
  [],
  files,
  refl,
  opens-none host,
  record {
    to_last = λ e. elim e [ inl d ↦ cc | inr e ↦ elim e [ inl o ↦ cc | inr w ↦ cc ] ];
    no_further = λ e. cc;
    to_first = λ n e. absurd (n refl);
  },
)

-- an order without a file
pub goes-without : {T : Type 0} (host : HostState) (r : Result T Refusal) → IfErr r IsRunRefusal → Goes (change host host) [] (ending r)
goes-without host r cause = goes-run (change host host) [] r cause (goes-all (change host host) [] Done (opens-none host) (λ e. absurd (done-other e)))

-- the host stays where the words' order asks for no file
pub stays-by : (host : Change HostState) (words : List (List ℕ)) (order : Order) → order_of words ≡ Some order → StaysWithout host (files_of order) → StaysWithout host (files_by words)
stays-by host words order e stays = subst (λ (o : Option Order). StaysWithout host (option_map_or files_of o [])) (sym e) stays

-- the files of the words' order
pub goes-by : (host : Change HostState) (words : List (List ℕ)) (order : Order) (status result : Status) → order_of words ≡ Some order → result ≡ status → Goes host (files_of order) status → Goes host (files_by words) result
goes-by host words order status result e s goes =
    subst (λ (o : Option Order). Goes host (option_map_or files_of o []) result) (sym e) (subst (Goes host (files_of order)) (sym s) goes)
