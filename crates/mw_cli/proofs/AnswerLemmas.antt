-- When each status comes, from what it says.
use Rattle.std.proofs.Common.{◌≡◌, ℕ, ◌⊎◌, inl, inr, List, Option, Some, None, IsSomeAnd, IfSome, IsSome, IsTrue, option_map, slice_get, refl, sym, ap, ◌∙◌, subst}
use Rattle.mw_isa.specs.declared.event.End.{End}
use Rattle.mw_io.specs.Outside.{HostState}
use Rattle.mw_cli.specs.declared.status.Status.{Status}
use Rattle.mw_cli.specs.declared.status.Status.TheVariants.{Done, Offence, Usage, ReadFault, WriteFault, ImageTooLarge, BadInput, NoMemory}
use Rattle.mw_words.specs.Grammar.{Order, order_of}
use Rattle.mw_cli.specs.Files.{Wanted, files_of}
use Rattle.mw_cli.specs.Verdict.{Output, TextOf, SummaryOf, Bytes, IsOutput, Verdict, Writes, Refuses, MayEnd, MayGive, verdict_of}
use Rattle.mw_cli.specs.Outside.{Change, contents_of}
use Rattle.mw_cli.specs.Numbers.{ended}
use Rattle.mw_cli.specs.Answers.{Call, ComesTo, Written, CutShort, Refused, Says, Faults, Asks, verdict_with, AreThere, Answers}
use Rattle.mw_cli.proofs.FileLemmas.{Files}

-- what some value has, the one value has
pub at_some : {A : Type 0} (o : Option A) (P : A → Type 0) (x : A) → o ≡ Some x → IsSomeAnd o P → P x
at_some o P x e h = subst (λ (v : Option _). IsSomeAnd v P) e h

-- words that are an order aren't without one
pub some_or_none : (o : Option Order) (order : Order) → o ≡ Some order → o ≡ None → ⊥
some_or_none o order some none = cc

-- what an order comes to is what it comes to with the files that the host tells
pub comes-told : (host : Change HostState) (order : Order) (told : List ℕ → Option (List ℕ)) (verdict : Verdict) → host.before.files ≡ Some told → ComesTo host order verdict → verdict_with told order ≡ verdict
comes-told host order told verdict files (contents, are, is) =
    let same : contents ≡ contents_of told (files_of order) = subst (λ (o : Files). IfSome o (λ t. contents ≡ contents_of t (files_of order))) files are in
    ap (verdict_of order) (sym same) ∙ is

-- what a status shows of the verdict: the verdict may have it, or it is that of a fault of the outside, or memory is wanting
abbrev pub Shows : Verdict → Status → Type 0
Shows verdict status = MayGive verdict status ⊎ ((status ≡ ReadFault) ⊎ (((status ≡ WriteFault) × ((output : Output) × (verdict ≡ Writes output))) ⊎ (status ≡ NoMemory)))

-- a refusal shows that the order comes to it
refused-shows : (call : Call) (status : Status) (order : Order) (told : List ℕ → Option (List ℕ)) → Asks call order told → Refused call status → Shows (verdict_with told order) status
refused-shows call status order told asks h =
    let (line, comes, only) = at_some (order_of call.words) _ order asks.0 h in
    inl (subst (λ (v : Verdict). MayGive v status) (sym (comes-told call.host order told (Refuses status line) asks.1 comes)) refl)

-- whatever is written, it may be done
done-may : (output : Output) → MayEnd output Done
done-may (TextOf run) = inl refl
done-may (SummaryOf order) = inl refl
done-may (Bytes bytes) = refl

-- where the status is that of an offence, what is written tells of a run
offence-may : (output : Output) (text : List ℕ) (end : Option End) → IsOutput output text end → Offence ≡ ended end → MayEnd output Offence
offence-may (TextOf run) text end is e = inr refl
offence-may (SummaryOf order) text end is e = inr refl
offence-may (Bytes bytes) text end (same, none) e = let done : Offence ≡ Done = e ∙ ap ended none in cc

-- what is written shows the verdict
written-shows : (call : Call) (status : Status) (order : Order) (told : List ℕ → Option (List ℕ)) (output : Output) → Asks call order told → ComesTo call.host order (Writes output) → MayEnd output status → Shows (verdict_with told order) status
written-shows call status order told output asks comes may =
    inl (subst (λ (v : Verdict). MayGive v status) (sym (comes-told call.host order told (Writes output) asks.1 comes)) may)

-- each status that says why it comes shows what the order comes to
shows : (call : Call) (status : Status) (order : Order) (told : List ℕ → Option (List ℕ)) → Asks call order told → Says call status → Shows (verdict_with told order) status
shows call Done order told asks says =
    let (text, end, (output, comes, is), took, ends) = at_some (order_of call.words) (λ (o : Order). Written call.host call.out o Done) order asks.0 says.0 in
    written-shows call Done order told output asks comes (done-may output)
shows call Offence order told asks says =
    let (text, end, (output, comes, is), took, ends) = at_some (order_of call.words) (λ (o : Order). Written call.host call.out o Offence) order asks.0 says.0 in
    written-shows call Offence order told output asks comes (offence-may output text end is ends)
shows call Usage order told asks says = absurd (some_or_none _ order asks.0 says.0)
shows call ReadFault order told asks says = inr (inl refl)
shows call WriteFault order told asks says =
    let (text, end, (output, comes, is), took) = at_some (order_of call.words) (CutShort call.host call.out) order asks.0 says.0 in
    inr (inr (inl (refl, (output, comes-told call.host order told (Writes output) asks.1 comes))))
shows call ImageTooLarge order told asks says = refused-shows call ImageTooLarge order told asks says
shows call BadInput order told asks says = refused-shows call BadInput order told asks says
shows call NoMemory order told asks says = inr (inr (inr refl))

-- what is written isn't refused
writes_or_refuses : (verdict : Verdict) (output : Output) (status : Status) (line : List ℕ) → verdict ≡ Writes output → verdict ≡ Refuses status line → ⊥
writes_or_refuses verdict output status line writes refuses = cc

-- the name of a file that is there isn't that of one that isn't
there_or_not : (o : Option Wanted) (told : List ℕ → Option (List ℕ)) (name : List ℕ) → option_map (λ (file : Wanted). file.name) o ≡ Some name → IfSome o (λ file. IsSome (told file.name)) → told name ≡ None → ⊥
there_or_not None told name e there absent = cc
there_or_not (Some file) told name e there absent =
    let same : file.name ≡ name = cc in
    let found : IsSome (told name) = subst (λ (n : List ℕ). IsSome (told n)) same there in
    cc

-- over a sound host that has the files, no file is left unread
all-there : (call : Call) (order : Order) (told : List ℕ → Option (List ℕ)) → Asks call order told → IsTrue call.host.before.is_sound → AreThere told order → Says call ReadFault → ⊥
all-there call order told asks sound there says =
    let (name, (k, named, opened, absent), only) = at_some (order_of call.words) _ order asks.0 says in
    there_or_not (slice_get (files_of order) k) told name named (there k) (at_some call.host.before.files (λ t. t name ≡ None) told asks.1 (absent sound))

-- what each status says is what the program's main function answers
pub answers : (call : Call) (status : Status) → Says call status → Faults call.host call.out status → Answers call status
answers call status says faults = record {
  says = says;
  faults = faults;
  exactly = λ order told refused line asks comes. elim (shows call status order told asks says) [
    | inl may ↦ inl (subst (λ (v : Verdict). MayGive v status) comes may)
    | inr (inl e) ↦ inr (inl (e, faults.reads.rose e))
    | inr (inr (inl (e, (output, writes)))) ↦ absurd (writes_or_refuses _ output refused line writes comes)
    | inr (inr (inr e)) ↦ inr (inr e)
  ];
  complete = λ order told output asks comes host out. elim (shows call status order told asks says) [
    | inl may ↦ inl (subst (λ (v : Verdict). MayGive v status) comes may)
    | inr (inl e) ↦ absurd (host (faults.reads.rose e))
    | inr (inr (inl (e, writes))) ↦ absurd (out (faults.writes.rose e))
    | inr (inr (inr e)) ↦ inr e
  ];
  sound = λ order told asks sound there out. elim (shows call status order told asks says) [
    | inl may ↦ inl may
    | inr (inl e) ↦ absurd (all-there call order told asks sound there (subst (Says call) e says))
    | inr (inr (inl (e, writes))) ↦ absurd (out (faults.writes.rose e))
    | inr (inr (inr e)) ↦ inr e
  ];
}
