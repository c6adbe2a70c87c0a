-- Why an order was refused, from the part that refused it, and what its status says.
use Rattle.std.proofs.Common.{◌≡◌, ℕ, Option, Some, None, IsSomeAnd, inl, inr, refl, sym, ◌∙◌, subst}
use Rattle.mw_isa.specs.declared.event.End.{End}
use Rattle.mw_isa.specs.declared.event.End.TheVariants.{Ran, Offence as Offended}
use Rattle.mw_io.specs.Outside.{HostState, SinkState, Counts}
use Rattle.mw_cli.specs.declared.status.Status.{Status}
use Rattle.mw_cli.specs.declared.status.Status.TheVariants.{Done, Offence, ReadFault, WriteFault, NoMemory}
use Rattle.mw_cli.specs.declared.refusal.Refusal.{Refusal}
use Rattle.mw_cli.specs.declared.refusal.Refusal.TheVariants.{Unreadable, Unwritable, TooLarge, Bad, OutOfMemory}
use Rattle.mw_words.specs.Grammar.{Order, order_of}
use Rattle.mw_cli.specs.Outside.{Change, change, TookNothing, TookUnlessFault}
use Rattle.mw_cli.specs.Numbers.{status_of, ended}
use Rattle.mw_cli.specs.Answers.{Call, OnOrder, Written, Obeyed, Says, Faults}
use Rattle.mw_cli.specs.Stages.{line_of, GivesNothing, HasCause}
use Rattle.mw_cli.proofs.EndLemmas.{ended-other}
use Rattle.mw_cli.proofs.VerdictLemmas.{calm}

-- an order that gives nothing to write
pub nothing-cause : (host : Change HostState) (out : Change SinkState) (order : Order) (refusal : Refusal) → TookNothing out → GivesNothing host order refusal → HasCause host out order refusal
nothing-cause host out order (Unreadable name) silent cause = (cause, silent)
nothing-cause host out order TooLarge silent cause = (cause, silent)
nothing-cause host out order (Bad name line column) silent cause = (cause, silent)
nothing-cause host out order Unwritable silent cause = absurd cause
nothing-cause host out order OutOfMemory silent cause = inl silent

-- with nothing to write, no write failed
nothing-written : (host : Change HostState) (order : Order) (refusal : Refusal) → GivesNothing host order refusal → status_of refusal ≡ WriteFault → ⊥
nothing-written host order (Unreadable name) cause e = cc
nothing-written host order TooLarge cause e = cc
nothing-written host order (Bad name line column) cause e = cc
nothing-written host order Unwritable cause e = absurd cause
nothing-written host order OutOfMemory cause e = cc

-- the counts, where there is nothing to write
pub nothing-faults : (host : Change HostState) (s : SinkState) (order : Order) (refusal : Refusal) → Counts host.before.faults host.after.faults (status_of refusal ≡ ReadFault) → GivesNothing host order refusal → Faults host (change s s) (status_of refusal)
nothing-faults host s order refusal reads cause = record {
  reads = reads;
  writes = calm s.faults s.faults (status_of refusal ≡ WriteFault) refl (nothing-written host order refusal cause);
  wants = λ h. refl;
}

-- the counts, where the order was carried out
pub ended-faults : (host : Change HostState) (out : Change SinkState) (end : Option End) (status : Status) → status ≡ ended end → host.after.faults ≡ host.before.faults → out.after.faults ≡ out.before.faults → out.after.wants ≡ out.before.wants → Faults host out status
ended-faults host out end status is reads writes wants = record {
  reads = calm host.before.faults host.after.faults (status ≡ ReadFault) reads (λ e. ended-other end ReadFault (λ (d : Done ≡ ReadFault). cc) (λ (o : Offence ≡ ReadFault). cc) (sym is ∙ e));
  writes = calm out.before.faults out.after.faults (status ≡ WriteFault) writes (λ e. ended-other end WriteFault (λ (d : Done ≡ WriteFault). cc) (λ (o : Offence ≡ WriteFault). cc) (sym is ∙ e));
  wants = λ h. wants;
}

-- what out's counts did where all was written
pub unwritten : (before after : ℕ) → Counts before after (Done ≡ WriteFault) → after ≡ before
unwritten before after counts = counts.stays (λ (e : Done ≡ WriteFault). cc)

pub unwanted : (before after : ℕ) → Counts before after (Done ≡ NoMemory) → after ≡ before
unwanted before after counts = counts.stays (λ (e : Done ≡ NoMemory). cc)

-- what some order has, the words' order has
on-order : (call : Call) (order : Order) (P : Order → Type 0) → order_of call.words ≡ Some order → P order → OnOrder call P
on-order call order P e h = subst (λ (o : Option Order). IsSomeAnd o P) (sym e) h

-- the status of a refusal says it
pub says-refused : (call : Call) (order : Order) (refusal : Refusal) → order_of call.words ≡ Some order → HasCause call.host call.out order refusal → TookUnlessFault call.err (line_of refusal) → Says call (status_of refusal)
says-refused call order (Unreadable name) e (cause, silent) told = on-order call order _ e (name.now, cause, (silent, told))
says-refused call order TooLarge e (cause, silent) told = on-order call order _ e (line_of TooLarge, cause, (silent, told))
says-refused call order (Bad name line column) e (cause, silent) told = on-order call order _ e (line_of (Bad name line column), cause, (silent, told))
says-refused call order Unwritable e cause told = (on-order call order _ e cause, told)
says-refused call order OutOfMemory e (inl silent) told = (inl silent, told)
says-refused call order OutOfMemory e (inr (rose, cut)) told = (inr (rose, on-order call order _ e cut), told)

-- the status of an order that was carried out says it
says-ended : (call : Call) (end : Option End) → Obeyed call (ended end) → Says call (ended end)
says-ended call None h = h
says-ended call (Some (Ran cycle)) h = h
says-ended call (Some (Offended cycle access)) h = h

pub says-written : (call : Call) (order : Order) (status : Status) → order_of call.words ≡ Some order → TookNothing call.err → Written call.host call.out order status → Says call status
says-written call order status e silent (text, end, gives, took, is) =
    subst (Says call) (sym is)
    (says-ended call end (on-order call order (λ (o : Order). Written call.host call.out o (ended end)) e (text, end, gives, took, refl), silent))
