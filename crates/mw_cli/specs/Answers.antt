-- What each status says of the call that it ends.
use Rattle.std.specs.Prelude.{ℕ, ◌+◌, ◌≡◌, ◌≤◌, ◌⊎◌, List, [], ◌++◌, length, map, Option, Some, None, option_map, slice_get, Result, Ok, Err, IfSome, IsSome, IsSomeAnd, IsTrue, Vec, String, string_bytes, codes, ⊤}
use Rattle.std.specs.Process.{exit_status}
use Rattle.std.specs.declared.process.ExitCode.{ExitCode}
use Rattle.mw_isa.specs.declared.event.End.{End}
use Rattle.mw_io.specs.Outside.{HostState, SinkState, Counts, Rose, RoseBy}
use Rattle.mw_cli.specs.declared.status.Status.{Status}
use Rattle.mw_cli.specs.declared.status.Status.TheVariants.{Done, Offence, Usage, ReadFault, WriteFault, ImageTooLarge, BadInput, NoMemory}
use Rattle.mw_words.specs.Grammar.{Order, order_of}
use Rattle.mw_cli.specs.Files.{Wanted, files_of, files_by}
use Rattle.mw_cli.specs.Verdict.{Output, IsOutput, Verdict, Writes, Refuses, MayEnd, MayGive, verdict_of}
use Rattle.mw_cli.specs.Outside.{Change, contents_of, AreContents, Opens, TookNothing, Took, TookFront, TookUnlessFault}
use Rattle.mw_cli.specs.Numbers.{number_of, ended}

-- a call: its words, the host, out and err
pub record Call : Type 0 where
  pub words : List (List ℕ)
  pub host : Change HostState
  pub out : Change SinkState
  pub err : Change SinkState

-- the line on err where the words are no order
abbrev pub usage_line : List ℕ
usage_line = codes "mw: usage: mw run IMAGE --cycles N [--script FILE] [--dump A:L] | asm SOURCE | dis IMAGE | gen SEED --cycles N\n"

-- the line on err for the file of this name, which isn't read
abbrev pub unread_line : List ℕ → List ℕ
unread_line name = codes "mw: cannot read " ++ name ++ codes "\n"

-- the line on err where a write to out failed
abbrev pub unwritten_line : List ℕ
unwritten_line = codes "mw: cannot write\n"

-- the line on err where memory is wanting
abbrev pub no_memory_line : List ℕ
no_memory_line = codes "mw: out of memory\n"

-- the order comes to this verdict, with what its files have where the host tells them, and else with some contents
abbrev pub ComesTo : Change HostState → Order → Verdict → Type 0
ComesTo host order verdict = (contents : List (List ℕ)) × AreContents host (files_of order) contents × (verdict_of order contents ≡ verdict)

-- the order comes to a text that is written, which is this one, and this is the end of the run that it is of, if it is of
-- one
abbrev pub Gives : Change HostState → Order → List ℕ → Option End → Type 0
Gives host order text end = (output : Output) × ComesTo host order (Writes output) × IsOutput output text end

-- out took what is ordered, and the status is that of the end of the run that the text is of
abbrev pub Written : Change HostState → Change SinkState → Order → Status → Type 0
Written host out order status = (text : List ℕ) × (end : Option End) × Gives host order text end × Took out text × (status ≡ ended end)

-- out took a front of what is ordered, and not all
abbrev pub CutShort : Change HostState → Change SinkState → Order → Type 0
CutShort host out order = (text : List ℕ) × (end : Option End) × Gives host order text end × TookFront out text

-- this is the name of the file that the order asked for last, and over a sound host the file isn't there
abbrev pub IsUnread : Change HostState → Order → List ℕ → Type 0
IsUnread host order name = (k : ℕ) × (option_map (λ file. file.name) (slice_get (files_of order) k) ≡ Some name) × RoseBy (k + 1) host.before.opened host.after.opened × (IsTrue host.before.is_sound → IsSomeAnd host.before.files (λ told. told name ≡ None))

-- the words are an order that has this
abbrev pub OnOrder : Call → (Order → Type 0) → Type 0
OnOrder call P = IsSomeAnd (order_of call.words) P

-- out took nothing, and err this line, or a front of it where a write to err failed
abbrev pub OnlyTold : Call → List ℕ → Type 0
OnlyTold call line = TookNothing call.out × TookUnlessFault call.err line

-- the words are an order that comes to this refusal, and only its line was told
abbrev pub Refused : Call → Status → Type 0
Refused call status = OnOrder call (λ order. (line : List ℕ) × ComesTo call.host order (Refuses status line) × OnlyTold call line)

-- the words are an order, out took what is ordered and err nothing, and the status is that of its end
abbrev pub Obeyed : Call → Status → Type 0
Obeyed call status = OnOrder call (λ order. Written call.host call.out order status) × TookNothing call.err

-- what a status says
abbrev pub Says : Call → Status → Type 0
Says call Done = Obeyed call Done
Says call Offence = Obeyed call Offence
Says call Usage = (order_of call.words ≡ None) × OnlyTold call usage_line
Says call ReadFault = OnOrder call (λ order. (name : List ℕ) × IsUnread call.host order name × OnlyTold call (unread_line name))
Says call WriteFault = OnOrder call (CutShort call.host call.out) × TookUnlessFault call.err unwritten_line
Says call ImageTooLarge = Refused call ImageTooLarge
Says call BadInput = Refused call BadInput
Says call NoMemory = (TookNothing call.out ⊎ (Rose call.out.before.wants call.out.after.wants × OnOrder call (CutShort call.host call.out))) × TookUnlessFault call.err no_memory_line

-- which counts rise with a status: the host's faults with ReadFault and no other, out's with WriteFault and no other,
-- and out's wants with no other than NoMemory
pub record Faults (host : Change HostState) (out : Change SinkState) (status : Status) : Type 0 where
  pub reads : Counts host.before.faults host.after.faults (status ≡ ReadFault)
  pub writes : Counts out.before.faults out.after.faults (status ≡ WriteFault)
  pub wants : ¬ (status ≡ NoMemory) → out.after.wants ≡ out.before.wants

-- the words are this order, and these are the host's files
abbrev pub Asks : Call → Order → (List ℕ → Option (List ℕ)) → Type 0
Asks call order told = (order_of call.words ≡ Some order) × (call.host.before.files ≡ Some told)

-- what the order comes to with what these files have
abbrev pub verdict_with : (List ℕ → Option (List ℕ)) → Order → Verdict
verdict_with told order = verdict_of order (contents_of told (files_of order))

-- each of the order's files is there
abbrev pub AreThere : (List ℕ → Option (List ℕ)) → Order → Type 0
AreThere told order = (k : ℕ) → IfSome (slice_get (files_of order) k) (λ file. IsSome (told file.name))

-- a call of the host failed, or memory is wanting
abbrev pub IsUnanswered : Call → Status → Type 0
IsUnanswered call status = ((status ≡ ReadFault) × Rose call.host.before.faults call.host.after.faults) ⊎ (status ≡ NoMemory)

-- what the program's main function answers, of its call and its status
pub record Answers (call : Call) (status : Status) : Type 0 where
  -- each status says why it comes, and what out and err took
  pub says : Says call status
  -- a status comes where its count rises
  pub faults : Faults call.host call.out status
  -- a refusal comes wherever the order comes to it, unless a call of the host failed or memory is wanting
  pub exactly : (order : Order) (told : List ℕ → Option (List ℕ)) (refused : Status) (line : List ℕ) → Asks call order told → verdict_with told order ≡ Refuses refused line → (status ≡ refused) ⊎ IsUnanswered call status
  -- any other order is done, or its run ends with an offence, where no call of the host and no write to out failed, unless
  -- memory is wanting
  pub complete : (order : Order) (told : List ℕ → Option (List ℕ)) (output : Output) → Asks call order told → verdict_with told order ≡ Writes output → ¬ (Rose call.host.before.faults call.host.after.faults) → ¬ (Rose call.out.before.faults call.out.after.faults) → MayEnd output status ⊎ (status ≡ NoMemory)
  -- over a sound host that has the files, and an out of which no write failed, what the order comes to is the answer,
  -- unless memory is wanting
  pub sound : (order : Order) (told : List ℕ → Option (List ℕ)) → Asks call order told → IsTrue call.host.before.is_sound → AreThere told order → ¬ (Rose call.out.before.faults call.out.after.faults) → MayGive (verdict_with told order) status ⊎ (status ≡ NoMemory)

-- how far a call that ends with this status goes through its files: some are opened, in order, and the others aren't
pub record GoesFar (status : Status) (opened others : List Wanted) : Type 0 where
  -- with Done, Offence and WriteFault the call goes to the last file
  pub to_last : (status ≡ Done) ⊎ ((status ≡ Offence) ⊎ (status ≡ WriteFault)) → others ≡ []
  -- with ImageTooLarge the call goes no further than to the first file
  pub no_further : status ≡ ImageTooLarge → length opened ≤ 1
  -- with any other status but NoMemory the call goes at least to the first file
  pub to_first : ¬ (status ≡ NoMemory) → opened ≡ [] → others ≡ []

-- a host goes through these files, so far as the status says
abbrev pub Goes : Change HostState → List Wanted → Status → Type 0
Goes host files status = (opened : List Wanted) × (others : List Wanted) × (files ≡ opened ++ others) × Opens host opened × GoesFar status opened others

-- a host that is asked for none of these files is left as it is
abbrev pub StaysWithout : Change HostState → List Wanted → Type 0
StaysWithout host files = files ≡ [] → host.after ≡ host.before

-- the call goes through the files that its words ask for, so far as its status says, and leaves the host as it is where
-- they ask for none
abbrev pub GoesThrough : Call → Status → Type 0
GoesThrough call status = Goes call.host (files_by call.words) status × StaysWithout call.host (files_by call.words)

-- these are the words that were given: any, where there was no memory for them
abbrev pub AreWords : {A B E : Type 0} → Result (Vec (String A) B) E → List (List ℕ) → Type 0
AreWords (Ok words) given = given ≡ map string_bytes words.items
AreWords (Err error) given = ⊤

-- the status answers the call, and tells how it went through its files
abbrev pub EndsAs : Call → Status → Type 0
EndsAs call status = Answers call status × GoesThrough call status

-- the process ends with the number of such a status
abbrev pub Ends : Call → ExitCode → Type 0
Ends call code = (status : Status) × EndsAs call status × (exit_status code ≡ number_of status)
