-- No refusal and no offence can be answered at every call: the contract itself excludes a program that always gives one of
-- them.
use Rattle.std.proofs.Common.{◌≡◌, ℕ, ◌<◌, ◌≤◌, List, length, Option, Some, None, Ok, IfSome, ap, subst, ◌∙◌, arith}
use Rattle.mw_io.specs.Outside.{HostState, Rose, content_of}
use Rattle.mw_asm.specs.Assembled.{assembled}
use Rattle.mw_uart.specs.Script.{script_of}
use Rattle.mw_cli.specs.declared.status.Status.TheVariants.{Offence, Usage, ReadFault, WriteFault, ImageTooLarge, BadInput}
use Rattle.mw_words.specs.Grammar.{RunOrder, Order, Run, Assemble, Disassemble, order_of}
use Rattle.mw_cli.specs.Outside.{Change}
use Rattle.mw_cli.specs.Answers.{Call, Asks, Answers}
use Rattle.mw_cli.specs.Stages.{IsContent, IsTooLong}
use Rattle.mw_cli.proofs.FileLemmas.{Files}
use Rattle.mw_cli.proofs.AnswerLemmas.{some_or_none}
use Rattle.mw_cli.proofs.EachStatus.{offence-run, usage, read-fault, write-fault, too-large, too-large-disassembly, bad-input, bad-run, bad-disassembly}

-- Offence isn't answered where a run of no cycles is asked for
pub never-offence : (call : Call) (order : RunOrder) → order_of call.words ≡ Some (Run order) → order.cycles ≡ 0 → Answers call Offence → ⊥
never-offence call order asked none a =
    let (image, script, text, start, spells, took, (cycle, access, is, below)) = offence-run call order asked a in
    let early : cycle < order.cycles = below in
    omega arith

-- Usage isn't answered where the words are an order
pub never-usage : (call : Call) (order : Order) → order_of call.words ≡ Some order → Answers call Usage → ⊥
never-usage call order asked a = some_or_none (order_of call.words) order asked (usage call a)

-- ReadFault isn't answered where no call of the host failed
pub never-read-fault : (call : Call) → ¬ (Rose call.host.before.faults call.host.after.faults) → Answers call ReadFault → ⊥
never-read-fault call calm a = calm (read-fault call a)

-- WriteFault isn't answered where no write to out failed
pub never-write-fault : (call : Call) → ¬ (Rose call.out.before.faults call.out.after.faults) → Answers call WriteFault → ⊥
never-write-fault call calm a = calm (write-fault call a)

-- the content of a file of a host that tells its files
told-content : (host : Change HostState) (name bytes : List ℕ) (told : List ℕ → Option (List ℕ)) → host.before.files ≡ Some told → IsContent host name bytes → bytes ≡ content_of told name
told-content host name bytes told files is = subst (λ (o : Files). IfSome o (λ t. bytes ≡ content_of t name)) files is

-- a file that fits isn't too long
not-long : (host : Change HostState) (name : List ℕ) (told : List ℕ → Option (List ℕ)) → host.before.files ≡ Some told → length (content_of told name) ≤ 16777216 → IsTooLong host name → ⊥
not-long host name told files short (image, is, long) =
    let same : length image ≡ length (content_of told name) = ap length (told-content host name image told files is) in
    omega arith

-- ImageTooLarge isn't answered where the file of a run fits RAM
pub never-too-large : (call : Call) (order : RunOrder) (told : List ℕ → Option (List ℕ)) → Asks call (Run order) told → length (content_of told order.image) ≤ 16777216 → Answers call ImageTooLarge → ⊥
never-too-large call order told asks short a = not-long call.host order.image told asks.1 short (too-large call order asks.0 a)

-- ImageTooLarge isn't answered where the file of a disassembly fits RAM
pub never-too-large-disassembly : (call : Call) (image : List ℕ) (told : List ℕ → Option (List ℕ)) → Asks call (Disassemble image) told → length (content_of told image) ≤ 16777216 → Answers call ImageTooLarge → ⊥
never-too-large-disassembly call image told asks short a = not-long call.host image told asks.1 short (too-large-disassembly call image asks.0 a)

-- BadInput isn't answered where the words ask for a run without a script
pub never-bad-run : (call : Call) (order : RunOrder) → order_of call.words ≡ Some (Run order) → order.script ≡ None → Answers call BadInput → ⊥
never-bad-run call order asked none a = let (name, place, named, bad) = bad-run call order asked a in cc

-- BadInput isn't answered where the script of a run is read
pub never-bad-script : (call : Call) (order : RunOrder) (told : List ℕ → Option (List ℕ)) (name : List ℕ) (script : List (ℕ × ℕ)) → Asks call (Run order) told → order.script ≡ Some name → script_of (content_of told name) ≡ Ok script → Answers call BadInput → ⊥
never-bad-script call order told name script asks named ok a =
    let (other, place, same, (text, content, bad)) = bad-run call order asks.0 a in
    let one : other ≡ name = cc in
    let is : text ≡ content_of told name = told-content call.host other text told asks.1 content ∙ ap (content_of told) one in
    let read : script_of text ≡ Ok script = ap script_of is ∙ ok in
    cc

-- BadInput isn't answered where the words ask for a disassembly
pub never-bad-disassembly : (call : Call) (image : List ℕ) → order_of call.words ≡ Some (Disassemble image) → Answers call BadInput → ⊥
never-bad-disassembly call image asked a = bad-disassembly call image asked a

-- BadInput isn't answered where the source has bytes
pub never-bad-input : (call : Call) (name : List ℕ) (told : List ℕ → Option (List ℕ)) (bytes : List ℕ) → Asks call (Assemble name) told → assembled (content_of told name) ≡ Ok bytes → Answers call BadInput → ⊥
never-bad-input call name told bytes asks ok a =
    let (source, place, content, bad) = bad-input call name asks.0 a in
    let same : assembled source ≡ Ok bytes = ap assembled (told-content call.host name source told asks.1 content) ∙ ok in
    cc
