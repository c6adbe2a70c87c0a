-- What the parts of a call say, each of its own refusals.
use Rattle.std.specs.Prelude.{ℕ, ◌+◌, ◌≡◌, ◌<◌, ◌≤◌, ◌⊎◌, List, [], length, take, Option, Some, None, Result, Ok, Err, IfSome, IsSomeAnd, IsTrue, ⊤}
use Rattle.mw_bus.specs.Memory.{ram_size}
use Rattle.mw_io.specs.Outside.{HostState, SinkState, Rose, content_of}
use Rattle.mw_uart.specs.Script.{script_of}
use Rattle.mw_cli.specs.declared.status.Status.{Status}
use Rattle.mw_cli.specs.declared.status.Status.TheVariants.{Done}
use Rattle.mw_cli.specs.declared.refusal.Refusal.{Refusal}
use Rattle.mw_cli.specs.declared.refusal.Refusal.TheVariants.{Unreadable, Unwritable, TooLarge, Bad, OutOfMemory}
use Rattle.mw_words.specs.Grammar.{RunOrder, Order}
use Rattle.mw_cli.specs.Files.{Wanted}
use Rattle.mw_cli.specs.Verdict.{Refuses, too_large_line, bad_line}
use Rattle.mw_cli.specs.Outside.{Change, TookNothing, TookFront}
use Rattle.mw_cli.specs.Answers.{ComesTo, CutShort, IsUnread, unread_line, unwritten_line, no_memory_line}
use Rattle.mw_cli.specs.Numbers.{status_of}

-- the line on err for a refusal
abbrev pub line_of : Refusal → List ℕ
line_of (Unreadable name) = unread_line name.now
line_of TooLarge = too_large_line
line_of (Bad name line column) = bad_line name.now line column
line_of Unwritable = unwritten_line
line_of OutOfMemory = no_memory_line

-- the status that a part of a call comes to
abbrev pub ending : {T : Type 0} → Result T Refusal → Status
ending (Ok value) = Done
ending (Err refusal) = status_of refusal

-- the status that a call comes to whose order was carried out with one, or refused
abbrev pub final : Result Status Refusal → Status
final (Ok status) = status
final (Err refusal) = status_of refusal

-- these are the bytes of the file of this name, where the host tells its files
abbrev pub IsContent : Change HostState → List ℕ → List ℕ → Type 0
IsContent host name bytes = IfSome host.before.files (λ told. bytes ≡ content_of told name)

-- these are the first bytes of the file up to one more than it may have, where the host tells its files
abbrev pub IsFront : Change HostState → Wanted → List ℕ → Type 0
IsFront host file bytes = IfSome host.before.files (λ told. bytes ≡ take (file.most + 1) (content_of told file.name))

-- over a sound host the file of this name isn't there
abbrev pub IsAbsent : Change HostState → List ℕ → Type 0
IsAbsent host name = IsTrue host.before.is_sound → IsSomeAnd host.before.files (λ told. told name ≡ None)

-- why a file isn't read
abbrev pub IsReadRefusal : Change HostState → List ℕ → Refusal → Type 0
IsReadRefusal host name (Unreadable which) = (which.now ≡ name) × IsAbsent host name
IsReadRefusal host name OutOfMemory = ⊤
IsReadRefusal host name refusal = ⊥

-- the image of this name is longer than RAM
abbrev pub IsTooLong : Change HostState → List ℕ → Type 0
IsTooLong host name = (image : List ℕ) × IsContent host name image × (ram_size < length image)

-- why an image isn't there
abbrev pub IsLoadRefusal : Change HostState → List ℕ → Refusal → Type 0
IsLoadRefusal host name TooLarge = IsTooLong host name
IsLoadRefusal host name refusal = IsReadRefusal host name refusal

-- why the text of the script of this name gives no script
abbrev pub IsTextRefusal : List ℕ → List ℕ → Refusal → Type 0
IsTextRefusal name text (Bad which line column) = (which.now ≡ name) × (script_of text ≡ Err (record { line = line; column = column }))
IsTextRefusal name text OutOfMemory = ⊤
IsTextRefusal name text refusal = ⊥

-- this is the script of this name, where the host tells its files, or that of some text
abbrev pub IsScript : Change HostState → List ℕ → List (ℕ × ℕ) → Type 0
IsScript host name script = (text : List ℕ) × IsContent host name text × (script_of text ≡ Ok script)

-- the text of the script of this name is refused at this place
abbrev pub IsBadScript : Change HostState → List ℕ → ℕ → ℕ → Type 0
IsBadScript host name line column = (text : List ℕ) × IsContent host name text × (script_of text ≡ Err (record { line = line; column = column }))

-- this is the script that an order has: that of the file that it names, and none where it names none
abbrev pub IsScriptOf : Change HostState → Option (List ℕ) → List (ℕ × ℕ) → Type 0
IsScriptOf host None script = script_of [] ≡ Ok script
IsScriptOf host (Some name) script = IsScript host name script

-- this is what the board is started with for a run
pub record IsStart (host : Change HostState) (order : RunOrder) (image : List ℕ) (script : List (ℕ × ℕ)) : Type 0 where
  pub image_is : IsContent host order.image image
  pub image_fits : length image ≤ ram_size
  pub script_is : IsScriptOf host order.script script

-- why a script isn't there
abbrev pub IsScriptRefusal : Change HostState → List ℕ → Refusal → Type 0
IsScriptRefusal host name (Bad which line column) = (which.now ≡ name) × IsBadScript host name line column
IsScriptRefusal host name refusal = IsReadRefusal host name refusal

-- why there is no text of a run: memory is wanting, and nothing else
abbrev pub IsRunRefusal : Refusal → Type 0
IsRunRefusal OutOfMemory = ⊤
IsRunRefusal refusal = ⊥

-- why an order gives nothing to write: a file isn't read, memory is wanting, or the order comes to the refusal
abbrev pub GivesNothing : Change HostState → Order → Refusal → Type 0
GivesNothing host order (Unreadable name) = IsUnread host order name.now
GivesNothing host order OutOfMemory = ⊤
GivesNothing host order Unwritable = ⊥
GivesNothing host order refusal = ComesTo host order (Refuses (status_of refusal) (line_of refusal))

-- why a text isn't written, and what the sink took of it
abbrev pub IsWriteRefusal : Change SinkState → List ℕ → Refusal → Type 0
IsWriteRefusal sink text Unwritable = TookFront sink text
IsWriteRefusal sink text OutOfMemory = Rose sink.before.wants sink.after.wants × TookFront sink text
IsWriteRefusal sink text refusal = ⊥

-- why an order was refused, and what out took then
abbrev pub HasCause : Change HostState → Change SinkState → Order → Refusal → Type 0
HasCause host out order Unwritable = CutShort host out order
HasCause host out order OutOfMemory = TookNothing out ⊎ (Rose out.before.wants out.after.wants × CutShort host out order)
HasCause host out order refusal = GivesNothing host order refusal × TookNothing out
