-- The numbers of the statuses, and the status of each end and of each refusal.
use Rattle.std.specs.Prelude.{ℕ, Option, Some, None}
use Rattle.mw_isa.specs.declared.event.End.{End}
use Rattle.mw_isa.specs.declared.event.End.TheVariants.{Ran, Offence as Offended}
use Rattle.mw_cli.specs.declared.status.Status.{Status}
use Rattle.mw_cli.specs.declared.status.Status.TheVariants.{Done, Offence, Usage, ReadFault, WriteFault, ImageTooLarge, BadInput, NoMemory}
use Rattle.mw_cli.specs.declared.refusal.Refusal.{Refusal}
use Rattle.mw_cli.specs.declared.refusal.Refusal.TheVariants.{Unreadable, Unwritable, TooLarge, Bad, OutOfMemory}

-- the number that the process ends with; no status has 8
abbrev pub number_of : Status → ℕ
number_of Done = 0
number_of Offence = 1
number_of Usage = 2
number_of ReadFault = 3
number_of WriteFault = 4
number_of ImageTooLarge = 5
number_of BadInput = 6
number_of NoMemory = 7

-- the status of an order that was carried out, by the end of its run, if it is a run
abbrev pub ended : Option End → Status
ended None = Done
ended (Some (Ran cycle)) = Done
ended (Some (Offended cycle access)) = Offence

-- the status of a refusal
abbrev pub status_of : Refusal → Status
status_of (Unreadable name) = ReadFault
status_of TooLarge = ImageTooLarge
status_of (Bad name line column) = BadInput
status_of Unwritable = WriteFault
status_of OutOfMemory = NoMemory
