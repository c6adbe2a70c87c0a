-- The status of an order that was carried out: Done, or that of an offence.
use Rattle.std.proofs.Common.{◌≡◌, ℕ, ◌<◌, Option, Some, None, ap}
use Rattle.mw_isa.specs.declared.event.End.{End}
use Rattle.mw_isa.specs.declared.event.End.TheVariants.{Ran, Offence as Offended}
use Rattle.mw_isa.specs.declared.offence.Access.{Access}
use Rattle.mw_isa.specs.Stops.{StopsBy}
use Rattle.mw_cli.specs.declared.status.Status.{Status}
use Rattle.mw_cli.specs.declared.status.Status.TheVariants.{Done, Offence}
use Rattle.mw_cli.specs.Numbers.{ended}

-- it is no other one
pub ended-other : (end : Option End) (status : Status) → ¬ (Done ≡ status) → ¬ (Offence ≡ status) → ended end ≡ status → ⊥
ended-other None status done offence e = done e
ended-other (Some (Ran cycle)) status done offence e = done e
ended-other (Some (Offended cycle access)) status done offence e = offence e

-- with Done a run of n cycles ran to n
pub ran-to : (n : ℕ) (end : End) → StopsBy n end → Done ≡ ended (Some end) → end ≡ Ran n
ran-to n (Ran cycle) stops e = ap Ran stops
ran-to n (Offended cycle access) stops e = cc

-- the end is an offence below n
abbrev pub OffendsBelow : ℕ → Option End → Type 0
OffendsBelow n end = (cycle : ℕ) × (access : Access) × (end ≡ Some (Offended cycle access)) × (cycle < n)

-- with Offence a run of n cycles ended with one
pub offended : (n : ℕ) (all : Option End) (end : End) → all ≡ Some end → StopsBy n end → Offence ≡ ended (Some end) → OffendsBelow n all
offended n all (Ran cycle) is stops e = cc
offended n all (Offended cycle access) is stops e = (cycle, access, is, stops)
