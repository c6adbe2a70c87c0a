-- Where a run stops.
use Rattle.std.specs.Prelude.{ℕ, ◌≡◌, ◌<◌}
use Rattle.mw_isa.specs.declared.event.End.{End}
use Rattle.mw_isa.specs.declared.event.End.TheVariants.{Ran, Offence}

-- the cycle at which a run of this end stops: the last state's
abbrev pub stop_of : End → ℕ
stop_of (Ran cycle) = cycle
stop_of (Offence cycle access) = cycle

-- a run that is asked for n cycles may end so: one that ran stops at n, and one that met an offence below n
abbrev pub StopsBy : ℕ → End → Type 0
StopsBy n (Ran cycle) = cycle ≡ n
StopsBy n (Offence cycle access) = cycle < n
