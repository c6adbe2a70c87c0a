-- The headline:
--
-- Want of memory and faults of the outside apart, every image that fits RAM runs under every script, wait pattern and
-- number of cycles up to 4,000,000; its events, registers, memory and UART bytes are those of the sequential Power
-- machine at the printed cycles; nothing retires while an enabled interrupt is pending; no 8,192 successive cycles are
-- without an event; a run that breaks the update discipline stops at its first offending access, and all this holds
-- until there.
--
-- Below is what of it is built: image, script, number of cycles, events, registers, memory, UART bytes, interrupts, the
-- 8,192 cycles, and the update discipline. Waits aren't built yet.
use Rattle.std.specs.Prelude.{ℕ, ◌≡◌, ◌≤◌, ◌<◌, List, length, Some, All}
use Rattle.std.specs.List.Sorted.{IsStrictlyIncreasing}
use Rattle.mw_bus.specs.Memory.{ram_size}
use Rattle.mw_isa.specs.declared.event.Event.{Event}
use Rattle.mw_isa.specs.declared.event.End.{End}
use Rattle.mw_isa.specs.State.{State}
use Rattle.mw_isa.specs.Start.{Boot, start}
use Rattle.mw_isa.specs.Replay.{cycles_of, state_after}
use Rattle.mw_isa.specs.Stops.{stop_of, StopsBy}
use Rattle.mw_isa.specs.Prompt.{IsPrompt}
use Rattle.mw_isa.specs.Lively.{IsLively}
use Rattle.mw_isa.specs.Discipline.{nothing_kept}
use Rattle.mw_isa.specs.Disciplined.{IsDisciplined, OffendsBy, kept_after}

-- the events are a run of this boot for n cycles, with this end and last state
pub record Runs (boot : Boot) (n : ℕ) (events : List Event) (end : End) (last : State) : Type 0 where
  -- the image fits RAM
  pub fits : length boot.image ≤ ram_size
  -- the run stops where its end says: at n, if it ran
  pub stops : StopsBy n end
  -- the cycles of the events rise
  pub rising : IsStrictlyIncreasing (cycles_of events)
  -- the cycles of the events are below the stop
  pub below : All (λ cycle. cycle < stop_of end) (cycles_of events)
  -- the machine replays the events, and the last state is what they leave at the stop
  pub replayed : state_after boot events (stop_of end) ≡ Some last
  -- nothing retires or traps while an enabled interrupt is pending
  pub prompt : IsPrompt events (start boot)
  -- no 8,192 successive cycles up to the stop are without an event
  pub lively : IsLively events (stop_of end)
  -- no instruction that retired or trapped has an access that breaks the update discipline
  pub disciplined : IsDisciplined events nothing_kept (start boot)
  -- a run that ends with an offence stops before the next instruction's first access that breaks it
  pub offence : OffendsBy end (kept_after events nothing_kept (start boot)) last
