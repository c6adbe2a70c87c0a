-- Something happens in every stretch of 8,192 cycles (this board's own bound).
use Rattle.std.specs.Prelude.{ℕ, ◌+◌, ◌≤◌, ◌<◌, List, Contains}
use Rattle.mw_isa.specs.declared.event.Event.{Event}
use Rattle.mw_isa.specs.Replay.{cycles_of}

-- every stretch of 8,192 cycles that ends by the stop has an event's cycle in it
abbrev pub IsLively : List Event → ℕ → Type 0
IsLively events stop = (first : ℕ) → first + 8192 ≤ stop → (cycle : ℕ) × (first ≤ cycle) × (cycle < first + 8192) × Contains (cycles_of events) cycle
