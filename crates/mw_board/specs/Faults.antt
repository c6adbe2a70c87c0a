-- When a run is refused.
use Rattle.std.specs.Prelude.{ℕ, ◌<◌, List, length, ⊤}
use Rattle.mw_board.specs.declared.run.RunFault.{RunFault}
use Rattle.mw_board.specs.declared.run.RunFault.TheVariants.{ImageTooLarge, NoMemory}
use Rattle.mw_bus.specs.Memory.{ram_size}

-- the cause of a refusal: an image that doesn't fit RAM; want of memory is free
abbrev pub HasCause : List ℕ → RunFault → Type 0
HasCause image ImageTooLarge = ram_size < length image
HasCause image NoMemory = ⊤
