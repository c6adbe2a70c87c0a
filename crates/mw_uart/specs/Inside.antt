-- The UART's parts and the script's, and what is true of them at every time. Only this crate's proofs need it.
use Rattle.std.specs.Prelude.{◌≡◌, ℕ, ◌+◌, ◌*◌, ◌^◌, ◌<◌, ◌≤◌, nat_lt, if◌then◌else◌, List, [], ◌∷◌, ◌++◌, length, ⊤}
use Rattle.circular_buffer.specs.Buffer.{Buffer}
use Rattle.mw_uart.specs.declared.line.LineFault.{LineFault}
use Rattle.mw_uart.specs.declared.line.LineFault.TheVariants.{Refused, NoMemory}
use Rattle.mw_uart.specs.declared.script.BadScript.{BadScript}
use Rattle.mw_uart.specs.declared.script.BadScript.TheVariants.{Bad, NoMemory as NoRoom}
use Rattle.mw_uart.specs.UartData.{UartData, Roomy}

-- the data by its parts
abbrev pub parts : ℕ → List (ℕ × ℕ) → List ℕ → List ℕ → ℕ → ℕ → ℕ → List ℕ → UartData
parts cycle script received sending due div enable output = record { cycle = cycle; script = script; received = received; sending = sending; due = due; div = div; enable = enable; output = output }

-- the data with the room
abbrev pub roomy : ℕ → UartData → Roomy
roomy room uart = record { uart = uart; room = room }

-- a queue of at most 16 bytes
abbrev pub IsQueue : Buffer ℕ → Type 0
IsQueue queue = (queue.capacity ≡ 16) × (length queue.items ≤ 16)

-- a byte is received, or lost where 16 wait
abbrev pub with_received : List ℕ → ℕ → List ℕ
with_received received byte = if nat_lt (length received) 16 then received ++ byte ∷ [] else received

-- the time that the output took, so that there is always room for it: how many bytes are sent, how many wait, when the first of these is sent, the cycle, and the room
pub record IsTimed (sent waiting due cycle room : ℕ) : Type 0 where
  -- each byte that was sent took 160 cycles
  pub past : sent * 160 ≤ cycle
  -- the next byte takes 160 cycles more
  pub next : 0 < waiting → 160 * (sent + 1) ≤ due
  -- a byte is sent after the longest period at the latest
  pub soon : due ≤ cycle + 10485760
  -- a cycle is in reach of the room
  pub within : cycle ≤ room * 160 + 159
  -- the room is what `new` takes at most
  pub small : room ≤ 2 ^ 32

-- of some waiting bytes this many are sent by a cycle: all, or else the next one isn't sent yet, and the last of them is
pub record IsSent (waiting due period cycle sent : ℕ) : Type 0 where
  pub most : sent ≤ waiting
  pub rest : sent < waiting → cycle < due + sent * period
  pub done : 0 < sent → due + sent * period ≤ cycle + period

-- a fact on the refused column of a line; want of memory says nothing
abbrev pub IfRefused : LineFault → (ℕ → Type 0) → Type 0
IfRefused (Refused column) P = P column
IfRefused NoMemory P = ⊤

-- the fault of the line of this number
abbrev pub fault_at : ℕ → LineFault → BadScript
fault_at number (Refused column) = Bad number column
fault_at number NoMemory = NoRoom
