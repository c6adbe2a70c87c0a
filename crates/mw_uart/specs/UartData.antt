-- The UART as plain data (the device is this board's own).
use Rattle.std.specs.Prelude.{ℕ, ◌+◌, ◌*◌, List, []}

-- the UART's data: all that it is at a cycle
pub record UartData : Type 0 where
  -- the cycle that the UART stands at
  pub cycle : ℕ
  -- the bytes that haven't arrived yet, each behind the cycle at which it arrives
  pub script : List (ℕ × ℕ)
  -- the bytes that were received and are not read yet, the oldest first
  pub received : List ℕ
  -- the bytes that wait to be sent, the oldest first
  pub sending : List ℕ
  -- the cycle at which the first byte that waits is sent, or 0 where none waits
  pub due : ℕ
  -- CLOCK_DIV
  pub div : ℕ
  -- IRQ_EN: 1 for RX, 2 for TX
  pub enable : ℕ
  -- all bytes sent
  pub output : List ℕ

-- the UART and how many bytes of output it has memory for
pub record Roomy : Type 0 where
  pub uart : UartData
  pub room : ℕ

-- the UART at cycle 0 with no byte arrived, and the bytes that are to arrive
abbrev pub start_uart : List (ℕ × ℕ) → UartData
start_uart script = record { cycle = 0; script = script; received = []; sending = []; due = 0; div = 0; enable = 0; output = [] }

-- how many cycles a byte takes from when it is first to when it is sent, by CLOCK_DIV
abbrev pub period_of : ℕ → ℕ
period_of div = 160 * (div + 1)
