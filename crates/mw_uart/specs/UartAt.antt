-- The UART at any cycle, from its data at an earlier one.
use Rattle.std.specs.Prelude.{ℕ, ◌+◌, ◌-◌, ◌*◌, ◌/◌, ◌==◌, if◌then◌else◌, nat_lt, nat_le, min, List, [], ◌∷◌, ◌++◌, length, map, take, drop}
use Rattle.mw_uart.specs.UartData.{UartData, period_of}

-- how many of the script's bytes have arrived by a cycle
unfoldable pub arrived_by : ℕ → List (ℕ × ℕ) → ℕ
arrived_by cycle [] = 0
arrived_by cycle (pair ∷ rest) = if nat_le pair.0 cycle then 1 + arrived_by cycle rest else 0

-- the script's bytes that have arrived by a cycle, in order
abbrev pub arrivals : ℕ → List (ℕ × ℕ) → List ℕ
arrivals cycle script = map (λ pair. pair.1) (take (arrived_by cycle script) script)

-- how many of the waiting bytes are sent by a cycle: the first at due, and one more each period
unfoldable pub sent_by : ℕ → ℕ → ℕ → ℕ → ℕ
sent_by waiting due period cycle =
    if nat_lt cycle due then 0 else min waiting (1 + (cycle - due) / period)

-- the cycle at which the first byte is sent that waits behind this many sent ones, or 0 where none does
unfoldable pub next_due : ℕ → ℕ → ℕ → ℕ → ℕ
next_due waiting due period sent = if sent == waiting then 0 else due + sent * period

-- the UART with its first bytes that wait sent
abbrev pub with_sent : ℕ → UartData → UartData
with_sent sent uart = record uart {
  sending = drop sent uart.sending;
  due = next_due (length uart.sending) uart.due (period_of uart.div) sent;
  output = uart.output ++ take sent uart.sending;
}

-- the UART with the script's bytes of a cycle and all before it received, or lost where 16 wait
abbrev pub with_arrived : ℕ → UartData → UartData
with_arrived cycle uart = record uart {
  script = drop (arrived_by cycle uart.script) uart.script;
  received = take 16 (uart.received ++ arrivals cycle uart.script);
}

-- how many of the UART's bytes are sent by a cycle
abbrev pub sent_of : UartData → ℕ → ℕ
sent_of uart cycle = sent_by (length uart.sending) uart.due (period_of uart.div) cycle

-- the UART brought to a cycle that isn't before its own
unfoldable pub uart_at : UartData → ℕ → UartData
uart_at uart cycle = record (with_sent (sent_of uart cycle) (with_arrived cycle uart)) { cycle = cycle }
