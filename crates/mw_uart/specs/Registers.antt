-- The UART's registers: five slots of 8 bytes, little-endian, TX at 0, RX at 8, STATUS at 0x10, CLOCK_DIV at 0x18 and IRQ_EN at 0x20.
use Rattle.std.specs.Prelude.{ℕ, ◌+◌, ◌/◌, ◌%◌, ◌^◌, ◌==◌, Bool, not, ◌&&◌, ◌||◌, if◌then◌else◌, nat_lt, List, [], ◌∷◌, ◌++◌, length, take, drop, slice_index}
use Rattle.std.specs.Int.{w64, to_le_bytes}
use Rattle.byteorder.specs.Endian.{little_number}
use Rattle.mw_uart.specs.UartData.{UartData, period_of}

-- a bit of STATUS
abbrev pub flag : Bool → ℕ → ℕ
flag is bit = if is then bit else 0

-- STATUS: receive queue empty 1, send queue empty 2, receive queue full 4, send queue full 8
abbrev pub status_of : UartData → ℕ
status_of uart =
    flag (length uart.received == 0) 1 + flag (length uart.sending == 0) 2
    + flag (length uart.received == 16) 4 + flag (length uart.sending == 16) 8

-- what a slot reads, by its number: RX gives the oldest received byte, or 0 where there is none, and TX 0, as all behind IRQ_EN
abbrev pub slot_of : UartData → ℕ → ℕ
slot_of uart slot =
    if slot == 1 then slice_index uart.received 0
    else if slot == 2 then status_of uart
    else if slot == 3 then uart.div
    else if slot == 4 then uart.enable
    else 0

-- the bytes that a load gives: those of the slot that it covers
unfoldable pub loaded : UartData → ℕ → ℕ → List ℕ
loaded uart offset width = take width (drop (offset % 8) (to_le_bytes w64 (slot_of uart (offset / 8))))

-- the UART after a load: RX's first byte takes the oldest received byte out
unfoldable pub after_load : UartData → ℕ → UartData
after_load uart offset = if offset == 8 then record uart { received = drop 1 uart.received } else uart

-- the UART after a store to TX: the byte waits to be sent, or is lost where 16 wait; where it is the first, it is sent a period from now
unfoldable pub with_tx : UartData → ℕ → UartData
with_tx uart byte =
    if nat_lt (length uart.sending) 16
    then record uart {
      sending = uart.sending ++ byte ∷ [];
      due = if length uart.sending == 0 then uart.cycle + period_of uart.div else uart.due;
    }
    else uart

-- the UART after a store of a number that covers the first byte of a slot: TX takes its low byte, CLOCK_DIV 16 bits, IRQ_EN two, and all else vanishes
unfoldable pub with_number : UartData → ℕ → ℕ → UartData
with_number uart offset number =
    if offset == 0 then with_tx uart (number % 2 ^ 8)
    else if offset == 0x18 then record uart { div = number % 2 ^ 16 }
    else if offset == 0x20 then record uart { enable = number % 2 ^ 2 }
    else uart

-- the UART after a store of bytes, which are a little-endian number
unfoldable pub after_store : UartData → ℕ → List ℕ → UartData
after_store uart offset bytes = with_number uart offset (little_number (length bytes) bytes)

-- the interrupt line: RX enabled (1) and received bytes wait, or TX enabled (2) and none waits to be sent
unfoldable pub line_of : UartData → Bool
line_of uart =
    (uart.enable % 2 == 1 && not (length uart.received == 0))
    || (uart.enable / 2 == 1 && length uart.sending == 0)
