-- The devices at any cycle (Book III, timer facilities; the rest is this board's own).
use Rattle.std.specs.Prelude.{ℕ, ◌+◌, ◌-◌, ◌%◌, ◌^◌, Bool, nat_le, List, is_some}
use Rattle.mw_uart.specs.UartData.{start_uart}
use Rattle.mw_uart.specs.UartAt.{uart_at}
use Rattle.mw_uart.specs.Registers.{line_of}
use Rattle.mw_xics.specs.XicsData.{start_xics}
use Rattle.mw_xics.specs.Pending.{pending_of}
use Rattle.mw_soc.specs.DeviceData.{DeviceData}

-- the devices at cycle 0 with no byte arrived, and the bytes that are to arrive, each behind its cycle
abbrev pub start_devices : List (ℕ × ℕ) → DeviceData
start_devices script = record { uart = start_uart script; xics = start_xics; dec = 0x7FFF_FFFF; dec_at = 0 }

-- the cycle that the devices stand at, which is the time base
abbrev pub cycle_of : DeviceData → ℕ
cycle_of devices = devices.uart.cycle

-- the devices brought to a cycle that isn't before theirs
abbrev pub devices_at : DeviceData → ℕ → DeviceData
devices_at devices cycle = record devices { uart = uart_at devices.uart cycle }

-- the decrementer, in 32 bits: one less each cycle from what the last write gave it (Book III, decrementer)
abbrev pub dec_of : DeviceData → ℕ
dec_of devices = (devices.dec + (2 ^ 32 - (cycle_of devices - devices.dec_at) % 2 ^ 32)) % 2 ^ 32

-- the decrementer's exception stands: its top bit is 1 (Book III, decrementer interrupt)
abbrev pub dec_stands : DeviceData → Bool
dec_stands devices = nat_le (2 ^ 31) (dec_of devices)

-- the external exception stands: an interrupt is pending at the controller, whose line 0 is the UART's (Book III, external
-- interrupt)
abbrev pub external_stands : DeviceData → Bool
external_stands devices = is_some (pending_of devices.xics (line_of devices.uart))

-- the devices with a value written to the decrementer
abbrev pub with_dec : DeviceData → ℕ → DeviceData
with_dec devices value = record devices { dec = value; dec_at = cycle_of devices }
