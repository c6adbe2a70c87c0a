-- The board's map outside RAM (this board's own).
use Rattle.std.specs.Prelude.{ℕ, ◌-◌, ◌==◌, Bool, ◌&&◌, if◌then◌else◌, nat_lt, nat_le, List, replicate}
use Rattle.std.specs.Int.{w64, to_le_bytes}
use Rattle.mw_uart.specs.Registers.{loaded, after_load, after_store, line_of}
use Rattle.mw_xics.specs.Registers.{xics_loaded, after_xics_load, after_xics_store}
use Rattle.mw_soc.specs.DeviceData.{DeviceData}

-- the system controller stands at a real address
abbrev pub is_system : ℕ → Bool
is_system at = nat_le 0xC000_0000 at && nat_lt at 0xC000_1000

-- the UART stands at a real address
abbrev pub is_uart : ℕ → Bool
is_uart at = nat_le 0xC000_2000 at && nat_lt at 0xC000_3000

-- the interrupt controller stands at a real address, its two pages as one device
abbrev pub is_xics : ℕ → Bool
is_xics at = nat_le 0xC000_4000 at && nat_lt at 0xC000_6000

-- the doublewords of the system controller: a signature; 5, for what it has; the bytes of RAM; and the clock in hertz
abbrev pub system_number : ℕ → ℕ
system_number offset =
    if offset == 0 then 0xF00D_AA55_0001_0001
    else if offset == 8 then 5
    else if offset == 0x10 then 16777216
    else if offset == 0x20 then 100000000
    else 0

-- the bytes that a load from the system controller gives: one of 8 bytes a doubleword, little-endian, and any other zeros
unfoldable pub system_loaded : ℕ → ℕ → List ℕ
system_loaded offset width = if width == 8 then to_le_bytes w64 (system_number offset) else replicate width 0

-- the bytes that a load outside RAM gives, as many as it asks for: all ones where no device is
unfoldable pub device_loaded : DeviceData → ℕ → ℕ → List ℕ
device_loaded devices at width =
    if is_uart at then loaded devices.uart (at - 0xC000_2000) width
    else if is_xics at then xics_loaded devices.xics (at - 0xC000_4000) width (line_of devices.uart)
    else if is_system at then system_loaded (at - 0xC000_0000) width
    else replicate width 255

-- the devices after a load of a width outside RAM; the controller sees the UART's line as it was before the load
unfoldable pub after_device_load : DeviceData → ℕ → ℕ → DeviceData
after_device_load devices at width =
    if is_uart at then record devices { uart = after_load devices.uart (at - 0xC000_2000) }
    else if is_xics at then record devices { xics = after_xics_load devices.xics (at - 0xC000_4000) width (line_of devices.uart) }
    else devices

-- the devices after a store of bytes outside RAM, which vanish where no device takes them
unfoldable pub after_device_store : DeviceData → ℕ → List ℕ → DeviceData
after_device_store devices at bytes =
    if is_uart at then record devices { uart = after_store devices.uart (at - 0xC000_2000) bytes }
    else if is_xics at then record devices { xics = after_xics_store devices.xics (at - 0xC000_4000) bytes }
    else devices
