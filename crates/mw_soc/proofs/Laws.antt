-- What a load and a store leave of the devices, and how much a load gives.
use Rattle.std.proofs.Common.{◌≡◌, ℕ, ◌+◌, ◌-◌, ◌%◌, ◌≤◌, ◌==◌, Bool, true, false, List, [], ◌∷◌, length, cond, refl, sym, ap, ◌∙◌, arith}
use Rattle.std.proofs.lemmas.Bool.{cond_both, eqb-true}
use Rattle.std.proofs.lemmas.List.{length-replicate}
use Rattle.mw_uart.specs.UartData.{UartData, Roomy}
use Rattle.mw_uart.specs.UartAt.{uart_at}
use Rattle.mw_uart.specs.Registers.{after_load, after_store, line_of}
use Rattle.mw_uart.proofs.Laws.{cycle-uart_at, cycle-after_load, cycle-after_store, length-loaded, uart_at-then, uart_at-rising, brought_by, Rises, last_of}
use Rattle.mw_xics.proofs.Laws.{length-xics_loaded}
use Rattle.mw_soc.specs.DeviceData.{DeviceData, Housed}
use Rattle.mw_soc.specs.Devices.{cycle_of, devices_at}
use Rattle.mw_soc.specs.Map.{is_uart, is_xics, is_system, system_loaded, device_loaded, after_device_load, after_device_store}

-- the devices with another UART
abbrev with_uart : DeviceData → UartData → DeviceData
with_uart devices uart = record devices { uart = uart }

-- the devices stand at the cycle that they are brought to
pub cycle-devices_at : (devices : DeviceData) (cycle : ℕ) → cycle_of (devices_at devices cycle) ≡ cycle
cycle-devices_at devices cycle = cycle-uart_at devices.uart cycle

-- of two devices with one cycle either has it
one-cycle : (b : Bool) (x y : DeviceData) (cycle : ℕ) → cycle_of x ≡ cycle → cycle_of y ≡ cycle → cycle_of (cond b x y) ≡ cycle
one-cycle true x y cycle p q = p
one-cycle false x y cycle p q = q

-- a load leaves the devices' cycle
pub cycle-device_load : (devices : DeviceData) (at width : ℕ) → cycle_of (after_device_load devices at width) ≡ cycle_of devices
unfolding after_device_load
cycle-device_load devices at width =
    one-cycle (is_uart at) _ _ (cycle_of devices) (cycle-after_load devices.uart _)
    (one-cycle (is_xics at) _ devices (cycle_of devices) refl refl)

-- a store leaves the devices' cycle
pub cycle-device_store : (devices : DeviceData) (at : ℕ) (bytes : List ℕ) → cycle_of (after_device_store devices at bytes) ≡ cycle_of devices
unfolding after_device_store
cycle-device_store devices at bytes =
    one-cycle (is_uart at) _ _ (cycle_of devices) (cycle-after_store devices.uart _ bytes)
    (one-cycle (is_xics at) _ devices (cycle_of devices) refl refl)

-- a load that lies in one slot of 8 gives as many bytes as its width says
pub length-device_loaded : (devices : DeviceData) (at width : ℕ) → at % 8 + width ≤ 8 → length (device_loaded devices at width) ≡ width
unfolding device_loaded system_loaded
length-device_loaded devices at width fits =
    cond_both (is_uart at) _ _ (λ (bytes : List ℕ). length bytes ≡ width) (λ _. length-loaded devices.uart (at - 0xC000_2000) width (omega arith))
    (λ _. cond_both (is_xics at) _ _ (λ (bytes : List ℕ). length bytes ≡ width) (λ _. length-xics_loaded devices.xics (at - 0xC000_4000) width (line_of devices.uart))
    (λ _. cond_both (is_system at) _ _ (λ (bytes : List ℕ). length bytes ≡ width)
    (λ _. cond_both (width == 8) _ _ (λ (bytes : List ℕ). length bytes ≡ width) (λ e. sym (eqb-true width 8 e)) (λ _. length-replicate width 0))
    (λ _. length-replicate width 255)))

-- a cycle that isn't after the UART's isn't after that of the UART brought on
pub kept-advance : (old new : Roomy) (now : Housed) (cycle dec_at : ℕ) → new ≡ record old { uart = uart_at old.uart cycle } → old.uart.cycle ≡ cycle_of now.devices → cycle_of now.devices ≤ cycle → dec_at ≤ old.uart.cycle → dec_at ≤ new.uart.cycle
kept-advance old new now cycle dec_at e v later within =
    let n : new.uart.cycle ≡ cycle = ap (λ (r : Roomy). r.uart.cycle) e ∙ cycle-uart_at old.uart cycle in
    omega arith

-- a cycle that isn't after the UART's isn't after that of the UART behind a load from it
pub kept-load : (old new : Roomy) (offset dec_at : ℕ) → new ≡ record old { uart = after_load old.uart offset } → dec_at ≤ old.uart.cycle → dec_at ≤ new.uart.cycle
kept-load old new offset dec_at e within =
    let n : new.uart.cycle ≡ old.uart.cycle = ap (λ (r : Roomy). r.uart.cycle) e ∙ cycle-after_load old.uart offset in
    omega arith

-- a cycle that isn't after the UART's isn't after that of the UART behind a store to it
pub kept-store : (old new : Roomy) (offset dec_at : ℕ) (bytes : List ℕ) → new ≡ record old { uart = after_store old.uart offset bytes } → dec_at ≤ old.uart.cycle → dec_at ≤ new.uart.cycle
kept-store old new offset dec_at bytes e within =
    let n : new.uart.cycle ≡ old.uart.cycle = ap (λ (r : Roomy). r.uart.cycle) e ∙ cycle-after_store old.uart offset bytes in
    omega arith

-- the devices brought to a cycle and then to a later one are the devices brought to the later one
pub devices_at-then : (devices : DeviceData) (cycle later : ℕ) → cycle ≤ later → devices_at (devices_at devices cycle) later ≡ devices_at devices later
devices_at-then devices cycle later after = ap (λ (u : UartData). with_uart devices u) (uart_at-then devices.uart cycle later after)

-- the devices brought to one cycle after another
abbrev pub devices_by : DeviceData → List ℕ → DeviceData
devices_by devices [] = devices
devices_by devices (cycle ∷ cycles) = devices_by (devices_at devices cycle) cycles

-- devices that are brought to cycles change in their UART alone
devices_by-uart : (devices : DeviceData) (cycles : List ℕ) → devices_by devices cycles ≡ with_uart devices (brought_by devices.uart cycles)
devices_by-uart devices [] = refl
devices_by-uart devices (cycle ∷ cycles) = devices_by-uart (devices_at devices cycle) cycles

-- the devices brought to rising cycles, one after another, are the devices brought to the last one
pub devices_at-rising : (devices : DeviceData) (cycle : ℕ) (cycles : List ℕ) → Rises cycle cycles → devices_by devices (cycle ∷ cycles) ≡ devices_at devices (last_of cycle cycles)
devices_at-rising devices cycle cycles r =
    devices_by-uart devices (cycle ∷ cycles) ∙ ap (λ (u : UartData). with_uart devices u) (uart_at-rising devices.uart cycle cycles r)
