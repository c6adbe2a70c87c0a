-- The state of the machine as plain data.
use Rattle.std.specs.Prelude.{ℕ, List}
use Rattle.mw_soc.specs.DeviceData.{DeviceData}
use Rattle.mw_soc.specs.Devices.{devices_at}
use Rattle.mw_isa.specs.declared.regs.Regs.{Regs}
use Rattle.mw_isa.specs.declared.state.State.{State as Whole}

-- the registers with the reservation, the bytes of RAM by real address, and the devices' data
pub record State : Type 0 where
  pub regs : Regs
  pub ram : List ℕ
  pub devices : DeviceData

-- a state of these parts
abbrev pub state_of : Regs → List ℕ → DeviceData → State
state_of regs ram devices = record { regs = regs; ram = ram; devices = devices }

-- the state that the code's object stands for
abbrev pub seen : Whole → State
seen whole = state_of whole.regs whole.ram whole.devices.devices

-- a state whose devices are brought to a cycle
abbrev pub brought : ℕ → State → State
brought cycle state = record state { devices = devices_at state.devices cycle }
