-- The start of the machine (this board's own, but for the meaning of MSR's bits: Book III, machine state register).
use Rattle.std.specs.Prelude.{ℕ, List, None, replicate}
use Rattle.mw_bus.specs.Memory.{ram_of}
use Rattle.mw_isa.specs.declared.regs.Regs.{Regs}
use Rattle.mw_soc.specs.Devices.{start_devices}
use Rattle.mw_isa.specs.Msr.{fixed_msr}
use Rattle.mw_isa.specs.State.{State}

-- what a board is started with: the bytes that stand in RAM, and the bytes that arrive at its UART, each behind the cycle
-- at which it arrives
pub record Boot : Type 0 where
  pub image : List ℕ
  pub script : List (ℕ × ℕ)

-- every register is 0, but for SF, HV, ME and LE in MSR; nothing is reserved
abbrev pub start_regs : Regs
start_regs = record {
  gpr = replicate 32 0;
  cr = 0;
  xer = 0;
  lr = 0;
  ctr = 0;
  tar = 0;
  cia = 0;
  msr = fixed_msr;
  srr0 = 0;
  srr1 = 0;
  hsrr0 = 0;
  hsrr1 = 0;
  dar = 0;
  dsisr = 0;
  pidr = 0;
  sprg = replicate 4 0;
  hsprg = replicate 2 0;
  prtbl = 0;
  reserve = None;
}

-- the image stands in RAM from address 0 on, and the devices stand at cycle 0, all bytes of the script still to arrive
unfoldable pub start : Boot → State
start boot = record { regs = start_regs; ram = ram_of boot.image; devices = start_devices boot.script }
