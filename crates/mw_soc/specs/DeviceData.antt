-- The data of the devices.
use Rattle.std.specs.Prelude.{ℕ}
use Rattle.mw_uart.specs.UartData.{UartData}
use Rattle.mw_xics.specs.XicsData.{XicsData}

-- the devices: the UART, whose cycle is the one that all stand at; the interrupt controller; what the last write gave the
-- decrementer; and the cycle of that write
pub record DeviceData : Type 0 where
  pub uart : UartData
  pub xics : XicsData
  pub dec : ℕ
  pub dec_at : ℕ

-- the devices, and how many bytes of output they have memory for
pub record Housed : Type 0 where
  pub devices : DeviceData
  pub room : ℕ
