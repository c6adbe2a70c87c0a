-- The interrupt controller as plain data (LoPAR, interrupt controller; one processor and sixteen lines are this board's own).
use Rattle.std.specs.Prelude.{ℕ, List, replicate}

-- the controller's data: a priority is a number from 0 to 0xFF, of which 0 is the most favoured
pub record XicsData : Type 0 where
  -- CPPR, the priority of what the processor does: only an interrupt of a lower number reaches it
  pub cppr : ℕ
  -- MFRR, the priority of the interprocessor interrupt
  pub mfrr : ℕ
  -- the priorities of the sixteen lines
  pub priorities : List ℕ

-- the priority that masks
abbrev pub masked : ℕ
masked = 0xFF

-- how many lines there are
abbrev pub line_count : ℕ
line_count = 16

-- the controller at the start: it lets nothing through, and every source is masked
abbrev pub start_xics : XicsData
start_xics = record { cppr = 0; mfrr = masked; priorities = replicate line_count masked }
