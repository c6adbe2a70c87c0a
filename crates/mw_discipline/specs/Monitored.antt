-- What a monitor is seen as.
use Rattle.std.specs.Prelude.{ℕ}
use Rattle.mw_isa.specs.Discipline.{Kept, nothing_kept}

-- the record that is kept beside the machine, and how many translations were added to it
pub record Monitored : Type 0 where
  pub kept : Kept
  pub added : ℕ

-- nothing is kept, and nothing was added
abbrev pub beginning : Monitored
beginning = record { kept = nothing_kept; added = 0 }
