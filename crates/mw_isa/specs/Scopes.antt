-- What tlbie gives up (Book III, tlbie; sizes of regions are this board's own choice).
use Rattle.std.specs.Prelude.{ℕ, ◌*◌, ◌/◌, ◌^◌, ◌==◌, if◌then◌else◌}
use Rattle.mw_bits.specs.declared.scope.Scope.{Scope}
use Rattle.mw_bits.specs.declared.scope.Scope.TheVariants.{Nothing, All, Pid, Region}
use Rattle.mw_bits.specs.Fields.{field_of}

-- how many pages of 4 KiB AP of tlbie tells
abbrev pub pages_by : ℕ → ℕ
pages_by ap = if ap == 0 then 1 else if ap == 5 then 16 else if ap == 1 then 512 else 2 ^ 18

-- the kept translations of one process in the aligned region around a page
abbrev pub region_of : ℕ → ℕ → ℕ → Scope
region_of pid page pages = Region pid (page / pages * pages) pages

-- the kept translations that IS of tlbie tells, from RB and the process
abbrev pub scope_by : ℕ → ℕ → ℕ → Scope
scope_by is rb pid = if is == 0 then region_of pid (field_of rb 0 51) (pages_by (field_of rb 56 58)) else if is == 1 then Pid pid else All

-- the kept translations that tlbie gives up, by RIC, RB and RS; RIC 1 reaches none
abbrev pub scope_of : ℕ → ℕ → ℕ → Scope
scope_of ric rb rs = if ric == 1 then Nothing else scope_by (field_of rb 52 53) rb (rs / 2 ^ 32)
