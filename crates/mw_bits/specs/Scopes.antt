-- Which translations an invalidation reaches (Book III, tlbie).
use Rattle.std.specs.Prelude.{ℕ, ◌+◌, ◌==◌, Bool, true, false, ◌&&◌, nat_le, nat_lt}
use Rattle.mw_bits.specs.declared.scope.Scope.{Scope}
use Rattle.mw_bits.specs.declared.scope.Scope.TheVariants.{Nothing, All, Pid, Region}

-- the translation of a page for a process, each by its number, is one that a scope reaches
abbrev pub is_in_scope : Scope → ℕ → ℕ → Bool
is_in_scope Nothing pid page = false
is_in_scope All pid page = true
is_in_scope (Pid process) pid page = pid == process
is_in_scope (Region process first pages) pid page = pid == process && nat_le first page && nat_lt page (first + pages)
