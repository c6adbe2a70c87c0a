-- From a place on the first that is stale is the first of all.
use Rattle.std.proofs.Common.{◌≡◌, drop}
use Rattle.std.specs.List.{find}
use Rattle.mw_isa.specs.Entries.{is_stale}
use Rattle.mw_discipline.proofs.entries.Entries.stale.Given as goal

abbrev pub invariant-loop-place : goal.invariant-loop-place
invariant-loop-place l =
    find (is_stale l.fn.now l.fn.kind l.fn.problem l.fn.pid l.fn.page) (drop l.place l.fn.self.items) ≡ find (is_stale l.fn.now l.fn.kind l.fn.problem l.fn.pid l.fn.page) l.fn.self.items
