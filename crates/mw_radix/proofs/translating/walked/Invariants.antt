use Rattle.std.proofs.Common.{◌≡◌, ◌≤◌, length}
use Rattle.mw_isa.specs.Walk.{walk_of}
use Rattle.mw_radix.specs.Walking.{ahead, IsSound}
use Rattle.mw_radix.proofs.translating.walked.Given as goal

-- what is ahead ends as the walk does, over RAM as it was
abbrev pub invariant-loop-end : goal.invariant-loop-end
invariant-loop-end g l =
    (IsSound l.walker.stage)
    × ((ahead (g.T.Tables.ram l.initial.tables) l.walker).end ≡ (walk_of (g.T.Tables.ram l.initial.tables) l.prtbl l.pid l.ea).end)
    × (g.T.Tables.ram l.tables ≡ g.T.Tables.ram l.initial.tables)
    × (g.T.Tables.reads l.initial.tables ≤ g.T.Tables.reads l.tables)

abbrev pub decreases-loop-end : goal.decreases-loop-end
decreases-loop-end g l = length (ahead (g.T.Tables.ram l.tables) l.walker).reads
