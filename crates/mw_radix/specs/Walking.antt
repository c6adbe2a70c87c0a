-- A walk doubleword by doubleword: where it stands, what it wants, what it makes of what it is given, and what of it is
-- still ahead.
use Rattle.std.specs.Prelude.{ℕ, ◌≡◌, ◌%◌, ◌^◌, ◌<◌, ◌≤◌, true, not, if◌then◌else◌, List, Option, Some, None, Result, Err, IfOk}
use Rattle.mw_isa.specs.declared.walk.Leaf.{Leaf}
use Rattle.mw_isa.specs.declared.walk.Level.{Level}
use Rattle.mw_isa.specs.declared.walk.WalkFault.{WalkFault}
use Rattle.mw_isa.specs.declared.walk.WalkFault.TheVariants.{Segment, NoEntry, BadTree}
use Rattle.mw_isa.specs.Tables.{doubleword, tree_bits, is_there, is_leaf}
use Rattle.mw_isa.specs.Walk.{Walked, ended, reading, is_level, left_behind, entry_at, next_level, leaf_of, walk_from, root_of, is_in_tree, walk_in, is_in_table, process_at, IsLeaf}
use Rattle.mw_radix.specs.declared.stage.Stage.{Stage}
use Rattle.mw_radix.specs.declared.stage.Stage.TheVariants.{Process, At, Ended}

-- a walk of an effective address, and where it stands
pub record Walking : Type 0 where
  pub ea : ℕ
  pub stage : Stage

-- a walk that comes to a level: it goes on where a tree can have such a one
abbrev pub begun : Level → Stage
begun level = if is_level level then At level else Ended (Err BadTree)

-- a walk that was given a process entry
abbrev pub in_tree : ℕ → ℕ → Stage
in_tree ea entry = if is_in_tree ea (tree_bits entry) then begun (root_of entry) else Ended (Err Segment)

-- a walk that was given an entry of a level's table
abbrev pub behind : Level → ℕ → Stage
behind level entry = if not (is_there entry) then Ended (Err NoEntry) else if is_leaf entry then Ended (leaf_of entry (left_behind level)) else begun (next_level entry level)

-- a walk at its start: it wants its process's entry, if the process has one
abbrev pub start_of : ℕ → ℕ → ℕ → Walking
start_of prtbl pid ea = record { ea = ea; stage = if is_in_table prtbl pid then Process (process_at prtbl pid) else Ended (Err NoEntry) }

-- the real address of the doubleword that a walk wants, if it hasn't ended
abbrev pub wanted_by : ℕ → Stage → Option ℕ
wanted_by ea (Process at) = Some at
wanted_by ea (At level) = Some (entry_at ea level)
wanted_by ea (Ended end) = None

abbrev pub wanted : Walking → Option ℕ
wanted walk = wanted_by walk.ea walk.stage

-- a walk that was given a doubleword
abbrev pub given_by : ℕ → Stage → ℕ → Stage
given_by ea (Process at) entry = in_tree ea entry
given_by ea (At level) entry = behind level entry
given_by ea (Ended end) entry = Ended end

abbrev pub given : ℕ → Walking → Walking
given entry walk = record walk { stage = given_by walk.ea walk.stage entry }

-- the end of a walk, if it has ended
abbrev pub end_by : Stage → Option (Result Leaf WalkFault)
end_by (Process at) = None
end_by (At level) = None
end_by (Ended end) = Some end

abbrev pub end_of : Walking → Option (Result Leaf WalkFault)
end_of walk = end_by walk.stage

-- what is known of where a walk stands: it wants a doubleword of a table, or its leaf is one
abbrev pub IsSound : Stage → Type 0
IsSound (Process at) = (at < 2 ^ 60) × (at % 8 ≡ 0)
IsSound (At level) = (is_level level ≡ true) × (level.left ≤ 62) × (level.base < 2 ^ 60) × (level.base % 8 ≡ 0)
IsSound (Ended end) = IfOk end IsLeaf

-- what of a walk is still ahead of it over RAM: what it reads, in order, and its end
abbrev pub ahead_by : List ℕ → ℕ → Stage → Walked
ahead_by ram ea (Process at) = reading at (walk_in ram ea (doubleword ram at))
ahead_by ram ea (At level) = walk_from level.left ram ea level
ahead_by ram ea (Ended end) = ended end

unfoldable pub ahead : List ℕ → Walking → Walked
ahead ram walk = ahead_by ram walk.ea walk.stage
