-- A walk through a radix tree: what it reads, in order, and its end (Book III, radix tree translation; which levels a tree
-- can have is this board's own choice).
use Rattle.std.specs.Prelude.{ℕ, zero, suc, ⊤, ◌≡◌, ◌+◌, ◌-◌, ◌*◌, ◌/◌, ◌%◌, ◌^◌, ◌<◌, ◌≤◌, Bool, ◌&&◌, if◌then◌else◌, nat_lt, nat_le, List, [], ◌∷◌, Result, Ok, Err}
use Rattle.mw_isa.specs.declared.walk.Leaf.{Leaf}
use Rattle.mw_isa.specs.declared.walk.Level.{Level}
use Rattle.mw_isa.specs.declared.walk.WalkFault.{WalkFault}
use Rattle.mw_isa.specs.declared.walk.WalkFault.TheVariants.{Segment, NoEntry, BadTree}
use Rattle.mw_isa.specs.Tables.{doubleword, table_base, table_bytes, tree_bits, root_base, root_bits, is_there, is_leaf, next_base, next_bits, page_base, is_referenced, rights_of}

-- a walk: the real addresses of the doublewords that it reads, in order, and its end
pub record Walked : Type 0 where
  pub reads : List ℕ
  pub end : Result Leaf WalkFault

-- a walk that reads nothing more
abbrev pub ended : Result Leaf WalkFault → Walked
ended end = record { reads = []; end = end }

-- a walk that reads this first
abbrev pub reading : ℕ → Walked → Walked
reading at rest = record { reads = at ∷ rest.reads; end = rest.end }

-- a level that a tree can have: 5 to 16 bits, no more than are left
abbrev pub is_level : Level → Bool
is_level level = nat_le 5 level.bits && nat_le level.bits 16 && nat_le level.bits level.left

-- the bounds of such a level
pub record IsLevel (level : Level) : Type 0 where
  pub wide : 5 ≤ level.bits
  pub short : level.bits ≤ 16
  pub within : level.bits ≤ level.left

-- how many address bits are left behind a level
abbrev pub left_behind : Level → ℕ
left_behind level = level.left - level.bits

-- the real address of the entry in a level's table that the top bits of those left index
abbrev pub entry_at : ℕ → Level → ℕ
entry_at ea level = (level.base + 8 * (ea / 2 ^ left_behind level % 2 ^ level.bits)) % 2 ^ 60

-- the level that a directory leads to
abbrev pub next_level : ℕ → Level → Level
next_level entry level = record { base = next_base entry; bits = next_bits entry; left = left_behind level }

-- the page that a leaf tells, of which so many low address bits are its own
abbrev pub page_in : ℕ → ℕ → Leaf
page_in entry left = record { base = page_base entry - page_base entry % 2 ^ left; left = left; rights = rights_of entry; referenced = is_referenced entry }

-- the end at a leaf behind which so many address bits are left; those of a page are 12 at least
abbrev pub leaf_of : ℕ → ℕ → Result Leaf WalkFault
leaf_of entry left = if nat_lt left 12 then Err BadTree else Ok (page_in entry left)

-- the walk behind an entry, where so many address bits are left: none, a leaf, or what a directory leads to
abbrev pub walk_behind : ℕ → ℕ → Walked → Walked
walk_behind entry left on = if is_there entry then (if is_leaf entry then ended (leaf_of entry left) else on) else ended (Err NoEntry)

-- the walk from a level on, through so many levels at most, each of which leaves fewer address bits
unfoldable pub walk_from : ℕ → List ℕ → ℕ → Level → Walked
walk_from zero ram ea level = ended (Err BadTree)
walk_from (suc n) ram ea level =
    if is_level level
    then reading (entry_at ea level) (walk_behind (doubleword ram (entry_at ea level)) (left_behind level) (walk_from n ram ea (next_level (doubleword ram (entry_at ea level)) level)))
    else ended (Err BadTree)

-- the root that a process entry tells
abbrev pub root_of : ℕ → Level
root_of entry = record { base = root_base entry; bits = root_bits entry; left = tree_bits entry }

-- an effective address lies in a tree of so many address bits; its two highest bits are the quadrant's
abbrev pub is_in_tree : ℕ → ℕ → Bool
is_in_tree ea size = nat_lt (ea % 2 ^ 62) (2 ^ size)

-- the walk behind a process entry
abbrev pub walk_in : List ℕ → ℕ → ℕ → Walked
walk_in ram ea entry = if is_in_tree ea (tree_bits entry) then walk_from (tree_bits entry) ram ea (root_of entry) else ended (Err Segment)

-- a process has its entry of 16 bytes in the process table
abbrev pub is_in_table : ℕ → ℕ → Bool
is_in_table prtbl pid = nat_lt (16 * pid) (table_bytes prtbl)

-- the real address of a process's entry
abbrev pub process_at : ℕ → ℕ → ℕ
process_at prtbl pid = (table_base prtbl + 16 * pid) % 2 ^ 60

-- the walk of an effective address for a process
unfoldable pub walk_of : List ℕ → ℕ → ℕ → ℕ → Walked
walk_of ram prtbl pid ea =
    if is_in_table prtbl pid
    then reading (process_at prtbl pid) (walk_in ram ea (doubleword ram (process_at prtbl pid)))
    else ended (Err NoEntry)

-- a leaf that a walk can end in: a page of 2^12 bytes at least, at a real address that is a multiple of its size
pub record IsLeaf (leaf : Leaf) : Type 0 where
  pub least : 12 ≤ leaf.left
  pub most : leaf.left ≤ 57
  pub low : leaf.base < 2 ^ 57
  pub whole : leaf.base % 2 ^ leaf.left ≡ 0

-- real addresses that doublewords of tables can have
abbrev pub AreAddresses : List ℕ → Type 0
AreAddresses [] = ⊤
AreAddresses (at ∷ ats) = (at < 2 ^ 60) × (at % 8 ≡ 0) × AreAddresses ats

-- two RAMs have the same doublewords at these real addresses
abbrev pub AgreeOn : List ℕ → List ℕ → List ℕ → Type 0
AgreeOn ram other [] = ⊤
AgreeOn ram other (at ∷ ats) = (doubleword ram at ≡ doubleword other at) × AgreeOn ram other ats
