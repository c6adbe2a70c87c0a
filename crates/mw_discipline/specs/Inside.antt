-- Inside: what is kept of a block, of which blocks a synchronizing event changes the status, and how translations are kept.
use Rattle.std.specs.List.{AllByRecursion}
use Rattle.std.specs.Prelude.{ℕ, ◌≡◌, ◌+◌, ◌/◌, ◌^◌, ◌<◌, ◌==◌, ◌&&◌, ◌||◌, nat_lt, All, Bool, true, false, List, [], ◌∷◌, ◌++◌, length, Option, Some, None, slice_index_or, slice_set}
use Rattle.mw_isa.specs.declared.access.Span.{Span}
use Rattle.mw_isa.specs.declared.offence.BlockStatus.{BlockStatus}
use Rattle.mw_isa.specs.declared.offence.BlockStatus.TheVariants.{Changed as ChangedBlock, Invalidated as InvalidatedBlock}
use Rattle.mw_isa.specs.declared.walk.KeptEntry.{KeptEntry}
use Rattle.mw_isa.specs.Discipline.{block_count}
use Rattle.mw_isa.specs.Entries.{AreOrdered}
use Rattle.mw_discipline.specs.declared.place.Place.{Place}
use Rattle.mw_discipline.specs.declared.place.Place.TheVariants.{Clean, Changed, Invalidated, Again}

-- the status of a block
abbrev pub status_at : Place → Option BlockStatus
status_at Clean = None
status_at Changed = Some ChangedBlock
status_at Invalidated = Some InvalidatedBlock
status_at Again = Some ChangedBlock

-- a block waits for a synchronizing event
abbrev pub waits : Place → Bool
waits Clean = false
waits Changed = false
waits Invalidated = true
waits Again = true

-- a block behind a store to it
abbrev pub stored : Place → Place
stored Clean = Changed
stored Changed = Changed
stored Invalidated = Again
stored Again = Again

-- a block of which the instructions' copy is given up
abbrev pub given_up : Place → Place
given_up Clean = Clean
given_up Changed = Invalidated
given_up Invalidated = Invalidated
given_up Again = Invalidated

-- a block behind a synchronizing event
abbrev pub settled : Place → Place
settled Clean = Clean
settled Changed = Changed
settled Invalidated = Clean
settled Again = Changed

-- what is kept of a block, by its number
abbrev pub place_in : List Place → ℕ → Place
place_in places block = slice_index_or places block Clean

-- the blocks of these numbers are settled, one after another
abbrev pub settled_at : List ℕ → List Place → List Place
settled_at [] places = places
settled_at (block ∷ blocks) places = settled_at blocks (slice_set places block (settled (place_in places block)))

-- the numbers that are listed behind a block of which the copy is given up: that of a block that waits is there already
abbrev pub listed_by : Place → ℕ → List ℕ → List ℕ
listed_by Clean block waiting = waiting
listed_by Changed block waiting = waiting ++ block ∷ []
listed_by Invalidated block waiting = waiting
listed_by Again block waiting = waiting

-- a number is listed
abbrev pub is_listed : List ℕ → ℕ → Bool
is_listed [] block = false
is_listed (first ∷ others) block = first == block || is_listed others block

-- all blocks are there, and each that waits is listed by its number
pub record AreListed (places : List Place) (waiting : List ℕ) : Type 0 where
  pub size : length places ≡ block_count
  pub within : All (λ block. block < block_count) waiting
  pub listed : (block : ℕ) → waits (place_in places block) ≡ true → is_listed waiting block ≡ true

-- the number of the first block behind a stretch of RAM
abbrev pub past_block : Span → ℕ
past_block span = (span.at + span.len + 63) / 64

-- translations that are kept, and how many more there is room for
pub record Listed : Type 0 where
  pub items : List KeptEntry
  pub room : ℕ

-- a translation stands before those of a page for a process
abbrev pub is_before : ℕ → ℕ → KeptEntry → Bool
is_before pid page entry = nat_lt entry.pid pid || entry.pid == pid && nat_lt entry.page page

-- translations stand each once and in their order, at real pages; and where none may be leaving, none is
pub record AreKept (items : List KeptEntry) (leaving : Bool) : Type 0 where
  pub ordered : AreOrdered items
  pub low : AllByRecursion (λ entry. entry.real < 2 ^ 52) items
  pub still : leaving ≡ false → AllByRecursion (λ entry. entry.leaving ≡ false) items
