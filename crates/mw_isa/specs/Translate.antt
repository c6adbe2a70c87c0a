-- What an effective address comes to while addresses are translated: its quadrant, its walk, and what the walk's end gives
-- for an access (Book III, radix tree translation, storage protection, reference and change recording). This board writes
-- no table, so an entry that isn't marked is a fault.
use Rattle.std.specs.Prelude.{ℕ, ◌+◌, ◌/◌, ◌%◌, ◌^◌, Bool, false, not, ◌&&◌, ◌||◌, if◌then◌else◌, ◌==◌, List, Some, None, Result, Ok, Err}
use Rattle.mw_bits.specs.declared.rights.Rights.{Rights}
use Rattle.mw_isa.specs.declared.access.Kind.{Kind}
use Rattle.mw_isa.specs.declared.access.Kind.TheVariants.{Fetch, Load, Store}
use Rattle.mw_isa.specs.declared.pages.Page.{Page}
use Rattle.mw_isa.specs.declared.pages.StorageFault.{StorageFault}
use Rattle.mw_isa.specs.declared.pages.StorageFault.TheVariants.{Segment as NoSegment, NoTranslation, NotPermitted, BadTree as BadlyFormed, ReferenceOrChange}
use Rattle.mw_isa.specs.declared.regs.Regs.{Regs}
use Rattle.mw_isa.specs.declared.walk.KeptEntry.{KeptEntry}
use Rattle.mw_isa.specs.declared.walk.Leaf.{Leaf}
use Rattle.mw_isa.specs.declared.walk.Translated.{Translated}
use Rattle.mw_isa.specs.declared.walk.WalkFault.{WalkFault}
use Rattle.mw_isa.specs.declared.walk.WalkFault.TheVariants.{Segment, NoEntry, BadTree}
use Rattle.mw_isa.specs.Msr.{ir_place, dr_place, pr_place}
use Rattle.mw_isa.specs.Pages.{page_size, real_of}
use Rattle.mw_isa.specs.Walk.{walk_of}
use Rattle.mw_isa.specs.Xer.{has_bit}

-- the process whose tree an effective address belongs to: that of PIDR in quadrant 0, process 0 in quadrant 3
abbrev pub quadrant_of : ℕ → ℕ → Result ℕ StorageFault
quadrant_of pidr ea = if ea / 2 ^ 62 == 0 then Ok pidr else if ea / 2 ^ 62 == 3 then Ok 0 else Err NoSegment

-- rights permit an access of a kind in a privileged state
abbrev pub permits_kind : Rights → Kind → Bool
permits_kind rights Fetch = rights.execute
permits_kind rights Load = rights.read || rights.write
permits_kind rights Store = rights.write

-- rights permit an access of a kind, in problem state or not
abbrev pub permits : Rights → Kind → Bool → Bool
permits rights kind problem = not (problem && rights.privileged) && permits_kind rights kind

-- a leaf is marked for an access of a kind: as referenced, and for a store as changed
abbrev pub is_marked : Leaf → Kind → Bool
is_marked leaf Fetch = leaf.referenced
is_marked leaf Load = leaf.referenced
is_marked leaf Store = leaf.referenced && leaf.rights.changed

-- the real address that a leaf gives an effective one: the page's, and the low bits of the effective one
abbrev pub real_in : Leaf → ℕ → ℕ
real_in leaf ea = leaf.base + ea % 2 ^ leaf.left

-- the entry that may be kept of a translation, in pages of 4 KiB
abbrev pub entry_of : Leaf → ℕ → ℕ → KeptEntry
entry_of leaf pid ea = record { pid = pid; page = ea / page_size; real = real_in leaf ea / page_size; rights = leaf.rights; leaving = false }

-- where a leaf puts an effective address, and the entry of it
abbrev pub translated : Leaf → ℕ → ℕ → Translated
translated leaf pid ea = record { real = real_in leaf ea; kept = Some (entry_of leaf pid ea) }

-- what a leaf gives an access of a kind: first whether it permits it, then whether it is marked
abbrev pub leaf_gives : Leaf → Kind → Bool → ℕ → ℕ → Result Translated StorageFault
leaf_gives leaf kind problem pid ea =
    if permits leaf.rights kind problem then (if is_marked leaf kind then Ok (translated leaf pid ea) else Err ReferenceOrChange) else Err NotPermitted

-- what a walk's end gives an access of a kind, in problem state or not, for a process at an effective address
abbrev pub found_by : Result Leaf WalkFault → Kind → Bool → ℕ → ℕ → Result Translated StorageFault
found_by (Ok leaf) kind problem pid ea = leaf_gives leaf kind problem pid ea
found_by (Err Segment) kind problem pid ea = Err NoSegment
found_by (Err NoEntry) kind problem pid ea = Err NoTranslation
found_by (Err BadTree) kind problem pid ea = Err BadlyFormed

-- what an effective address comes to in the tree of its quadrant's process
abbrev pub translated_in : List ℕ → Regs → Kind → ℕ → Result ℕ StorageFault → Result Translated StorageFault
translated_in ram regs kind ea (Ok pid) = found_by (walk_of ram regs.prtbl pid ea).end kind (has_bit regs.msr pr_place) pid ea
translated_in ram regs kind ea (Err fault) = Err fault

-- addresses of a kind are translated: those of fetches with IR, those of data with DR
abbrev pub is_translated : Kind → ℕ → Bool
is_translated Fetch msr = has_bit msr ir_place
is_translated Load msr = has_bit msr dr_place
is_translated Store msr = has_bit msr dr_place

-- where an effective address stands while translation is off: nothing is kept of it
abbrev pub untranslated : ℕ → Translated
untranslated ea = record { real = real_of ea; kept = None }

-- what an effective address comes to for an access of a kind, by the registers and RAM
unfoldable pub translate_of : List ℕ → Regs → Kind → ℕ → Result Translated StorageFault
translate_of ram regs kind ea =
    if is_translated kind regs.msr then translated_in ram regs kind ea (quadrant_of regs.pidr ea) else Ok (untranslated ea)

-- the real address of what was translated
abbrev pub real_found : Result Translated StorageFault → Result ℕ StorageFault
real_found (Ok there) = Ok there.real
real_found (Err fault) = Err fault

-- the real address of a page's first byte, or what is wrong with the page
abbrev pub page_real : List ℕ → Regs → Page → Result ℕ StorageFault
page_real ram regs page = real_found (translate_of ram regs page.kind page.ea)
