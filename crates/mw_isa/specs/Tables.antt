-- The doublewords of radix translation, field by field (Book III, radix tree translation: process table entry, page
-- directory entry, page table entry). No other file has their bits.
use Rattle.std.specs.Prelude.{ℕ, ◌+◌, ◌*◌, ◌^◌, Bool, true, List}
use Rattle.mw_bits.specs.Fields.{field_of}
use Rattle.mw_bits.specs.declared.rights.Rights.{Rights}
use Rattle.mw_bus.specs.Memory.{bytes_at, number_of}
use Rattle.mw_isa.specs.Xer.{has_bit}

-- the doubleword of a table at a real address: big-endian in every mode, and all ones where RAM isn't
unfoldable pub doubleword : List ℕ → ℕ → ℕ
doubleword ram at = number_of true 8 (bytes_at ram at 8)

-- PRTBL: where the process table begins
abbrev pub table_base : ℕ → ℕ
table_base prtbl = field_of prtbl 4 51 * 2 ^ 12

-- PRTBL: how many bytes the process table has
abbrev pub table_bytes : ℕ → ℕ
table_bytes prtbl = 2 ^ (12 + field_of prtbl 59 63)

-- process entry, RTS: how many address bits its tree translates
abbrev pub tree_bits : ℕ → ℕ
tree_bits entry = 31 + (field_of entry 1 2 * 8 + field_of entry 56 58)

-- process entry, RPDB: where the root of its tree begins
abbrev pub root_base : ℕ → ℕ
root_base entry = field_of entry 4 55 * 2 ^ 8

-- process entry, RPDS: how many address bits the root is indexed by
abbrev pub root_bits : ℕ → ℕ
root_bits entry = field_of entry 59 63

-- directory or leaf, V: the entry is there
abbrev pub is_there : ℕ → Bool
is_there entry = has_bit entry 0

-- directory or leaf, L: the entry is a leaf
abbrev pub is_leaf : ℕ → Bool
is_leaf entry = has_bit entry 1

-- directory, NLB: where the next level's table begins
abbrev pub next_base : ℕ → ℕ
next_base entry = field_of entry 4 55 * 2 ^ 8

-- directory, NLS: how many address bits the next level is indexed by
abbrev pub next_bits : ℕ → ℕ
next_bits entry = field_of entry 59 63

-- leaf, RPN: the real address of its page, but for the bits that are the page's own
abbrev pub page_base : ℕ → ℕ
page_base entry = field_of entry 7 51 * 2 ^ 12

-- leaf, R: it is marked as referenced
abbrev pub is_referenced : ℕ → Bool
is_referenced entry = has_bit entry 55

-- leaf, EAA and C: what it permits, and whether it is marked as changed
abbrev pub rights_of : ℕ → Rights
rights_of entry = record {
  privileged = has_bit entry 60;
  read = has_bit entry 61;
  write = has_bit entry 62;
  execute = has_bit entry 63;
  changed = has_bit entry 56;
}
