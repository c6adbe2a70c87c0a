-- The words of instructions, by their names in the table and their operands in the order of the table (Book I, instruction formats).
use Rattle.std.specs.Prelude.{ℕ, false, nat_lt, if◌then◌else◌, List, [], ◌∷◌, ℤ, pos, ◌-ℤ◌, codes, bytes_eq}
use Rattle.std.specs.List.{position_from}
use Rattle.std.specs.Option.{option_map_or}
use Rattle.mw_tables.specs.Row.{TableRow}
use Rattle.mw_tables.specs.Rows.{table, row_count}
use Rattle.mw_decode.specs.declared.insn.Insn.{Insn}
use Rattle.mw_decode.specs.Encode.{encode_of}

-- the place in the table of the row with a name, or behind its end where none has it
unfoldable pub row_named : List ℕ → ℕ
row_named name = option_map_or (λ n. n) (position_from (λ (row : TableRow). bytes_eq row.name name) 0 table) row_count

-- the instruction of a row with these operands and no form
abbrev pub insn_at : ℕ → List ℤ → Insn
insn_at row operands = record { row = row; ops = record { items = operands }; oe = false; rc = false; aa = false; lk = false }

-- the word of the instruction that has a name, with these operands and no form
unfoldable pub word : List ℕ → List ℤ → ℕ
word name operands = (encode_of (insn_at (row_named name) operands)).word

-- a number of 16 bits as the SI that has these bits
abbrev pub si_of : ℕ → ℤ
si_of i = if nat_lt i 32768 then pos i else pos i -ℤ pos 65536

-- li: a register becomes SI
abbrev pub li : ℕ → ℤ → ℕ
li rt si = word (codes "addi") (pos rt ∷ pos 0 ∷ si ∷ [])

-- lis: a register becomes SI * 65536
abbrev pub lis : ℕ → ℤ → ℕ
lis rt si = word (codes "addis") (pos rt ∷ pos 0 ∷ si ∷ [])

-- mtspr: a special-purpose register becomes what a register holds
abbrev pub mtspr : ℕ → ℕ → ℕ
mtspr spr rs = word (codes "mtspr") (pos spr ∷ pos rs ∷ [])
