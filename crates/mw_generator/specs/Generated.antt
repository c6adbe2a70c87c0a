-- What a generated image is: zeros, over which a start, a handler, a radix tree and a long program lie.
use Rattle.std.specs.Prelude.{ℕ, suc, zero, ◌+◌, ◌-◌, ◌*◌, ◌%◌, ◌==◌, ◌&&◌, nat_le, if◌then◌else◌, List, [], ◌∷◌, ◌++◌, pos, neg_ℤ, codes, replicate}
use Rattle.std.specs.Int.{w32, w64, to_le_bytes, to_be_bytes}
use Rattle.mw_bits.specs.Pieces.{with_piece}
use Rattle.mw_generator.specs.Draws.{next_number, number_behind, draw}
use Rattle.mw_generator.specs.Instructions.{word, si_of, li, lis, mtspr}

-- bytes over which a word lies, its least significant byte first
unfoldable pub with_word : ℕ → ℕ → List ℕ → List ℕ
with_word at w bytes = with_piece bytes at (to_le_bytes w32 w)

-- bytes over which a doubleword lies, its most significant byte first, as the tables of translation have it (Book III, radix trees)
unfoldable pub with_doubleword : ℕ → ℕ → List ℕ → List ℕ
with_doubleword at d bytes = with_piece bytes at (to_be_bytes w64 d)

-- bytes over which words lie, one behind the other from a place on
unfoldable pub with_words : ℕ → List ℕ → List ℕ → List ℕ
with_words at [] bytes = bytes
with_words at (w ∷ ws) bytes = with_words (at + 4) ws (with_word at w bytes)

-- the image has so many bytes
abbrev pub image_size : ℕ
image_size = 0x18_0000

-- where the handler of the decrementer stands (Book III, interrupt vector offsets)
abbrev pub handler_at : ℕ
handler_at = 0x900

-- where the leaves stand, 8 bytes each in the order of pages
abbrev pub leaves_at : ℕ
leaves_at = 0x3_2000

-- there are so many leaves
abbrev pub leaf_count : ℕ
leaf_count = 512

-- where the program stands
abbrev pub program_at : ℕ
program_at = 0x10_0000

-- it has so many drawn instructions
abbrev pub program_length : ℕ
program_length = 131071

-- the start before its draws: PID 1, the process table at 0x10000, register 3 at the data, SRR0 at the program, SRR1 with translation and external interrupts on
abbrev pub setup : List ℕ
setup =
    li 3 (pos 1) ∷ mtspr 48 3 ∷ lis 3 (pos 1) ∷ mtspr 720 3 ∷ lis 3 (pos 4) ∷ lis 4 (pos 16) ∷ mtspr 26 4
    ∷ word (codes "mfmsr") (pos 5 ∷ []) ∷ word (codes "ori") (pos 5 ∷ pos 5 ∷ pos 0x8030 ∷ []) ∷ mtspr 27 5 ∷ []

-- a register becomes what the next draw gives, as an SI
abbrev pub load : ℕ → ℕ → ℕ
load rt x = li rt (si_of (draw 1 65536 x))

-- so many registers from one on become what draws give
abbrev pub loads : ℕ → ℕ → ℕ → List ℕ
loads zero rt x = []
loads (suc n) rt x = load rt x ∷ loads n (rt + 1) (next_number x)

-- the decrementer is set to a period, and rfid goes to where SRR0 is
abbrev pub return : ℕ → List ℕ
return period = li 6 (pos period) ∷ mtspr 22 6 ∷ word (codes "rfid") [] ∷ []

-- what stands at 0: registers 8 to 15 become what draws from a number on give
abbrev pub start : ℕ → ℕ → List ℕ
start period x = setup ++ loads 8 8 x ++ return period

-- the handler of the decrementer: register 7 counts its interrupts
abbrev pub handler : ℕ → List ℕ
handler period = word (codes "addi") (pos 7 ∷ pos 7 ∷ pos 1 ∷ []) ∷ return period

-- the tables above the leaves, each with one entry that is there: the entry of process 1, the root, the second and the third level
unfoldable pub with_tables : List ℕ → List ℕ
with_tables bytes =
    with_doubleword 0x3_1000 0x8000_0000_0003_2009
    (with_doubleword 0x3_0000 0x8000_0000_0003_1009
    (with_doubleword 0x2_0000 0x8000_0000_0003_0009
    (with_doubleword 0x1_0010 0x4000_0000_0002_00AD bytes)))

-- the real page of a page: itself, but pages 64 to 71 are turned by so many
abbrev pub real_page : ℕ → ℕ → ℕ
real_page turn page = if nat_le 64 page && nat_le page 71 then 64 + (page - 64 + turn) % 8 else page

-- the leaf of a page of 4 KiB, with its rights to read, write and execute and both marks
abbrev pub leaf : ℕ → ℕ → ℕ
leaf turn page = 0xC000_0000_0000_0187 + 4096 * real_page turn page

-- so many leaves from a page on
unfoldable pub with_leaves : ℕ → ℕ → ℕ → List ℕ → List ℕ
with_leaves zero turn page bytes = bytes
with_leaves (suc n) turn page bytes = with_leaves n turn (page + 1) (with_doubleword (leaves_at + 8 * page) (leaf turn page) bytes)

-- an instruction of three registers
abbrev pub of_three : List ℕ → ℕ → ℕ → ℕ → ℕ
of_three name t a b = word name (pos t ∷ pos a ∷ pos b ∷ [])

-- an access at a displacement from register 3
abbrev pub access : List ℕ → ℕ → ℕ → ℕ
access name t displacement = word name (pos t ∷ pos displacement ∷ pos 3 ∷ [])

-- the instruction that a number below 8 chooses, of three registers and a number of 16 bits
unfoldable pub chosen : ℕ → ℕ → ℕ → ℕ → ℕ → ℕ
chosen k t a b i =
    if k == 0 then of_three (codes "add") t a b
    else if k == 1 then of_three (codes "xor") t a b
    else if k == 2 then of_three (codes "mulld") t a b
    else if k == 3 then of_three (codes "divd") t a b
    else if k == 4 then access (codes "ld") t (8 * (i % 4096))
    else if k == 5 then access (codes "std") t (8 * (i % 4096))
    else if k == 6 then word (codes "addi") (pos t ∷ pos a ∷ si_of i ∷ [])
    else access (codes "stw") t (i % 32764)

-- the instruction that five draws from a number on choose, of registers 8 to 15
unfoldable pub drawn_word : ℕ → ℕ
drawn_word x = chosen (draw 1 8 x) (8 + draw 2 8 x) (8 + draw 3 8 x) (8 + draw 4 8 x) (draw 5 65536 x)

-- the branch from behind the drawn instructions to the first of them
abbrev pub back : ℕ
back = word (codes "b") (neg_ℤ (pos (4 * program_length)) ∷ [])

-- so many drawn instructions, each from the number behind the one before, and then the branch back
unfoldable pub program : ℕ → ℕ → List ℕ
program zero x = back ∷ []
program (suc n) x = drawn_word x ∷ program n (number_behind 5 x)

-- by how many pages pages are turned, by the first draw
abbrev pub turn_of : ℕ → ℕ
turn_of seed = draw 1 8 seed

-- how long the decrementer counts: 1000 to 1999, by the second draw
abbrev pub period_of : ℕ → ℕ
period_of seed = 1000 + draw 2 1000 seed

-- what lies over so many zeros, the first laid innermost: the start, the handler, the tables, the leaves and the program
unfoldable pub image_over : ℕ → ℕ → List ℕ
image_over size seed =
    with_words program_at (program program_length (number_behind 10 seed))
    (with_leaves leaf_count (turn_of seed) 0
    (with_tables
    (with_words handler_at (handler (period_of seed))
    (with_words 0 (start (period_of seed) (number_behind 2 seed))
    (replicate size 0)))))

-- the image of a seed
unfoldable pub generated : ℕ → List ℕ
generated seed = image_over image_size seed
