-- The prefixed instructions: a prefix word and a suffix word (Book I, prefixed instruction formats). Bits of a word are numbered from the left, 0 to 31.
use Rattle.std.specs.Prelude.{ℕ, ⊤, ◌+◌, ◌*◌, ◌/◌, ◌%◌, ◌^◌, ◌<◌, ◌≡◌, ◌==◌, Bool, ◌&&◌, ◌||◌, if◌then◌else◌, Result, Ok, Err}
use Rattle.mw_prefix.specs.declared.wide.Wide.{Wide}
use Rattle.mw_prefix.specs.declared.wide.Wide.TheVariants.{Mls, Eight, Nop}
use Rattle.mw_prefix.specs.declared.wide.NotWide.{NotWide}

-- bits 0 to 8 of a prefix of this type: primary opcode 1, the type in bits 6 and 7, and a bit 8 that is 0
abbrev pub opening : ℕ → ℕ
opening type = 1 * 2 ^ 3 + type * 2 ^ 1 + 0

-- a prefix that widens the instruction which its suffix would be alone: type 2 (MLS)
abbrev pub is_mls : ℕ → Bool
is_mls prefix = prefix / 2 ^ 23 == opening 2

-- a prefix of a load or store with a suffix opcode of its own: type 0 (8LS)
abbrev pub is_eight : ℕ → Bool
is_eight prefix = prefix / 2 ^ 23 == opening 0

-- the prefix of pnop, in all its bits
abbrev pub nop_prefix : ℕ
nop_prefix = 7 * 2 ^ 24

-- the prefix is that of pnop
abbrev pub is_nop : ℕ → Bool
is_nop prefix = prefix == nop_prefix

-- the prefix has one of the three forms
abbrev pub has_form : ℕ → Bool
has_form prefix = is_mls prefix || is_eight prefix || is_nop prefix

-- R, bit 11: the address counts from the prefix's own
abbrev pub pcrel_of : ℕ → Bool
pcrel_of prefix = prefix / 2 ^ 20 % 2 == 1

-- the displacement of 34 bits: the prefix's bits 14 to 31 (d0), then the suffix's bits 16 to 31 (d1)
abbrev pub disp_of : ℕ → ℕ → ℕ
disp_of prefix suffix = prefix % 2 ^ 18 * 2 ^ 16 + suffix % 2 ^ 16

-- what two words are; the prefix's reserved bits, 9, 10, 12 and 13, don't count
abbrev pub split_of : ℕ → ℕ → Result Wide NotWide
split_of prefix suffix =
    if is_mls prefix then Ok (Mls (pcrel_of prefix) (disp_of prefix suffix) suffix)
    else if is_eight prefix then Ok (Eight (pcrel_of prefix) (disp_of prefix suffix) suffix)
    else if is_nop prefix then Ok (Nop suffix)
    else Err (record {})

-- a prefix with these bits 0 to 8, with R and a displacement, its reserved bits 0
abbrev pub prefix_with : ℕ → Bool → ℕ → ℕ
prefix_with first pcrel disp = first * 2 ^ 23 + (if pcrel then 2 ^ 20 else 0) + disp / 2 ^ 16

-- the prefix of a prefixed instruction
abbrev pub prefix_of : Wide → ℕ
prefix_of (Mls pcrel disp suffix) = prefix_with (opening 2) pcrel disp
prefix_of (Eight pcrel disp suffix) = prefix_with (opening 0) pcrel disp
prefix_of (Nop suffix) = nop_prefix

-- the suffix of a prefixed instruction
abbrev pub suffix_of : Wide → ℕ
suffix_of (Mls pcrel disp suffix) = suffix
suffix_of (Eight pcrel disp suffix) = suffix
suffix_of (Nop suffix) = suffix

-- the reserved bits, 9, 10, 12 and 13, are 0
abbrev pub is_unreserved : ℕ → Bool
is_unreserved prefix = prefix / 2 ^ 21 % 2 ^ 2 == 0 && prefix / 2 ^ 18 % 2 ^ 2 == 0

-- a displacement has 34 bits, and the suffix holds the low 16 of them
abbrev pub IsDisplacement : ℕ → ℕ → Type 0
IsDisplacement disp suffix = (disp < 2 ^ 34) × (disp % 2 ^ 16 ≡ suffix % 2 ^ 16)

-- the displacement, where there is one, fits the two words
abbrev pub IsWide : Wide → Type 0
IsWide (Mls pcrel disp suffix) = IsDisplacement disp suffix
IsWide (Eight pcrel disp suffix) = IsDisplacement disp suffix
IsWide (Nop suffix) = ⊤
