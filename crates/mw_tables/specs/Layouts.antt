-- Where the operands of a row stand: which pieces of the code hold each of them (Book I, instruction fields).
use Rattle.std.specs.Prelude.{ℕ, ◌+◌, ◌-◌, ◌*◌, ◌/◌, ◌%◌, ◌^◌, ◌<◌, ◌≡◌, Bool, true, false, ◌&&◌, nat_lt, if◌then◌else◌, List, [], ◌∷◌, ◌++◌, map, ℤ, pos, neg_ℤ, ◌-ℤ◌, ◌*ℤ◌, ◌≤ℤ◌, ◌<ℤ◌, slice_index_or, bit_or}
use Rattle.std.specs.List.{list_all}
use Rattle.std.specs.Int.{w64, cast_unsigned}
use Rattle.mw_tables.specs.declared.row.Shape.{Shape}
use Rattle.mw_tables.specs.declared.row.Shape.TheVariants.{RtRaSi, BfLRaSi, BfLRaUi, ToRaSi, RaRsUi, RtD, Target, BoBiTarget, BoBiBh, BtBaBb, BfBfa, RaRsShMbMe, RaRsRbMbMe, RaRsShMb, RaRsShMe, RaRsRbMb, RaRsRbMe, RtRaRbRc, RtRaRb, RtRa, RtRaRbCy, RaRsRb, RaRsSh, RaRs, BfLRaRb, ToRaRb, RtRaRbBc, Rt, RtFxm, FxmRs, RtBfa, RtBi, BfRaRb, Bf, RtDRa, RaRb, Empty, L, RsL, RbRsRicPrsR, RtSpr, SprRs, RtTbr, RtL, RtRaSiR, RtDRaR}
use Rattle.mw_tables.specs.declared.layout.Piece.{Piece}
use Rattle.mw_tables.specs.declared.layout.Field.{Field}
use Rattle.mw_tables.specs.declared.layout.Layout.{Layout}
use Rattle.mw_tables.specs.declared.layout.Layout.TheVariants.{DRtRaSi, DBfLRaSi, DBfLRaUi, DToRaSi, DRaRsUi, DxRtD, ITarget, BBoBiTarget, XlBoBiBh, XlBtBaBb, XlBfBfa, MRaRsShMbMe, MRaRsRbMbMe, MdRaRsShMb, MdRaRsShMe, MdsRaRsRbMb, MdsRaRsRbMe, VaRtRaRbRc, XRtRaRb, XRtRa, Z23RtRaRbCy, XRaRsRb, XRaRsSh, XsRaRsSh, XRaRs, XBfLRaRb, XToRaRb, ARtRaRbBc, XRt, XfxRtFxm, XfxFxmRs, XRtBfa, XRtBi, XBfRaRb, XBf, DRtDRa, DsRtDRa, XRaRb, Empty as NoOperands, XL, XRsL, XRbRsRicPrsR, XfxRtSpr, XfxSprRs, XfxRtTbr, XRtL, MlsRtRaSiR, WideRtDRaR}
use Rattle.mw_tables.specs.Row.{TableRow}

-- The code of an instruction is its word, or its prefix * 2^32 + its suffix. Bits of a word, of a prefix and of a suffix are numbered from the left of its 32.

-- bits first to last of the word or the suffix
abbrev pub bits : ℕ → ℕ → Piece
bits first last = record { low = 31 - last; width = last - first + 1 }

-- bits first to last of the prefix
abbrev pub prefix_bits : ℕ → ℕ → Piece
prefix_bits first last = record { low = 63 - last; width = last - first + 1 }

-- no bits
abbrev pub no_bits : Piece
no_bits = record { low = 0; width = 0 }

-- an unsigned number in one piece
abbrev pub unsigned : Piece → Field
unsigned piece = record { low = piece; middle = no_bits; high = no_bits; shift = 0; signed = false }

-- an unsigned number in two pieces, the lower one first
abbrev pub unsigned_in_two : Piece → Piece → Field
unsigned_in_two low high = record { low = low; middle = high; high = no_bits; shift = 0; signed = false }

-- a signed number in one piece
abbrev pub signed : Piece → Field
signed piece = record { low = piece; middle = no_bits; high = no_bits; shift = 0; signed = true }

-- a signed multiple of 4 in one piece, which leaves its low two bits out
abbrev pub signed_words : Piece → Field
signed_words piece = record { low = piece; middle = no_bits; high = no_bits; shift = 2; signed = true }

-- RT: the target register
abbrev pub rt : Field
rt = unsigned (bits 6 10)

-- RS: the source register
abbrev pub rs : Field
rs = unsigned (bits 6 10)

-- TO: the conditions of a trap
abbrev pub to : Field
to = unsigned (bits 6 10)

-- BO: when a branch is taken
abbrev pub bo : Field
bo = unsigned (bits 6 10)

-- BT: the target bit of CR
abbrev pub bt : Field
bt = unsigned (bits 6 10)

-- BF: the target field of CR
abbrev pub bf : Field
bf = unsigned (bits 6 8)

-- L of a comparison: whether 64 bits are compared
abbrev pub l : Field
l = unsigned (bits 10 10)

-- RA: a register
abbrev pub ra : Field
ra = unsigned (bits 11 15)

-- BA: a source bit of CR
abbrev pub ba : Field
ba = unsigned (bits 11 15)

-- BI: the bit of CR that is tested
abbrev pub bi : Field
bi = unsigned (bits 11 15)

-- BFA: the source field of CR
abbrev pub bfa : Field
bfa = unsigned (bits 11 13)

-- RB: a register
abbrev pub rb : Field
rb = unsigned (bits 16 20)

-- BB: a source bit of CR
abbrev pub bb : Field
bb = unsigned (bits 16 20)

-- SH: by how much a word is shifted
abbrev pub sh : Field
sh = unsigned (bits 16 20)

-- BH: a hint of a branch
abbrev pub bh : Field
bh = unsigned (bits 19 20)

-- RC: a register
abbrev pub rc : Field
rc = unsigned (bits 21 25)

-- BC: the bit of CR that selects
abbrev pub bc : Field
bc = unsigned (bits 21 25)

-- CY: the carry that is used
abbrev pub cy : Field
cy = unsigned (bits 21 22)

-- MB: the first bit of a mask in a word
abbrev pub mb : Field
mb = unsigned (bits 21 25)

-- ME: the last bit of a mask in a word
abbrev pub me : Field
me = unsigned (bits 26 30)

-- SH in 6 bits: bit 30, then 16 to 20
abbrev pub sh_wide : Field
sh_wide = unsigned_in_two (bits 16 20) (bits 30 30)

-- MB or ME in 6 bits: bit 26, then 21 to 25
abbrev pub mask_end : Field
mask_end = unsigned_in_two (bits 21 25) (bits 26 26)

-- SI: a signed number
abbrev pub si : Field
si = signed (bits 16 31)

-- UI: an unsigned number
abbrev pub ui : Field
ui = unsigned (bits 16 31)

-- D: a displacement of bytes
abbrev pub d : Field
d = signed (bits 16 31)

-- DS: a displacement of bytes, a multiple of 4
abbrev pub ds : Field
ds = signed_words (bits 16 29)

-- D in the format DX: bits 16 to 25, then 11 to 15, then 31
abbrev pub dx_d : Field
dx_d = record { low = bits 31 31; middle = bits 11 15; high = bits 16 25; shift = 0; signed = true }

-- LI: the displacement of a branch, a multiple of 4
abbrev pub li : Field
li = signed_words (bits 6 29)

-- BD: the displacement of a conditional branch, a multiple of 4
abbrev pub bd : Field
bd = signed_words (bits 16 29)

-- FXM: fields of CR, one a bit
abbrev pub fxm : Field
fxm = unsigned (bits 12 19)

-- SPR and TBR: bits 16 to 20, then 11 to 15
abbrev pub spr : Field
spr = unsigned_in_two (bits 11 15) (bits 16 20)

-- L of sync: its kind
abbrev pub l_sync : Field
l_sync = unsigned (bits 8 10)

-- L of mtmsr and mtmsrd: whether EE and RI alone are set
abbrev pub l_msr : Field
l_msr = unsigned (bits 15 15)

-- L of darn: the format of the number
abbrev pub l_darn : Field
l_darn = unsigned (bits 14 15)

-- RIC: what tlbie reaches
abbrev pub ric : Field
ric = unsigned (bits 12 13)

-- PRS: whether tlbie is process-scoped
abbrev pub prs : Field
prs = unsigned (bits 14 14)

-- R: whether tlbie is of radix translation
abbrev pub r : Field
r = unsigned (bits 15 15)

-- D and SI in 34 bits: bits 14 to 31 of the prefix, then 16 to 31 of the suffix
abbrev pub d_wide : Field
d_wide = record { low = bits 16 31; middle = prefix_bits 14 31; high = no_bits; shift = 0; signed = true }

-- R of the prefix, bit 11: whether the address is that of the prefix and D
abbrev pub r_wide : Field
r_wide = unsigned (prefix_bits 11 11)

-- the fields of a layout, in the order of the operands
abbrev pub fields_of : Layout → List Field
fields_of DRtRaSi = rt ∷ ra ∷ si ∷ []
fields_of DBfLRaSi = bf ∷ l ∷ ra ∷ si ∷ []
fields_of DBfLRaUi = bf ∷ l ∷ ra ∷ ui ∷ []
fields_of DToRaSi = to ∷ ra ∷ si ∷ []
fields_of DRaRsUi = ra ∷ rs ∷ ui ∷ []
fields_of DxRtD = rt ∷ dx_d ∷ []
fields_of ITarget = li ∷ []
fields_of BBoBiTarget = bo ∷ bi ∷ bd ∷ []
fields_of XlBoBiBh = bo ∷ bi ∷ bh ∷ []
fields_of XlBtBaBb = bt ∷ ba ∷ bb ∷ []
fields_of XlBfBfa = bf ∷ bfa ∷ []
fields_of MRaRsShMbMe = ra ∷ rs ∷ sh ∷ mb ∷ me ∷ []
fields_of MRaRsRbMbMe = ra ∷ rs ∷ rb ∷ mb ∷ me ∷ []
fields_of MdRaRsShMb = ra ∷ rs ∷ sh_wide ∷ mask_end ∷ []
fields_of MdRaRsShMe = ra ∷ rs ∷ sh_wide ∷ mask_end ∷ []
fields_of MdsRaRsRbMb = ra ∷ rs ∷ rb ∷ mask_end ∷ []
fields_of MdsRaRsRbMe = ra ∷ rs ∷ rb ∷ mask_end ∷ []
fields_of VaRtRaRbRc = rt ∷ ra ∷ rb ∷ rc ∷ []
fields_of XRtRaRb = rt ∷ ra ∷ rb ∷ []
fields_of XRtRa = rt ∷ ra ∷ []
fields_of Z23RtRaRbCy = rt ∷ ra ∷ rb ∷ cy ∷ []
fields_of XRaRsRb = ra ∷ rs ∷ rb ∷ []
fields_of XRaRsSh = ra ∷ rs ∷ sh ∷ []
fields_of XsRaRsSh = ra ∷ rs ∷ sh_wide ∷ []
fields_of XRaRs = ra ∷ rs ∷ []
fields_of XBfLRaRb = bf ∷ l ∷ ra ∷ rb ∷ []
fields_of XToRaRb = to ∷ ra ∷ rb ∷ []
fields_of ARtRaRbBc = rt ∷ ra ∷ rb ∷ bc ∷ []
fields_of XRt = rt ∷ []
fields_of XfxRtFxm = rt ∷ fxm ∷ []
fields_of XfxFxmRs = fxm ∷ rs ∷ []
fields_of XRtBfa = rt ∷ bfa ∷ []
fields_of XRtBi = rt ∷ bi ∷ []
fields_of XBfRaRb = bf ∷ ra ∷ rb ∷ []
fields_of XBf = bf ∷ []
fields_of DRtDRa = rt ∷ d ∷ ra ∷ []
fields_of DsRtDRa = rt ∷ ds ∷ ra ∷ []
fields_of XRaRb = ra ∷ rb ∷ []
fields_of NoOperands = []
fields_of XL = l_sync ∷ []
fields_of XRsL = rs ∷ l_msr ∷ []
fields_of XRbRsRicPrsR = rb ∷ rs ∷ ric ∷ prs ∷ r ∷ []
fields_of XfxRtSpr = rt ∷ spr ∷ []
fields_of XfxSprRs = spr ∷ rs ∷ []
fields_of XfxRtTbr = rt ∷ spr ∷ []
fields_of XRtL = rt ∷ l_darn ∷ []
fields_of MlsRtRaSiR = rt ∷ ra ∷ d_wide ∷ r_wide ∷ []
fields_of WideRtDRaR = rt ∷ d_wide ∷ ra ∷ r_wide ∷ []

-- the operand list that a layout lays out
abbrev pub shape_of : Layout → Shape
shape_of DRtRaSi = RtRaSi
shape_of DBfLRaSi = BfLRaSi
shape_of DBfLRaUi = BfLRaUi
shape_of DToRaSi = ToRaSi
shape_of DRaRsUi = RaRsUi
shape_of DxRtD = RtD
shape_of ITarget = Target
shape_of BBoBiTarget = BoBiTarget
shape_of XlBoBiBh = BoBiBh
shape_of XlBtBaBb = BtBaBb
shape_of XlBfBfa = BfBfa
shape_of MRaRsShMbMe = RaRsShMbMe
shape_of MRaRsRbMbMe = RaRsRbMbMe
shape_of MdRaRsShMb = RaRsShMb
shape_of MdRaRsShMe = RaRsShMe
shape_of MdsRaRsRbMb = RaRsRbMb
shape_of MdsRaRsRbMe = RaRsRbMe
shape_of VaRtRaRbRc = RtRaRbRc
shape_of XRtRaRb = RtRaRb
shape_of XRtRa = RtRa
shape_of Z23RtRaRbCy = RtRaRbCy
shape_of XRaRsRb = RaRsRb
shape_of XRaRsSh = RaRsSh
shape_of XsRaRsSh = RaRsSh
shape_of XRaRs = RaRs
shape_of XBfLRaRb = BfLRaRb
shape_of XToRaRb = ToRaRb
shape_of ARtRaRbBc = RtRaRbBc
shape_of XRt = Rt
shape_of XfxRtFxm = RtFxm
shape_of XfxFxmRs = FxmRs
shape_of XRtBfa = RtBfa
shape_of XRtBi = RtBi
shape_of XBfRaRb = BfRaRb
shape_of XBf = Bf
shape_of DRtDRa = RtDRa
shape_of DsRtDRa = RtDRa
shape_of XRaRb = RaRb
shape_of NoOperands = Empty
shape_of XL = L
shape_of XRsL = RsL
shape_of XRbRsRicPrsR = RbRsRicPrsR
shape_of XfxRtSpr = RtSpr
shape_of XfxSprRs = SprRs
shape_of XfxRtTbr = RtTbr
shape_of XRtL = RtL
shape_of MlsRtRaSiR = RtRaSiR
shape_of WideRtDRaR = RtDRaR

-- OE: whether overflow is recorded
abbrev pub flag_oe : Field
flag_oe = unsigned (bits 21 21)

-- Rc: whether the result is recorded in field 0 of CR
abbrev pub flag_rc : Field
flag_rc = unsigned (bits 31 31)

-- AA: whether the target is absolute
abbrev pub flag_aa : Field
flag_aa = unsigned (bits 30 30)

-- LK: whether the link register is set
abbrev pub flag_lk : Field
flag_lk = unsigned (bits 31 31)

-- the field where the row has that form; else a field without bits, whose operand is 0
abbrev pub flag : Bool → Field → Field
flag exists f = if exists then f else unsigned no_bits

-- the forms of a row: OE, Rc, AA and LK
abbrev pub flags_of : TableRow → List Field
flags_of row = flag row.oe flag_oe ∷ flag row.rc flag_rc ∷ flag row.absolute flag_aa ∷ flag row.links flag_lk ∷ []

-- all that stands in a row's code beside its fixed bits: the operands, then the forms
abbrev pub all_fields : TableRow → Layout → List Field
all_fields row layout = fields_of layout ++ flags_of row

-- the pieces of a field, the lowest first
abbrev pub pieces_of : Field → List Piece
pieces_of f = f.low ∷ f.middle ∷ f.high ∷ []

-- how many bits a field has
abbrev pub width_of : Field → ℕ
width_of f = f.low.width + (f.middle.width + f.high.width)

-- the piece stands within the low 63 bits
abbrev pub is_within : Piece → Bool
is_within p = nat_lt (p.low + p.width) 64

-- a field that can be read and written: its pieces stand within the code, and what it holds fits 62 bits
abbrev pub is_readable : Field → Bool
is_readable f = list_all is_within (pieces_of f) && nat_lt (width_of f + f.shift) 63

-- the number in a piece of a code
abbrev pub slot : ℕ → Piece → ℕ
slot code p = code / 2 ^ p.low % 2 ^ p.width

-- the number in pieces of a code, the lowest first
abbrev pub gathered : ℕ → List Piece → ℕ
gathered code [] = 0
gathered code (p ∷ ps) = slot code p + 2 ^ p.width * gathered code ps

-- a code that has a number in these pieces and zeros elsewhere
abbrev pub scattered : ℕ → List Piece → ℕ
scattered number [] = 0
scattered number (p ∷ ps) = bit_or (number % 2 ^ p.width * 2 ^ p.low) (scattered (number / 2 ^ p.width) ps)

-- a number of so many bits, read as a signed one
abbrev pub signed_of : ℕ → ℕ → ℤ
signed_of width number = if nat_lt number (2 ^ (width - 1)) then pos number else pos number -ℤ pos (2 ^ width)

-- the operand that the bits of a field stand for
abbrev pub operand_from : Field → ℕ → ℤ
operand_from f number = if f.signed then signed_of (width_of f + f.shift) (number * 2 ^ f.shift) else pos (number * 2 ^ f.shift)

-- the bits of a field that stand for an operand
abbrev pub bits_from : Field → ℤ → ℕ
bits_from f operand = cast_unsigned w64 operand / 2 ^ f.shift % 2 ^ width_of f

-- the operand that a code has in a field
abbrev pub operand_in : ℕ → Field → ℤ
operand_in code f = operand_from f (gathered code (pieces_of f))

-- the operands of a code, in the order of the fields
abbrev pub operands_in : ℕ → List Field → List ℤ
operands_in code fields = map (operand_in code) fields

-- a code that has an operand in a field and zeros elsewhere
abbrev pub code_with : Field → ℤ → ℕ
code_with f operand = scattered (bits_from f operand) (pieces_of f)

-- a code that has these operands in these fields and zeros elsewhere
abbrev pub code_with_all : List Field → List ℤ → ℕ
code_with_all [] operands = 0
code_with_all (f ∷ fs) [] = 0
code_with_all (f ∷ fs) (z ∷ zs) = bit_or (code_with f z) (code_with_all fs zs)

-- the field can hold the operand
abbrev pub InRange : Field → ℤ → Type 0
InRange f z = (number : ℕ) × (number < 2 ^ width_of f) × (z ≡ operand_from f number)

-- an operand by its place, 0 for the first
abbrev pub operand_at : List ℤ → ℕ → ℤ
operand_at operands place = slice_index_or operands place (pos 0)

-- the fields can hold the operands, one for one
abbrev pub HasOperands : List Field → List ℤ → Type 0
HasOperands [] [] = Unit {0}
HasOperands [] (z ∷ zs) = ⊥
HasOperands (f ∷ fs) [] = ⊥
HasOperands (f ∷ fs) (z ∷ zs) = InRange f z × HasOperands fs zs

-- the operand is the number of a register
abbrev pub IsRegister : ℤ → Type 0
IsRegister z = (number : ℕ) × (number < 32) × (z ≡ pos number)

-- an unsigned number of so many bits
abbrev pub IsUnsigned : ℕ → ℤ → Type 0
IsUnsigned width z = (number : ℕ) × (number < 2 ^ width) × (z ≡ pos number)

-- a signed number of so many bits
abbrev pub IsSigned : ℕ → ℤ → Type 0
IsSigned width z = (neg_ℤ (pos (2 ^ (width - 1))) ≤ℤ z) × (z <ℤ pos (2 ^ (width - 1)))

-- a multiple of a step
abbrev pub IsMultiple : ℕ → ℤ → Type 0
IsMultiple step z = (number : ℤ) × (z ≡ number *ℤ pos step)
