-- What each operand of an instruction is to it, told once for each operand list; where it stands follows.
use Rattle.std.specs.Prelude.{ℕ, ⊤, ◌≡◌, ◌<◌, ◌%◌, ◌^◌, Bool, true, false, if◌then◌else◌, List, [], ◌∷◌, Option, Some, None, option_map, IfSome, suc, ℤ}
use Rattle.std.specs.Int.{w64, cast_unsigned}
use Rattle.mw_decode.specs.declared.insn.Insn.{Insn}
use Rattle.mw_tables.specs.Layouts.{operand_at}
use Rattle.mw_isa.specs.declared.memory.MemWhat.{MemWhat}
use Rattle.mw_isa.specs.declared.memory.MemWhat.TheVariants.{Load, Store, Conditional}
use Rattle.mw_isa.specs.declared.operation.Operation.{Operation}
use Rattle.mw_isa.specs.declared.operation.Operation.TheVariants.{Alu, Product, Quotient, Branch, Field, Fields, Pick, Trap, Storage, Hint, Call, System}
use Rattle.mw_isa.specs.declared.operation.Address.{Address}
use Rattle.mw_isa.specs.declared.operation.Address.TheVariants.{Displaced, Indexed, Block, Prefixed}
use Rattle.mw_isa.specs.declared.operation.BranchRow.{BranchRow}
use Rattle.mw_isa.specs.declared.operation.BranchRow.TheVariants.{B, Bc, Bclr, Bcctr, Bctar}
use Rattle.mw_isa.specs.declared.operation.FieldRow.{FieldRow}
use Rattle.mw_isa.specs.declared.operation.FieldRow.TheVariants.{CompareNumber, Compare, InRange, EqualsByte, FromXer, FromField, Logic}
use Rattle.mw_isa.specs.declared.operation.PickRow.{PickRow}
use Rattle.mw_isa.specs.declared.operation.PickRow.TheVariants.{Select, All, Chosen, Sign, Bit}
use Rattle.mw_isa.specs.declared.operation.TrapRow.{TrapRow}
use Rattle.mw_isa.specs.declared.operation.TrapRow.TheVariants.{TrapNumber, TrapRegister}
use Rattle.mw_isa.specs.declared.operation.SystemWhat.{SystemWhat}
use Rattle.mw_isa.specs.declared.operation.SystemWhat.TheVariants.{Return, Isync, Sync, Order, ReadMsr, WriteMsr, Tlbie, ReadSpr, WriteSpr, Random}
use Rattle.mw_isa.specs.declared.operation.Inputs.{Inputs}
use Rattle.mw_isa.specs.declared.operation.Inputs.TheVariants.{BaseNumber, SourceNumber, Two, TwoKind, Three, One, Relative, Next, WordShift, Shift, WordMask, WordMaskBy, WordInsert, Left, Right, Middle, Insert, LeftBy, RightBy}
use Rattle.mw_isa.specs.declared.place.Places.{Places}

-- what an operand is: a register that is written; one that is read as a, also where register 0 stands for 0 (RA|0), as b
-- or as c; one that is read as c and written; the number that stands as b, also one of so many bits, which counts the
-- places of a rotation; the number of so many bits that stands as c; the first and the last bit of a mask, as numbers of
-- so many bits; R, which is 1 where the instruction's own address stands as a; a displacement that is a multiple of 4,
-- which stands as b; a number of so many bits that says what is done (BO, BI, BF, FXM and their kin); or nothing
pub data Role : Type 0 where
  Written : Role
  First : Role
  Base : Role
  Second : Role
  Third : Role
  Kept : Role
  Number : Role
  Count : ℕ → Role
  Amount : ℕ → Role
  Start : ℕ → Role
  End : ℕ → Role
  Own : Role
  Distance : Role
  Code : ℕ → Role
  Unused : Role

-- the operands of an arithmetic row, also of a product or a quotient
abbrev pub input_roles : Inputs → List Role
-- RT,RA,SI
input_roles BaseNumber = Written ∷ Base ∷ Number ∷ []
-- RT,RA,SI or RA,RS,UI
input_roles SourceNumber = Written ∷ First ∷ Number ∷ []
-- RT,RA,RB or RA,RS,RB
input_roles Two = Written ∷ First ∷ Second ∷ []
-- RT,RA,RB,CY
input_roles TwoKind = Written ∷ First ∷ Second ∷ Unused ∷ []
-- RT,RA,RB,RC
input_roles Three = Written ∷ First ∷ Second ∷ Third ∷ []
-- RT,RA or RA,RS
input_roles One = Written ∷ First ∷ []
-- RT,RA,SI,R
input_roles Relative = Written ∷ Base ∷ Number ∷ Own ∷ []
-- RT,D
input_roles Next = Written ∷ Number ∷ []
-- RA,RS,SH
input_roles WordShift = Written ∷ First ∷ Amount 5 ∷ []
input_roles Shift = Written ∷ First ∷ Amount 6 ∷ []
-- RA,RS,SH,MB,ME
input_roles WordMask = Written ∷ First ∷ Count 5 ∷ Start 5 ∷ End 5 ∷ []
-- RA,RS,RB,MB,ME
input_roles WordMaskBy = Written ∷ First ∷ Second ∷ Start 5 ∷ End 5 ∷ []
-- RA,RS,SH,MB,ME
input_roles WordInsert = Kept ∷ First ∷ Count 5 ∷ Start 5 ∷ End 5 ∷ []
-- RA,RS,SH,MB
input_roles Left = Written ∷ First ∷ Count 6 ∷ Start 6 ∷ []
-- RA,RS,SH,ME
input_roles Right = Written ∷ First ∷ Count 6 ∷ End 6 ∷ []
-- RA,RS,SH,MB
input_roles Middle = Written ∷ First ∷ Count 6 ∷ Start 6 ∷ []
input_roles Insert = Kept ∷ First ∷ Count 6 ∷ Start 6 ∷ []
-- RA,RS,RB,MB
input_roles LeftBy = Written ∷ First ∷ Second ∷ Start 6 ∷ []
-- RA,RS,RB,ME
input_roles RightBy = Written ∷ First ∷ Second ∷ End 6 ∷ []

-- the register that an access loads or stores
abbrev pub datum_role : MemWhat → Role
datum_role (Load signed reversed reserve) = Written
datum_role (Store reversed) = Third
datum_role (Conditional reversed) = Third
datum_role what = Unused

-- the operands of an access
abbrev pub access_roles : Address → MemWhat → List Role
-- RT,D(RA)
access_roles Displaced what = datum_role what ∷ Number ∷ Base ∷ []
-- RT,RA,RB
access_roles Indexed what = datum_role what ∷ Base ∷ Second ∷ []
-- RA,RB
access_roles Block what = Base ∷ Second ∷ []
-- RT,D(RA),R
access_roles Prefixed what = datum_role what ∷ Number ∷ Base ∷ Own ∷ []

-- the operands of a branch
abbrev pub branch_roles : BranchRow → List Role
-- target
branch_roles B = Distance ∷ []
-- BO,BI,target
branch_roles Bc = Code 5 ∷ Code 5 ∷ Distance ∷ []
-- BO,BI,BH
branch_roles Bclr = Code 5 ∷ Code 5 ∷ Unused ∷ []
branch_roles Bcctr = Code 5 ∷ Code 5 ∷ Unused ∷ []
branch_roles Bctar = Code 5 ∷ Code 5 ∷ Unused ∷ []

-- the operands of a row that sets a field of the condition register
abbrev pub field_roles : FieldRow → List Role
-- BF,L,RA,SI or BF,L,RA,UI
field_roles (CompareNumber signed) = Code 3 ∷ Code 1 ∷ First ∷ Number ∷ []
-- BF,L,RA,RB
field_roles (Compare signed) = Code 3 ∷ Code 1 ∷ First ∷ Second ∷ []
field_roles InRange = Code 3 ∷ Code 1 ∷ First ∷ Second ∷ []
-- BF,RA,RB
field_roles EqualsByte = Code 3 ∷ First ∷ Second ∷ []
-- BF
field_roles FromXer = Code 3 ∷ []
-- BF,BFA
field_roles FromField = Code 3 ∷ Code 3 ∷ []
-- BT,BA,BB
field_roles (Logic logic) = Code 5 ∷ Code 5 ∷ Code 5 ∷ []

-- FXM,RS
abbrev pub fields_roles : List Role
fields_roles = Code 8 ∷ First ∷ []

-- the operands of a row that sets a register by the condition register
abbrev pub pick_roles : PickRow → List Role
-- RT,RA,RB,BC
pick_roles Select = Written ∷ Base ∷ Second ∷ Code 5 ∷ []
-- RT
pick_roles All = Written ∷ []
-- RT,FXM
pick_roles Chosen = Written ∷ Code 8 ∷ []
-- RT,BFA
pick_roles Sign = Written ∷ Code 3 ∷ []
-- RT,BI
pick_roles (Bit negative reversed) = Written ∷ Code 5 ∷ []

-- the operands of a trap
abbrev pub trap_roles : TrapRow → List Role
-- TO,RA,SI
trap_roles (TrapNumber long) = Code 5 ∷ First ∷ Number ∷ []
-- TO,RA,RB
trap_roles (TrapRegister long) = Code 5 ∷ First ∷ Second ∷ []

-- the operands of a row of the system
abbrev pub system_roles : SystemWhat → List Role
system_roles (Return hypervisor) = []
system_roles Isync = []
-- L
system_roles Sync = Code 3 ∷ []
system_roles Order = []
-- RT
system_roles ReadMsr = Written ∷ []
-- RS,L
system_roles WriteMsr = First ∷ Code 1 ∷ []
-- RB,RS,RIC,PRS,R
system_roles Tlbie = Second ∷ First ∷ Code 2 ∷ Unused ∷ Unused ∷ []
-- RT,SPR or RT,TBR
system_roles ReadSpr = Written ∷ Code 10 ∷ []
-- SPR,RS
system_roles WriteSpr = Code 10 ∷ First ∷ []
-- RT,L
system_roles Random = Written ∷ Unused ∷ []

-- the operands of an operation, where it does something with them
abbrev pub roles_by : Operation → Option (List Role)
roles_by (Alu row) = Some (input_roles row.inputs)
roles_by (Product row) = Some (input_roles row.inputs)
roles_by (Quotient row) = Some (input_roles Two)
roles_by (Branch row) = Some (branch_roles row)
roles_by (Field row) = Some (field_roles row)
roles_by Fields = Some fields_roles
roles_by (Pick row) = Some (pick_roles row)
roles_by (Trap row) = Some (trap_roles row)
roles_by (Storage row) = Some (access_roles row.address row.what)
roles_by Hint = None
roles_by Call = None
roles_by (System row) = Some (system_roles row.what)

-- tests of roles, one for each kind: the first is of a register that is written
abbrev pub is_written : Role → Bool
is_written Written = true
is_written Kept = true
is_written role = false

abbrev pub is_first : Role → Bool
is_first First = true
is_first role = false

abbrev pub is_base : Role → Bool
is_base Base = true
is_base role = false

abbrev pub is_second : Role → Bool
is_second Second = true
is_second role = false

abbrev pub is_third : Role → Bool
is_third Third = true
is_third Kept = true
is_third role = false

abbrev pub is_number : Role → Bool
is_number Number = true
is_number (Count bits) = true
is_number Distance = true
is_number role = false

abbrev pub is_amount : Role → Bool
is_amount (Amount bits) = true
is_amount role = false

abbrev pub is_start : Role → Bool
is_start (Start bits) = true
is_start role = false

abbrev pub is_end : Role → Bool
is_end (End bits) = true
is_end role = false

abbrev pub is_own : Role → Bool
is_own Own = true
is_own role = false

-- the place of the first operand with such a role, counted from 0
abbrev pub place_in : (Role → Bool) → List Role → Option ℕ
place_in test [] = None
place_in test (role ∷ roles) = if test role then Some 0 else option_map suc (place_in test roles)

-- where each role stands in a list of operands
abbrev pub places_in : List Role → Places
places_in roles = record {
  written = place_in is_written roles;
  first = place_in is_first roles;
  base = place_in is_base roles;
  second = place_in is_second roles;
  third = place_in is_third roles;
  number = place_in is_number roles;
  amount = place_in is_amount roles;
  start = place_in is_start roles;
  end = place_in is_end roles;
  own = place_in is_own roles;
}

-- the places of an access whose first operand is the register that it loads or stores
abbrev pub with_datum : MemWhat → Places → Places
with_datum (Load signed reversed reserve) places = record places { written = Some 0 }
with_datum (Store reversed) places = record places { third = Some 0 }
with_datum (Conditional reversed) places = record places { third = Some 0 }
with_datum what places = places

-- no operand has a role
abbrev pub no_places : Places
no_places = places_in []

-- where the roles of an operation's operands stand
abbrev pub places_by : Option (List Role) → Places
places_by None = no_places
places_by (Some roles) = places_in roles

abbrev pub places_of : Operation → Places
places_of operation = places_by (roles_by operation)

-- the operand at a place as a number of 64 bits: a register's number, or a signed number extended
abbrev pub operand_of : Insn → ℕ → ℕ
operand_of insn place = cast_unsigned w64 (operand_at insn.ops.items place)

-- what an operand of a role is asked to be: anything, a number of so many bits, or a multiple of 4
pub data Limit : Type 0 where
  Free : Limit
  Below : ℕ → Limit
  InWords : Limit

-- a register's number has five bits, R one
abbrev pub limit_of : Role → Limit
limit_of Written = Below 5
limit_of First = Below 5
limit_of Base = Below 5
limit_of Second = Below 5
limit_of Third = Below 5
limit_of Kept = Below 5
limit_of Number = Free
limit_of (Count bits) = Below bits
limit_of (Amount bits) = Below bits
limit_of (Start bits) = Below bits
limit_of (End bits) = Below bits
limit_of Own = Below 1
limit_of Distance = InWords
limit_of (Code bits) = Below bits
limit_of Unused = Free

-- a number is as it is asked to be
abbrev pub IsLimited : Limit → ℕ → Type 0
IsLimited Free n = ⊤
IsLimited (Below bits) n = n < 2 ^ bits
IsLimited InWords n = n % 4 ≡ 0

-- there are as many operands as roles, and each is as its role asks
abbrev pub AreOperands : List Role → List ℤ → Type 0
AreOperands [] [] = ⊤
AreOperands [] (z ∷ zs) = ⊥
AreOperands (role ∷ roles) [] = ⊥
AreOperands (role ∷ roles) (z ∷ zs) = IsLimited (limit_of role) (cast_unsigned w64 z) × AreOperands roles zs

-- an instruction has the operands that its operation asks for
abbrev pub IsReadyBy : Option (List Role) → Insn → Type 0
IsReadyBy None insn = ⊤
IsReadyBy (Some roles) insn = AreOperands roles insn.ops.items

abbrev pub IsReady : Operation → Insn → Type 0
IsReady operation insn = IsReadyBy (roles_by operation) insn

-- the operand at a place is the number of a register
abbrev pub IsRegister : Insn → ℕ → Type 0
IsRegister insn place = operand_of insn place < 32

-- the operand at each place of a register is the number of one
pub record HasRegisters (insn : Insn) (places : Places) : Type 0 where
  pub at_written : IfSome places.written (IsRegister insn)
  pub at_first : IfSome places.first (IsRegister insn)
  pub at_base : IfSome places.base (IsRegister insn)
  pub at_second : IfSome places.second (IsRegister insn)
  pub at_third : IfSome places.third (IsRegister insn)

-- the operands from a place on are as these roles ask
abbrev pub AreLimited : Insn → ℕ → List Role → Type 0
AreLimited insn place [] = ⊤
AreLimited insn place (role ∷ roles) = IsLimited (limit_of role) (operand_of insn place) × AreLimited insn (suc place) roles

-- the operands of an instruction are as its operation asks
abbrev pub HasLimitsBy : Insn → Option (List Role) → Type 0
HasLimitsBy insn None = ⊤
HasLimitsBy insn (Some roles) = AreLimited insn 0 roles

abbrev pub HasLimits : Insn → Operation → Type 0
HasLimits insn operation = HasLimitsBy insn (roles_by operation)
