-- What each row of the instruction table does, keyed by the row's name.
use Rattle.std.specs.Prelude.{ℕ, true, false, List, [], ◌∷◌, map, codes}
use Rattle.mw_alu.specs.declared.op.AluOp.{AluOp}
use Rattle.mw_alu.specs.declared.op.AluOp.TheVariants.{Addi, Addis, Addic, Subfic, Addpcis, Paddi, Add, Subf, Neg, Addc, Subfc, Adde, Subfe, Addme, Subfme, Addze, Subfze, Addex, Ori, Oris, Xori, Xoris, Andi, Andis, And, Andc, Or, Orc, Xor, Eqv, Nand, Nor, Rlwinm, Rlwnm, Rlwimi, Rldicl, Rldicr, Rldic, Rldimi, Rldcl, Rldcr, Slw, Srw, Sld, Srd, Sraw, Srawi, Srad, Sradi, Extswsli, Extsb, Extsh, Extsw, Cntlzw, Cntlzd, Cnttzw, Cnttzd, Cntlzdm, Cnttzdm, Popcntb, Popcntw, Popcntd, Prtyw, Prtyd, Brh, Brw, Brd, Pdepd, Pextd, Cfuged, Bpermd, Cmpb}
use Rattle.mw_muldiv.specs.declared.numbers.DivKind.{DivKind}
use Rattle.mw_muldiv.specs.declared.numbers.DivKind.TheVariants.{Signed64, Unsigned64, Signed32, Unsigned32}
use Rattle.mw_muldiv.specs.declared.numbers.MulKind.{MulKind}
use Rattle.mw_muldiv.specs.declared.numbers.MulKind.TheVariants.{Signed, Unsigned}
use Rattle.mw_isa.specs.declared.memory.MemWhat.{MemWhat}
use Rattle.mw_isa.specs.declared.memory.MemWhat.TheVariants.{Load, Store, Conditional, Zero, Clean, Icbi}
use Rattle.mw_isa.specs.declared.operation.Operation.{Operation}
use Rattle.mw_isa.specs.declared.operation.Operation.TheVariants.{Alu, Product, Quotient, Branch, Field, Fields, Pick, Trap, Storage, Hint, Call, System}
use Rattle.mw_isa.specs.declared.operation.Inputs.{Inputs}
use Rattle.mw_isa.specs.declared.operation.Inputs.TheVariants.{BaseNumber, SourceNumber, Two, TwoKind, Three, One, Relative, Next, WordShift, Shift, WordMask, WordMaskBy, WordInsert, Left, Right, Middle, Insert, LeftBy, RightBy}
use Rattle.mw_isa.specs.declared.operation.Carry.{Carry}
use Rattle.mw_isa.specs.declared.operation.Carry.TheVariants.{NoCarry, Ca, Ov}
use Rattle.mw_isa.specs.declared.operation.Ending.{Ending}
use Rattle.mw_isa.specs.declared.operation.Ending.TheVariants.{Plain, Carries, Records, CarriesAndRecords, Overflows}
use Rattle.mw_isa.specs.declared.operation.Addend.{Addend}
use Rattle.mw_isa.specs.declared.operation.Addend.TheVariants.{NoAddend, PlainAddend, SignedAddend}
use Rattle.mw_isa.specs.declared.operation.ProductRow.{ProductRow}
use Rattle.mw_isa.specs.declared.operation.QuotientRow.{QuotientRow}
use Rattle.mw_isa.specs.declared.operation.BranchRow.TheVariants.{B, Bc, Bclr, Bcctr, Bctar}
use Rattle.mw_isa.specs.declared.operation.FieldRow.TheVariants.{CompareNumber, Compare, InRange, EqualsByte, FromXer, FromField, Logic}
use Rattle.mw_isa.specs.declared.operation.BitLogic.TheVariants.{Crnor, Crandc, Crxor, Crnand, Crand, Creqv, Crorc, Cror}
use Rattle.mw_isa.specs.declared.operation.PickRow.TheVariants.{Select, All, Chosen, Sign, Bit}
use Rattle.mw_isa.specs.declared.operation.TrapRow.TheVariants.{TrapNumber, TrapRegister}
use Rattle.mw_isa.specs.declared.operation.Address.TheVariants.{Displaced, Indexed, Block, Prefixed}
use Rattle.mw_isa.specs.declared.operation.Privilege.{Privilege}
use Rattle.mw_isa.specs.declared.operation.Privilege.TheVariants.{Never, Always, Heavy}
use Rattle.mw_isa.specs.declared.operation.StorageRow.{StorageRow}
use Rattle.mw_isa.specs.declared.operation.SystemWhat.{SystemWhat}
use Rattle.mw_isa.specs.declared.operation.SystemWhat.TheVariants.{Return, Isync, Sync, Order, ReadMsr, WriteMsr, Tlbie, ReadSpr, WriteSpr, Random}

-- an arithmetic row: what the unit does, from which operands, with which carry, and what is written beside the result
abbrev pub alu : AluOp → Inputs → Carry → Ending → Operation
alu op inputs carry ending = Alu (record { op = op; inputs = inputs; carry = carry; ending = ending })

-- a product row: how it reads its factors, from which operands; the low half is the result
abbrev pub product : MulKind → Inputs → ProductRow
product kind inputs = record { kind = kind; inputs = inputs; addend = NoAddend; high = false; word = false }

-- a product row to whose product something is added
abbrev pub adding : Addend → ProductRow → ProductRow
adding addend row = record row { addend = addend }

-- a product row whose result is the high half
abbrev pub high_half : ProductRow → ProductRow
high_half row = record row { high = true }

-- a product row whose factors are low words
abbrev pub of_words : ProductRow → ProductRow
of_words row = record row { word = true }

-- a quotient row: how it reads its numbers
abbrev pub quotient : DivKind → QuotientRow
quotient kind = record { kind = kind; extended = false; rest = false }

-- a quotient row with zeros behind the dividend
abbrev pub extending : QuotientRow → QuotientRow
extending row = record row { extended = true }

-- a quotient row whose result is the rest
abbrev pub modulo : DivKind → QuotientRow
modulo kind = record (quotient kind) { rest = true }

-- an access of so many bytes at RA|0 and a displacement
abbrev pub displaced : MemWhat → ℕ → StorageRow
displaced what len = record { what = what; len = len; address = Displaced; update = false; privilege = Never }

-- a load of so many bytes, extended with zeros
abbrev pub load : ℕ → StorageRow
load = displaced (Load false false false)

-- a load of so many bytes, extended with the sign
abbrev pub algebraic : ℕ → StorageRow
algebraic = displaced (Load true false false)

-- a load of so many bytes, the first one the most significant
abbrev pub reversed_load : ℕ → StorageRow
reversed_load = displaced (Load false true false)

-- a load of so many bytes that reserves their block
abbrev pub reserving : ℕ → StorageRow
reserving = displaced (Load false false true)

-- a store of so many bytes
abbrev pub store : ℕ → StorageRow
store = displaced (Store false)

-- a store of so many bytes, the first one the most significant
abbrev pub reversed_store : ℕ → StorageRow
reversed_store = displaced (Store true)

-- a store of so many bytes where their block is reserved
abbrev pub conditional : ℕ → StorageRow
conditional = displaced (Conditional false)

-- an access at RA|0 and RB
abbrev pub indexed : StorageRow → StorageRow
indexed row = record row { address = Indexed }

-- an access whose effective address goes into RA
abbrev pub updating : StorageRow → StorageRow
updating row = record row { update = true }

-- an access at RA|0 and a displacement of 34 bits, or at the prefix's own address and the displacement
abbrev pub prefixed : StorageRow → StorageRow
prefixed row = record row { address = Prefixed }

-- an access that is privileged
abbrev pub privileged : StorageRow → StorageRow
privileged row = record row { privilege = Always }

-- a cache row: so many bytes at RA|0 and RB
abbrev pub block : MemWhat → ℕ → StorageRow
block what len = record { what = what; len = len; address = Block; update = false; privilege = Never }

-- a row of the system: what it does, and where it is privileged
abbrev pub system : SystemWhat → Privilege → Operation
system what privilege = System (record { what = what; privilege = privilege })

-- a line of the list: a row by its name, and what it does
pub record OperationLine : Type 0 where
  pub name : List ℕ
  pub operation : Operation

abbrev pub on : List ℕ → Operation → OperationLine
on name operation = record { name = name; operation = operation }

-- what each row does, by its name, in the order of the instruction table
unfoldable pub operation_lines : List OperationLine
operation_lines =
    on (codes "addi") (alu Addi BaseNumber NoCarry Plain)
    ∷ on (codes "addis") (alu Addis BaseNumber NoCarry Plain)
    ∷ on (codes "addic") (alu Addic SourceNumber NoCarry Carries)
    ∷ on (codes "addic.") (alu Addic SourceNumber NoCarry CarriesAndRecords)
    ∷ on (codes "subfic") (alu Subfic SourceNumber NoCarry Carries)
    ∷ on (codes "mulli") (Product (product Signed SourceNumber))
    ∷ on (codes "cmpi") (Field (CompareNumber true))
    ∷ on (codes "cmpli") (Field (CompareNumber false))
    ∷ on (codes "tdi") (Trap (TrapNumber true))
    ∷ on (codes "twi") (Trap (TrapNumber false))
    ∷ on (codes "ori") (alu Ori SourceNumber NoCarry Plain)
    ∷ on (codes "oris") (alu Oris SourceNumber NoCarry Plain)
    ∷ on (codes "xori") (alu Xori SourceNumber NoCarry Plain)
    ∷ on (codes "xoris") (alu Xoris SourceNumber NoCarry Plain)
    ∷ on (codes "andi.") (alu Andi SourceNumber NoCarry Records)
    ∷ on (codes "andis.") (alu Andis SourceNumber NoCarry Records)
    ∷ on (codes "addpcis") (alu Addpcis Next NoCarry Plain)
    ∷ on (codes "b") (Branch B)
    ∷ on (codes "bc") (Branch Bc)
    ∷ on (codes "bclr") (Branch Bclr)
    ∷ on (codes "bcctr") (Branch Bcctr)
    ∷ on (codes "bctar") (Branch Bctar)
    ∷ on (codes "crnor") (Field (Logic Crnor))
    ∷ on (codes "crandc") (Field (Logic Crandc))
    ∷ on (codes "crxor") (Field (Logic Crxor))
    ∷ on (codes "crnand") (Field (Logic Crnand))
    ∷ on (codes "crand") (Field (Logic Crand))
    ∷ on (codes "creqv") (Field (Logic Creqv))
    ∷ on (codes "crorc") (Field (Logic Crorc))
    ∷ on (codes "cror") (Field (Logic Cror))
    ∷ on (codes "mcrf") (Field FromField)
    ∷ on (codes "rlwinm") (alu Rlwinm WordMask NoCarry Plain)
    ∷ on (codes "rlwnm") (alu Rlwnm WordMaskBy NoCarry Plain)
    ∷ on (codes "rlwimi") (alu Rlwimi WordInsert NoCarry Plain)
    ∷ on (codes "rldicl") (alu Rldicl Left NoCarry Plain)
    ∷ on (codes "rldicr") (alu Rldicr Right NoCarry Plain)
    ∷ on (codes "rldic") (alu Rldic Middle NoCarry Plain)
    ∷ on (codes "rldimi") (alu Rldimi Insert NoCarry Plain)
    ∷ on (codes "rldcl") (alu Rldcl LeftBy NoCarry Plain)
    ∷ on (codes "rldcr") (alu Rldcr RightBy NoCarry Plain)
    ∷ on (codes "maddhd") (Product (high_half (adding SignedAddend (product Signed Three))))
    ∷ on (codes "maddhdu") (Product (high_half (adding PlainAddend (product Unsigned Three))))
    ∷ on (codes "maddld") (Product (adding PlainAddend (product Signed Three)))
    ∷ on (codes "add") (alu Add Two NoCarry Plain)
    ∷ on (codes "subf") (alu Subf Two NoCarry Plain)
    ∷ on (codes "neg") (alu Neg One NoCarry Plain)
    ∷ on (codes "addc") (alu Addc Two NoCarry Carries)
    ∷ on (codes "subfc") (alu Subfc Two NoCarry Carries)
    ∷ on (codes "adde") (alu Adde Two Ca Carries)
    ∷ on (codes "subfe") (alu Subfe Two Ca Carries)
    ∷ on (codes "addme") (alu Addme One Ca Carries)
    ∷ on (codes "subfme") (alu Subfme One Ca Carries)
    ∷ on (codes "addze") (alu Addze One Ca Carries)
    ∷ on (codes "subfze") (alu Subfze One Ca Carries)
    ∷ on (codes "mullw") (Product (of_words (product Signed Two)))
    ∷ on (codes "mulld") (Product (product Signed Two))
    ∷ on (codes "mulhd") (Product (high_half (product Signed Two)))
    ∷ on (codes "mulhdu") (Product (high_half (product Unsigned Two)))
    ∷ on (codes "mulhw") (Product (high_half (of_words (product Signed Two))))
    ∷ on (codes "mulhwu") (Product (high_half (of_words (product Unsigned Two))))
    ∷ on (codes "divd") (Quotient (quotient Signed64))
    ∷ on (codes "divdu") (Quotient (quotient Unsigned64))
    ∷ on (codes "divw") (Quotient (quotient Signed32))
    ∷ on (codes "divwu") (Quotient (quotient Unsigned32))
    ∷ on (codes "divde") (Quotient (extending (quotient Signed64)))
    ∷ on (codes "divdeu") (Quotient (extending (quotient Unsigned64)))
    ∷ on (codes "divwe") (Quotient (extending (quotient Signed32)))
    ∷ on (codes "divweu") (Quotient (extending (quotient Unsigned32)))
    ∷ on (codes "modsd") (Quotient (modulo Signed64))
    ∷ on (codes "modud") (Quotient (modulo Unsigned64))
    ∷ on (codes "modsw") (Quotient (modulo Signed32))
    ∷ on (codes "moduw") (Quotient (modulo Unsigned32))
    ∷ on (codes "addex") (alu Addex TwoKind Ov Overflows)
    ∷ on (codes "and") (alu And Two NoCarry Plain)
    ∷ on (codes "andc") (alu Andc Two NoCarry Plain)
    ∷ on (codes "or") (alu Or Two NoCarry Plain)
    ∷ on (codes "orc") (alu Orc Two NoCarry Plain)
    ∷ on (codes "xor") (alu Xor Two NoCarry Plain)
    ∷ on (codes "eqv") (alu Eqv Two NoCarry Plain)
    ∷ on (codes "nand") (alu Nand Two NoCarry Plain)
    ∷ on (codes "nor") (alu Nor Two NoCarry Plain)
    ∷ on (codes "slw") (alu Slw Two NoCarry Plain)
    ∷ on (codes "srw") (alu Srw Two NoCarry Plain)
    ∷ on (codes "sld") (alu Sld Two NoCarry Plain)
    ∷ on (codes "srd") (alu Srd Two NoCarry Plain)
    ∷ on (codes "sraw") (alu Sraw Two NoCarry Carries)
    ∷ on (codes "srawi") (alu Srawi WordShift NoCarry Carries)
    ∷ on (codes "srad") (alu Srad Two NoCarry Carries)
    ∷ on (codes "sradi") (alu Sradi Shift NoCarry Carries)
    ∷ on (codes "extswsli") (alu Extswsli Shift NoCarry Plain)
    ∷ on (codes "extsb") (alu Extsb One NoCarry Plain)
    ∷ on (codes "extsh") (alu Extsh One NoCarry Plain)
    ∷ on (codes "extsw") (alu Extsw One NoCarry Plain)
    ∷ on (codes "cntlzw") (alu Cntlzw One NoCarry Plain)
    ∷ on (codes "cntlzd") (alu Cntlzd One NoCarry Plain)
    ∷ on (codes "cnttzw") (alu Cnttzw One NoCarry Plain)
    ∷ on (codes "cnttzd") (alu Cnttzd One NoCarry Plain)
    ∷ on (codes "cntlzdm") (alu Cntlzdm Two NoCarry Plain)
    ∷ on (codes "cnttzdm") (alu Cnttzdm Two NoCarry Plain)
    ∷ on (codes "popcntb") (alu Popcntb One NoCarry Plain)
    ∷ on (codes "popcntw") (alu Popcntw One NoCarry Plain)
    ∷ on (codes "popcntd") (alu Popcntd One NoCarry Plain)
    ∷ on (codes "prtyw") (alu Prtyw One NoCarry Plain)
    ∷ on (codes "prtyd") (alu Prtyd One NoCarry Plain)
    ∷ on (codes "brh") (alu Brh One NoCarry Plain)
    ∷ on (codes "brw") (alu Brw One NoCarry Plain)
    ∷ on (codes "brd") (alu Brd One NoCarry Plain)
    ∷ on (codes "pdepd") (alu Pdepd Two NoCarry Plain)
    ∷ on (codes "pextd") (alu Pextd Two NoCarry Plain)
    ∷ on (codes "cfuged") (alu Cfuged Two NoCarry Plain)
    ∷ on (codes "bpermd") (alu Bpermd Two NoCarry Plain)
    ∷ on (codes "cmpb") (alu Cmpb Two NoCarry Plain)
    ∷ on (codes "cmp") (Field (Compare true))
    ∷ on (codes "cmpl") (Field (Compare false))
    ∷ on (codes "tw") (Trap (TrapRegister false))
    ∷ on (codes "td") (Trap (TrapRegister true))
    ∷ on (codes "isel") (Pick Select)
    ∷ on (codes "mfcr") (Pick All)
    ∷ on (codes "mfocrf") (Pick Chosen)
    ∷ on (codes "mtcrf") Fields
    ∷ on (codes "mtocrf") Fields
    ∷ on (codes "setb") (Pick Sign)
    ∷ on (codes "setbc") (Pick (Bit false false))
    ∷ on (codes "setbcr") (Pick (Bit false true))
    ∷ on (codes "setnbc") (Pick (Bit true false))
    ∷ on (codes "setnbcr") (Pick (Bit true true))
    ∷ on (codes "cmprb") (Field InRange)
    ∷ on (codes "cmpeqb") (Field EqualsByte)
    ∷ on (codes "mcrxrx") (Field FromXer)
    ∷ on (codes "lwz") (Storage (load 4))
    ∷ on (codes "lwzu") (Storage (updating (load 4)))
    ∷ on (codes "lbz") (Storage (load 1))
    ∷ on (codes "lbzu") (Storage (updating (load 1)))
    ∷ on (codes "stw") (Storage (store 4))
    ∷ on (codes "stwu") (Storage (updating (store 4)))
    ∷ on (codes "stb") (Storage (store 1))
    ∷ on (codes "stbu") (Storage (updating (store 1)))
    ∷ on (codes "lhz") (Storage (load 2))
    ∷ on (codes "lhzu") (Storage (updating (load 2)))
    ∷ on (codes "lha") (Storage (algebraic 2))
    ∷ on (codes "lhau") (Storage (updating (algebraic 2)))
    ∷ on (codes "sth") (Storage (store 2))
    ∷ on (codes "sthu") (Storage (updating (store 2)))
    ∷ on (codes "ld") (Storage (load 8))
    ∷ on (codes "ldu") (Storage (updating (load 8)))
    ∷ on (codes "lwa") (Storage (algebraic 4))
    ∷ on (codes "std") (Storage (store 8))
    ∷ on (codes "stdu") (Storage (updating (store 8)))
    ∷ on (codes "ldx") (Storage (indexed (load 8)))
    ∷ on (codes "lwzx") (Storage (indexed (load 4)))
    ∷ on (codes "ldux") (Storage (updating (indexed (load 8))))
    ∷ on (codes "lwzux") (Storage (updating (indexed (load 4))))
    ∷ on (codes "lbzx") (Storage (indexed (load 1)))
    ∷ on (codes "lbzux") (Storage (updating (indexed (load 1))))
    ∷ on (codes "lhzx") (Storage (indexed (load 2)))
    ∷ on (codes "lhzux") (Storage (updating (indexed (load 2))))
    ∷ on (codes "lwax") (Storage (indexed (algebraic 4)))
    ∷ on (codes "lhax") (Storage (indexed (algebraic 2)))
    ∷ on (codes "lwaux") (Storage (updating (indexed (algebraic 4))))
    ∷ on (codes "lhaux") (Storage (updating (indexed (algebraic 2))))
    ∷ on (codes "ldbrx") (Storage (indexed (reversed_load 8)))
    ∷ on (codes "lwbrx") (Storage (indexed (reversed_load 4)))
    ∷ on (codes "lhbrx") (Storage (indexed (reversed_load 2)))
    ∷ on (codes "stdx") (Storage (indexed (store 8)))
    ∷ on (codes "stwx") (Storage (indexed (store 4)))
    ∷ on (codes "stdux") (Storage (updating (indexed (store 8))))
    ∷ on (codes "stwux") (Storage (updating (indexed (store 4))))
    ∷ on (codes "stbx") (Storage (indexed (store 1)))
    ∷ on (codes "stbux") (Storage (updating (indexed (store 1))))
    ∷ on (codes "sthx") (Storage (indexed (store 2)))
    ∷ on (codes "sthux") (Storage (updating (indexed (store 2))))
    ∷ on (codes "stdbrx") (Storage (indexed (reversed_store 8)))
    ∷ on (codes "stwbrx") (Storage (indexed (reversed_store 4)))
    ∷ on (codes "sthbrx") (Storage (indexed (reversed_store 2)))
    ∷ on (codes "lwarx") (Storage (indexed (reserving 4)))
    ∷ on (codes "lbarx") (Storage (indexed (reserving 1)))
    ∷ on (codes "ldarx") (Storage (indexed (reserving 8)))
    ∷ on (codes "lharx") (Storage (indexed (reserving 2)))
    ∷ on (codes "stwcx.") (Storage (indexed (conditional 4)))
    ∷ on (codes "stdcx.") (Storage (indexed (conditional 8)))
    ∷ on (codes "stbcx.") (Storage (indexed (conditional 1)))
    ∷ on (codes "sthcx.") (Storage (indexed (conditional 2)))
    ∷ on (codes "lwzcix") (Storage (privileged (indexed (load 4))))
    ∷ on (codes "lhzcix") (Storage (privileged (indexed (load 2))))
    ∷ on (codes "lbzcix") (Storage (privileged (indexed (load 1))))
    ∷ on (codes "ldcix") (Storage (privileged (indexed (load 8))))
    ∷ on (codes "stwcix") (Storage (privileged (indexed (store 4))))
    ∷ on (codes "sthcix") (Storage (privileged (indexed (store 2))))
    ∷ on (codes "stbcix") (Storage (privileged (indexed (store 1))))
    ∷ on (codes "stdcix") (Storage (privileged (indexed (store 8))))
    ∷ on (codes "dcbst") (Storage (block Clean 1))
    ∷ on (codes "dcbf") (Storage (block Clean 1))
    ∷ on (codes "dcbtst") Hint
    ∷ on (codes "dcbt") Hint
    ∷ on (codes "icbi") (Storage (block Icbi 1))
    ∷ on (codes "dcbz") (Storage (block Zero 64))
    ∷ on (codes "sc") Call
    ∷ on (codes "rfid") (system (Return false) Always)
    ∷ on (codes "hrfid") (system (Return true) Always)
    ∷ on (codes "isync") (system Isync Never)
    ∷ on (codes "sync") (system Sync Heavy)
    ∷ on (codes "eieio") (system Order Never)
    ∷ on (codes "tlbsync") (system Order Always)
    ∷ on (codes "mfmsr") (system ReadMsr Always)
    ∷ on (codes "mtmsr") (system WriteMsr Always)
    ∷ on (codes "mtmsrd") (system WriteMsr Always)
    ∷ on (codes "tlbie") (system Tlbie Always)
    ∷ on (codes "tlbiel") (system Tlbie Always)
    ∷ on (codes "mfspr") (system ReadSpr Never)
    ∷ on (codes "mtspr") (system WriteSpr Never)
    ∷ on (codes "mftb") (system ReadSpr Never)
    ∷ on (codes "darn") (system Random Never)
    ∷ on (codes "paddi") (alu Paddi Relative NoCarry Plain)
    ∷ on (codes "plwz") (Storage (prefixed (load 4)))
    ∷ on (codes "plbz") (Storage (prefixed (load 1)))
    ∷ on (codes "pstw") (Storage (prefixed (store 4)))
    ∷ on (codes "pstb") (Storage (prefixed (store 1)))
    ∷ on (codes "plhz") (Storage (prefixed (load 2)))
    ∷ on (codes "plha") (Storage (prefixed (algebraic 2)))
    ∷ on (codes "psth") (Storage (prefixed (store 2)))
    ∷ on (codes "plwa") (Storage (prefixed (algebraic 4)))
    ∷ on (codes "pld") (Storage (prefixed (load 8)))
    ∷ on (codes "pstd") (Storage (prefixed (store 8)))
    ∷ on (codes "pnop") Hint
    ∷ []

-- what each row does, in the order of the instruction table
unfoldable pub operations : List Operation
operations = map (λ (line : OperationLine). line.operation) operation_lines
