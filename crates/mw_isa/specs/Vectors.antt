-- The interrupt vectors (Book III, interrupt vector locations).
use Rattle.std.specs.Prelude.{ℕ}
use Rattle.mw_isa.specs.declared.vector.Vector.{Vector}
use Rattle.mw_isa.specs.declared.vector.Vector.TheVariants.{DataStorage, DataSegment, InstStorage, InstSegment, External, Alignment, Program, FpUnavailable, Decrementer, SystemCall, VectorUnavailable, VsxUnavailable}

-- the real address that an interrupt is taken to
abbrev pub address_of : Vector → ℕ
address_of DataStorage = 0x300
address_of DataSegment = 0x380
address_of InstStorage = 0x400
address_of InstSegment = 0x480
address_of External = 0x500
address_of Alignment = 0x600
address_of Program = 0x700
address_of FpUnavailable = 0x800
address_of Decrementer = 0x900
address_of SystemCall = 0xC00
address_of VectorUnavailable = 0xF20
address_of VsxUnavailable = 0xF40
