-- Pages, stretches and deeds of single accesses, computed.
use Rattle.std.proofs.Common.{◌≡◌, ℕ, [], ◌∷◌, ◌^◌, ◌-◌, ◌==◌, if◌then◌else◌, false, Some, None, Result, Ok, Err, refl}
use Rattle.mw_isa.specs.declared.access.Kind.TheVariants.{Load as Loads, Store as Stores}
use Rattle.mw_isa.specs.declared.access.Deed.TheVariants.{Plain, Store as StoreDeed}
use Rattle.mw_isa.specs.declared.memory.MemWhat.{MemWhat}
use Rattle.mw_isa.specs.declared.memory.MemWhat.TheVariants.{Load, Store, Zero}
use Rattle.mw_isa.specs.declared.memory.MemOp.{MemOp}
use Rattle.mw_isa.specs.declared.pages.Page.{Page}
use Rattle.mw_isa.specs.declared.pages.StorageFault.{StorageFault}
use Rattle.mw_isa.specs.declared.pages.StorageFault.TheVariants.{NoTranslation}
use Rattle.mw_isa.specs.declared.pages.Stretches.{Stretches}
use Rattle.mw_isa.specs.Pages.{touches_of, real_of, stretches_of}
use Rattle.mw_isa.specs.Storage.{pages_of, store_deed, block_of}

-- an operation at an address
abbrev op_at : MemWhat → ℕ → ℕ → MemOp
op_at what ea len = record { what = what; ea = ea; len = len; value = 0; to = 0; update = None }

-- a store across two pages touches each at its first byte there
across : touches_of (pages_of (op_at (Store false) 0x1FFC 8)) ≡ record { kind = Stores; ea = 0x1FFC } ∷ record { kind = Stores; ea = 0x2000 } ∷ []
across = refl

-- a store that ends with a page touches that page alone
up_to_the_end : touches_of (pages_of (op_at (Store false) 0x1FF8 8)) ≡ record { kind = Stores; ea = 0x1FF8 } ∷ []
up_to_the_end = refl

-- a load across the end of the address space goes on at 0
around : touches_of (pages_of (op_at (Load false false false) (2 ^ 64 - 4) 8)) ≡ record { kind = Loads; ea = 2 ^ 64 - 4 } ∷ record { kind = Loads; ea = 0 } ∷ []
around = refl

-- zeros are stored from the block's first byte on
zeros : touches_of (pages_of (op_at Zero 0x221 64)) ≡ record { kind = Stores; ea = 0x200 } ∷ []
zeros = refl

-- two stretches with these addresses and lengths
two : ℕ → ℕ → ℕ → ℕ → Stretches
two at len other rest = record { first = record { at = at; len = len }; second = Some (record { at = other; len = rest }) }

-- a page stands where its effective address says
as_it_is : Page → Result ℕ StorageFault
as_it_is page = Ok (real_of page.ea)

-- without translation the stretches of two pages stand side by side
placed : stretches_of as_it_is (pages_of (op_at (Store false) 0x1FFD 8)) ≡ Ok (two 0x1FFD 3 0x2000 5)
unfolding two as_it_is
placed = refl

-- a page at 0x2000 stands at 0x5000, any other where it is
moved : Page → Result ℕ StorageFault
moved page = if page.ea == 0x2000 then Ok 0x5000 else Ok page.ea

-- where pages stand elsewhere in real storage, so do their stretches
apart : stretches_of moved (pages_of (op_at (Store false) 0x1FFD 8)) ≡ Ok (two 0x1FFD 3 0x5000 5)
unfolding moved two
apart = refl

-- a store to two stretches touches each where it stands
spans : store_deed (two 0x1FFD 3 0x5000 5) ≡ StoreDeed (record { items = record { at = 0x1FFD; len = 3 } ∷ record { at = 0x5000; len = 5 } ∷ [] })
unfolding two
spans = refl

-- a store of which a byte isn't in RAM does nothing to code
outside : store_deed (two 0x1FFD 3 0x0100_0000 5) ≡ Plain
unfolding two
outside = refl

-- a page at 0x2000 has a fault
missing : Page → Result ℕ StorageFault
missing page = if page.ea == 0x2000 then Err NoTranslation else Ok page.ea

-- a fault comes with the page that has it, which begins at the access's first byte there
fault : stretches_of missing (pages_of (op_at (Load false false false) 0x1FFD 8)) ≡ Err (record { page = record { kind = Loads; ea = 0x2000; len = 5 }; fault = NoTranslation })
unfolding missing
fault = refl

-- zeros touch their 64 bytes of RAM
zeroed : store_deed (record { first = record { at = 0x200; len = 64 }; second = None }) ≡ StoreDeed (record { items = record { at = 0x200; len = 64 } ∷ [] })
zeroed = refl

-- a block is named by its number
block : block_of (record { first = record { at = 0x221; len = 1 }; second = None }) ≡ 8
block = refl
