-- What is known of an access of one of its lengths.
use Rattle.std.proofs.Common.{◌≡◌, ℕ, zero, suc, Bool, true, ◌&&◌, List, [], ◌∷◌, Some, slice_get, refl, sym, ap, ◌∙◌}
use Rattle.std.proofs.lemmas.Bool.{and_parts}
use Rattle.mw_isa.specs.declared.memory.MemWhat.{MemWhat}
use Rattle.mw_isa.specs.declared.operation.Operation.{Operation}
use Rattle.mw_isa.specs.declared.operation.Operation.TheVariants.{Alu, Product, Quotient, Branch, Field, Fields, Pick, Trap, Storage, Hint, Call, System}
use Rattle.mw_isa.specs.declared.operation.StorageRow.{StorageRow}
use Rattle.mw_isa.specs.Operations.{operations, operation_lines}
use Rattle.mw_isa.specs.declared.memory.MemOp.{MemOp}
use Rattle.mw_isa.specs.declared.pages.Stretches.{Stretches}
use Rattle.mw_isa.specs.State.{State}
use Rattle.mw_isa.specs.Storage.{is_sized_by, accessed, accessed_as}

-- the length of an operation's access, if it has one, is one of its lengths
abbrev sized_operation : Operation → Bool
sized_operation (Alu row) = true
sized_operation (Product row) = true
sized_operation (Quotient row) = true
sized_operation (Branch row) = true
sized_operation (Field row) = true
sized_operation Fields = true
sized_operation (Pick row) = true
sized_operation (Trap row) = true
sized_operation (Storage row) = is_sized_by row.what row.len
sized_operation Hint = true
sized_operation Call = true
sized_operation (System row) = true

-- the length of each operation's access, if it has one, is one of its lengths
abbrev all_sized : List Operation → Bool
all_sized [] = true
all_sized (operation ∷ others) = sized_operation operation && all_sized others

operations-sized : all_sized operations ≡ true
unfolding operations operation_lines
operations-sized = refl

-- what holds of all operations holds at each place
sized-at : (list : List Operation) (place : ℕ) (operation : Operation) → all_sized list ≡ true → slice_get list place ≡ Some operation → sized_operation operation ≡ true
sized-at [] place operation all e = cc
sized-at (first ∷ others) zero operation all e =
    let same : first ≡ operation = cc in
    ap sized_operation (sym same) ∙ (and_parts (sized_operation first) (all_sized others) all).0
sized-at (first ∷ others) (suc place) operation all e =
    sized-at others place operation (and_parts (sized_operation first) (all_sized others) all).1 e

-- a row that accesses storage has one of its lengths
pub storage-sized : (place : ℕ) (row : StorageRow) → slice_get operations place ≡ Some (Storage row) → is_sized_by row.what row.len ≡ true
storage-sized place row e = sized-at operations place (Storage row) operations-sized e

-- what an access leaves, told by what it does with the bytes
pub accessed-what : (what : MemWhat) (op : MemOp) (at : Stretches) (state : State) → op.what ≡ what → accessed op at state ≡ accessed_as what op at state
unfolding accessed
accessed-what what op at state e = ap (λ (does : MemWhat). accessed_as does op at state) e
