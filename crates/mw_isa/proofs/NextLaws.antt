-- Where an instruction goes on, and how many registers it writes.
use Rattle.std.proofs.Common.{◌≡◌, ℕ, ◌+◌, ◌%◌, ◌^◌, ◌≤◌, Bool, true, false, cond, length, [], ◌∷◌, ◌++◌, Option, Some, None, option_map, slice_get, refl, sym, subst, arith}
use Rattle.std.specs.Option.{option_map_or}
use Rattle.mw_decode.specs.declared.insn.Insn.{Insn}
use Rattle.mw_decode.specs.Decode.{IsInsn}
use Rattle.mw_tables.specs.Matching.{has_prefix}
use Rattle.mw_isa.specs.declared.memory.MemWhat.{MemWhat}
use Rattle.mw_isa.specs.declared.memory.MemWhat.TheVariants.{Load, Store, Conditional, Zero, Clean, Icbi}
use Rattle.mw_isa.specs.declared.memory.MemOp.{MemOp}
use Rattle.mw_isa.specs.declared.operation.BranchRow.{BranchRow}
use Rattle.mw_isa.specs.declared.operation.BranchRow.TheVariants.{B, Bc, Bclr, Bcctr, Bctar}
use Rattle.mw_isa.specs.declared.operation.Operation.{Operation}
use Rattle.mw_isa.specs.declared.operation.Operation.TheVariants.{Alu, Product, Quotient, Branch, Field, Fields, Pick, Trap, Storage, Hint, Call, System}
use Rattle.mw_isa.specs.declared.operation.SystemRow.{SystemRow}
use Rattle.mw_isa.specs.declared.operation.SystemWhat.{SystemWhat}
use Rattle.mw_isa.specs.declared.operation.SystemWhat.TheVariants.{Return, Isync, Sync, Order, ReadMsr, WriteMsr, Tlbie, ReadSpr, WriteSpr, Random}
use Rattle.mw_isa.specs.declared.place.Places.{Places}
use Rattle.mw_isa.specs.declared.outcome.Operands.{Operands}
use Rattle.mw_isa.specs.declared.outcome.Outcome.{Outcome}
use Rattle.mw_isa.specs.declared.outcome.Outcome.TheVariants.{Memory, Trap as Trapped}
use Rattle.mw_isa.specs.declared.regs.Regs.{Regs}
use Rattle.mw_isa.specs.declared.slot.Slot.{Slot}
use Rattle.mw_isa.specs.declared.slot.Slot.TheVariants.{Gpr, CrField, Xer, Lr, Ctr}
use Rattle.mw_isa.specs.declared.vector.Vector.TheVariants.{Program}
use Rattle.mw_isa.specs.Branches.{count_of, falls, is_taken, word_address}
use Rattle.mw_isa.specs.Condition.{cr_bit}
use Rattle.mw_isa.specs.Endings.{slot_if, writes_field, writes_xer}
use Rattle.mw_isa.specs.Execute.{access_of, behind_insn, branch_to, effect_of, exec_of, goal_of, is_refused, refusal, system_effect, target_of, traps, updated_of, written_of}
use Rattle.mw_isa.specs.Fetch.{behind}
use Rattle.mw_isa.specs.Msr.{bit_at, trap_place}
use Rattle.mw_isa.specs.Operations.{operations}
use Rattle.mw_isa.specs.Places.{Code, Distance, AreLimited, HasLimits, branch_roles, operand_of, places_of}
use Rattle.mw_isa.specs.Reads.{register_at}
use Rattle.mw_isa.specs.Special.{bi_of, bo_of, slots_in}
use Rattle.mw_isa.specs.Step.{next_of}
use Rattle.mw_isa.specs.Targets.{access_slots, targets_by, targets_of}
use Rattle.mw_isa.proofs.RowLaws.{limited}

-- an address is a multiple of 4
abbrev pub IsAligned : ℕ → Type 0
IsAligned at = at % 4 ≡ 0

-- the address behind one that is a multiple of 4 is a multiple of 4
behind-aligned : (at : ℕ) → IsAligned at → IsAligned (behind at)
behind-aligned at a = omega arith

-- either of two addresses that are multiples of 4 is one
either-aligned : (b : Bool) (x y : ℕ) → IsAligned x → IsAligned y → IsAligned (cond b x y)
either-aligned true x y p q = p
either-aligned false x y p q = q

behind_insn-aligned : (insn : Insn) (at : ℕ) → IsAligned at → IsAligned (behind_insn insn at)
behind_insn-aligned insn at a = either-aligned (has_prefix insn.row) (behind (behind at)) (behind at) (behind-aligned (behind at) (behind-aligned at a)) (behind-aligned at a)

-- the target of a branch by a displacement is a multiple of 4
target-aligned : (displacement : ℕ) (insn : Insn) (at : ℕ) → IsAligned displacement → IsAligned at → IsAligned (target_of displacement insn at)
target-aligned displacement insn at d a = either-aligned insn.aa displacement ((at + displacement) % 2 ^ 64) d (omega arith)

word-aligned : (n : ℕ) → IsAligned (word_address n)
word-aligned n = omega arith

-- the address that a branch goes to is a multiple of 4
goal-aligned : (row : BranchRow) (insn : Insn) (o : Operands) (at : ℕ) → AreLimited insn 0 (branch_roles row) → IsAligned at → IsAligned (goal_of row insn o at)
goal-aligned B insn o at h a = target-aligned (operand_of insn 0) insn at h.0 a
goal-aligned Bc insn o at h a =
    let rest : AreLimited insn 1 (Code 5 ∷ Distance ∷ []) = h.1 in
    let last : AreLimited insn 2 (Distance ∷ []) = rest.1 in
    target-aligned (operand_of insn 2) insn at last.0 a
goal-aligned Bclr insn o at h a = word-aligned o.lr
goal-aligned Bcctr insn o at h a = word-aligned o.ctr
goal-aligned Bctar insn o at h a = word-aligned o.tar

-- behind a trap, or where it doesn't trap, the next address is a multiple of 4
trap-aligned : (b : Bool) (insn : Insn) (at : ℕ) (regs : Regs) → IsAligned at → IsAligned (next_of insn (cond b (Trapped Program (bit_at trap_place)) (branch_to (behind_insn insn at))) regs at)
trap-aligned true insn at regs a = a
trap-aligned false insn at regs a = behind_insn-aligned insn at a

-- behind a refusal or an access the next address is a multiple of 4
refused-aligned : (b : Bool) (insn : Insn) (op : MemOp) (at : ℕ) (regs : Regs) → IsAligned at → IsAligned (next_of insn (cond b refusal (Memory op)) regs at)
refused-aligned true insn op at regs a = a
refused-aligned false insn op at regs a = behind_insn-aligned insn at a

-- behind what a row of the system asks for the next address is a multiple of 4
asked-aligned : (what : SystemWhat) (places : Places) (insn : Insn) (o : Operands) (at : ℕ) (regs : Regs) → IsAligned at → IsAligned (next_of insn (system_effect what places insn o at) regs at)
asked-aligned (Return true) places insn o at regs a = word-aligned regs.hsrr0
asked-aligned (Return false) places insn o at regs a = word-aligned regs.srr0
asked-aligned Isync places insn o at regs a = behind_insn-aligned insn at a
asked-aligned Sync places insn o at regs a = behind_insn-aligned insn at a
asked-aligned Order places insn o at regs a = behind_insn-aligned insn at a
asked-aligned ReadMsr places insn o at regs a = behind_insn-aligned insn at a
asked-aligned WriteMsr places insn o at regs a = behind_insn-aligned insn at a
asked-aligned Tlbie places insn o at regs a = behind_insn-aligned insn at a
asked-aligned ReadSpr places insn o at regs a = behind_insn-aligned insn at a
asked-aligned WriteSpr places insn o at regs a = behind_insn-aligned insn at a
asked-aligned Random places insn o at regs a = behind_insn-aligned insn at a

system-aligned : (b : Bool) (row : SystemRow) (insn : Insn) (o : Operands) (at : ℕ) (regs : Regs) → IsAligned at → IsAligned (next_of insn (cond b refusal (system_effect row.what (places_of (System row)) insn o at)) regs at)
system-aligned true row insn o at regs a = a
system-aligned false row insn o at regs a = asked-aligned row.what (places_of (System row)) insn o at regs a

effect-aligned : (operation : Operation) (insn : Insn) (o : Operands) (at : ℕ) (outcome : Outcome) (regs : Regs) → HasLimits insn operation → effect_of operation insn o at ≡ outcome → IsAligned at → IsAligned (next_of insn outcome regs at)
effect-aligned (Alu row) insn o at outcome regs h e a =
    subst (λ (v : Outcome). IsAligned (next_of insn v regs at)) e (behind_insn-aligned insn at a)
effect-aligned (Product row) insn o at outcome regs h e a =
    subst (λ (v : Outcome). IsAligned (next_of insn v regs at)) e (behind_insn-aligned insn at a)
effect-aligned (Quotient row) insn o at outcome regs h e a =
    subst (λ (v : Outcome). IsAligned (next_of insn v regs at)) e (behind_insn-aligned insn at a)
effect-aligned (Branch row) insn o at outcome regs h e a =
    subst (λ (v : Outcome). IsAligned (next_of insn v regs at)) e (either-aligned (is_taken (bo_of row insn) (count_of (bo_of row insn) o.ctr) (cr_bit o.cr (bi_of row insn))) (goal_of row insn o at) (behind at) (goal-aligned row insn o at h a) (behind-aligned at a))
effect-aligned (Field row) insn o at outcome regs h e a =
    subst (λ (v : Outcome). IsAligned (next_of insn v regs at)) e (behind_insn-aligned insn at a)
effect-aligned Fields insn o at outcome regs h e a =
    subst (λ (v : Outcome). IsAligned (next_of insn v regs at)) e (behind_insn-aligned insn at a)
effect-aligned (Pick row) insn o at outcome regs h e a =
    subst (λ (v : Outcome). IsAligned (next_of insn v regs at)) e (behind_insn-aligned insn at a)
effect-aligned (Trap row) insn o at outcome regs h e a =
    subst (λ (v : Outcome). IsAligned (next_of insn v regs at)) e (trap-aligned (traps row insn o) insn at regs a)
effect-aligned (Storage row) insn o at outcome regs h e a =
    subst (λ (v : Outcome). IsAligned (next_of insn v regs at)) e (refused-aligned (is_refused row.privilege insn o.msr) insn (access_of row insn o at) at regs a)
effect-aligned Hint insn o at outcome regs h e a =
    subst (λ (v : Outcome). IsAligned (next_of insn v regs at)) e (behind_insn-aligned insn at a)
effect-aligned Call insn o at outcome regs h e a =
    subst (λ (v : Outcome). IsAligned (next_of insn v regs at)) e a
effect-aligned (System row) insn o at outcome regs h e a =
    subst (λ (v : Outcome). IsAligned (next_of insn v regs at)) e (system-aligned (is_refused row.privilege insn o.msr) row insn o at regs a)

exec-aligned : (operation : Option Operation) (insn : Insn) (o : Operands) (at : ℕ) (outcome : Outcome) (regs : Regs) → ((known : Operation) → operation ≡ Some known → HasLimits insn known) → option_map (λ known. effect_of known insn o at) operation ≡ Some outcome → IsAligned at → IsAligned (next_of insn outcome regs at)
exec-aligned None insn o at outcome regs h e a = cc
exec-aligned (Some operation) insn o at outcome regs h e a =
    let is : effect_of operation insn o at ≡ outcome = cc in
    effect-aligned operation insn o at outcome regs (h operation refl) is a

-- the next address is a multiple of 4 where this one is
pub next-aligned : (insn : Insn) (o : Operands) (at : ℕ) (outcome : Outcome) (regs : Regs) → IsInsn insn → exec_of insn o at ≡ Some outcome → IsAligned at → IsAligned (next_of insn outcome regs at)
unfolding exec_of
next-aligned insn o at outcome regs is e a = exec-aligned (slice_get operations insn.row) insn o at outcome regs (λ known there. limited insn known is there) e a

-- a row sets the fields of a mask
abbrev pub sets_fields : Operation → Bool
sets_fields Fields = true
sets_fields operation = false

-- three registers that may be there are at most three
few-in : (a b c : Option Slot) → length (slots_in a ++ slots_in b ++ slots_in c) ≤ 3
few-in None None None = omega arith
few-in None None (Some c) = omega arith
few-in None (Some b) None = omega arith
few-in None (Some b) (Some c) = omega arith
few-in (Some a) None None = omega arith
few-in (Some a) None (Some c) = omega arith
few-in (Some a) (Some b) None = omega arith
few-in (Some a) (Some b) (Some c) = omega arith

few-branch : (a b : Option Slot) → length (slots_in a ++ slots_in b) ≤ 3
few-branch None None = omega arith
few-branch None (Some b) = omega arith
few-branch (Some a) None = omega arith
few-branch (Some a) (Some b) = omega arith

few-picked : (a : Option Slot) → length (slots_in a) ≤ 3
few-picked None = omega arith
few-picked (Some a) = omega arith

few-accessed : (what : MemWhat) (to : ℕ) (update : Option ℕ) → length (access_slots what to update) ≤ 3
few-accessed (Load signed reversed reserve) to None = omega arith
few-accessed (Load signed reversed reserve) to (Some n) = omega arith
few-accessed (Store reversed) to None = omega arith
few-accessed (Store reversed) to (Some n) = omega arith
few-accessed (Conditional reversed) to update = omega arith
few-accessed Zero to update = omega arith
few-accessed Clean to update = omega arith
few-accessed Icbi to update = omega arith

few-by : (operation : Operation) (insn : Insn) → sets_fields operation ≡ false → length (targets_by operation insn) ≤ 3
few-by (Alu row) insn e = few-in (register_at insn (places_of (Alu row)).written) (slot_if (writes_xer row.ending insn) Xer) (slot_if (writes_field row.ending insn) (CrField 0))
few-by (Product row) insn e = few-in (Some (Gpr (written_of (places_of (Product row)) insn))) (slot_if insn.oe Xer) (slot_if insn.rc (CrField 0))
few-by (Quotient row) insn e = few-in (Some (Gpr (written_of (places_of (Quotient row)) insn))) (slot_if insn.oe Xer) (slot_if insn.rc (CrField 0))
few-by (Branch row) insn e = few-branch (slot_if (falls (bo_of row insn)) Ctr) (slot_if insn.lk Lr)
few-by (Field row) insn e = omega arith
few-by Fields insn e = cc
few-by (Pick row) insn e = few-picked (register_at insn (places_of (Pick row)).written)
few-by (Trap row) insn e = omega arith
few-by (Storage row) insn e = few-accessed row.what (written_of (places_of (Storage row)) insn) (updated_of row (places_of (Storage row)) insn)
few-by Hint insn e = omega arith
few-by Call insn e = omega arith
few-by (System row) insn e = few-picked (register_at insn (places_of (System row)).written)

-- no row but mtcrf and mtocrf writes more than three registers
pub few-targets : (insn : Insn) (operation : Operation) → slice_get operations insn.row ≡ Some operation → sets_fields operation ≡ false → length (targets_of insn) ≤ 3
unfolding targets_of
few-targets insn operation at e = subst (λ (o : Option Operation). length (option_map_or (λ known. targets_by known insn) o []) ≤ 3) (sym at) (few-by operation insn e)
