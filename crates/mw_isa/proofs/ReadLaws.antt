-- What an instruction reads and writes of the registers, known from the instruction alone.
use Rattle.std.proofs.Common.{◌≡◌, ℕ, zero, suc, ◌+◌, ◌*◌, ◌%◌, ◌^◌, ◌<◌, ◌≤◌, arith, Bool, true, false, cond, List, [], ◌∷◌, ◌++◌, Option, Some, None, option_map, slice_get, refl, sym, ap, ap₂, ◌∙◌}
use Rattle.std.specs.Option.{option_map_or}
use Rattle.std.proofs.lemmas.List.{map-append}
use Rattle.std.proofs.lemmas.Nat.{pow-add}
use Rattle.std.proofs.Math.Pow.{pow_mono}
use Rattle.mw_alu.specs.declared.op.AluOut.{AluOut}
use Rattle.mw_decode.specs.declared.insn.Insn.{Insn}
use Rattle.mw_isa.specs.declared.memory.MemOp.{MemOp}
use Rattle.mw_isa.specs.declared.memory.MemWhat.{MemWhat}
use Rattle.mw_isa.specs.declared.memory.MemWhat.TheVariants.{Load, Store, Conditional, Zero, Clean, Icbi}
use Rattle.mw_isa.specs.declared.operation.Ending.{Ending}
use Rattle.mw_isa.specs.declared.operation.Operation.{Operation}
use Rattle.mw_isa.specs.declared.operation.Operation.TheVariants.{Alu, Product, Quotient, Branch, Field, Fields, Pick, Trap, Storage, Hint, Call, System}
use Rattle.mw_isa.specs.declared.outcome.Operands.{Operands}
use Rattle.mw_isa.specs.declared.outcome.Target.{Target}
use Rattle.mw_isa.specs.declared.long.LongOp.{LongOp}
use Rattle.mw_isa.specs.declared.long.LongOp.TheVariants.{Mul, Div}
use Rattle.mw_isa.specs.declared.outcome.Outcome.{Outcome}
use Rattle.mw_isa.specs.declared.outcome.Outcome.TheVariants.{Memory, Trap as Trapped}
use Rattle.mw_isa.specs.declared.place.Places.{Places}
use Rattle.mw_isa.specs.declared.slot.Slot.{Slot}
use Rattle.mw_isa.specs.declared.slot.Slot.TheVariants.{Gpr, CrField, Xer, Lr, Ctr, Tar}
use Rattle.mw_isa.specs.declared.sources.Sources.{Sources}
use Rattle.mw_isa.specs.declared.sources.Special.{Special}
use Rattle.mw_isa.specs.declared.vector.Vector.TheVariants.{Program}
use Rattle.mw_isa.specs.declared.xer.XerBits.{XerBits}
use Rattle.mw_isa.specs.Branches.{count_of, falls}
use Rattle.mw_isa.specs.Condition.{cr_field, is_chosen}
use Rattle.mw_isa.specs.Endings.{slot_if, writes_field, writes_xer}
use Rattle.mw_isa.specs.Special.{bo_of, fields_in, named_slots, nothing, slots_in, special_of, special_slots}
use Rattle.mw_isa.specs.Xer.{bits_after, xer_bits}
use Rattle.mw_isa.specs.Storage.{access_targets, update_targets}
use Rattle.mw_isa.specs.declared.operation.SystemRow.{SystemRow}
use Rattle.mw_isa.specs.declared.operation.SystemWhat.{SystemWhat}
use Rattle.mw_isa.specs.declared.operation.SystemWhat.TheVariants.{Return, Isync, Sync, Order, ReadMsr, WriteMsr, Tlbie, ReadSpr, WriteSpr, Random}
use Rattle.mw_isa.specs.Execute.{call, system_effect, access_of, is_refused, refusal, end_with, ended, out_of, effect_of, count_target, link_target, field_targets, picked_of, result_at, traps, branch_to, behind_insn, exec_of}
use Rattle.mw_isa.specs.Finish.{bits_behind, finished}
use Rattle.mw_isa.specs.Msr.{bit_at, trap_place}
use Rattle.mw_isa.specs.Operations.{operations}
use Rattle.mw_isa.specs.Raises.{outcome_raises}
use Rattle.mw_isa.specs.Places.{operand_of, places_in, places_of, system_roles}
use Rattle.mw_isa.specs.Reads.{Agree, chosen_digits, held, no_sources, operands_at, operands_by, operands_in, part_if, read_slots, reads_by, reads_of, sources_at, register_at}
use Rattle.mw_isa.specs.Slots.{bits_of, bits_upon, bits_with, known, slots_of}
use Rattle.mw_isa.specs.Targets.{access_slots, ending_slots, long_slots, targets_by, targets_of, update_slots, written_slots}

-- the bits of a list that begins with a register, if there is one
bits_of-front : (slot : Option Slot) (slots : List Slot) → bits_of (slots_in slot ++ slots) ≡ bits_with slot (bits_of slots)
bits_of-front None slots = refl
bits_of-front (Some slot) slots = refl

-- the bits of the registers that are read, from the last to the first
read_slots-bits : (sources : Sources) (special : List Slot) → bits_of (read_slots sources special) ≡ bits_with sources.a (bits_with sources.b (bits_with sources.c (bits_of special)))
read_slots-bits sources special =
    bits_of-front sources.a (slots_in sources.b ++ (slots_in sources.c ++ special))
    ∙ ap (bits_with sources.a) (bits_of-front sources.b (slots_in sources.c ++ special) ∙ ap (bits_with sources.b) (bits_of-front sources.c special))

-- the bits of one register, if there is one
slots_in-bits : (slot : Option Slot) → bits_of (slots_in slot) ≡ bits_with slot 0
slots_in-bits None = refl
slots_in-bits (Some slot) = refl

-- the bits of two lists, one behind the other
bits_of-append : (slots others : List Slot) → bits_of (slots ++ others) ≡ bits_upon slots (bits_of others)
bits_of-append [] others = refl
bits_of-append (slot ∷ slots) others = ap (bits_with (Some slot)) (bits_of-append slots others)

bits_upon-append : (slots others : List Slot) (bits : ℕ) → bits_upon (slots ++ others) bits ≡ bits_upon slots (bits_upon others bits)
bits_upon-append [] others bits = refl
bits_upon-append (slot ∷ slots) others bits = ap (bits_with (Some slot)) (bits_upon-append slots others bits)

bits_upon-one : (slot : Option Slot) (bits : ℕ) → bits_upon (slots_in slot) bits ≡ bits_with slot bits
bits_upon-one None bits = refl
bits_upon-one (Some slot) bits = refl

-- the bits of the fields that a mask chooses, from the last to the first
pub fields_in-bits : (mask n bits : ℕ) → bits_upon (fields_in mask (suc n)) bits ≡ bits_upon (fields_in mask n) (bits_with (slot_if (is_chosen mask n) (CrField n)) bits)
fields_in-bits mask n bits =
    bits_upon-append (fields_in mask n) (slots_in (slot_if (is_chosen mask n) (CrField n))) bits
    ∙ ap (bits_upon (fields_in mask n)) (bits_upon-one (slot_if (is_chosen mask n) (CrField n)) bits)

-- a set that gets the last of the fields that a mask chooses, and then the others, has the bits of all
pub fields_in-back : (mask k n before after : ℕ) (slot : Option Slot) → suc k ≡ n → slot ≡ slot_if (is_chosen mask k) (CrField k) → after ≡ bits_with slot before → bits_upon (fields_in mask k) after ≡ bits_upon (fields_in mask n) before
fields_in-back mask k n before after slot next is e =
    ap (bits_upon (fields_in mask k)) (e ∙ ap (λ (o : Option Slot). bits_with o before) is)
    ∙ sym (fields_in-bits mask k before)
    ∙ ap (λ (m : ℕ). bits_upon (fields_in mask m) before) next

-- a set without others has the bits of a list
pub bits_upon-none : (slots : List Slot) → bits_upon slots 0 ≡ bits_of slots
bits_upon-none [] = refl
bits_upon-none (slot ∷ slots) = ap (bits_with (Some slot)) (bits_upon-none slots)

-- the bits of XER, LR, CTR and TAR, where they are read
named_slots-bits : (special : Special) → bits_of (named_slots special) ≡ bits_with (slot_if special.xer Xer) (bits_with (slot_if special.lr Lr) (bits_with (slot_if special.ctr Ctr) (bits_with (slot_if special.tar Tar) 0)))
named_slots-bits special =
    bits_of-front (slot_if special.xer Xer) (slots_in (slot_if special.lr Lr) ++ (slots_in (slot_if special.ctr Ctr) ++ slots_in (slot_if special.tar Tar)))
    ∙ ap (bits_with (slot_if special.xer Xer)) (
    bits_of-front (slot_if special.lr Lr) (slots_in (slot_if special.ctr Ctr) ++ slots_in (slot_if special.tar Tar))
    ∙ ap (bits_with (slot_if special.lr Lr)) (
    bits_of-front (slot_if special.ctr Ctr) (slots_in (slot_if special.tar Tar))
    ∙ ap (bits_with (slot_if special.ctr Ctr)) (slots_in-bits (slot_if special.tar Tar))
    )
    )

-- the bits of what is read beside the operands
pub special_slots-bits : (special : Special) → bits_of (special_slots special) ≡ bits_upon (fields_in special.fields 8) (bits_with (slot_if special.xer Xer) (bits_with (slot_if special.lr Lr) (bits_with (slot_if special.ctr Ctr) (bits_with (slot_if special.tar Tar) 0))))
special_slots-bits special =
    bits_of-append (fields_in special.fields 8) (named_slots special)
    ∙ ap (bits_upon (fields_in special.fields 8)) (named_slots-bits special)

-- the registers that are read, once the operation is known
reads_of-known : (insn : Insn) (operation : Operation) → slice_get operations insn.row ≡ Some operation → reads_of insn ≡ reads_by operation insn
unfolding reads_of
reads_of-known insn operation e = ap (λ (o : Option Operation). option_map_or (λ known. reads_by known insn) o []) e

-- the bits of the registers that are read, once the operation and its sources are known
pub reads_of-bits : (insn : Insn) (operation : Operation) (sources : Sources) → slice_get operations insn.row ≡ Some operation → sources ≡ sources_at (places_of operation) insn → bits_of (reads_of insn) ≡ bits_with sources.a (bits_with sources.b (bits_with sources.c (bits_of (special_slots (special_of operation insn)))))
reads_of-bits insn operation sources at are =
    ap bits_of (reads_of-known insn operation at)
    ∙ read_slots-bits (sources_at (places_of operation) insn) (special_slots (special_of operation insn))
    ∙ ap (λ (s : Sources). bits_with s.a (bits_with s.b (bits_with s.c (bits_of (special_slots (special_of operation insn)))))) (sym are)

-- so many fields of the condition register stand in as many digits
pub chosen_digits-lt : (view : Slot → ℕ) (mask n : ℕ) → chosen_digits view mask n < 2 ^ (4 * n)
chosen_digits-lt view mask zero = omega arith
chosen_digits-lt view mask (suc n) =
    let more : 4 * suc n ≡ 4 * n + 4 = omega arith in
    let wide : 2 ^ (4 * suc n) ≡ 2 ^ (4 * n) * 16 = ap (λ (k : ℕ). 2 ^ k) more ∙ pow-add 2 (4 * n) 4 in
    omega (arith, chosen_digits-lt view mask n)

-- seven fields of the condition register leave room for another one
pub chosen_digits-room : (view : Slot → ℕ) (mask n : ℕ) → n < 8 → chosen_digits view mask n < 2 ^ 28
chosen_digits-room view mask n few =
    let few_digits : 4 * n ≤ 28 = omega arith in
    let most : 2 ^ (4 * n) ≤ 2 ^ 28 = pow_mono few_digits in
    omega (arith, chosen_digits-lt view mask n)

-- two views that agree on two lists, one behind the other, agree on each
agree-append : (view other : Slot → ℕ) (slots others : List Slot) → Agree view other (slots ++ others) → Agree view other slots × Agree view other others
agree-append view other [] others agree = (tt, agree)
agree-append view other (slot ∷ slots) others agree =
    let rest = agree-append view other slots others agree.1 in
    ((agree.0, rest.0), rest.1)

-- two views that agree on a register that is asked hold the same there
part_if-agree : (view other : Slot → ℕ) (asked : Bool) (slot : Slot) → Agree view other (slots_in (slot_if asked slot)) → part_if asked view slot ≡ part_if asked other slot
part_if-agree view other true slot agree = agree.0
part_if-agree view other false slot agree = refl

-- two views that agree on the fields that a mask chooses hold the same digits
chosen_digits-agree : (view other : Slot → ℕ) (mask n : ℕ) → Agree view other (fields_in mask n) → chosen_digits view mask n ≡ chosen_digits other mask n
chosen_digits-agree view other mask zero agree = refl
chosen_digits-agree view other mask (suc n) agree =
    let both = agree-append view other (fields_in mask n) (slots_in (slot_if (is_chosen mask n) (CrField n))) agree in
    ap₂ (λ (x : ℕ) (y : ℕ). x * 16 + y % 16) (chosen_digits-agree view other mask n both.0) (part_if-agree view other (is_chosen mask n) (CrField n) both.1)

-- two views that agree on a list agree on its first register, if there is one, and on the others
pub agree-front : (view other : Slot → ℕ) (slot : Option Slot) (slots : List Slot) → Agree view other (slots_in slot ++ slots) → (held view slot ≡ held other slot) × Agree view other slots
agree-front view other None slots agree = (refl, agree)
agree-front view other (Some slot) slots agree = (agree.0, agree.1)

operands_by-agree : (sources : Sources) (special : Special) (view other : Slot → ℕ) (msr : ℕ) → Agree view other (read_slots sources (special_slots special)) → operands_by sources special view msr ≡ operands_by sources special other msr
operands_by-agree sources special view other msr agree =
    let a = agree-front view other sources.a (slots_in sources.b ++ (slots_in sources.c ++ special_slots special)) agree in
    let b = agree-front view other sources.b (slots_in sources.c ++ special_slots special) a.1 in
    let c = agree-front view other sources.c (special_slots special) b.1 in
    let fields = agree-append view other (fields_in special.fields 8) (named_slots special) c.1 in
    let xer = agree-append view other (slots_in (slot_if special.xer Xer)) (slots_in (slot_if special.lr Lr) ++ (slots_in (slot_if special.ctr Ctr) ++ slots_in (slot_if special.tar Tar))) fields.1 in
    let lr = agree-append view other (slots_in (slot_if special.lr Lr)) (slots_in (slot_if special.ctr Ctr) ++ slots_in (slot_if special.tar Tar)) xer.1 in
    let ctr = agree-append view other (slots_in (slot_if special.ctr Ctr)) (slots_in (slot_if special.tar Tar)) lr.1 in
    let a_is : held view sources.a ≡ held other sources.a = a.0 in
    let b_is : held view sources.b ≡ held other sources.b = b.0 in
    let c_is : held view sources.c ≡ held other sources.c = c.0 in
    let cr_is : chosen_digits view special.fields 8 ≡ chosen_digits other special.fields 8 = chosen_digits-agree view other special.fields 8 fields.0 in
    let xer_is : part_if special.xer view Xer ≡ part_if special.xer other Xer = part_if-agree view other special.xer Xer xer.0 in
    let lr_is : part_if special.lr view Lr ≡ part_if special.lr other Lr = part_if-agree view other special.lr Lr lr.0 in
    let ctr_is : part_if special.ctr view Ctr ≡ part_if special.ctr other Ctr = part_if-agree view other special.ctr Ctr ctr.0 in
    let tar_is : part_if special.tar view Tar ≡ part_if special.tar other Tar = part_if-agree view other special.tar Tar ctr.1 in
    cc

operands-agree : (operation : Option Operation) (insn : Insn) (view other : Slot → ℕ) (msr : ℕ) → Agree view other (option_map_or (λ known. reads_by known insn) operation []) → option_map_or (λ known. operands_at known insn view msr) operation (operands_by no_sources nothing view msr) ≡ option_map_or (λ known. operands_at known insn other msr) operation (operands_by no_sources nothing other msr)
operands-agree None insn view other msr agree = refl
operands-agree (Some operation) insn view other msr agree =
    operands_by-agree (sources_at (places_of operation) insn) (special_of operation insn) view other msr agree

-- an instruction's operands are those that it reads: two views that agree on these give the same
pub operands_in-agree : (insn : Insn) (view other : Slot → ℕ) (msr : ℕ) → Agree view other (reads_of insn) → operands_in insn view msr ≡ operands_in insn other msr
unfolding reads_of operands_in
operands_in-agree insn view other msr agree = operands-agree (slice_get operations insn.row) insn view other msr agree

-- the registers of a result, of XER and of CR field 0, each where it is written
ended-by : (slot : Option Slot) (value : ℕ) (xer field : Bool) (bits : XerBits) → slots_of (end_with slot value xer field bits) ≡ slots_in slot ++ slots_in (slot_if xer Xer) ++ slots_in (slot_if field (CrField 0))
ended-by None value true true bits = refl
ended-by None value true false bits = refl
ended-by None value false true bits = refl
ended-by None value false false bits = refl
ended-by (Some slot) value true true bits = refl
ended-by (Some slot) value true false bits = refl
ended-by (Some slot) value false true bits = refl
ended-by (Some slot) value false false bits = refl

ended-slots : (ending : Ending) (places : Places) (insn : Insn) (out : AluOut) (xer : ℕ) → slots_of (ended ending places insn out xer) ≡ ending_slots ending places insn
ended-slots ending places insn out xer =
    ended-by (register_at insn places.written) out.value (writes_xer ending insn) (writes_field ending insn) (bits_after ending insn out (xer_bits xer))

-- the registers that a branch writes: CTR where it falls, LR with LK
branch-slots : (bo : ℕ) (lk : Bool) (ctr cia : ℕ) (down : Bool) → falls bo ≡ down → slots_of (count_target bo ctr ++ link_target lk cia) ≡ slots_in (slot_if down Ctr) ++ slots_in (slot_if lk Lr)
branch-slots bo true ctr cia true e = ap (λ (b : Bool). slots_of (cond b (known Ctr (count_of bo ctr) ∷ []) [] ++ link_target true cia)) e
branch-slots bo false ctr cia true e = ap (λ (b : Bool). slots_of (cond b (known Ctr (count_of bo ctr) ∷ []) [] ++ link_target false cia)) e
branch-slots bo true ctr cia false e = ap (λ (b : Bool). slots_of (cond b (known Ctr (count_of bo ctr) ∷ []) [] ++ link_target true cia)) e
branch-slots bo false ctr cia false e = ap (λ (b : Bool). slots_of (cond b (known Ctr (count_of bo ctr) ∷ []) [] ++ link_target false cia)) e

-- a field of the condition register that may be set is written where it is set
chosen-slots : (b : Bool) (n value : ℕ) → slots_of (cond b (known (CrField n) value ∷ []) []) ≡ slots_in (slot_if b (CrField n))
chosen-slots true n value = refl
chosen-slots false n value = refl

-- the registers of the targets that a mask chooses are the fields that it chooses
fields-slots : (mask value n : ℕ) → slots_of (field_targets mask value n) ≡ fields_in mask n
fields-slots mask value zero = refl
fields-slots mask value (suc n) =
    map-append (λ (target : Target). target.slot) (field_targets mask value n) (cond (is_chosen mask n) (known (CrField n) (cr_field value n) ∷ []) [])
    ∙ ap₂ (λ (xs ys : List Slot). xs ++ ys) (fields-slots mask value n) (chosen-slots (is_chosen mask n) n (cr_field value n))

-- the register of a result, if it has one
result-slots : (slot : Option Slot) (value : ℕ) → slots_of (result_at slot value) ≡ slots_in slot
result-slots None value = refl
result-slots (Some slot) value = refl

-- a trap writes no register
trap-slots : (b : Bool) (next : ℕ) → written_slots (cond b (Trapped Program (bit_at trap_place)) (branch_to next)) ≡ []
trap-slots true next = refl
trap-slots false next = refl

-- an access that isn't refused writes the registers of an access
access-written : (b : Bool) (op : MemOp) (outcome : Outcome) → cond b refusal (Memory op) ≡ outcome → outcome_raises outcome ≡ None → written_slots outcome ≡ access_slots op.what op.to op.update
access-written true op outcome is calm =
    let raised : outcome_raises refusal ≡ None = ap outcome_raises is ∙ calm in
    cc
access-written false op outcome is calm = ap written_slots (sym is)

-- what an operation comes to writes the registers that it is known to write, if it raises no interrupt
-- what a row of the system asks for writes RT, where it has one
asked-slots-by : (what : SystemWhat) (insn : Insn) (o : Operands) (cia : ℕ) → written_slots (system_effect what (places_in (system_roles what)) insn o cia) ≡ slots_in (register_at insn (places_in (system_roles what)).written)
asked-slots-by (Return hypervisor) insn o cia = refl
asked-slots-by Isync insn o cia = refl
asked-slots-by Sync insn o cia = refl
asked-slots-by Order insn o cia = refl
asked-slots-by ReadMsr insn o cia = refl
asked-slots-by WriteMsr insn o cia = refl
asked-slots-by Tlbie insn o cia = refl
asked-slots-by ReadSpr insn o cia = refl
asked-slots-by WriteSpr insn o cia = refl
asked-slots-by Random insn o cia = refl

system-written : (b : Bool) (row : SystemRow) (insn : Insn) (o : Operands) (cia : ℕ) (outcome : Outcome) → cond b refusal (system_effect row.what (places_of (System row)) insn o cia) ≡ outcome → outcome_raises outcome ≡ None → written_slots outcome ≡ slots_in (register_at insn (places_of (System row)).written)
system-written true row insn o cia outcome is calm =
    let raised : outcome_raises refusal ≡ None = ap outcome_raises is ∙ calm in
    cc
system-written false row insn o cia outcome is calm = ap written_slots (sym is) ∙ asked-slots-by row.what insn o cia

effect-slots : (operation : Operation) (insn : Insn) (o : Operands) (cia : ℕ) (outcome : Outcome) → effect_of operation insn o cia ≡ outcome → outcome_raises outcome ≡ None → written_slots outcome ≡ targets_by operation insn
effect-slots (Alu row) insn o cia outcome e calm =
    ap written_slots (sym e) ∙ ended-slots row.ending (places_of (Alu row)) insn (out_of row insn o cia) o.xer
effect-slots (Product row) insn o cia outcome e calm =
    ap written_slots (sym e)
effect-slots (Quotient row) insn o cia outcome e calm =
    ap written_slots (sym e)
effect-slots (Branch row) insn o cia outcome e calm =
    ap written_slots (sym e) ∙ branch-slots (bo_of row insn) insn.lk o.ctr cia (falls (bo_of row insn)) refl
effect-slots (Field row) insn o cia outcome e calm =
    ap written_slots (sym e)
effect-slots Fields insn o cia outcome e calm =
    ap written_slots (sym e) ∙ fields-slots (operand_of insn 0) o.a 8
effect-slots (Pick row) insn o cia outcome e calm =
    ap written_slots (sym e) ∙ result-slots (register_at insn (places_of (Pick row)).written) (picked_of row insn o cia)
effect-slots (Trap row) insn o cia outcome e calm =
    ap written_slots (sym e) ∙ trap-slots (traps row insn o) (behind_insn insn cia)
effect-slots (Storage row) insn o cia outcome e calm =
    access-written (is_refused row.privilege insn o.msr) (access_of row insn o cia) outcome e calm
effect-slots Hint insn o cia outcome e calm =
    ap written_slots (sym e)
effect-slots Call insn o cia outcome e calm =
    let raised : outcome_raises call ≡ None = ap outcome_raises e ∙ calm in
    cc
effect-slots (System row) insn o cia outcome e calm = system-written (is_refused row.privilege insn o.msr) row insn o cia outcome e calm

slots-by : (operation : Option Operation) (insn : Insn) (o : Operands) (cia : ℕ) (outcome : Outcome) → option_map (λ known. effect_of known insn o cia) operation ≡ Some outcome → outcome_raises outcome ≡ None → written_slots outcome ≡ option_map_or (λ known. targets_by known insn) operation []
slots-by None insn o cia outcome e calm = cc
slots-by (Some operation) insn o cia outcome e calm =
    let is : effect_of operation insn o cia ≡ outcome = cc in
    effect-slots operation insn o cia outcome is calm

-- an instruction's outcome that raises no interrupt writes the registers that the instruction is known to write, in their
-- order
pub exec-targets : (insn : Insn) (o : Operands) (cia : ℕ) (outcome : Outcome) → exec_of insn o cia ≡ Some outcome → outcome_raises outcome ≡ None → written_slots outcome ≡ targets_of insn
unfolding exec_of targets_of
exec-targets insn o cia outcome e calm = slots-by (slice_get operations insn.row) insn o cia outcome e calm

-- a long operation writes these registers, whatever its unit answers
pub finished-slots : (op : LongOp) (out : AluOut) (xer : ℕ) → slots_of (finished op out xer) ≡ long_slots op
finished-slots (Mul unit high word to oe rc) out xer = ended-by (Some (Gpr to)) out.value oe rc (bits_behind oe out (xer_bits xer))
finished-slots (Div unit rest word to oe rc) out xer = ended-by (Some (Gpr to)) out.value oe rc (bits_behind oe out (xer_bits xer))

update-slots : (op : MemOp) (update : Option ℕ) → slots_of (update_targets op update) ≡ update_slots update
update-slots op None = refl
update-slots op (Some n) = refl

-- an access writes these registers
pub access-slots : (what : MemWhat) (op : MemOp) (number : ℕ) (reserved : Bool) (xer : ℕ) → slots_of (access_targets what op number reserved xer) ≡ access_slots what op.to op.update
access-slots (Load signed reversed reserve) op number reserved xer = ap (λ (slots : List Slot). Gpr op.to ∷ slots) (update-slots op op.update)
access-slots (Store reversed) op number reserved xer = update-slots op op.update
access-slots (Conditional reversed) op number reserved xer = refl
access-slots Zero op number reserved xer = refl
access-slots Clean op number reserved xer = refl
access-slots Icbi op number reserved xer = refl
