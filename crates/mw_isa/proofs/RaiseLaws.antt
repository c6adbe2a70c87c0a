-- What raises an interrupt, and what doesn't.
use Rattle.std.proofs.Common.{◌≡◌, ℕ, Bool, true, false, ◌||◌, cond, [], ◌∷◌, ◌++◌, Option, Some, None, Ok, Err, option_map, slice_get, refl, sym, ap, ap₂, ◌∙◌}
use Rattle.std.specs.Int.{w64, cast_unsigned}
use Rattle.mw_decode.specs.declared.insn.Insn.{Insn}
use Rattle.mw_decode.specs.declared.insn.Decoded.{Decoded}
use Rattle.mw_decode.specs.declared.insn.Decoded.TheVariants.{Insn as Is, Unavailable, Alignment, Illegal}
use Rattle.mw_isa.specs.declared.operation.Operation.{Operation}
use Rattle.mw_isa.specs.declared.operation.Operation.TheVariants.{Alu, Product, Quotient, Branch, Field, Fields, Pick, Trap, Storage, Hint, Call, System}
use Rattle.mw_isa.specs.declared.operation.Privilege.{Privilege}
use Rattle.mw_isa.specs.declared.operation.Privilege.TheVariants.{Never, Always, Heavy}
use Rattle.mw_isa.specs.declared.operation.SystemWhat.{SystemWhat}
use Rattle.mw_isa.specs.declared.operation.SystemWhat.TheVariants.{Return, Isync, Sync, Order, ReadMsr, WriteMsr, Tlbie, ReadSpr, WriteSpr, Random}
use Rattle.mw_isa.specs.declared.place.Places.{Places}
use Rattle.mw_isa.specs.declared.outcome.Operands.{Operands}
use Rattle.mw_isa.specs.declared.outcome.Outcome.{Outcome}
use Rattle.mw_isa.specs.declared.outcome.Outcome.TheVariants.{Done, Long, Memory, System as Asked, Trap as Trapped}
use Rattle.mw_isa.specs.declared.memory.MemOp.{MemOp}
use Rattle.mw_isa.specs.declared.pages.Stretches.{Stretches}
use Rattle.mw_isa.specs.declared.slot.Slot.{Slot}
use Rattle.mw_isa.specs.Execute.{access_of, can_raise, effect_of, exec_of, is_ever, is_refused, refusal, system_effect, wrapped_sum}
use Rattle.mw_isa.specs.Operations.{operations}
use Rattle.mw_isa.specs.Raises.{Placed, access_raises, decoded_raises, first_raised, misaligned, misaligned_if, outcome_raises}
use Rattle.mw_isa.specs.Places.{places_of}
use Rattle.mw_isa.specs.Step.{OnPlaced, end_raises}
use Rattle.mw_isa.specs.Storage.{is_misplaced, is_unaligned_exclusive, raises_alignment}
use Rattle.mw_isa.specs.Reads.{Agree}
use Rattle.mw_isa.specs.Special.{slots_in}
use Rattle.mw_isa.specs.Words.{alignment_sources, words_reads}
use Rattle.mw_isa.proofs.ReadLaws.{agree-front}

-- a row that is never privileged isn't refused
never-refused : (privilege : Privilege) (insn : Insn) (msr : ℕ) → is_ever privilege ≡ false → is_refused privilege insn msr ≡ false
never-refused Never insn msr e = refl
never-refused Always insn msr e = cc
never-refused Heavy insn msr e = cc

-- an operation that can't raise an interrupt by itself doesn't
-- what a row of the system asks for is no interrupt
system-calm : (what : SystemWhat) (places : Places) (insn : Insn) (o : Operands) (cia : ℕ) → outcome_raises (system_effect what places insn o cia) ≡ None
system-calm (Return hypervisor) places insn o cia = refl
system-calm Isync places insn o cia = refl
system-calm Sync places insn o cia = refl
system-calm Order places insn o cia = refl
system-calm ReadMsr places insn o cia = refl
system-calm WriteMsr places insn o cia = refl
system-calm Tlbie places insn o cia = refl
system-calm ReadSpr places insn o cia = refl
system-calm WriteSpr places insn o cia = refl
system-calm Random places insn o cia = refl

effect-calm : (operation : Operation) (insn : Insn) (o : Operands) (cia : ℕ) (outcome : Outcome) → can_raise operation ≡ false → effect_of operation insn o cia ≡ outcome → outcome_raises outcome ≡ None
effect-calm (Alu row) insn o cia outcome c e =
    ap outcome_raises (sym e)
effect-calm (Product row) insn o cia outcome c e =
    ap outcome_raises (sym e)
effect-calm (Quotient row) insn o cia outcome c e =
    ap outcome_raises (sym e)
effect-calm (Branch row) insn o cia outcome c e =
    ap outcome_raises (sym e)
effect-calm (Field row) insn o cia outcome c e =
    ap outcome_raises (sym e)
effect-calm Fields insn o cia outcome c e =
    ap outcome_raises (sym e)
effect-calm (Pick row) insn o cia outcome c e =
    ap outcome_raises (sym e)
effect-calm (Trap row) insn o cia outcome c e = cc
effect-calm (Storage row) insn o cia outcome c e =
    ap outcome_raises (sym e)
    ∙ ap (λ (b : Bool). outcome_raises (cond b refusal (Memory (access_of row insn o cia)))) (never-refused row.privilege insn o.msr c)
effect-calm Hint insn o cia outcome c e =
    ap outcome_raises (sym e)
effect-calm Call insn o cia outcome c e = cc
effect-calm (System row) insn o cia outcome c e =
    ap outcome_raises (sym e)
    ∙ ap (λ (b : Bool). outcome_raises (cond b refusal (system_effect row.what (places_of (System row)) insn o cia))) (never-refused row.privilege insn o.msr c)
    ∙ system-calm row.what (places_of (System row)) insn o cia

-- no instruction of a row that can't raise an interrupt by itself does
pub exec-calm : (insn : Insn) (operation : Operation) (o : Operands) (cia : ℕ) (outcome : Outcome) → slice_get operations insn.row ≡ Some operation → can_raise operation ≡ false → exec_of insn o cia ≡ Some outcome → outcome_raises outcome ≡ None
unfolding exec_of
exec-calm insn operation o cia outcome at c e =
    let there : Some (effect_of operation insn o cia) ≡ Some outcome = ap (option_map (λ (known : Operation). effect_of known insn o cia)) (sym at) ∙ e in
    let is : effect_of operation insn o cia ≡ outcome = cc in
    effect-calm operation insn o cia outcome c is

-- words raise what the registers that they read make them raise
pub words-agree : (decoded : Decoded) (view other : Slot → ℕ) → Agree view other (words_reads decoded) → decoded_raises decoded view ≡ decoded_raises decoded other
words-agree (Is insn) view other agree = refl
words-agree (Unavailable facility) view other agree = refl
words-agree (Alignment ra rb disp) view other agree =
    let a = agree-front view other (alignment_sources ra rb).a (slots_in (alignment_sources ra rb).b ++ []) agree in
    let b = agree-front view other (alignment_sources ra rb).b [] a.1 in
    ap₂ (λ (x y : ℕ). Some (misaligned (wrapped_sum (wrapped_sum x y) (cast_unsigned w64 disp)))) a.0 b.0
words-agree Illegal view other agree = refl

-- an access that raises nothing raises no alignment interrupt
calm-by : (early late : Bool) (op : MemOp) → first_raised (misaligned_if early op ∷ None ∷ misaligned_if late op ∷ []) ≡ None → (early || late) ≡ false
calm-by true late op e = cc
calm-by false true op e = cc
calm-by false false op e = refl

calm-access : (op : MemOp) (at : Stretches) → access_raises op (Ok at) ≡ None → raises_alignment op at ≡ false
calm-access op at e = calm-by (is_unaligned_exclusive op) (is_misplaced op at) op e

-- an outcome that raises nothing has an access that can be carried out, if it has one
pub end-calm : (outcome : Outcome) (placed : Option Placed) (msr : ℕ) → end_raises outcome placed msr ≡ None → OnPlaced (λ (op : MemOp) (at : Stretches). raises_alignment op at ≡ false) outcome placed
end-calm (Done targets next) placed msr e = tt
end-calm (Long op) placed msr e = tt
end-calm (Asked op) placed msr e = tt
end-calm (Trapped vector cause) placed msr e = tt
end-calm (Memory op) None msr e = tt
end-calm (Memory op) (Some (Err fault)) msr e = tt
end-calm (Memory op) (Some (Ok at)) msr e = calm-access op at e
