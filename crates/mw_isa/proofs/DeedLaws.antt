-- What an instruction's deed tells of RAM and of the table of translations behind it.
use Rattle.std.proofs.Common.{◌≡◌, ℕ, ◌+◌, ◌%◌, ◌^◌, ◌<◌, ◌≤◌, Bool, true, false, ◌&&◌, ◌||◌, cond, List, [], ◌∷◌, length, take, drop, replicate, Option, Some, None, Result, Ok, Err, option_and_then, refl, sym, ap, ap₂, ◌∙◌, arith, true≢false}
use Rattle.std.specs.Prelude.{nat_le, nat_lt}
use Rattle.std.specs.List.{list_any}
use Rattle.std.specs.Option.{option_map_or}
use Rattle.std.proofs.lemmas.Bool.{and_parts, eqb-true, le-leb, leb-true, lt-ltb}
use Rattle.std.proofs.lemmas.List.{length-drop, length-replicate, length-take-le}
use Rattle.mw_bus.specs.Memory.{byte_at, laid, ram_size}
use Rattle.mw_bus.proofs.StorageLemmas.{byte_at-laid_other, length-bytes_of}
use Rattle.mw_decode.specs.declared.insn.Insn.{Insn}
use Rattle.mw_isa.specs.declared.access.Deed.TheVariants.{Plain, Store, NewTable}
use Rattle.mw_isa.specs.declared.memory.MemOp.{MemOp}
use Rattle.mw_isa.specs.declared.memory.MemWhat.{MemWhat}
use Rattle.mw_isa.specs.declared.memory.MemWhat.TheVariants.{Load as Loads, Store as Stores, Conditional, Zero, Clean, Icbi as GivesUp}
use Rattle.mw_isa.specs.declared.outcome.Outcome.{Outcome}
use Rattle.mw_isa.specs.declared.outcome.Outcome.TheVariants.{Done, Long, Memory, System as Asked, Trap as Trapped}
use Rattle.mw_isa.specs.declared.pages.Page.{Page}
use Rattle.mw_isa.specs.declared.pages.Stretch.{Stretch}
use Rattle.mw_isa.specs.declared.pages.Stretches.{Stretches}
use Rattle.mw_isa.specs.declared.pages.StorageFault.{StorageFault}
use Rattle.mw_isa.specs.declared.raised.Raised.{Raised}
use Rattle.mw_isa.specs.declared.numbered.Numbered.{Numbered}
use Rattle.mw_isa.specs.declared.numbered.Numbered.TheVariants.{Xer, Lr, Ctr, Dsisr, Dar, Dec, Srr0, Srr1, Pidr, Sprg, TimeBase, TimeBaseUpper, TimeBaseHalf, Pvr, Hsprg, Hsrr0, Hsrr1, Prtbl, Tar, Pir}
use Rattle.mw_isa.specs.declared.numbered.SprRefusal.{SprRefusal}
use Rattle.mw_isa.specs.declared.numbered.Use.TheVariants.{Write}
use Rattle.mw_isa.specs.declared.outcome.Target.{Target}
use Rattle.mw_isa.specs.declared.regs.Regs.{Regs}
use Rattle.mw_isa.specs.declared.system.SysOp.{SysOp}
use Rattle.mw_isa.specs.declared.system.SysOp.TheVariants.{ReadSpr, WriteSpr, WriteMsr, Return, Tlbie, Sync as SyncBy, Isync}
use Rattle.mw_soc.specs.DeviceData.{DeviceData}
use Rattle.mw_isa.specs.Finish.{finished}
use Rattle.mw_isa.specs.Long.{result_of}
use Rattle.mw_isa.specs.Sprs.{held, is_problem, read_of, refusal_of, register_for, regs_with, result_unless, with_content, write_of}
use Rattle.mw_isa.specs.System.{SystemPart, held_or, is_table, regs_reading, system_deed, system_done}
use Rattle.mw_isa.specs.Take.{taken}
use Rattle.mw_isa.proofs.KeepLaws.{part-access, part-reading, part-targets}
use Rattle.mw_isa.specs.Fetch.{fetch_at, fetched}
use Rattle.mw_isa.specs.Pages.{IsPagewise, is_in_ram, is_ram, laid_by, laid_in, span_of, spans_of, stretches_of}
use Rattle.mw_isa.specs.Raises.{Placed}
use Rattle.mw_isa.specs.Slots.{get_slot, set_targets}
use Rattle.mw_isa.specs.State.{State}
use Rattle.mw_isa.specs.Statuses.{has_byte, is_new_table, stores_byte}
use Rattle.mw_isa.specs.Step.{UnderWay, after_of, deed_at, deed_of, outcome_of, placed_of, raises_of, state_behind, step, under_way, under_way_of}
use Rattle.mw_isa.specs.Storage.{IsPlaced, IsSized, OnMemory, accessed, deed_by, is_reserved, is_sized_by, pages_of, ram_behind, store_bytes, store_deed}
use Rattle.mw_isa.specs.Translate.{page_real}
use Rattle.mw_isa.specs.Words.{insn_of}
use Rattle.mw_isa.proofs.DisciplineLaws.{sized-outcome}
use Rattle.mw_isa.proofs.PageLaws.{placed-by}
use Rattle.mw_isa.proofs.WalkPageLaws.{walk-page}

-- a byte that a stretch of RAM hasn't is none of those that are laid there
laid-outside : (ram : List ℕ) (at : ℕ) (bytes : List ℕ) (byte : ℕ) → at + length bytes ≤ ram_size → (nat_le at byte && nat_lt byte (at + length bytes)) ≡ false → byte_at (laid ram at bytes) byte ≡ byte_at ram byte
laid-outside ram at bytes byte inside outside =
    let low : at < 2 ^ 60 = omega arith in
    byte_at-laid_other ram at bytes byte low (λ i below same.
    let is : at + i ≡ byte = omega arith in
    let from : at ≤ byte = omega arith in
    let to : byte < at + length bytes = omega arith in
    true≢false (sym (ap₂ (λ (x y : Bool). x && y) (le-leb at byte from) (lt-ltb byte (at + length bytes) to)) ∙ outside))

-- neither of two tests holds
neither : (a b : Bool) → (a || (b || false)) ≡ false → (a ≡ false) × (b ≡ false)
neither false false e = (refl, refl)
neither false true e = cc
neither true b e = cc

alone : (a : Bool) → (a || false) ≡ false → a ≡ false
alone false e = refl
alone true e = cc

-- bytes that are laid in stretches of RAM change no byte that these haven't
laid_by-outside : (ram : List ℕ) (first : Stretch) (second : Option Stretch) (bytes : List ℕ) (byte : ℕ) → length bytes ≡ first.len + option_map_or (λ (s : Stretch). s.len) second 0 → first.at + first.len ≤ ram_size → option_map_or is_ram second true ≡ true → list_any (has_byte byte) (span_of first ∷ option_map_or (λ (s : Stretch). span_of s ∷ []) second []) ≡ false → byte_at (laid_by ram first second bytes) byte ≡ byte_at ram byte
laid_by-outside ram first None bytes byte sized low other outside =
    let long : length bytes ≡ first.len = omega arith in
    laid-outside ram first.at bytes byte (omega arith) (ap (λ (n : ℕ). nat_le first.at byte && nat_lt byte (first.at + n)) long ∙ alone (has_byte byte (span_of first)) outside)
laid_by-outside ram first (Some second) bytes byte sized low other outside =
    let parts = neither (has_byte byte (span_of first)) (has_byte byte (span_of second)) outside in
    let high : second.at + second.len ≤ ram_size = leb-true (second.at + second.len) ram_size other in
    let front : length (take first.len bytes) ≡ first.len = length-take-le first.len bytes (omega arith) in
    let back : length (drop first.len bytes) ≡ second.len = length-drop first.len bytes ∙ omega arith in
    laid-outside (laid ram first.at (take first.len bytes)) second.at (drop first.len bytes) byte (omega arith) (ap (λ (n : ℕ). nat_le second.at byte && nat_lt byte (second.at + n)) back ∙ parts.1)
    ∙ laid-outside ram first.at (take first.len bytes) byte (omega arith) (ap (λ (n : ℕ). nat_le first.at byte && nat_lt byte (first.at + n)) front ∙ parts.0)

-- a store changes no byte that its deed doesn't store to
store-outside : (inside : Bool) (ram : List ℕ) (at : Stretches) (bytes : List ℕ) (byte : ℕ) → is_in_ram at ≡ inside → length bytes ≡ at.first.len + option_map_or (λ (s : Stretch). s.len) at.second 0 → stores_byte byte (cond inside (Store (record { items = spans_of at })) Plain) ≡ false → byte_at (cond inside (laid_in ram at bytes) ram) byte ≡ byte_at ram byte
store-outside true ram at bytes byte e sized outside =
    let both = and_parts (is_ram at.first) (option_map_or is_ram at.second true) e in
    laid_by-outside ram at.first at.second bytes byte sized (leb-true (at.first.at + at.first.len) ram_size both.0) both.1 outside
store-outside false ram at bytes byte e sized outside = refl

conditional-outside : (reserved : Bool) (ram : List ℕ) (at : Stretches) (bytes : List ℕ) (byte : ℕ) → length bytes ≡ at.first.len + option_map_or (λ (s : Stretch). s.len) at.second 0 → stores_byte byte (cond reserved (store_deed at) Plain) ≡ false → byte_at (cond (reserved && is_in_ram at) (laid_in ram at bytes) ram) byte ≡ byte_at ram byte
conditional-outside true ram at bytes byte sized outside = store-outside (is_in_ram at) ram at bytes byte refl sized outside
conditional-outside false ram at bytes byte sized outside = refl

-- an access changes no byte of RAM that its deed doesn't store to
access-outside : (what : MemWhat) (op : MemOp) (at : Stretches) (reserve : Option ℕ) (ram : List ℕ) (byte : ℕ) → is_sized_by what op.len ≡ true → IsPlaced op at → stores_byte byte (deed_by what at reserve) ≡ false → byte_at (ram_behind what op at (is_reserved at reserve) ram) byte ≡ byte_at ram byte
access-outside (Loads signed reversed reserves) op at reserve ram byte sized placed outside = refl
access-outside (Stores reversed) op at reserve ram byte sized placed outside =
    store-outside (is_in_ram at) ram at (store_bytes reversed op) byte refl (length-bytes_of reversed op.len (op.value % 256 ^ op.len) ∙ sym placed.size) outside
access-outside (Conditional reversed) op at reserve ram byte sized placed outside =
    conditional-outside (is_reserved at reserve) ram at (store_bytes reversed op) byte (length-bytes_of reversed op.len (op.value % 256 ^ op.len) ∙ sym placed.size) outside
access-outside Zero op at reserve ram byte sized placed outside =
    store-outside (is_in_ram at) ram at (replicate 64 0) byte refl (length-replicate {A = ℕ} 64 0 ∙ sym (eqb-true op.len 64 sized) ∙ sym placed.size) outside
access-outside Clean op at reserve ram byte sized placed outside = refl
access-outside GivesUp op at reserve ram byte sized placed outside = refl

accessed-outside : (op : MemOp) (at : Stretches) (state : State) (byte : ℕ) → IsSized op → IsPlaced op at → stores_byte byte (deed_by op.what at state.regs.reserve) ≡ false → byte_at (accessed op at state).ram byte ≡ byte_at state.ram byte
unfolding accessed
accessed-outside op at state byte sized placed outside = access-outside op.what op at state.regs.reserve state.ram byte sized placed outside

-- what an outcome leaves differs only in the bytes that its deed stores to
placed-outside : (real : Page → Result ℕ StorageFault) (insn : Insn) (op : MemOp) (placed : Placed) (at : ℕ) (state : State) (byte : ℕ) → IsPagewise real → IsSized op → stretches_of real (pages_of op) ≡ placed → stores_byte byte (deed_at (Some (Memory op)) (Some placed) state.regs.reserve) ≡ false → byte_at (state_behind (Some insn) (Some (Memory op)) (Some placed) at state).ram byte ≡ byte_at state.ram byte
placed-outside real insn op (Ok there) at state byte wise sized e outside = accessed-outside op there state byte sized (placed-by real op there wise e) outside
placed-outside real insn op (Err fault) at state byte wise sized e outside = refl

outcome-outside : (real : Page → Result ℕ StorageFault) (insn : Option Insn) (outcome : Option Outcome) (at : ℕ) (state : State) (byte : ℕ) → IsPagewise real → ((there : Outcome) → outcome ≡ Some there → OnMemory IsSized there) → stores_byte byte (deed_at outcome (option_and_then (placed_of real) outcome) state.regs.reserve) ≡ false → byte_at (state_behind insn outcome (option_and_then (placed_of real) outcome) at state).ram byte ≡ byte_at state.ram byte
outcome-outside real None outcome at state byte wise sized outside = refl
outcome-outside real (Some insn) None at state byte wise sized outside = refl
outcome-outside real (Some insn) (Some (Done targets next)) at state byte wise sized outside = refl
outcome-outside real (Some insn) (Some (Long op)) at state byte wise sized outside = refl
outcome-outside real (Some insn) (Some (Asked op)) at state byte wise sized outside = refl
outcome-outside real (Some insn) (Some (Trapped vector cause)) at state byte wise sized outside = refl
outcome-outside real (Some insn) (Some (Memory op)) at state byte wise sized outside =
    placed-outside real insn op (stretches_of real (pages_of op)) at state byte wise (sized (Memory op) refl) refl outside

after-outside : (trap : Option Raised) (it : UnderWay) (state : State) (byte : ℕ) → (stores_byte byte (deed_at it.outcome it.placed state.regs.reserve) ≡ false → byte_at (state_behind it.insn it.outcome it.placed it.cia state).ram byte ≡ byte_at state.ram byte) → stores_byte byte (deed_of trap it state.regs.reserve) ≡ false → byte_at (after_of trap it state).ram byte ≡ byte_at state.ram byte
after-outside (Some raised) it state byte calm outside = refl
after-outside None it state byte calm outside = calm outside

-- RAM behind an instruction differs at most in the bytes that its deed stores to
pub step-outside : (state : State) (byte : ℕ) → stores_byte byte (step state).deed ≡ false → byte_at (step state).after.ram byte ≡ byte_at state.ram byte
unfolding step under_way
step-outside state byte outside =
    let insn = option_and_then insn_of (fetched state) in
    let real = page_real state.ram state.regs in
    let it = under_way_of (fetch_at state.ram state.regs) (fetched state) real state.regs.cia state.regs in
    after-outside (raises_of it (get_slot state.regs) state.regs.msr) it state byte
    (outcome-outside real insn (outcome_of insn state.regs.cia state.regs) state.regs.cia state byte (walk-page state.ram state.regs) (λ (there : Outcome) e. sized-outcome insn state.regs.cia state.regs there e)) outside

-- registers by name aren't the table of translations
table-targets : (targets : List Target) (regs : Regs) → (set_targets targets regs).prtbl ≡ regs.prtbl
table-targets targets regs = ap (λ (part : SystemPart). part.prtbl) (part-targets targets regs)

table-reading : (to : ℕ) (read : Result (Option ℕ) SprRefusal) (regs : Regs) → (regs_reading to read regs).prtbl ≡ regs.prtbl
table-reading to read regs = ap (λ (part : SystemPart). part.prtbl) (part-reading to read regs)

-- a register that isn't the table leaves it where it is written
table-content : (register : Numbered) (value : ℕ) (regs : Regs) (devices : DeviceData) → is_new_table (cond (is_table (Some register)) NewTable Plain) ≡ false → (regs_with register value regs).prtbl ≡ regs.prtbl
table-content Xer value regs devices e = refl
table-content Lr value regs devices e = refl
table-content Ctr value regs devices e = refl
table-content Dsisr value regs devices e = refl
table-content Dar value regs devices e = refl
table-content Dec value regs devices e = refl
table-content Srr0 value regs devices e = refl
table-content Srr1 value regs devices e = refl
table-content Pidr value regs devices e = refl
table-content (Sprg n) value regs devices e = refl
table-content TimeBase value regs devices e = refl
table-content TimeBaseUpper value regs devices e = refl
table-content TimeBaseHalf value regs devices e = refl
table-content Pvr value regs devices e = refl
table-content (Hsprg n) value regs devices e = refl
table-content Hsrr0 value regs devices e = refl
table-content Hsrr1 value regs devices e = refl
table-content Prtbl value regs devices e = cc
table-content Tar value regs devices e = refl
table-content Pir value regs devices e = refl

table-written : (refusal : Option SprRefusal) (register : Option Numbered) (value : ℕ) (regs : Regs) (devices : DeviceData) → is_new_table (cond (is_table register) NewTable Plain) ≡ false → (held_or (result_unless refusal (with_content register value regs devices)) (held regs devices)).regs.prtbl ≡ regs.prtbl
table-written (Some refusal) register value regs devices e = refl
table-written None None value regs devices e = refl
table-written None (Some register) value regs devices e = table-content register value regs devices e

table-system : (op : SysOp) (state : State) → is_new_table (system_deed op) ≡ false → (system_done op state).regs.prtbl ≡ state.regs.prtbl
unfolding write_of
table-system (ReadSpr to spr) state e = table-reading to (read_of spr state.regs state.devices) state.regs
table-system (WriteSpr spr value) state e = table-written (refusal_of Write spr (is_problem state.regs)) (register_for Write spr) value state.regs state.devices e
table-system (WriteMsr value l) state e = refl
table-system (Return hypervisor) state e = refl
table-system (Tlbie scope) state e = refl
table-system (SyncBy l) state e = refl
table-system Isync state e = refl

table-access : (op : MemOp) (at : Stretches) (state : State) → (accessed op at state).regs.prtbl ≡ state.regs.prtbl
table-access op at state = ap (λ (part : SystemPart). part.prtbl) (part-access op at state)

-- what an outcome leaves has the table that was there, unless its deed takes another
table-outcome : (insn : Option Insn) (outcome : Option Outcome) (placed : Option Placed) (at : ℕ) (state : State) → is_new_table (deed_at outcome placed state.regs.reserve) ≡ false → (state_behind insn outcome placed at state).regs.prtbl ≡ state.regs.prtbl
table-outcome None outcome placed at state e = refl
table-outcome (Some insn) None placed at state e = refl
table-outcome (Some insn) (Some (Done targets next)) placed at state e = table-targets targets.items state.regs
table-outcome (Some insn) (Some (Long op)) placed at state e = table-targets (finished op (result_of op) state.regs.xer) state.regs
table-outcome (Some insn) (Some (Asked op)) placed at state e = table-system op state e
table-outcome (Some insn) (Some (Trapped vector cause)) placed at state e = refl
table-outcome (Some insn) (Some (Memory op)) None at state e = refl
table-outcome (Some insn) (Some (Memory op)) (Some (Err fault)) at state e = refl
table-outcome (Some insn) (Some (Memory op)) (Some (Ok there)) at state e = table-access op there state

table-after : (trap : Option Raised) (it : UnderWay) (state : State) → is_new_table (deed_of trap it state.regs.reserve) ≡ false → (after_of trap it state).regs.prtbl ≡ state.regs.prtbl
unfolding taken
table-after (Some raised) it state e = refl
table-after None it state e = table-outcome it.insn it.outcome it.placed it.cia state e

-- PRTBL behind an instruction is what it was, unless its deed takes another table
pub step-table : (state : State) → is_new_table (step state).deed ≡ false → (step state).after.regs.prtbl ≡ state.regs.prtbl
unfolding step under_way
step-table state e =
    let it = under_way_of (fetch_at state.ram state.regs) (fetched state) (page_real state.ram state.regs) state.regs.cia state.regs in
    table-after (raises_of it (get_slot state.regs) state.regs.msr) it state e
