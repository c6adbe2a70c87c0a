-- What holds of the update discipline: the status of each block behind an event, which events make a block clean, what an
-- offence depends on, and where the deed of an instruction lies.
use Rattle.std.proofs.Common.{◌≡◌, ◌≢◌, ℕ, zero, suc, ◌+◌, ◌*◌, ◌/◌, ◌%◌, ◌<◌, ◌≤◌, ◌==◌, All, Bool, true, false, not, ◌||◌, cond, nat_lt, List, [], ◌∷◌, ◌++◌, length, map, set, slice_get, Option, Some, None, Result, Ok, Err, is_some, IfSome, option_map, refl, sym, ap, ◌∙◌, subst, inl, inr, arith}
use Rattle.std.specs.Prelude.{option_and_then}
use Rattle.std.specs.List.{Contains, list_any}
use Rattle.std.specs.Option.{option_map_or}
use Rattle.std.proofs.lemmas.Bool.{and_cases, and_from, and_parts, cases_eq, cases_lt, eqb-false, eqb-true, le-leb, leb-false, leb-true, lt-ltb, ltb-false, ltb-true, not-true, or_cases, or_left, or_parts, or_right, true≢false}
use Rattle.std.proofs.lemmas.List.{get_or-set_other, get_or-set_same, length-map, length-replicate, length-set}
use Rattle.std.proofs.lemmas.List.Elements.{All-cons, All-head, All-nil, All-tail}
use Rattle.mw_bus.specs.Memory.{ram_size}
use Rattle.mw_decode.specs.declared.insn.Insn.{Insn}
use Rattle.mw_isa.specs.declared.access.Deed.{Deed}
use Rattle.mw_isa.specs.declared.access.Deed.TheVariants.{Plain, Store, Icbi, Tlbie, Sync, NewTable}
use Rattle.mw_isa.specs.declared.access.Kind.TheVariants.{Fetch}
use Rattle.mw_isa.specs.declared.access.Span.{Span}
use Rattle.mw_isa.specs.declared.memory.MemOp.{MemOp}
use Rattle.mw_isa.specs.declared.memory.MemWhat.{MemWhat}
use Rattle.mw_isa.specs.declared.memory.MemWhat.TheVariants.{Load as Loads, Store as Stores, Conditional, Zero, Clean, Icbi as GivesUp}
use Rattle.mw_isa.specs.declared.numbered.Use.TheVariants.{Write}
use Rattle.mw_isa.specs.declared.offence.BlockStatus.{BlockStatus}
use Rattle.mw_isa.specs.declared.offence.BlockStatus.TheVariants.{Changed, Invalidated}
use Rattle.mw_isa.specs.declared.offence.Why.{Why}
use Rattle.mw_isa.specs.declared.operation.Operation.{Operation}
use Rattle.mw_isa.specs.declared.operation.Operation.TheVariants.{Alu, Product, Quotient, Branch, Field, Fields, Pick, Trap as TrapRow, Storage, Hint, Call, System}
use Rattle.mw_isa.specs.declared.operation.SystemWhat.{SystemWhat}
use Rattle.mw_isa.specs.declared.operation.SystemWhat.TheVariants.{Return, Isync as IsyncRow, Sync as SyncRow, Order, ReadMsr, WriteMsr, Tlbie as TlbieRow, ReadSpr, WriteSpr, Random}
use Rattle.mw_isa.specs.declared.outcome.Operands.{Operands}
use Rattle.mw_isa.specs.declared.outcome.Outcome.{Outcome}
use Rattle.mw_isa.specs.declared.outcome.Outcome.TheVariants.{Done, Long, Memory, System as Asked, Trap as Trapped}
use Rattle.mw_isa.specs.declared.packet.Packet.{Packet}
use Rattle.mw_isa.specs.declared.pages.Page.{Page}
use Rattle.mw_isa.specs.declared.pages.StorageFault.{StorageFault}
use Rattle.mw_isa.specs.declared.pages.Stretch.{Stretch}
use Rattle.mw_isa.specs.declared.pages.Stretches.{Stretches}
use Rattle.mw_isa.specs.declared.place.Places.{Places}
use Rattle.mw_isa.specs.declared.raised.Raised.{Raised}
use Rattle.mw_isa.specs.declared.regs.Regs.{Regs}
use Rattle.mw_isa.specs.declared.system.SysOp.{SysOp}
use Rattle.mw_isa.specs.declared.system.SysOp.TheVariants.{ReadSpr as ReadBy, WriteSpr as WriteBy, WriteMsr as MsrWritten, Return as Returning, Tlbie as GivingUp, Sync as Ordering, Isync as FetchingAnew}
use Rattle.mw_isa.specs.declared.vector.Vector.TheVariants.{Program}
use Rattle.mw_isa.specs.Discipline.{IsInRam, Kept, access_by, block_count, blocks_in, changed_by, changed_from, clean_blocks, cleaned, deed_kept, fetch_touch, first_by, first_of, given_up, invalidated_at, nothing_kept, offends, status_in, status_of, synced, used_kept, why_by}
use Rattle.mw_isa.specs.Execute.{access_of, behind_insn, branch_to, effect_of, exec_of, is_refused, refusal, system_effect, traps}
use Rattle.mw_isa.specs.Fetch.{fetch_at, fetched, word_page}
use Rattle.mw_isa.specs.Msr.{bit_at, trap_place}
use Rattle.mw_isa.specs.Operations.{operations}
use Rattle.mw_isa.specs.Pages.{IsPagewise, MeetAtPage, is_in_page, is_in_ram, is_ram, page_size, span_of, spans_of, stretches_of}
use Rattle.mw_isa.specs.Places.{places_of}
use Rattle.mw_isa.specs.Raises.{Placed}
use Rattle.mw_isa.specs.Reads.{operands_of}
use Rattle.mw_isa.specs.Slots.{get_slot}
use Rattle.mw_isa.specs.Sprs.{register_for}
use Rattle.mw_isa.specs.State.{State}
use Rattle.mw_isa.specs.Statuses.{HasBlocks, HasBytes, Watched, behind_event, behind_events, gives_up, is_icbi_of, is_store_to, is_sync, meets, status_behind, status_by, stores_to}
use Rattle.mw_isa.specs.Step.{UnderWay, deed_at, deed_of, outcome_of, placed_of, raises_of, step, under_way_of}
use Rattle.mw_isa.specs.Storage.{IsPlaced, IsSized, OnMemory, block_of, deed_by, first_byte, is_reserved, is_sized_by, pages_of, store_deed}
use Rattle.mw_isa.specs.System.{is_table, system_deed}
use Rattle.mw_isa.specs.Translate.{page_real, translate_of}
use Rattle.mw_isa.specs.Words.{insn_of}
use Rattle.mw_isa.proofs.PageLaws.{placed-by}
use Rattle.mw_isa.proofs.StorageLaws.{storage-sized}
use Rattle.mw_isa.proofs.WalkPageLaws.{walk-page}

-- ---- how many blocks there are

length-clean : (n : ℕ) → length (clean_blocks n) ≡ n
unfolding clean_blocks
length-clean n = length-replicate n None

length-changed_from : (n first : ℕ) (blocks : List (Option BlockStatus)) → length (changed_from n first blocks) ≡ length blocks
length-changed_from zero first blocks = refl
length-changed_from (suc n) first blocks =
    length-changed_from n (first + 1) (set blocks first (Some Changed)) ∙ length-set blocks first (Some Changed)

length-changed_by : (spans : List Span) (blocks : List (Option BlockStatus)) → length (changed_by spans blocks) ≡ length blocks
length-changed_by [] blocks = refl
length-changed_by (span ∷ spans) blocks =
    length-changed_by spans (changed_from (blocks_in span) (span.at / 64) blocks)
    ∙ length-changed_from (blocks_in span) (span.at / 64) blocks

-- at the start the blocks of all of RAM are kept
pub start-blocks : HasBlocks nothing_kept
start-blocks = length-clean block_count

-- a deed leaves all blocks
deed-blocks : (deed : Deed) (kept : Kept) → HasBlocks kept → HasBlocks (deed_kept deed kept)
deed-blocks Plain kept all = all
deed-blocks (Store spans) kept all = length-changed_by spans.items kept.blocks ∙ all
deed-blocks (Icbi block) kept all = length-set kept.blocks block (given_up (status_in kept.blocks block)) ∙ all
deed-blocks (Tlbie scope) kept all = all
deed-blocks Sync kept all = all
deed-blocks NewTable kept all = all

synced-blocks : (kept : Kept) → HasBlocks kept → HasBlocks (synced kept)
synced-blocks kept all = length-map kept.blocks cleaned ∙ all

blocks-if : (b : Bool) (kept : Kept) → HasBlocks kept → HasBlocks (cond b (synced kept) kept)
blocks-if true kept all = synced-blocks kept all
blocks-if false kept all = all

-- an event leaves all blocks
pub event-blocks : (kept : Kept) (event : Option Watched) → HasBlocks kept → HasBlocks (behind_event kept event)
event-blocks kept None all = synced-blocks kept all
event-blocks kept (Some it) all =
    let used = used_kept it.ram it.regs it.packet kept in
    blocks-if (is_sync (Some it)) (deed_kept it.packet.deed used) (deed-blocks it.packet.deed used all)

-- ---- the status of a block

-- a block that isn't among those that are changed
changed-outside : (n first block : ℕ) (blocks : List (Option BlockStatus)) → (first ≤ block → first + n ≤ block) → status_in (changed_from n first blocks) block ≡ status_in blocks block
changed-outside zero first block blocks apart = refl
changed-outside (suc n) first block blocks apart =
    let other : block ≢ first = λ e. omega arith in
    let rest : first + 1 ≤ block → first + 1 + n ≤ block = λ low. omega arith in
    changed-outside n (first + 1) block (set blocks first (Some Changed)) rest
    ∙ get_or-set_other blocks first block (Some Changed) None other

-- a block that is
changed-inside : (n first block : ℕ) (blocks : List (Option BlockStatus)) → block < length blocks → first ≤ block → block < first + n → status_in (changed_from n first blocks) block ≡ Some Changed
changed-inside zero first block blocks below low high = absurd (omega arith)
changed-inside (suc n) first block blocks below low high = elim (cases_eq block first) [
  | inl same ↦
      let rest : first + 1 ≤ block → first + 1 + n ≤ block = λ more. omega arith in
      changed-outside n (first + 1) block (set blocks first (Some Changed)) rest
      ∙ ap (λ (k : ℕ). status_in (set blocks k (Some Changed)) block) (sym same)
      ∙ get_or-set_same blocks block (Some Changed) None below
  | inr apart ↦
      let there : block < length (set blocks first (Some Changed)) = omega (arith, length-set blocks first (Some Changed)) in
      let past : first + 1 ≤ block = omega arith in
      let within : block < first + 1 + n = omega arith in
      changed-inside n (first + 1) block (set blocks first (Some Changed)) there past within
]

-- a block behind a stretch that is stored to, by whether the two meet
span-by : (b : Bool) (span : Span) (block : ℕ) (blocks : List (Option BlockStatus)) → block < length blocks → meets block span ≡ b → status_in (changed_from (blocks_in span) (span.at / 64) blocks) block ≡ cond b (Some Changed) (status_in blocks block)
span-by true span block blocks below e =
    let both = and_parts (nat_lt (64 * block) (span.at + span.len)) (nat_lt span.at (64 * block + 64)) e in
    let before : 64 * block < span.at + span.len = ltb-true _ _ both.0 in
    let behind : span.at < 64 * block + 64 = ltb-true _ _ both.1 in
    let low : span.at / 64 ≤ block = omega arith in
    let high : block < span.at / 64 + blocks_in span = omega arith in
    changed-inside (blocks_in span) (span.at / 64) block blocks below low high
span-by false span block blocks below e =
    let apart : span.at / 64 ≤ block → span.at / 64 + blocks_in span ≤ block = λ low. elim (and_cases (nat_lt (64 * block) (span.at + span.len)) (nat_lt span.at (64 * block + 64)) e) [
      | inl ends ↦
          let past : span.at + span.len ≤ 64 * block = ltb-false _ _ ends in
          omega arith
      | inr begins ↦
          let far : 64 * block + 64 ≤ span.at = ltb-false _ _ begins in
          absurd (omega arith)
    ] in
    changed-outside (blocks_in span) (span.at / 64) block blocks apart

-- one choice behind another
either : (first second : Bool) (status : Option BlockStatus) → cond second (Some Changed) (cond first (Some Changed) status) ≡ cond (first || second) (Some Changed) status
either true true status = refl
either true false status = refl
either false second status = refl

-- a block behind stretches that are stored to
spans-status : (spans : List Span) (block : ℕ) (blocks : List (Option BlockStatus)) → block < length blocks → status_in (changed_by spans blocks) block ≡ cond (list_any (meets block) spans) (Some Changed) (status_in blocks block)
spans-status [] block blocks below = refl
spans-status (span ∷ spans) block blocks below =
    let there : block < length (changed_from (blocks_in span) (span.at / 64) blocks) = omega (arith, length-changed_from (blocks_in span) (span.at / 64) blocks) in
    spans-status spans block (changed_from (blocks_in span) (span.at / 64) blocks) there
    ∙ ap (λ (status : Option BlockStatus). cond (list_any (meets block) spans) (Some Changed) status) (span-by (meets block span) span block blocks below refl)
    ∙ either (meets block span) (list_any (meets block) spans) (status_in blocks block)

-- a block behind one of which the copy is given up
icbi-by : (b : Bool) (number block : ℕ) (blocks : List (Option BlockStatus)) → block < length blocks → (number == block) ≡ b → status_in (invalidated_at number blocks) block ≡ cond b (given_up (status_in blocks block)) (status_in blocks block)
icbi-by true number block blocks below e =
    let same : number ≡ block = eqb-true number block e in
    ap (λ (k : ℕ). status_in (set blocks k (given_up (status_in blocks k))) block) same
    ∙ get_or-set_same blocks block (given_up (status_in blocks block)) None below
icbi-by false number block blocks below e =
    get_or-set_other blocks number block (given_up (status_in blocks number)) None (λ same. eqb-false number block e (sym same))

-- a block behind a deed has the status that the deed gives it
pub status-deed : (deed : Deed) (kept : Kept) (block : ℕ) → HasBlocks kept → block < block_count → status_of (deed_kept deed kept) block ≡ cond (stores_to block deed) (Some Changed) (cond (gives_up block deed) (given_up (status_of kept block)) (status_of kept block))
status-deed Plain kept block all below = refl
status-deed (Store spans) kept block all below = spans-status spans.items block kept.blocks (omega arith)
status-deed (Icbi number) kept block all below = icbi-by (number == block) number block kept.blocks (omega arith) refl
status-deed (Tlbie scope) kept block all below = refl
status-deed Sync kept block all below = refl
status-deed NewTable kept block all below = refl

cleaned-status : (blocks : List (Option BlockStatus)) (block : ℕ) → status_in (map cleaned blocks) block ≡ cleaned (status_in blocks block)
cleaned-status [] block = refl
cleaned-status (first ∷ blocks) zero = refl
cleaned-status (first ∷ blocks) (suc block) = cleaned-status blocks block

-- a block behind a synchronizing event: an invalidated one is clean, a changed one stays changed
pub status-synced : (kept : Kept) (block : ℕ) → status_of (synced kept) block ≡ cleaned (status_of kept block)
status-synced kept block = cleaned-status kept.blocks block

behind-by : (b : Bool) (kept : Kept) (block : ℕ) (status : Option BlockStatus) → status_of kept block ≡ status → status_of (cond b (synced kept) kept) block ≡ cond b (cleaned status) status
behind-by true kept block status e = status-synced kept block ∙ ap cleaned e
behind-by false kept block status e = e

-- a block behind an event has the status that the event gives it
pub status-event : (kept : Kept) (event : Option Watched) (block : ℕ) → HasBlocks kept → block < block_count → status_of (behind_event kept event) block ≡ status_behind block event (status_of kept block)
status-event kept None block all below = status-synced kept block
status-event kept (Some it) block all below =
    let used = used_kept it.ram it.regs it.packet kept in
    behind-by (is_sync (Some it)) (deed_kept it.packet.deed used) block (status_by block (Some it) (status_of kept block)) (status-deed it.packet.deed used block all below)

-- ---- what a stretch meets

-- a stretch meets the block of each of its bytes
pub byte-meets : (span : Span) (byte : ℕ) → span.at ≤ byte → byte < span.at + span.len → meets (byte / 64) span ≡ true
byte-meets span byte low high =
    and_from (nat_lt (64 * (byte / 64)) (span.at + span.len)) (nat_lt span.at (64 * (byte / 64) + 64)) (lt-ltb _ _ (omega arith)) (lt-ltb _ _ (omega arith))

-- and each block that a stretch of some bytes meets has one of them
pub meets-byte : (span : Span) (block : ℕ) → 0 < span.len → meets block span ≡ true → (byte : ℕ) × (span.at ≤ byte) × (byte < span.at + span.len) × (byte / 64 ≡ block)
meets-byte span block some e =
    let both = and_parts (nat_lt (64 * block) (span.at + span.len)) (nat_lt span.at (64 * block + 64)) e in
    let before : 64 * block < span.at + span.len = ltb-true _ _ both.0 in
    let behind : span.at < 64 * block + 64 = ltb-true _ _ both.1 in
    elim (cases_lt span.at (64 * block)) [
      | inl low ↦ (64 * block, omega arith, before, omega arith)
      | inr high ↦ (span.at, omega arith, omega arith, omega arith)
    ]

-- stretches meet the block of each byte of one of them
pub byte-stores : (spans : List Span) (span : Span) (byte : ℕ) → Contains spans span → span.at ≤ byte → byte < span.at + span.len → list_any (meets (byte / 64)) spans ≡ true
byte-stores [] span byte has low high = absurd (omega (arith, has.1))
byte-stores (first ∷ spans) span byte (zero, within, is) low high =
    or_left (meets (byte / 64) first) (list_any (meets (byte / 64)) spans) (ap (meets (byte / 64)) is ∙ byte-meets span byte low high)
byte-stores (first ∷ spans) span byte (suc k, within, is) low high =
    or_right (meets (byte / 64) first) (list_any (meets (byte / 64)) spans) (byte-stores spans span byte (k, omega arith, is) low high)

-- and where each of them has a byte, no other block
pub stores-byte : (spans : List Span) (block : ℕ) → All (λ span. 0 < span.len) spans → list_any (meets block) spans ≡ true → (span : Span) × Contains spans span × (byte : ℕ) × (span.at ≤ byte) × (byte < span.at + span.len) × (byte / 64 ≡ block)
stores-byte [] block some e = absurd (true≢false (sym e))
stores-byte (first ∷ spans) block some e = elim (or_cases (meets block first) (list_any (meets block) spans) e) [
  | inl here ↦
      let found = meets-byte first block (All-head (λ (span : Span). 0 < span.len) first spans some) here in
      (first, (0, omega arith, refl), found.0, found.1, found.2, found.3)
  | inr there ↦
      let found = stores-byte spans block (All-tail (λ (span : Span). 0 < span.len) first spans some) there in
      (found.0, (suc found.1.0, omega arith, found.1.2), found.2, found.3, found.4, found.5)
]

-- ---- what marks a block, and what cleans it

-- the status of a block behind events, by that before them
past : ℕ → List (Option Watched) → Option BlockStatus → Option BlockStatus
past block [] status = status
past block (event ∷ events) status = past block events (status_behind block event status)

-- events leave all blocks
pub events-blocks : (events : List (Option Watched)) (kept : Kept) → HasBlocks kept → HasBlocks (behind_events kept events)
events-blocks [] kept all = all
events-blocks (event ∷ events) kept all = events-blocks events (behind_event kept event) (event-blocks kept event all)

status-events : (events : List (Option Watched)) (kept : Kept) (block : ℕ) → HasBlocks kept → block < block_count → status_of (behind_events kept events) block ≡ past block events (status_of kept block)
unfolding past
status-events [] kept block all below = refl
status-events (event ∷ events) kept block all below =
    status-events events (behind_event kept event) block (event-blocks kept event all) below
    ∙ ap (past block events) (status-event kept event block all below)

past-append : (events others : List (Option Watched)) (block : ℕ) (status : Option BlockStatus) → past block (events ++ others) status ≡ past block others (past block events status)
unfolding past
past-append [] others block status = refl
past-append (event ∷ events) others block status = past-append events others block (status_behind block event status)

-- a status by what an event does
status_of_parts : Bool → Bool → Bool → Option BlockStatus → Option BlockStatus
status_of_parts store icbi sync status = cond sync (cleaned (cond store (Some Changed) (cond icbi (given_up status) status))) (cond store (Some Changed) (cond icbi (given_up status) status))

-- a block is changed
is_changed : Option BlockStatus → Bool
is_changed (Some Changed) = true
is_changed (Some Invalidated) = false
is_changed None = false

-- an event that stores to a block marks it
store-part : (store icbi sync : Bool) (status : Option BlockStatus) → store ≡ true → status_of_parts store icbi sync status ≡ Some Changed
unfolding status_of_parts
store-part true icbi true status e = refl
store-part true icbi false status e = refl
store-part false icbi sync status e = cc

-- one that doesn't give up a changed block's copy leaves it changed
changed-part : (store icbi sync : Bool) → icbi ≡ false → status_of_parts store icbi sync (Some Changed) ≡ Some Changed
unfolding status_of_parts
changed-part true false true e = refl
changed-part true false false e = refl
changed-part false false true e = refl
changed-part false false false e = refl
changed-part store true sync e = cc

-- one that doesn't synchronize cleans no block
stale-part : (store icbi sync : Bool) (status : Option BlockStatus) → sync ≡ false → is_some status ≡ true → is_some (status_of_parts store icbi sync status) ≡ true
unfolding status_of_parts
stale-part true icbi false status e stale = refl
stale-part false true false (Some Changed) e stale = refl
stale-part false true false (Some Invalidated) e stale = refl
stale-part false false false status e stale = stale
stale-part store icbi true status e stale = cc
stale-part store icbi sync None e stale = cc

-- one that gives up a block's copy leaves it unchanged, or invalidated
icbi-part : (store icbi sync : Bool) (status : Option BlockStatus) → store ≡ false → icbi ≡ true → is_changed (status_of_parts store icbi sync status) ≡ false
unfolding status_of_parts is_changed
icbi-part false true true None e gives = refl
icbi-part false true true (Some Changed) e gives = refl
icbi-part false true true (Some Invalidated) e gives = refl
icbi-part false true false None e gives = refl
icbi-part false true false (Some Changed) e gives = refl
icbi-part false true false (Some Invalidated) e gives = refl
icbi-part true icbi sync status e gives = cc
icbi-part store false sync status e gives = cc

-- and one that doesn't store to it leaves it so
calm-part : (store icbi sync : Bool) (status : Option BlockStatus) → store ≡ false → is_changed status ≡ false → is_changed (status_of_parts store icbi sync status) ≡ false
unfolding status_of_parts is_changed
calm-part false true true None e calm = refl
calm-part false true true (Some Invalidated) e calm = refl
calm-part false true false None e calm = refl
calm-part false true false (Some Invalidated) e calm = refl
calm-part false false true None e calm = refl
calm-part false false true (Some Invalidated) e calm = refl
calm-part false false false status e calm = calm
calm-part true icbi sync status e calm = cc
calm-part store icbi sync (Some Changed) e calm = cc

-- then one that synchronizes cleans it
clean-part : (store icbi sync : Bool) (status : Option BlockStatus) → store ≡ false → sync ≡ true → is_changed status ≡ false → status_of_parts store icbi sync status ≡ None
unfolding status_of_parts is_changed
clean-part false true true None e syncs calm = refl
clean-part false true true (Some Invalidated) e syncs calm = refl
clean-part false false true None e syncs calm = refl
clean-part false false true (Some Invalidated) e syncs calm = refl
clean-part true icbi sync status e syncs calm = cc
clean-part store icbi false status e syncs calm = cc
clean-part store icbi sync (Some Changed) e syncs calm = cc

-- the same behind events
changed-past : (events : List (Option Watched)) (block : ℕ) (status : Option BlockStatus) → list_any (is_icbi_of block) events ≡ false → status ≡ Some Changed → past block events status ≡ Some Changed
unfolding past status_of_parts
changed-past [] block status none e = e
changed-past (event ∷ events) block status none e =
    let parts = or_parts (is_icbi_of block event) (list_any (is_icbi_of block) events) none in
    changed-past events block (status_behind block event status) parts.1
    (ap (status_behind block event) e ∙ changed-part (is_store_to block event) (is_icbi_of block event) (is_sync event) parts.0)

stale-past : (events : List (Option Watched)) (block : ℕ) (status : Option BlockStatus) → list_any is_sync events ≡ false → is_some status ≡ true → is_some (past block events status) ≡ true
unfolding past status_of_parts
stale-past [] block status none stale = stale
stale-past (event ∷ events) block status none stale =
    let parts = or_parts (is_sync event) (list_any is_sync events) none in
    stale-past events block (status_behind block event status) parts.1 (stale-part (is_store_to block event) (is_icbi_of block event) (is_sync event) status parts.0 stale)

calm-past : (events : List (Option Watched)) (block : ℕ) (status : Option BlockStatus) → list_any (is_store_to block) events ≡ false → is_changed status ≡ false → is_changed (past block events status) ≡ false
unfolding past status_of_parts
calm-past [] block status none calm = calm
calm-past (event ∷ events) block status none calm =
    let parts = or_parts (is_store_to block event) (list_any (is_store_to block) events) none in
    calm-past events block (status_behind block event status) parts.1 (calm-part (is_store_to block event) (is_icbi_of block event) (is_sync event) status parts.0 calm)

-- an event that gives up a copy doesn't store
icbi-deed : (deed : Deed) (block : ℕ) → gives_up block deed ≡ true → stores_to block deed ≡ false
icbi-deed Plain block e = refl
icbi-deed (Store spans) block e = cc
icbi-deed (Icbi number) block e = refl
icbi-deed (Tlbie scope) block e = refl
icbi-deed Sync block e = refl
icbi-deed NewTable block e = refl

icbi-stores : (event : Option Watched) (block : ℕ) → is_icbi_of block event ≡ true → is_store_to block event ≡ false
icbi-stores None block e = refl
icbi-stores (Some it) block e = icbi-deed it.packet.deed block e

-- a block is changed behind an event that stores to it
pub store-marks : (kept : Kept) (store : Option Watched) (block : ℕ) → HasBlocks kept → block < block_count → is_store_to block store ≡ true → status_of (behind_event kept store) block ≡ Some Changed
unfolding status_of_parts
store-marks kept store block all below e =
    status-event kept store block all below
    ∙ store-part (is_store_to block store) (is_icbi_of block store) (is_sync store) (status_of kept block) e

-- behind an icbi of a block and a synchronizing event, with no store to the block from the one to the other, the block is
-- clean, whatever was done to it before
pub icbi-cleans : (kept : Kept) (before between : List (Option Watched)) (icbi sync : Option Watched) (block : ℕ) → HasBlocks kept → block < block_count → is_icbi_of block icbi ≡ true → list_any (is_store_to block) between ≡ false → is_sync sync ≡ true → is_store_to block sync ≡ false → status_of (behind_events kept (before ++ icbi ∷ between ++ sync ∷ [])) block ≡ None
unfolding past status_of_parts
icbi-cleans kept before between icbi sync block all below gives apart syncs calm =
    let status = past block before (status_of kept block) in
    let given : is_changed (status_behind block icbi status) ≡ false = icbi-part (is_store_to block icbi) (is_icbi_of block icbi) (is_sync icbi) status (icbi-stores icbi block gives) gives in
    let still : is_changed (past block between (status_behind block icbi status)) ≡ false = calm-past between block (status_behind block icbi status) apart given in
    status-events (before ++ icbi ∷ between ++ sync ∷ []) kept block all below
    ∙ past-append (before ++ icbi ∷ between) (sync ∷ []) block (status_of kept block)
    ∙ ap (status_behind block sync) (past-append before (icbi ∷ between) block (status_of kept block))
    ∙ clean-part (is_store_to block sync) (is_icbi_of block sync) (is_sync sync) (past block between (status_behind block icbi status)) calm syncs still

-- behind a store to a block, and no icbi of it, the block is changed
pub stale-without_icbi : (kept : Kept) (store : Option Watched) (behind : List (Option Watched)) (block : ℕ) → HasBlocks kept → block < block_count → is_store_to block store ≡ true → list_any (is_icbi_of block) behind ≡ false → status_of (behind_events kept (store ∷ behind)) block ≡ Some Changed
stale-without_icbi kept store behind block all below stores none =
    status-events behind (behind_event kept store) block (event-blocks kept store all) below
    ∙ changed-past behind block (status_of (behind_event kept store) block) none (store-marks kept store block all below stores)

-- behind a store to a block, and no synchronizing event, the block isn't clean
pub stale-without_sync : (kept : Kept) (store : Option Watched) (behind : List (Option Watched)) (block : ℕ) → HasBlocks kept → block < block_count → is_store_to block store ≡ true → list_any is_sync behind ≡ false → is_some (status_of (behind_events kept (store ∷ behind)) block) ≡ true
stale-without_sync kept store behind block all below stores none =
    ap is_some (status-events behind (behind_event kept store) block (event-blocks kept store all) below)
    ∙ stale-past behind block (status_of (behind_event kept store) block) none (ap is_some (store-marks kept store block all below stores))

-- ---- what an offence depends on

-- an instruction whose fetch breaks the discipline has it as its first access that does
pub offence-fetch : (kept : Kept) (ram : List ℕ) (regs : Regs) (packet : Packet) (why : Why) → why_by kept regs (fetch_touch packet.cia) (translate_of ram regs Fetch packet.cia) ≡ Some why → offends kept ram regs packet ≡ Some (access_by (fetch_touch packet.cia) why)
offence-fetch kept ram regs packet why e =
    ap (λ (breaks : Option Why). first_by (option_map (access_by (fetch_touch packet.cia)) breaks) (translate_of ram regs Fetch packet.cia) (first_of kept ram regs packet.touches.items)) e

-- two instructions at one address of which the fetch of one breaks the discipline have one offence
pub offence-same : (kept : Kept) (ram : List ℕ) (regs : Regs) (packet other : Packet) (why : Why) → other.cia ≡ packet.cia → why_by kept regs (fetch_touch packet.cia) (translate_of ram regs Fetch packet.cia) ≡ Some why → offends kept ram regs other ≡ offends kept ram regs packet
offence-same kept ram regs packet other why same e =
    offence-fetch kept ram regs other why (ap (λ (at : ℕ). why_by kept regs (fetch_touch at) (translate_of ram regs Fetch at)) same ∙ e)
    ∙ ap (λ (at : ℕ). Some (access_by (fetch_touch at) why)) same
    ∙ sym (offence-fetch kept ram regs packet why e)

-- ---- where the deed of an instruction lies

-- a deed lies in RAM, and each stretch that it stores to has a byte
abbrev Lies : Deed → Type 0
Lies deed = IsInRam deed × HasBytes deed

abbrev InRam : Span → Type 0
InRam span = span.at + span.len ≤ ram_size

abbrev HasByte : Span → Type 0
HasByte span = 0 < span.len

-- what is said of a first stretch, and of the second if there is one
both-are : (P : Span → Type 0) (first : Span) (second : Option Stretch) → P first → IfSome second (λ stretch. P (span_of stretch)) → All P (first ∷ option_map_or (λ (stretch : Stretch). span_of stretch ∷ []) second [])
both-are P first None one other = All-cons P first [] one (All-nil P)
both-are P first (Some second) one other = All-cons P first (span_of second ∷ []) one (All-cons P (span_of second) [] other (All-nil P))

second-in : (second : Option Stretch) → option_map_or is_ram second true ≡ true → IfSome second (λ stretch. InRam (span_of stretch))
second-in None e = tt
second-in (Some second) e = leb-true (second.at + second.len) ram_size e

-- an access of one of its lengths has a byte
sized-some : (what : MemWhat) (len : ℕ) → is_sized_by what len ≡ true → 0 < len
sized-some (Loads signed reversed reserves) zero e = cc
sized-some (Stores reversed) zero e = cc
sized-some (Conditional reversed) zero e = cc
sized-some Zero zero e = cc
sized-some Clean zero e = cc
sized-some GivesUp zero e = cc
sized-some what (suc len) e = omega arith

-- so its first stretch has one, and so has the second
first-some : (first : Stretch) (second : Option Stretch) (len : ℕ) → 0 < len → first.len + option_map_or (λ (stretch : Stretch). stretch.len) second 0 ≡ len → IfSome second (MeetAtPage first) → 0 < first.len
first-some first None len some whole meet = omega arith
first-some first (Some second) len some whole meet =
    let ends : first.at % page_size + first.len ≡ page_size = meet.0 in
    omega arith

second-some : (first : Stretch) (second : Option Stretch) (start len : ℕ) → first.at % page_size ≡ start % page_size → first.len + option_map_or (λ (stretch : Stretch). stretch.len) second 0 ≡ len → is_some second ≡ not (is_in_page start len) → IfSome second (MeetAtPage first) → IfSome second (λ stretch. 0 < stretch.len)
second-some first None start len same whole crosses meet = tt
second-some first (Some second) start len same whole crosses meet =
    let ends : first.at % page_size + first.len ≡ page_size = meet.0 in
    let past : page_size < start % page_size + len = leb-false (start % page_size + len) page_size (not-true (is_in_page start len) (sym crosses)) in
    omega arith

-- what a store touches
store-lies : (b : Bool) (op : MemOp) (at : Stretches) → 0 < op.len → IsPlaced op at → is_in_ram at ≡ b → Lies (cond b (Store (record { items = spans_of at })) Plain)
store-lies true op at some placed e =
    let both = and_parts (is_ram at.first) (option_map_or is_ram at.second true) e in (
      both-are InRam (span_of at.first) at.second (leb-true (at.first.at + at.first.len) ram_size both.0) (second-in at.second both.1),
      both-are HasByte (span_of at.first) at.second (first-some at.first at.second op.len some placed.size placed.second) (second-some at.first at.second (first_byte op) op.len placed.offset placed.size placed.crosses placed.second),
    )
store-lies false op at some placed e = (tt, tt)

conditional-lies : (b : Bool) (op : MemOp) (at : Stretches) → 0 < op.len → IsPlaced op at → Lies (cond b (store_deed at) Plain)
conditional-lies true op at some placed = store-lies (is_in_ram at) op at some placed refl
conditional-lies false op at some placed = (tt, tt)

-- one byte stands in one stretch, and its block is one of RAM's
one-byte : (first : Stretch) (second : Option Stretch) → is_some second ≡ false → first.len + option_map_or (λ (stretch : Stretch). stretch.len) second 0 ≡ 1 → first.len ≡ 1
one-byte first None e whole = omega arith
one-byte first (Some second) e whole = cc

icbi-lies : (b : Bool) (op : MemOp) (at : Stretches) → op.len ≡ 1 → IsPlaced op at → is_in_ram at ≡ b → Lies (cond b (Icbi (block_of at)) Plain)
icbi-lies true op at one placed e =
    let low : at.first.at + at.first.len ≤ ram_size = leb-true (at.first.at + at.first.len) ram_size (and_parts (is_ram at.first) (option_map_or is_ram at.second true) e).0 in
    let short : first_byte op % page_size + op.len ≤ page_size = omega arith in
    let inside : is_in_page (first_byte op) op.len ≡ true = le-leb _ _ short in
    let single : is_some at.second ≡ false = placed.crosses ∙ ap not inside in
    let whole : at.first.len ≡ 1 = one-byte at.first at.second single (placed.size ∙ one) in
    let below : at.first.at / 64 < block_count = omega arith in
    (below, tt)
icbi-lies false op at one placed e = (tt, tt)

-- what an access does to changed code
access-lies : (what : MemWhat) (op : MemOp) (at : Stretches) (reserve : Option ℕ) → is_sized_by what op.len ≡ true → IsPlaced op at → Lies (deed_by what at reserve)
access-lies (Loads signed reversed reserves) op at reserve sized placed = (tt, tt)
access-lies (Stores reversed) op at reserve sized placed = store-lies (is_in_ram at) op at (sized-some (Stores reversed) op.len sized) placed refl
access-lies (Conditional reversed) op at reserve sized placed = conditional-lies (is_reserved at reserve) op at (sized-some (Conditional reversed) op.len sized) placed
access-lies Zero op at reserve sized placed = store-lies (is_in_ram at) op at (sized-some Zero op.len sized) placed refl
access-lies Clean op at reserve sized placed = (tt, tt)
access-lies GivesUp op at reserve sized placed = icbi-lies (is_in_ram at) op at (eqb-true op.len 1 sized) placed refl

-- a row that accesses storage has an access of one of its lengths, and no other row has one
sized-trap : (b : Bool) (cause next : ℕ) → OnMemory IsSized (cond b (Trapped Program cause) (branch_to next))
sized-trap true cause next = tt
sized-trap false cause next = tt

sized-access : (b : Bool) (op : MemOp) → IsSized op → OnMemory IsSized (cond b refusal (Memory op))
sized-access true op sized = tt
sized-access false op sized = sized

sized-system : (b : Bool) (what : SystemWhat) (places : Places) (insn : Insn) (o : Operands) (cia : ℕ) → OnMemory IsSized (cond b refusal (system_effect what places insn o cia))
sized-system true what places insn o cia = tt
sized-system false (Return hypervisor) places insn o cia = tt
sized-system false IsyncRow places insn o cia = tt
sized-system false SyncRow places insn o cia = tt
sized-system false Order places insn o cia = tt
sized-system false ReadMsr places insn o cia = tt
sized-system false WriteMsr places insn o cia = tt
sized-system false TlbieRow places insn o cia = tt
sized-system false ReadSpr places insn o cia = tt
sized-system false WriteSpr places insn o cia = tt
sized-system false Random places insn o cia = tt

sized-effect : (operation : Operation) (insn : Insn) (o : Operands) (cia : ℕ) → slice_get operations insn.row ≡ Some operation → OnMemory IsSized (effect_of operation insn o cia)
sized-effect (Alu row) insn o cia e = tt
sized-effect (Product row) insn o cia e = tt
sized-effect (Quotient row) insn o cia e = tt
sized-effect (Branch row) insn o cia e = tt
sized-effect (Field row) insn o cia e = tt
sized-effect Fields insn o cia e = tt
sized-effect (Pick row) insn o cia e = tt
sized-effect (TrapRow row) insn o cia e = sized-trap (traps row insn o) (bit_at trap_place) (behind_insn insn cia)
sized-effect (Storage row) insn o cia e = sized-access (is_refused row.privilege insn o.msr) (access_of row insn o cia) (storage-sized insn.row row e)
sized-effect Hint insn o cia e = tt
sized-effect Call insn o cia e = tt
sized-effect (System row) insn o cia e = sized-system (is_refused row.privilege insn o.msr) row.what (places_of (System row)) insn o cia

sized-found : (found : Option Operation) (insn : Insn) (o : Operands) (cia : ℕ) (outcome : Outcome) → slice_get operations insn.row ≡ found → option_map (λ (operation : Operation). effect_of operation insn o cia) found ≡ Some outcome → OnMemory IsSized outcome
sized-found None insn o cia outcome at e = cc
sized-found (Some operation) insn o cia outcome at e =
    let same : effect_of operation insn o cia ≡ outcome = cc in
    subst (λ (there : Outcome). OnMemory IsSized there) same (sized-effect operation insn o cia at)

-- the access of an instruction has one of its lengths
pub exec-sized : (insn : Insn) (o : Operands) (cia : ℕ) (outcome : Outcome) → exec_of insn o cia ≡ Some outcome → OnMemory IsSized outcome
unfolding exec_of
exec-sized insn o cia outcome e = sized-found (slice_get operations insn.row) insn o cia outcome refl e

pub sized-outcome : (insn : Option Insn) (at : ℕ) (regs : Regs) (outcome : Outcome) → outcome_of insn at regs ≡ Some outcome → OnMemory IsSized outcome
unfolding outcome_of
sized-outcome None at regs outcome e = cc
sized-outcome (Some insn) at regs outcome e = exec-sized insn (operands_of insn regs) at outcome e

-- what a row of the system does to translations
table-lies : (b : Bool) → Lies (cond b NewTable Plain)
table-lies true = (tt, tt)
table-lies false = (tt, tt)

sync-lies : (b : Bool) → Lies (cond b Sync Plain)
sync-lies true = (tt, tt)
sync-lies false = (tt, tt)

system-lies : (op : SysOp) → Lies (system_deed op)
system-lies (ReadBy to spr) = (tt, tt)
system-lies (WriteBy spr value) = table-lies (is_table (register_for Write spr))
system-lies (MsrWritten value l) = (tt, tt)
system-lies (Returning hypervisor) = (tt, tt)
system-lies (GivingUp scope) = (tt, tt)
system-lies (Ordering l) = sync-lies (l == 2)
system-lies FetchingAnew = (tt, tt)

-- what an outcome does to changed code
placed-lies : (real : Page → Result ℕ StorageFault) (op : MemOp) (placed : Placed) (reserve : Option ℕ) → IsPagewise real → IsSized op → stretches_of real (pages_of op) ≡ placed → Lies (deed_at (Some (Memory op)) (Some placed) reserve)
placed-lies real op (Ok at) reserve wise sized e = access-lies op.what op at reserve sized (placed-by real op at wise e)
placed-lies real op (Err fault) reserve wise sized e = (tt, tt)

outcome-lies : (real : Page → Result ℕ StorageFault) (outcome : Option Outcome) (reserve : Option ℕ) → IsPagewise real → ((there : Outcome) → outcome ≡ Some there → OnMemory IsSized there) → Lies (deed_at outcome (option_and_then (placed_of real) outcome) reserve)
outcome-lies real None reserve wise sized = (tt, tt)
outcome-lies real (Some (Done targets next)) reserve wise sized = (tt, tt)
outcome-lies real (Some (Long op)) reserve wise sized = (tt, tt)
outcome-lies real (Some (Asked op)) reserve wise sized = system-lies op
outcome-lies real (Some (Trapped vector cause)) reserve wise sized = (tt, tt)
outcome-lies real (Some (Memory op)) reserve wise sized = placed-lies real op (stretches_of real (pages_of op)) reserve wise (sized (Memory op) refl) refl

deed-lies : (trap : Option Raised) (it : UnderWay) (reserve : Option ℕ) → Lies (deed_at it.outcome it.placed reserve) → Lies (deed_of trap it reserve)
deed-lies (Some raised) it reserve lies = (tt, tt)
deed-lies None it reserve lies = lies

step-lies : (state : State) → Lies (step state).deed
unfolding step
step-lies state =
    let insn = option_and_then insn_of (fetched state) in
    let real = page_real state.ram state.regs in
    let it = under_way_of (fetch_at state.ram state.regs) (fetched state) real state.regs.cia state.regs in
    deed-lies (raises_of it (get_slot state.regs) state.regs.msr) it state.regs.reserve
    (outcome-lies real (outcome_of insn state.regs.cia state.regs) state.regs.reserve (walk-page state.ram state.regs) (λ (there : Outcome) e. sized-outcome insn state.regs.cia state.regs there e))

-- the bytes that an instruction stores to, and the block whose copy it gives up, lie in RAM
pub deed-in_ram : (state : State) → IsInRam (step state).deed
deed-in_ram state = (step-lies state).0

-- and each stretch that it stores to has a byte
pub deed-bytes : (state : State) → HasBytes (step state).deed
deed-bytes state = (step-lies state).1
