-- The next instruction depends on RAM only by what its walks read, its words, and the bytes that it loads.
use Rattle.std.proofs.Common.{◌≡◌, ℕ, Bool, true, false, cond, List, [], ◌∷◌, ◌++◌, Option, Some, None, Result, Ok, Err, IfOk, option_and_then, option_map, refl, sym, ap, ◌∙◌, subst}
use Rattle.std.specs.Option.{option_map_or}
use Rattle.mw_decode.specs.declared.insn.Insn.{Insn}
use Rattle.mw_soc.specs.Map.{device_loaded}
use Rattle.mw_isa.specs.declared.access.Kind.{Kind}
use Rattle.mw_isa.specs.declared.access.Touch.{Touch}
use Rattle.mw_isa.specs.declared.fetched.Fetched.{Fetched}
use Rattle.mw_isa.specs.declared.memory.MemOp.{MemOp}
use Rattle.mw_isa.specs.declared.memory.MemWhat.{MemWhat}
use Rattle.mw_isa.specs.declared.memory.MemWhat.TheVariants.{Load, Store, Conditional, Zero, Clean, Icbi}
use Rattle.mw_isa.specs.declared.outcome.Outcome.{Outcome}
use Rattle.mw_isa.specs.declared.outcome.Outcome.TheVariants.{Done, Long, Memory, System, Trap}
use Rattle.mw_isa.specs.declared.pages.Page.{Page}
use Rattle.mw_isa.specs.declared.pages.Pages.{Pages}
use Rattle.mw_isa.specs.declared.pages.Stretches.{Stretches}
use Rattle.mw_isa.specs.declared.pages.StorageFault.{StorageFault}
use Rattle.mw_isa.specs.declared.raised.Raised.{Raised}
use Rattle.mw_isa.specs.declared.regs.Regs.{Regs}
use Rattle.mw_isa.specs.Depends.{AgreeAt, AgreeLoaded, Agrees, IsLike, outcome_reads, page_reads, pages_read, ram_left, reads_by, second_reads, with_ram}
use Rattle.mw_isa.specs.Fetch.{fetch_at, fetched, fetched_at, fetched_by, word_page}
use Rattle.mw_isa.specs.Msr.{pr_place}
use Rattle.mw_isa.specs.Pages.{bytes_in, is_in_ram, stretch_of, stretches_by, stretches_of, touch_of, with_second}
use Rattle.mw_isa.specs.Raises.{Placed, cut_raises, earlier, fetch_raises, first_raised, misaligned_if, pages_raise, place_raises, words_raise}
use Rattle.mw_isa.specs.Slots.{get_slot}
use Rattle.mw_isa.specs.State.{State}
use Rattle.mw_isa.specs.Step.{UnderWay, data_of, deed_at, marked, next_of, outcome_of, outcome_parts, placed_of, raises_of, state_behind, step, stepped, stepped_by, under_way, under_way_of}
use Rattle.mw_isa.specs.Storage.{accessed, finding, is_reserved, is_unaligned_exclusive, loaded_number, loads, pages_of, ram_behind, regs_behind}
use Rattle.mw_isa.specs.Translate.{found_by, is_translated, page_real, quadrant_of, real_found, translate_of, translated_in, untranslated}
use Rattle.mw_isa.specs.Walk.{AgreeOn, Walked}
use Rattle.mw_isa.specs.Words.{insn_of}
use Rattle.mw_isa.specs.Xer.{has_bit}
use Rattle.mw_isa.proofs.WalkSameLaws.{walk-same}

-- RAMs that agree on addresses agree on the front and on what is behind it
agree-parts : (ram other front back : List ℕ) → AgreeOn ram other (front ++ back) → AgreeOn ram other front × AgreeOn ram other back
agree-parts ram other [] back agree = (tt, agree)
agree-parts ram other (at ∷ front) back agree =
    let rest = agree-parts ram other front back agree.1 in
    ((agree.0, rest.0), rest.1)

-- an effective address comes to the same in trees that agree on what its walk reads
same-translated : (quadrant : Result ℕ StorageFault) (ram other : List ℕ) (regs : Regs) (kind : Kind) (ea : ℕ) → AgreeOn ram other (reads_by ram regs ea quadrant) → translated_in other regs kind ea quadrant ≡ translated_in ram regs kind ea quadrant
same-translated (Ok pid) ram other regs kind ea agree =
    ap (λ (walk : Walked). found_by walk.end kind (has_bit regs.msr pr_place) pid ea) (sym (walk-same ram other regs.prtbl pid ea agree))
same-translated (Err fault) ram other regs kind ea agree = refl

same-real : (translates : Bool) (ram other : List ℕ) (regs : Regs) (page : Page) → AgreeOn ram other (cond translates (reads_by ram regs page.ea (quadrant_of regs.pidr page.ea)) []) → real_found (cond translates (translated_in other regs page.kind page.ea (quadrant_of regs.pidr page.ea)) (Ok (untranslated page.ea))) ≡ real_found (cond translates (translated_in ram regs page.kind page.ea (quadrant_of regs.pidr page.ea)) (Ok (untranslated page.ea)))
same-real true ram other regs page agree = ap real_found (same-translated (quadrant_of regs.pidr page.ea) ram other regs page.kind page.ea agree)
same-real false ram other regs page agree = refl

-- a page has the same real address, or the same fault, in RAMs that agree on what its translation reads
pub page-same : (ram other : List ℕ) (regs : Regs) (page : Page) → AgreeOn ram other (page_reads ram regs page) → page_real other regs page ≡ page_real ram regs page
unfolding translate_of
page-same ram other regs page agree = same-real (is_translated page.kind regs.msr) ram other regs page agree

same-second : (real : Result ℕ StorageFault) (ram other : List ℕ) (regs : Regs) (first : Page) (second : Option Page) → AgreeOn ram other (second_reads ram regs real second) → stretches_by (page_real other regs) (stretch_of first real) second ≡ stretches_by (page_real ram regs) (stretch_of first real) second
same-second (Err fault) ram other regs first second agree = refl
same-second (Ok real) ram other regs first None agree = refl
same-second (Ok real) ram other regs first (Some page) agree =
    ap (λ (found : Result ℕ StorageFault). with_second (record { at = real; len = first.len }) (stretch_of page found)) (page-same ram other regs page agree)

-- pages stand where they do in RAMs that agree on what their translation reads
same-stretches : (ram other : List ℕ) (regs : Regs) (pages : Pages) → AgreeOn ram other (page_reads ram regs pages.first ++ second_reads ram regs (page_real ram regs pages.first) pages.second) → stretches_of (page_real other regs) pages ≡ stretches_of (page_real ram regs) pages
same-stretches ram other regs pages agree =
    let parts = agree-parts ram other (page_reads ram regs pages.first) (second_reads ram regs (page_real ram regs pages.first) pages.second) agree in
    ap (λ (real : Result ℕ StorageFault). stretches_by (page_real other regs) (stretch_of pages.first real) pages.second) (page-same ram other regs pages.first parts.0)
    ∙ same-second (page_real ram regs pages.first) ram other regs pages.first pages.second parts.1

-- the number that is loaded is the same where the bytes are
same-loaded : (inside : Bool) (len : ℕ) (signed reversed reserve : Bool) (bytes also device : List ℕ) → (inside ≡ true → bytes ≡ also) → loaded_number (Load signed reversed reserve) len (cond inside also device) ≡ loaded_number (Load signed reversed reserve) len (cond inside bytes device)
same-loaded true len signed reversed reserve bytes also device same = ap (loaded_number (Load signed reversed reserve) len) (sym (same refl))
same-loaded false len signed reversed reserve bytes also device same = refl

-- what two states are, of which one is left on another RAM
record Alike (two one : State) (left also : List ℕ) : Type 0 where
  regs : two.regs ≡ one.regs
  devices : two.devices ≡ one.devices
  ram : one.ram ≡ left
  beside : two.ram ≡ also

-- an access loads the same from RAMs that have the same bytes there
same-loads : (what : MemWhat) (op : MemOp) (at : Stretches) (state : State) (other : List ℕ) → AgreeAt what at state.ram other → loads what op at (with_ram other state) ≡ loads what op at state
same-loads (Load signed reversed reserve) op at state other agree =
    same-loaded (is_in_ram at) op.len signed reversed reserve (bytes_in state.ram at) (bytes_in other at) (device_loaded state.devices at.first.at at.first.len) agree
same-loads (Store reversed) op at state other agree = refl
same-loads (Conditional reversed) op at state other agree = refl
same-loads Zero op at state other agree = refl
same-loads Clean op at state other agree = refl
same-loads Icbi op at state other agree = refl

-- an access leaves the same on RAMs that have the same bytes there
accessed-alike : (op : MemOp) (at : Stretches) (state : State) (other : List ℕ) → AgreeAt op.what at state.ram other → Alike (accessed op at (with_ram other state)) (accessed op at state) (ram_behind op.what op at (is_reserved at state.regs.reserve) state.ram) (ram_behind op.what op at (is_reserved at state.regs.reserve) other)
unfolding accessed
accessed-alike op at state other agree = record {
  regs = ap (λ (number : ℕ). regs_behind op.what op at (finding number (is_reserved at state.regs.reserve)) state.regs) (same-loads op.what op at state other agree);
  devices = refl;
  ram = refl;
  beside = refl;
}

-- an outcome leaves the same on RAMs that have the same bytes where it loads them
written-alike : (insn : Insn) (outcome : Outcome) (placed : Option Placed) (at : ℕ) (state : State) (other : List ℕ) → AgreeLoaded None (Some outcome) placed state.ram other → Alike (state_behind (Some insn) (Some outcome) placed at (with_ram other state)) (state_behind (Some insn) (Some outcome) placed at state) (ram_left None (Some outcome) placed state.regs.reserve state.ram) (ram_left None (Some outcome) placed state.regs.reserve other)
written-alike insn (Done targets next) placed at state other agree = record { regs = refl; devices = refl; ram = refl; beside = refl }
written-alike insn (Long op) placed at state other agree = record { regs = refl; devices = refl; ram = refl; beside = refl }
written-alike insn (System op) placed at state other agree = record { regs = refl; devices = refl; ram = refl; beside = refl }
written-alike insn (Trap vector cause) placed at state other agree = record { regs = refl; devices = refl; ram = refl; beside = refl }
written-alike insn (Memory op) None at state other agree = record { regs = refl; devices = refl; ram = refl; beside = refl }
written-alike insn (Memory op) (Some (Err fault)) at state other agree = record { regs = refl; devices = refl; ram = refl; beside = refl }
written-alike insn (Memory op) (Some (Ok there)) at state other agree =
    let alike = accessed-alike op there state other agree in record {
      regs = ap (λ (regs : Regs). record regs { cia = next_of insn (Memory op) state.regs at }) alike.regs;
      devices = alike.devices;
      ram = alike.ram;
      beside = alike.beside;
    }

-- an instruction that raises nothing leaves the same on RAMs that have the same bytes where it loads them
left-alike : (insn : Option Insn) (outcome : Option Outcome) (placed : Option Placed) (at : ℕ) (state : State) (other : List ℕ) → (insn ≡ None → outcome ≡ None) → AgreeLoaded None outcome placed state.ram other → Alike (state_behind insn outcome placed at (with_ram other state)) (state_behind insn outcome placed at state) (ram_left None outcome placed state.regs.reserve state.ram) (ram_left None outcome placed state.regs.reserve other)
left-alike None None placed at state other ties agree = record { regs = refl; devices = refl; ram = refl; beside = refl }
left-alike None (Some outcome) placed at state other ties agree =
    let no : Some outcome ≡ None = ties refl in
    cc
left-alike (Some insn) None placed at state other ties agree = record { regs = refl; devices = refl; ram = refl; beside = refl }
left-alike (Some insn) (Some outcome) placed at state other ties agree = written-alike insn outcome placed at state other agree

-- what an instruction carries, its access standing here
abbrev placing : UnderWay → Option Placed → UnderWay
placing it placed = record it { placed = placed }

-- the accesses to data that an instruction comes to
abbrev data_by : Option Outcome → Option Placed → List Touch
data_by outcome placed = option_map_or (λ outcome. data_of outcome placed) outcome []

-- an instruction does the same on another RAM, given the interrupt that it raises
like-by : (trap : Option Raised) (it : UnderWay) (placed : Option Placed) (state : State) (other : List ℕ) → (it.insn ≡ None → it.outcome ≡ None) → data_by it.outcome placed ≡ data_by it.outcome it.placed → (trap ≡ None → placed ≡ it.placed) → AgreeLoaded trap it.outcome it.placed state.ram other → IsLike (stepped_by (placing it placed) trap (with_ram other state)) (stepped_by it trap state) other state
like-by (Some raised) it placed state other ties reach same agree = record {
  words = refl;
  outcome = refl;
  trap = refl;
  accesses = ap (λ (touches : List Touch). touch_of (word_page it.cia) ∷ touches) reach;
  deed = refl;
  regs = refl;
  devices = refl;
  ram = refl;
  beside = refl;
}
like-by None it placed state other ties reach same agree =
    let alike = left-alike it.insn it.outcome it.placed it.cia state other ties agree in
    let stands = same refl in record {
      words = refl;
      outcome = refl;
      trap = refl;
      accesses = ap (λ (touches : List Touch). touch_of (word_page it.cia) ∷ touches) reach;
      deed = ap (λ (p : Option Placed). deed_at it.outcome p state.regs.reserve) stands;
      regs = ap (λ (p : Option Placed). (state_behind it.insn it.outcome p it.cia (with_ram other state)).regs) stands ∙ alike.regs;
      devices = ap (λ (p : Option Placed). (state_behind it.insn it.outcome p it.cia (with_ram other state)).devices) stands ∙ alike.devices;
      ram = alike.ram;
      beside = ap (λ (p : Option Placed). (state_behind it.insn it.outcome p it.cia (with_ram other state)).ram) stands ∙ alike.beside;
    }

-- what an outcome raises
abbrev ends : Option Outcome → Option Placed → ℕ → Option Raised
ends outcome placed msr = first_raised (option_map_or (λ outcome. outcome_parts outcome placed msr) outcome [])

-- an access that is placed elsewhere only where it isn't translated raises the same, and stands where it does if it raises
-- nothing
same-raised : (early : Bool) (op : MemOp) (placed stands : Placed) → (early ≡ false → placed ≡ stands) → first_raised (misaligned_if early op ∷ pages_raise placed ∷ place_raises op placed ∷ []) ≡ first_raised (misaligned_if early op ∷ pages_raise stands ∷ place_raises op stands ∷ [])
same-raised true op placed stands same = refl
same-raised false op placed stands same = ap (λ (p : Placed). first_raised (pages_raise p ∷ place_raises op p ∷ [])) (same refl)

same-placed : (early : Bool) (op : MemOp) (placed stands : Placed) → (early ≡ false → placed ≡ stands) → first_raised (misaligned_if early op ∷ pages_raise stands ∷ place_raises op stands ∷ []) ≡ None → placed ≡ stands
same-placed true op placed stands same calm = cc
same-placed false op placed stands same calm = same refl

-- an access that is translated stands where it does in RAMs that agree on what its translation reads
same-access : (early : Bool) (ram other : List ℕ) (regs : Regs) (op : MemOp) → AgreeOn ram other (cond early [] (pages_read ram regs (pages_of op))) → early ≡ false → stretches_of (page_real other regs) (pages_of op) ≡ stretches_of (page_real ram regs) (pages_of op)
same-access true ram other regs op agree e = cc
same-access false ram other regs op agree e = same-stretches ram other regs (pages_of op) agree

-- what an outcome raises, reaches, and where it stands, in another RAM
record Stands (outcome : Option Outcome) (placed stands : Option Placed) (msr : ℕ) : Type 0 where
  raises : ends outcome placed msr ≡ ends outcome stands msr
  reach : data_by outcome placed ≡ data_by outcome stands
  same : ends outcome stands msr ≡ None → placed ≡ stands

outcome-stands : (outcome : Option Outcome) (ram other : List ℕ) (regs : Regs) → AgreeOn ram other (outcome_reads ram regs outcome) → Stands outcome (option_and_then (placed_of (page_real other regs)) outcome) (option_and_then (placed_of (page_real ram regs)) outcome) regs.msr
outcome-stands None ram other regs agree = record { raises = refl; reach = refl; same = λ calm. refl }
outcome-stands (Some (Done targets next)) ram other regs agree = record { raises = refl; reach = refl; same = λ calm. refl }
outcome-stands (Some (Long op)) ram other regs agree = record { raises = refl; reach = refl; same = λ calm. refl }
outcome-stands (Some (System op)) ram other regs agree = record { raises = refl; reach = refl; same = λ calm. refl }
outcome-stands (Some (Trap vector cause)) ram other regs agree = record { raises = refl; reach = refl; same = λ calm. refl }
outcome-stands (Some (Memory op)) ram other regs agree =
    let there = same-access (is_unaligned_exclusive op) ram other regs op agree in
    let placed = stretches_of (page_real other regs) (pages_of op) in
    let stands = stretches_of (page_real ram regs) (pages_of op) in record {
      raises = same-raised (is_unaligned_exclusive op) op placed stands there;
      reach = refl;
      same = λ calm. ap Some (same-placed (is_unaligned_exclusive op) op placed stands there calm);
    }

-- where an instruction raises nothing what it comes to doesn't
calm-end : (words : Option Fetched) (fetch cut by_words end : Option Raised) → option_map (marked words) (earlier fetch (earlier cut (earlier by_words end))) ≡ None → end ≡ None
calm-end words None None None None calm = refl
calm-end words None None None (Some raised) calm = cc
calm-end words None None (Some raised) end calm = cc
calm-end words None (Some raised) by_words end calm = cc
calm-end words (Some raised) cut by_words end calm = cc

-- what an instruction carries, part by part, by what tells each page's real address
carried_by : Result ℕ StorageFault → Option Fetched → Option Insn → Option Outcome → (Page → Result ℕ StorageFault) → ℕ → UnderWay
carried_by fetch words insn outcome real at = record {
  cia = at;
  real = fetch;
  words = words;
  insn = insn;
  outcome = outcome;
  placed = option_and_then (placed_of real) outcome;
}

-- an instruction does the same on another RAM, what it carries being placed by that
like-placed : (fetch : Result ℕ StorageFault) (words : Option Fetched) (insn : Option Insn) (outcome : Option Outcome) (state : State) (other : List ℕ) → (insn ≡ None → outcome ≡ None) → AgreeOn state.ram other (outcome_reads state.ram state.regs outcome) → AgreeLoaded (stepped (carried_by fetch words insn outcome (page_real state.ram state.regs) state.regs.cia) state).trap outcome (option_and_then (placed_of (page_real state.ram state.regs)) outcome) state.ram other → IsLike (stepped (carried_by fetch words insn outcome (page_real other state.regs) state.regs.cia) (with_ram other state)) (stepped (carried_by fetch words insn outcome (page_real state.ram state.regs) state.regs.cia) state) other state
unfolding carried_by
like-placed fetch words insn outcome state other ties walks loaded =
    let it = carried_by fetch words insn outcome (page_real state.ram state.regs) state.regs.cia in
    let placed = option_and_then (placed_of (page_real other state.regs)) outcome in
    let trap = raises_of it (get_slot state.regs) state.regs.msr in
    let stands = outcome-stands outcome state.ram other state.regs walks in
    let front : Option Raised → Option Raised = λ end. option_map (marked words) (earlier (fetch_raises fetch state.regs.cia) (earlier (option_and_then cut_raises words) (earlier (option_and_then (λ there. words_raise there (get_slot state.regs)) words) end))) in
    let same_trap : raises_of (placing it placed) (get_slot state.regs) state.regs.msr ≡ trap = ap front stands.raises in
    subst (λ (t : Option Raised). IsLike (stepped_by (placing it placed) t (with_ram other state)) (stepped it state) other state) (sym same_trap)
    (like-by trap it placed state other ties stands.reach (λ calm. stands.same (calm-end words (fetch_raises fetch state.regs.cia) (option_and_then cut_raises words) (option_and_then (λ there. words_raise there (get_slot state.regs)) words) _ calm)) loaded)

-- the words of a fetch are the same in RAMs that have the same there
same-words : (fetch : Result ℕ StorageFault) (ram other : List ℕ) → IfOk fetch (λ real. fetched_at ram real ≡ fetched_at other real) → fetched_by other fetch ≡ fetched_by ram fetch
same-words (Ok real) ram other same = ap Some (sym same)
same-words (Err fault) ram other same = refl

-- words that are no instruction come to nothing
nothing-of : (insn : Option Insn) (at : ℕ) (regs : Regs) → insn ≡ None → outcome_of insn at regs ≡ None
unfolding outcome_of
nothing-of None at regs e = refl
nothing-of (Some insn) at regs e = cc

-- what the next instruction carries on another RAM that agrees on its fetch
same-carried : (state : State) (other : List ℕ) → fetch_at other state.regs ≡ fetch_at state.ram state.regs → fetched_by other (fetch_at state.ram state.regs) ≡ fetched state → under_way (with_ram other state) ≡ under_way_of (fetch_at state.ram state.regs) (fetched state) (page_real other state.regs) state.regs.cia state.regs
unfolding under_way
same-carried state other fetch words =
    ap (λ (real : Result ℕ StorageFault). under_way_of real (fetched_by other real) (page_real other state.regs) state.regs.cia state.regs) fetch
    ∙ ap (λ (there : Option Fetched). under_way_of (fetch_at state.ram state.regs) there (page_real other state.regs) state.regs.cia state.regs) words

-- the next instruction depends on RAM only by the doublewords that its walks read, its words, and the bytes that it loads:
-- on another RAM that agrees on these it does the same, and both have the same bytes stored
pub step-depends : (state : State) (other : List ℕ) → Agrees other state → IsLike (step (with_ram other state)) (step state) other state
unfolding step under_way carried_by
step-depends state other agrees =
    let reads = agree-parts state.ram other (page_reads state.ram state.regs (word_page state.regs.cia)) (outcome_reads state.ram state.regs (under_way state).outcome) agrees.walks in
    let fetch = page-same state.ram other state.regs (word_page state.regs.cia) reads.0 in
    let words = same-words (fetch_at state.ram state.regs) state.ram other agrees.words in
    let insn = option_and_then insn_of (fetched state) in
    subst (λ (it : UnderWay). IsLike (stepped it (with_ram other state)) (step state) other state) (sym (same-carried state other fetch words))
    (like-placed (fetch_at state.ram state.regs) (fetched state) insn (outcome_of insn state.regs.cia state.regs) state other (nothing-of insn state.regs.cia state.regs) reads.1 agrees.loads)
