-- A run of the board: the events so far, the state, and what is kept of changed code.
use Rattle.std.proofs.Common.{◌≡◌, IsTrue, ℕ, zero, suc, ◌+◌, ◌<◌, ◌≤◌, List, [], ◌∷◌, ◌++◌, length, Some, option_map, refl, sym, ap, ap₂, ◌∙◌, subst, arith}
use Rattle.std.specs.List.{range_with_len}
use Rattle.std.specs.List.Sorted.{IsStrictlyIncreasing}
use Rattle.std.specs.List.{All, Contains}
use Rattle.std.proofs.lemmas.List.{map-append}
use Rattle.std.proofs.lemmas.List.FromFn.{length-range_with_len, get_or-range_with_len}
use Rattle.mw_isa.specs.declared.event.Event.{Event}
use Rattle.mw_isa.specs.declared.event.End.{End}
use Rattle.mw_isa.specs.declared.event.End.TheVariants.{Ran, Offence}
use Rattle.mw_isa.specs.declared.offence.Access.{Access}
use Rattle.mw_bus.specs.Memory.{ram_of}
use Rattle.mw_isa.specs.declared.state.State.{State as Whole}
use Rattle.mw_soc.specs.DeviceData.{DeviceData, Housed}
use Rattle.mw_isa.specs.State.{State, state_of, seen, brought}
use Rattle.mw_isa.specs.Start.{Boot, start, start_regs}
use Rattle.mw_soc.specs.Devices.{cycle_of, devices_at, start_devices}
use Rattle.mw_isa.specs.Replay.{acted, applied, replay, state_after, cycle_of_event, cycles_of}
use Rattle.mw_isa.specs.Discipline.{Kept, nothing_kept}
use Rattle.mw_isa.specs.Disciplined.{IsAllowed, IsDisciplined, OffendsBy, kept_after, kept_behind}
use Rattle.mw_isa.specs.Stops.{stop_of, StopsBy}
use Rattle.mw_isa.specs.Cycle.{next_event, passed}
use Rattle.mw_isa.specs.Prompt.{is_prompt, IsPrompt}
use Rattle.mw_isa.specs.Runs.{Runs}
use Rattle.mw_soc.proofs.Laws.{cycle-devices_at}
use Rattle.mw_isa.proofs.StepLaws.{cycle-acts, cycle-prompt, next_event-cycle, passed-cycle}
use Rattle.mw_isa.proofs.PromptLaws.{prompt-push}
use Rattle.mw_isa.proofs.ReplayLaws.{replay-push}
use Rattle.mw_isa.proofs.DisciplinedLaws.{disciplined-push, kept_after-push}
use Rattle.mw_board.specs.declared.turn.Halt.{Halt}
use Rattle.mw_board.specs.declared.turn.Halt.TheVariants.{Offence as Offends}
use Rattle.mw_board.specs.Turns.{IsHalted, IsTurned}

-- one more number of a range
range_with_len-more : (a n j : ℕ) → a + n ≡ j → range_with_len a (n + 1) ≡ range_with_len a n ++ j ∷ []
range_with_len-more a zero j e = let k : a ≡ j = omega arith in ap (λ (i : ℕ). i ∷ []) k
range_with_len-more a (suc n) j e =
    let k : suc n + 1 ≡ suc (n + 1) = omega arith in
    let f : a + 1 + n ≡ j = omega arith in
    ap (range_with_len a) k ∙ ap (λ (xs : List ℕ). a ∷ xs) (range_with_len-more (a + 1) n j f)

-- the numbers of a range rise
range-rises : (n : ℕ) → IsStrictlyIncreasing (range_with_len 0 n)
range-rises n k h =
    let length_is = length-range_with_len 0 n in
    let here = get_or-range_with_len 0 n k 0 (omega arith) in
    let next = get_or-range_with_len 0 n (k + 1) 0 (omega arith) in
    omega arith

-- the numbers of a range from 0 are below its end
range-below : (n : ℕ) → All (λ cycle. cycle < n) (range_with_len 0 n)
range-below n k d h =
    let length_is = length-range_with_len 0 n in
    let here = get_or-range_with_len 0 n k d (omega arith) in
    omega arith

-- a range from 0 has each number below its end
range-contains : (n i : ℕ) → i < n → Contains (range_with_len 0 n) i
range-contains n i h =
    let length_is = length-range_with_len 0 n in
    let here = get_or-range_with_len 0 n i i h in
    (i, omega arith, omega arith)

-- how far a run has come: the events lead to the state, left no interrupt waiting, and kept the update discipline, of which
-- this is kept; and there is one a cycle
pub record IsMade (boot : Boot) (events : List Event) (cycle : ℕ) (kept : Kept) (state : State) : Type 0 where
  pub made : replay events (start boot) ≡ Some state
  pub prompt : IsPrompt events (start boot)
  pub cycles : cycles_of events ≡ range_with_len 0 cycle
  pub stands : cycle_of state.devices ≤ cycle
  pub disciplined : IsDisciplined events nothing_kept (start boot)
  pub keeps : kept_after events nothing_kept (start boot) ≡ kept

-- at the start a run has come nowhere, and no event has happened
pub made-start : (boot : Boot) → IsMade boot [] 0 nothing_kept (start boot)
unfolding start
made-start boot = record {
  made = refl;
  prompt = tt;
  cycles = refl;
  stands = omega arith;
  disciplined = tt;
  keeps = refl;
}

-- a run comes one cycle further by the cycle's event, which keeps the discipline
pub made-more : (boot : Boot) (events : List Event) (cycle : ℕ) (kept : Kept) (state : State) → IsMade boot events cycle kept state → IsAllowed (next_event (brought cycle state)) kept (brought cycle state) → IsMade boot (events ++ next_event (brought cycle state) ∷ []) (cycle + 1) (kept_behind kept (next_event (brought cycle state)) (brought cycle state)) (passed (brought cycle state))
made-more boot events cycle kept state m allowed =
    let there : State = brought cycle state in
    let event = next_event there in
    let from : 0 + cycle ≡ cycle = omega arith in
    let now : cycle_of_event event ≡ cycle = next_event-cycle there ∙ cycle-devices_at state.devices cycle in
    let at : cycle_of (passed there).devices ≡ cycle = passed-cycle there ∙ cycle-devices_at state.devices cycle in
    let acts : applied event state ≡ Some (passed there) = ap (λ (k : ℕ). acted event (brought k state)) now ∙ cycle-acts there in
    record {
      made = replay-push events event (start boot) state (passed there) m.made acts;
      prompt = prompt-push events event (start boot) state m.prompt m.made (subst (λ (k : ℕ). IsTrue (is_prompt event (brought k state))) (sym now) (cycle-prompt there));
      cycles = map-append cycle_of_event events (event ∷ []) ∙ ap₂ (λ (xs : List ℕ) (k : ℕ). xs ++ k ∷ []) m.cycles now ∙ sym (range_with_len-more 0 cycle cycle from);
      stands = omega arith;
      disciplined = disciplined-push events event nothing_kept (start boot) state m.disciplined m.made (subst (λ (k : ℕ). IsAllowed event (kept_after events nothing_kept (start boot)) (brought k state)) (sym now) (subst (λ (r : Kept). IsAllowed event r there) (sym m.keeps) allowed));
      keeps = kept_after-push events event nothing_kept (start boot) state (passed there) m.made acts ∙ ap₂ (λ (r : Kept) (k : ℕ). kept_behind r event (brought k state)) m.keeps now;
    }

-- a run that stops at a cycle has the headline, where it may end so
made-runs : (boot : Boot) (n cycle : ℕ) (events : List Event) (end : End) (kept : Kept) (state : State) → length boot.image ≤ 16777216 → StopsBy n end → stop_of end ≡ cycle → OffendsBy end kept (brought cycle state) → IsMade boot events cycle kept state → Runs boot n events end (brought cycle state)
unfolding state_after
made-runs boot n cycle events end kept state fits stops at ends m = record {
  fits = fits;
  stops = stops;
  rising = subst IsStrictlyIncreasing (sym m.cycles) (range-rises cycle);
  below = subst (λ (k : ℕ). All (λ (c : ℕ). c < k) (cycles_of events)) (sym at) (subst (All (λ (c : ℕ). c < cycle)) (sym m.cycles) (range-below cycle));
  replayed = ap (λ (k : ℕ). option_map (brought k) (replay events (start boot))) at ∙ ap (option_map (brought cycle)) m.made;
  prompt = m.prompt;
  lively = λ first h. (first, omega arith, omega arith, subst (λ (xs : List ℕ). Contains xs first) (sym m.cycles) (range-contains cycle first (omega arith)));
  disciplined = m.disciplined;
  offence = subst (λ (r : Kept). OffendsBy end r (brought cycle state)) (sym m.keeps) ends;
}

-- the state that the code makes at the start
pub seen-start : (boot : Boot) (room : ℕ) (whole : Whole) (ram : List ℕ) (devices : Housed) → whole ≡ record { regs = start_regs; ram = ram; devices = devices } → ram ≡ ram_of boot.image → devices ≡ record { devices = start_devices boot.script; room = room } → seen whole ≡ start boot
unfolding start
seen-start boot room whole ram devices w r d =
    ap seen w ∙ ap₂ (λ (bytes : List ℕ) (housed : Housed). state_of start_regs bytes housed.devices) r d

-- how far a run has come at the start, from the parts of its state
pub made-init : (boot : Boot) (events : List Event) (kept : Kept) (state : State) → events ≡ [] → kept ≡ nothing_kept → state ≡ start boot → IsMade boot events 0 kept state
made-init boot events kept state e k s =
    subst (λ (es : List Event). IsMade boot es 0 kept state) (sym e) (subst (λ (r : Kept). IsMade boot [] 0 r state) (sym k) (subst (IsMade boot [] 0 nothing_kept) (sym s) (made-start boot)))

-- how far a run has come one cycle further, from the parts of its state
pub made-next : (boot : Boot) (events more : List Event) (cycle : ℕ) (event : Event) (kept left : Kept) (state after : State) (devices : DeviceData) → IsMade boot events cycle kept state → devices ≡ devices_at state.devices cycle → IsTurned event kept (state_of state.regs state.ram devices) left after → more ≡ events ++ event ∷ [] → IsMade boot more (cycle + 1) left after
made-next boot events more cycle event kept left state after devices m d turned e =
    let t : IsTurned event kept (brought cycle state) left after = subst (λ (v : DeviceData). IsTurned event kept (state_of state.regs state.ram v) left after) d turned in
    let there : State = brought cycle state in
    subst (λ (es : List Event). IsMade boot es (cycle + 1) left after) (sym (e ∙ ap (λ (x : Event). events ++ x ∷ []) t.happens))
    (subst (λ (r : Kept). IsMade boot (events ++ next_event there ∷ []) (cycle + 1) r after) (sym (t.keeps ∙ ap (λ (x : Event). kept_behind kept x there) t.happens))
    (subst (IsMade boot (events ++ next_event there ∷ []) (cycle + 1) (kept_behind kept (next_event there) there)) (sym t.leaves)
    (made-more boot events cycle kept state m (subst (λ (x : Event). IsAllowed x kept there) t.happens t.allowed))))

-- a run to its end, from the parts of its state
pub made-end : (boot : Boot) (n : ℕ) (events all : List Event) (cycle : ℕ) (end : End) (kept : Kept) (state last : State) → IsMade boot events cycle kept state → cycle ≡ n → length boot.image ≤ 16777216 → all ≡ events → end ≡ Ran n → last ≡ brought n state → Runs boot n all end last
made-end boot n events all cycle end kept state last m at fits a e b =
    subst (λ (es : List Event). Runs boot n es end last) (sym a) (subst (λ (x : End). Runs boot n events x last) (sym e)
    (subst (Runs boot n events (Ran n)) (sym b) (made-runs boot n n events (Ran n) kept state fits refl refl tt (subst (λ (k : ℕ). IsMade boot events k kept state) at m))))

-- a run that ends with an offence, from the parts of its state
pub made-offence : (boot : Boot) (n : ℕ) (events all : List Event) (cycle : ℕ) (access : Access) (halt : Halt) (end : End) (kept : Kept) (state stopped last : State) (devices : DeviceData) → IsMade boot events cycle kept state → cycle < n → length boot.image ≤ 16777216 → devices ≡ devices_at state.devices cycle → halt ≡ Offends access → IsHalted halt kept (state_of state.regs state.ram devices) stopped → all ≡ events → end ≡ Offence cycle access → last ≡ stopped → Runs boot n all end last
made-offence boot n events all cycle access halt end kept state stopped last devices m below fits d is halted a e l =
    let h : IsHalted (Offends access) kept (brought cycle state) stopped = subst (λ (v : DeviceData). IsHalted (Offends access) kept (state_of state.regs state.ram v) stopped) d (subst (λ (x : Halt). IsHalted x kept (state_of state.regs state.ram devices) stopped) is halted) in
    subst (λ (es : List Event). Runs boot n es end last) (sym a) (subst (λ (x : End). Runs boot n events x last) (sym e)
    (subst (Runs boot n events (Offence cycle access)) (sym (l ∙ h.2)) (made-runs boot n cycle events (Offence cycle access) kept state fits below refl (h.0, h.1) m)))
