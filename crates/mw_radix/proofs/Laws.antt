-- A walker wants the doublewords that the whole walk reads, in that order and no others, and ends as it does.
use Rattle.std.proofs.Common.{◌≡◌, ℕ, zero, suc, ◌+◌, ◌-◌, ◌%◌, ◌^◌, ◌<◌, ◌≤◌, Bool, true, false, not, cond, List, length, Option, Some, Result, Err, refl, sym, ap, ◌∙◌, subst, arith}
use Rattle.std.specs.Prelude.{unwrap_or}
use Rattle.mw_isa.specs.declared.walk.Leaf.{Leaf}
use Rattle.mw_isa.specs.declared.walk.Level.{Level}
use Rattle.mw_isa.specs.declared.walk.WalkFault.{WalkFault}
use Rattle.mw_isa.specs.declared.walk.WalkFault.TheVariants.{Segment, NoEntry, BadTree}
use Rattle.mw_isa.specs.Tables.{doubleword, tree_bits, is_there, is_leaf}
use Rattle.mw_isa.specs.Walk.{Walked, ended, reading, is_level, left_behind, entry_at, next_level, leaf_of, walk_behind, walk_from, root_of, is_in_tree, walk_in, is_in_table, process_at, walk_of}
use Rattle.mw_isa.proofs.WalkReadLaws.{level-is, leaf-behind}
use Rattle.mw_radix.specs.declared.stage.Stage.{Stage}
use Rattle.mw_radix.specs.declared.stage.Stage.TheVariants.{Process, At, Ended}
use Rattle.mw_radix.specs.Walking.{Walking, begun, in_tree, behind, start_of, wanted, wanted_by, given, given_by, end_by, end_of, IsSound, ahead, ahead_by}

-- no level has bits where no address bit is left
no-level : (b : Bool) (level : Level) (walked : Walked) → is_level level ≡ b → level.left ≤ 0 → cond b walked (ended (Err BadTree)) ≡ ended (Err BadTree)
no-level true level walked e none =
    let is = level-is level e in
    let wide = is.wide in
    let within = is.within in
    absurd (omega arith)
no-level false level walked e none = refl

more-fuel : (b : Bool) (at entry left : ℕ) (on also : Walked) → (b ≡ true → on ≡ also) → cond b (reading at (walk_behind entry left on)) (ended (Err BadTree)) ≡ cond b (reading at (walk_behind entry left also)) (ended (Err BadTree))
more-fuel true at entry left on also same = ap (λ (walked : Walked). reading at (walk_behind entry left walked)) (same refl)
more-fuel false at entry left on also same = refl

-- a walk is the same through any number of levels that isn't below the number of address bits left
fuel : (n m : ℕ) (ram : List ℕ) (ea : ℕ) (level : Level) → level.left ≤ n → level.left ≤ m → walk_from n ram ea level ≡ walk_from m ram ea level
unfolding walk_from
fuel zero zero ram ea level low high = refl
fuel zero (suc m) ram ea level low high = sym (no-level (is_level level) level _ refl low)
fuel (suc n) zero ram ea level low high = no-level (is_level level) level _ refl high
fuel (suc n) (suc m) ram ea level low high =
    let entry = doubleword ram (entry_at ea level) in
    more-fuel (is_level level) (entry_at ea level) entry (left_behind level) (walk_from n ram ea (next_level entry level)) (walk_from m ram ea (next_level entry level))
    (λ e. let wide = (level-is level e).wide in
    let first : level.left - level.bits ≤ n = omega arith in
    let second : level.left - level.bits ≤ m = omega arith in
    fuel n m ram ea (next_level entry level) first second)

-- from a level on that no tree can have
begun-by : (b : Bool) (n : ℕ) (ram : List ℕ) (ea : ℕ) (level : Level) → is_level level ≡ b → n ≡ level.left → ahead_by ram ea (cond b (At level) (Ended (Err BadTree))) ≡ walk_from n ram ea level
unfolding walk_from
begun-by true n ram ea level e left = ap (λ (k : ℕ). walk_from k ram ea level) (sym left)
begun-by false zero ram ea level e left = refl
begun-by false (suc n) ram ea level e left =
    let entry = doubleword ram (entry_at ea level) in
    ap (λ (b : Bool). cond b (reading (entry_at ea level) (walk_behind entry (left_behind level) (walk_from n ram ea (next_level entry level)))) (ended (Err BadTree))) (sym e)

ahead-begun : (ram : List ℕ) (ea : ℕ) (level : Level) → ahead_by ram ea (begun level) ≡ walk_from level.left ram ea level
ahead-begun ram ea level = begun-by (is_level level) level.left ram ea level refl refl

in-by : (b : Bool) (ram : List ℕ) (ea entry : ℕ) → ahead_by ram ea (cond b (begun (root_of entry)) (Ended (Err Segment))) ≡ cond b (walk_from (tree_bits entry) ram ea (root_of entry)) (ended (Err Segment))
in-by true ram ea entry = ahead-begun ram ea (root_of entry)
in-by false ram ea entry = refl

-- behind a process entry a walker has ahead what the walk has
ahead-in : (ram : List ℕ) (ea entry : ℕ) → ahead_by ram ea (in_tree ea entry) ≡ walk_in ram ea entry
ahead-in ram ea entry = in-by (is_in_tree ea (tree_bits entry)) ram ea entry

behind-by : (there leaf : Bool) (n : ℕ) (ram : List ℕ) (ea entry : ℕ) (level : Level) → left_behind level ≤ n → ahead_by ram ea (cond (not there) (Ended (Err NoEntry)) (cond leaf (Ended (leaf_of entry (left_behind level))) (begun (next_level entry level)))) ≡ cond there (cond leaf (ended (leaf_of entry (left_behind level))) (walk_from n ram ea (next_level entry level))) (ended (Err NoEntry))
behind-by true true n ram ea entry level room = refl
behind-by true false n ram ea entry level room =
    ahead-begun ram ea (next_level entry level) ∙ fuel (left_behind level) n ram ea (next_level entry level) (omega arith) room
behind-by false leaf n ram ea entry level room = refl

-- behind a level's entry too
ahead-behind : (n : ℕ) (ram : List ℕ) (ea entry : ℕ) (level : Level) → left_behind level ≤ n → ahead_by ram ea (behind level entry) ≡ walk_behind entry (left_behind level) (walk_from n ram ea (next_level entry level))
ahead-behind n ram ea entry level room = behind-by (is_there entry) (is_leaf entry) n ram ea entry level room

level-by : (n : ℕ) (ram : List ℕ) (ea : ℕ) (level : Level) → is_level level ≡ true → n ≡ level.left → walk_from n ram ea level ≡ reading (entry_at ea level) (ahead_by ram ea (behind level (doubleword ram (entry_at ea level))))
unfolding walk_from
level-by zero ram ea level e left =
    let is = level-is level e in
    let wide = is.wide in
    let within = is.within in
    absurd (omega arith)
level-by (suc n) ram ea level e left =
    let entry = doubleword ram (entry_at ea level) in
    let wide = (level-is level e).wide in
    let room : left_behind level ≤ n = omega arith in
    ap (λ (b : Bool). cond b (reading (entry_at ea level) (walk_behind entry (left_behind level) (walk_from n ram ea (next_level entry level)))) (ended (Err BadTree))) e
    ∙ ap (reading (entry_at ea level)) (sym (ahead-behind n ram ea entry level room))

given-by : (stage : Stage) (ram : List ℕ) (ea at : ℕ) → IsSound stage → wanted_by ea stage ≡ Some at → ahead_by ram ea stage ≡ reading at (ahead_by ram ea (given_by ea stage (doubleword ram at)))
given-by (Process place) ram ea at sound wants =
    let e : place ≡ at = ap (λ (o : Option ℕ). unwrap_or o place) wants in
    ap (reading place) (sym (ahead-in ram ea (doubleword ram place)))
    ∙ ap (λ (a : ℕ). reading a (ahead_by ram ea (in_tree ea (doubleword ram a)))) e
given-by (At level) ram ea at sound wants =
    let e : entry_at ea level ≡ at = ap (λ (o : Option ℕ). unwrap_or o (entry_at ea level)) wants in
    level-by level.left ram ea level sound.0 refl
    ∙ ap (λ (a : ℕ). reading a (ahead_by ram ea (behind level (doubleword ram a)))) e
given-by (Ended end) ram ea at sound wants = cc

start-by : (b : Bool) (ram : List ℕ) (prtbl pid ea : ℕ) → ahead_by ram ea (cond b (Process (process_at prtbl pid)) (Ended (Err NoEntry))) ≡ cond b (reading (process_at prtbl pid) (walk_in ram ea (doubleword ram (process_at prtbl pid)))) (ended (Err NoEntry))
start-by true ram prtbl pid ea = refl
start-by false ram prtbl pid ea = refl

-- at its start a walker has the whole walk ahead
pub ahead-start : (ram : List ℕ) (prtbl pid ea : ℕ) → ahead ram (start_of prtbl pid ea) ≡ walk_of ram prtbl pid ea
unfolding ahead walk_of
ahead-start ram prtbl pid ea = start-by (is_in_table prtbl pid) ram prtbl pid ea

-- given RAM's doubleword that it wants, a walker has ahead what it had, but for that first read
pub ahead-given : (ram : List ℕ) (walk : Walking) (at : ℕ) → IsSound walk.stage → wanted walk ≡ Some at → ahead ram walk ≡ reading at (ahead ram (given (doubleword ram at) walk))
unfolding ahead
ahead-given ram walk at sound wants = given-by walk.stage ram walk.ea at sound wants

-- at its start a walker will end as the walk does
pub began : (ram : List ℕ) (prtbl pid ea : ℕ) (walk : Walking) → walk ≡ start_of prtbl pid ea → (ahead ram walk).end ≡ (walk_of ram prtbl pid ea).end
began ram prtbl pid ea walk e =
    ap (λ (w : Walking). (ahead ram w).end) e ∙ ap (λ (w : Walked). w.end) (ahead-start ram prtbl pid ea)

ended-by : (stage : Stage) (ram : List ℕ) (ea : ℕ) (end : Result Leaf WalkFault) → end_by stage ≡ Some end → (ahead_by ram ea stage).end ≡ end
ended-by (Process at) ram ea end e = cc
ended-by (At level) ram ea end e = cc
ended-by (Ended other) ram ea end e = cc

-- where a walker has ended, its end is that of what was ahead
pub ended-as : (ram : List ℕ) (walk : Walking) (end : Result Leaf WalkFault) → end_of walk ≡ Some end → (ahead ram walk).end ≡ end
unfolding ahead
ended-as ram walk end e = ended-by walk.stage ram walk.ea end e

-- what a walker has ahead once it is given what it wants: the same end, and one doubleword less to read
pub record Advances (ram : List ℕ) (before after : Walking) : Type 0 where
  pub end : (ahead ram after).end ≡ (ahead ram before).end
  pub fewer : length (ahead ram after).reads < length (ahead ram before).reads

advanced : (ram : List ℕ) (before after : Walking) (at : ℕ) → ahead ram before ≡ reading at (ahead ram after) → Advances ram before after
advanced ram before after at e =
    let count : length (ahead ram before).reads ≡ length (ahead ram after).reads + 1 = ap (λ (w : Walked). length w.reads) e ∙ omega arith in
    record { end = sym (ap (λ (w : Walked). w.end) e); fewer = omega arith }

pub advances : (ram now : List ℕ) (before after : Walking) (entry at : ℕ) → IsSound before.stage → wanted before ≡ Some at → now ≡ ram → entry ≡ doubleword now at → after ≡ given entry before → Advances ram before after
advances ram now before after entry at sound wants same is gives =
    let whole : after ≡ given (doubleword ram at) before = gives ∙ ap (λ (e : ℕ). given e before) (is ∙ ap (λ (r : List ℕ). doubleword r at) same) in
    advanced ram before after at (ahead-given ram before at sound wants ∙ ap (λ (w : Walking). reading at (ahead ram w)) (sym whole))

start-sound-by : (b : Bool) (prtbl pid : ℕ) → IsSound (cond b (Process (process_at prtbl pid)) (Ended (Err NoEntry)))
start-sound-by true prtbl pid = (omega arith, omega arith)
start-sound-by false prtbl pid = tt

-- a walker at its start is sound
pub start-sound : (prtbl pid ea : ℕ) (walk : Walking) → walk ≡ start_of prtbl pid ea → IsSound walk.stage
start-sound prtbl pid ea walk e = subst (λ (w : Walking). IsSound w.stage) (sym e) (start-sound-by (is_in_table prtbl pid) prtbl pid)

begun-sound : (b : Bool) (level : Level) → is_level level ≡ b → level.left ≤ 62 → level.base < 2 ^ 60 → level.base % 8 ≡ 0 → IsSound (cond b (At level) (Ended (Err BadTree)))
begun-sound true level e most low whole = (e, most, low, whole)
begun-sound false level e most low whole = tt

in-sound : (b : Bool) (entry : ℕ) → IsSound (cond b (begun (root_of entry)) (Ended (Err Segment)))
in-sound true entry = begun-sound (is_level (root_of entry)) (root_of entry) refl (omega arith) (omega arith) (omega arith)
in-sound false entry = tt

behind-sound : (there leaf : Bool) (entry : ℕ) (level : Level) → is_level level ≡ true → level.left ≤ 62 → IsSound (cond (not there) (Ended (Err NoEntry)) (cond leaf (Ended (leaf_of entry (left_behind level))) (begun (next_level entry level))))
behind-sound true true entry level is most = leaf-behind entry level is most
behind-sound true false entry level is most = begun-sound (is_level (next_level entry level)) (next_level entry level) refl (omega arith) (omega arith) (omega arith)
behind-sound false leaf entry level is most = tt

given-sound-by : (stage : Stage) (ea entry : ℕ) → IsSound stage → IsSound (given_by ea stage entry)
given-sound-by (Process at) ea entry sound = in-sound (is_in_tree ea (tree_bits entry)) entry
given-sound-by (At level) ea entry sound = behind-sound (is_there entry) (is_leaf entry) entry level sound.0 sound.1
given-sound-by (Ended end) ea entry sound = sound

-- and stays so, whatever it is given
pub given-sound : (before after : Walking) (entry : ℕ) → IsSound before.stage → after ≡ given entry before → IsSound after.stage
given-sound before after entry sound e = subst (λ (w : Walking). IsSound w.stage) (sym e) (given-sound-by before.stage before.ea entry sound)
