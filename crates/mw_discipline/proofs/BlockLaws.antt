-- The bytes of the blocks against the statuses that they are seen as, and the list of those that wait.
use Rattle.std.proofs.Common.{◌≡◌, ◌≢◌, ℕ, zero, suc, ◌+◌, ◌-◌, ◌<◌, ◌==◌, Bool, true, false, List, [], ◌∷◌, ◌++◌, length, take, map, replicate, set, All, Option, Some, None, refl, sym, ap, ap₂, ◌∙◌, subst, inl, inr, arith}
use Rattle.std.proofs.Math.Seq.{map-set_same}
use Rattle.std.proofs.lemmas.Bool.{cases_eq, eqb-true, eq-eqb, true≢false, or_cases, or_left, or_right}
use Rattle.std.proofs.lemmas.List.{map-set, get_or-map, get_or-set_other, length-map, length-set}
use Rattle.std.proofs.lemmas.List.Elements.{All-nil, All-push}
use Rattle.mw_isa.specs.declared.offence.BlockStatus.{BlockStatus}
use Rattle.mw_isa.specs.declared.offence.BlockStatus.TheVariants.{Changed as ChangedBlock}
use Rattle.mw_isa.specs.Discipline.{block_count, clean_blocks, cleaned, changed_from, invalidated_at, given_up as given_up_status}
use Rattle.mw_discipline.specs.declared.place.Place.{Place}
use Rattle.mw_discipline.specs.declared.place.Place.TheVariants.{Clean, Changed, Invalidated, Again}
use Rattle.mw_discipline.specs.Inside.{AreListed, given_up, is_listed, listed_by, place_in, settled, settled_at, status_at, stored, waits}

-- clean blocks are seen as such
clean-seen : (n : ℕ) → map status_at (replicate n Clean) ≡ clean_blocks n
unfolding clean_blocks
clean-seen zero = refl
clean-seen (suc n) = ap (λ (rest : List (Option BlockStatus)). None ∷ rest) (clean-seen n)

-- a resize of no blocks adds all
nothing-taken : (n : ℕ) → take {A = Place} n [] ≡ []
nothing-taken zero = refl
nothing-taken (suc n) = refl

from-none : (n : ℕ) → take n [] ++ replicate (n - 0) Clean ≡ replicate n Clean
from-none n =
    let e : n - 0 ≡ n = omega arith in
    ap₂ (λ (xs : List Place) (k : ℕ). xs ++ replicate k Clean) (nothing-taken n) e

-- what a resize of no blocks leaves is seen as clean blocks
pub filled-seen : (n len : ℕ) (base places : List Place) → base ≡ [] → len ≡ 0 → places ≡ take n base ++ replicate (n - len) Clean → map status_at places ≡ clean_blocks n
filled-seen n len base places none counted e =
    ap (map status_at) (e ∙ ap₂ (λ (xs : List Place) (k : ℕ). take n xs ++ replicate (n - k) Clean) none counted ∙ from-none n)
    ∙ clean-seen n

-- a block that was stored to is changed
stored-status : (place : Place) → status_at (stored place) ≡ Some ChangedBlock
stored-status Clean = refl
stored-status Changed = refl
stored-status Invalidated = refl
stored-status Again = refl

-- a store to a block is seen
pub stored-seen : (places : List Place) (block : ℕ) (place after : Place) → after ≡ stored place → map status_at (set places block after) ≡ set (map status_at places) block (Some ChangedBlock)
stored-seen places block place after e =
    map-set status_at places block after
    ∙ ap (λ (status : Option BlockStatus). set (map status_at places) block status) (ap status_at e ∙ stored-status place)

-- a block of which the copy is given up has the status that it then has
given_up-status : (place : Place) → status_at (given_up place) ≡ given_up_status (status_at place)
given_up-status Clean = refl
given_up-status Changed = refl
given_up-status Invalidated = refl
given_up-status Again = refl

-- that the copy of a block is given up is seen
pub given_up-seen : (places : List Place) (block : ℕ) (place after : Place) → block < length places → place ≡ place_in places block → after ≡ given_up place → map status_at (set places block after) ≡ invalidated_at block (map status_at places)
given_up-seen places block place after below is e =
    map-set status_at places block after
    ∙ ap (λ (status : Option BlockStatus). set (map status_at places) block status) (ap status_at e ∙ given_up-status place ∙ ap given_up_status (ap status_at is ∙ sym (get_or-map status_at places block Clean None below)))

-- a synchronizing event is seen
settled-status : (place : Place) → status_at (settled place) ≡ cleaned (status_at place)
settled-status Clean = refl
settled-status Changed = refl
settled-status Invalidated = refl
settled-status Again = refl

pub settled-seen : (places : List Place) → map status_at (map settled places) ≡ map cleaned (map status_at places)
settled-seen [] = refl
settled-seen (place ∷ places) = ap₂ (λ (status : Option BlockStatus) (rest : List (Option BlockStatus)). status ∷ rest) (settled-status place) (settled-seen places)

-- a block that is settled doesn't wait, and another time nothing changes
settled-calm : (place : Place) → waits (settled place) ≡ false
settled-calm Clean = refl
settled-calm Changed = refl
settled-calm Invalidated = refl
settled-calm Again = refl

settled-twice : (place : Place) → settled (settled place) ≡ settled place
settled-twice Clean = refl
settled-twice Changed = refl
settled-twice Invalidated = refl
settled-twice Again = refl

settled-stays : (b : Bool) (place : Place) → waits place ≡ b → (b ≡ true → false ≡ true) → settled place ≡ place
settled-stays b Clean e never = refl
settled-stays b Changed e never = refl
settled-stays b Invalidated e never = absurd (true≢false (sym (never (sym e))))
settled-stays b Again e never = absurd (true≢false (sym (never (sym e))))

-- where no block waits nothing is to be settled
settled-none : (places : List Place) → ((block : ℕ) → waits (place_in places block) ≡ true → false ≡ true) → map settled places ≡ places
settled-none [] never = refl
settled-none (place ∷ places) never =
    ap₂ (λ (first : Place) (rest : List Place). first ∷ rest) (settled-stays (waits place) place refl (never 0)) (settled-none places (λ block. never (suc block)))

-- a block that was set and waits, waits by what was set
set-waits : (places : List Place) (block : ℕ) (place : Place) → waits (place_in (set places block place) block) ≡ true → waits place ≡ true
set-waits [] block place e = absurd (true≢false (sym e))
set-waits (first ∷ places) zero place e = e
set-waits (first ∷ places) (suc block) place e = set-waits places block place e

-- another block that waits did so before
other-waits : (places : List Place) (block other : ℕ) (place : Place) → other ≢ block → waits (place_in (set places block place) other) ≡ true → waits (place_in places other) ≡ true
other-waits places block other place apart e = sym (ap waits (get_or-set_other places block other place Clean apart)) ∙ e

-- a number that is listed, and isn't the first, is listed behind it
listed-behind : (first : ℕ) (others : List ℕ) (block : ℕ) → block ≢ first → is_listed (first ∷ others) block ≡ true → is_listed others block ≡ true
listed-behind first others block apart e = elim (or_cases (first == block) (is_listed others block) e) [
  | inl here ↦ absurd (apart (sym (eqb-true first block here)))
  | inr there ↦ there
]

-- behind the first that is settled the blocks that wait are listed among the others
still-listed : (first : ℕ) (others : List ℕ) (places : List Place) → ((block : ℕ) → waits (place_in places block) ≡ true → is_listed (first ∷ others) block ≡ true) → (block : ℕ) → waits (place_in (set places first (settled (place_in places first))) block) ≡ true → is_listed others block ≡ true
still-listed first others places listed block e = elim (cases_eq block first) [
  | inl same ↦ absurd (true≢false (sym (set-waits places first (settled (place_in places first)) (subst (λ (k : ℕ). waits (place_in (set places first (settled (place_in places first))) k) ≡ true) same e)) ∙ settled-calm (place_in places first)))
  | inr apart ↦ listed-behind first others block apart (listed block (other-waits places first block (settled (place_in places first)) apart e))
]

-- where each block that waits is listed, settling those that are listed settles all
pub settled-listed : (waiting : List ℕ) (places : List Place) → ((block : ℕ) → waits (place_in places block) ≡ true → is_listed waiting block ≡ true) → settled_at waiting places ≡ map settled places
settled-listed [] places listed = sym (settled-none places listed)
settled-listed (first ∷ others) places listed =
    settled-listed others (set places first (settled (place_in places first))) (still-listed first others places listed)
    ∙ map-set_same settled places first (settled (place_in places first)) Clean (settled-twice (place_in places first))

-- no block that is settled waits
settled-waits : (places : List Place) (block : ℕ) → waits (place_in (map settled places) block) ≡ false
settled-waits [] block = refl
settled-waits (place ∷ places) zero = settled-calm place
settled-waits (place ∷ places) (suc block) = settled-waits places block

-- behind a synchronizing event nothing is listed, and no block waits
pub settled-right : (places then : List Place) (waiting read after : List ℕ) → AreListed places waiting → read ≡ waiting → then ≡ settled_at read places → after ≡ [] → AreListed then after
settled-right places then waiting read after sound same e none =
    let all : then ≡ map settled places = e ∙ ap (λ (numbers : List ℕ). settled_at numbers places) same ∙ settled-listed waiting places sound.listed in
    subst (λ (numbers : List ℕ). AreListed then numbers) (sym none) (subst (λ (those : List Place). AreListed those []) (sym all) (record {
      size = length-map places settled ∙ sound.size;
      within = All-nil (λ (block : ℕ). block < block_count);
      listed = λ block waited. absurd (true≢false (sym waited ∙ settled-waits places block));
    }))

-- a synchronizing event cleans the blocks that are listed, and so all
pub synced-seen : (places then : List Place) (waiting read : List ℕ) → AreListed places waiting → read ≡ waiting → then ≡ settled_at read places → map status_at then ≡ map cleaned (map status_at places)
synced-seen places then waiting read sound same e =
    ap (map status_at) (e ∙ ap (λ (numbers : List ℕ). settled_at numbers places) same ∙ settled-listed waiting places sound.listed)
    ∙ settled-seen places

-- a number at the end of a list is listed, and so are those before it
listed-before : (waiting : List ℕ) (last block : ℕ) → is_listed waiting block ≡ true → is_listed (waiting ++ last ∷ []) block ≡ true
listed-before [] last block e = absurd (true≢false (sym e))
listed-before (first ∷ others) last block e = elim (or_cases (first == block) (is_listed others block) e) [
  | inl here ↦ or_left (first == block) (is_listed (others ++ last ∷ []) block) here
  | inr there ↦ or_right (first == block) (is_listed (others ++ last ∷ []) block) (listed-before others last block there)
]

listed-last : (waiting : List ℕ) (last block : ℕ) → block ≡ last → is_listed (waiting ++ last ∷ []) block ≡ true
listed-last [] last block e = or_left (last == block) false (eq-eqb last block (sym e))
listed-last (first ∷ others) last block e = or_right (first == block) (is_listed (others ++ last ∷ []) block) (listed-last others last block e)

-- what was listed still is
listed-kept : (place : Place) (last : ℕ) (waiting : List ℕ) (block : ℕ) → is_listed waiting block ≡ true → is_listed (listed_by place last waiting) block ≡ true
listed-kept Clean last waiting block e = e
listed-kept Changed last waiting block e = listed-before waiting last block e
listed-kept Invalidated last waiting block e = e
listed-kept Again last waiting block e = e

-- the block of which the copy is given up is listed, if it waits
listed-given_up : (place : Place) (last : ℕ) (waiting : List ℕ) → (waits place ≡ true → is_listed waiting last ≡ true) → waits (given_up place) ≡ true → is_listed (listed_by place last waiting) last ≡ true
listed-given_up Clean last waiting listed e = absurd (true≢false (sym e))
listed-given_up Changed last waiting listed e = listed-last waiting last last refl
listed-given_up Invalidated last waiting listed e = listed refl
listed-given_up Again last waiting listed e = listed refl

-- the numbers that are listed stay below the number of blocks
within-given_up : (place : Place) (last : ℕ) (waiting : List ℕ) → last < block_count → All (λ block. block < block_count) waiting → All (λ block. block < block_count) (listed_by place last waiting)
within-given_up Clean last waiting below within = within
within-given_up Changed last waiting below within = All-push (λ (block : ℕ). block < block_count) waiting last within below
within-given_up Invalidated last waiting below within = within
within-given_up Again last waiting below within = within

-- the list stays right where the copy of a block is given up
pub given_up-listed : (places : List Place) (waiting after : List ℕ) (block : ℕ) (place then : Place) → AreListed places waiting → block < block_count → place ≡ place_in places block → then ≡ given_up place → after ≡ listed_by place block waiting → AreListed (set places block then) after
given_up-listed places waiting after block place then sound below is e grown =
    subst (λ (numbers : List ℕ). AreListed (set places block then) numbers) (sym grown) (record {
      size = length-set places block then ∙ sound.size;
      within = within-given_up place block waiting below sound.within;
      listed = λ other waited. elim (cases_eq other block) [
        | inl same ↦
            let here : waits then ≡ true = set-waits places block then (subst (λ (k : ℕ). waits (place_in (set places block then) k) ≡ true) same waited) in
            subst (λ (k : ℕ). is_listed (listed_by place block waiting) k ≡ true) (sym same) (listed-given_up place block waiting (λ waiting_yet. sound.listed block (sym (ap waits is) ∙ waiting_yet)) (sym (ap waits e) ∙ here))
        | inr apart ↦ listed-kept place block waiting other (sound.listed other (other-waits places block other then apart waited))
      ];
    })

-- one more block of a stretch is changed
pub changed-more : (k n first : ℕ) (blocks then : List (Option BlockStatus)) → suc k ≡ n → then ≡ set blocks first (Some ChangedBlock) → changed_from k (first + 1) then ≡ changed_from n first blocks
changed-more k n first blocks then e changed =
    ap (changed_from k (first + 1)) changed ∙ ap (λ (m : ℕ). changed_from m first blocks) e
