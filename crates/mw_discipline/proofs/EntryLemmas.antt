-- How translations are found and kept in a list that stands in their order.
use Rattle.std.proofs.Common.{◌≡◌, ℕ, zero, suc, ◌+◌, ◌<◌, ◌≤◌, ◌==◌, ◌^◌, Bool, true, false, not, ◌&&◌, ◌||◌, cond, nat_lt, List, [], ◌∷◌, ◌++◌, length, map, take, drop, set, get_or, Option, Some, None, IfSome, Result, Ok, Err, refl, sym, ap, ◌∙◌, subst, arith, le_refl}
use Rattle.std.specs.List.{AllByRecursion, filter, find, insert}
use Rattle.std.specs.List.Sorted.{IsBinarySearchResult, IsNonDecreasingBy, IsPartitionedBy, IsPartitionPoint, IsStrictlySortedBy}
use Rattle.std.specs.Ordering.{nat_cmp, ordering_index, ordering_reverse, ordering_then}
use Rattle.std.specs.declared.cmp.Ordering.{Ordering}
use Rattle.std.specs.declared.cmp.Ordering.TheVariants.{Less, Equal, Greater}
use Rattle.std.proofs.lemmas.Bool.Decides.{nat_tests}
use Rattle.std.proofs.lemmas.Bool.{ltb-false, ltb-true, true≢false}
use Rattle.std.proofs.lemmas.Map.Keys.{Less-from_sorted}
use Rattle.mw_bits.specs.declared.scope.Scope.{Scope}
use Rattle.mw_bits.specs.declared.scope.Scope.TheVariants.{Nothing}
use Rattle.mw_isa.specs.declared.access.Kind.{Kind}
use Rattle.mw_isa.specs.declared.pages.StorageFault.{StorageFault}
use Rattle.mw_isa.specs.declared.walk.KeptEntry.{KeptEntry}
use Rattle.mw_isa.specs.declared.walk.Translated.{Translated}
use Rattle.mw_isa.specs.Entries.{AreOrdered, is_elsewhere, is_for, is_stale, left_by, lets, order_of, put_by, stays, with_entry}
use Rattle.mw_isa.proofs.EntryLaws.{all-with, left-ordered, order-total, stays-ordered, with_entry-ordered}
use Rattle.mw_discipline.specs.Inside.{AreKept, is_before}

-- ---- one more

-- an order the other way round
flipped : (a b : KeptEntry) (order : Ordering) → order_of a b ≡ order → order_of b a ≡ ordering_reverse order
flipped a b order e = order-total.antisymm b a ∙ ap ordering_reverse e

-- one that ties with a later one stands behind the first
behind-first : (first entry later : KeptEntry) → order_of first later ≡ Less → order_of later entry ≡ Equal → order_of entry first ≡ Greater
behind-first first entry later before ties = sym (order-total.congr later entry first ties) ∙ flipped first later Less before

-- one that is in the list is put in the place where it is found
pub put-found : (place : ℕ) (entries : List KeptEntry) (entry : KeptEntry) → AreOrdered entries → place < length entries → ((d : KeptEntry) → order_of (get_or entries place d) entry ≡ Equal) → set entries place entry ≡ with_entry entry entries
unfolding IsStrictlySortedBy
put-found place [] entry all within found = absurd (omega arith)
put-found zero (first ∷ others) entry all within found =
    sym (ap (λ (order : Ordering). put_by order entry first others (with_entry entry others)) (flipped first entry Equal (found first)))
put-found (suc place) (first ∷ others) entry all within found =
    let before = Less-from_sorted order_of (first ∷ others) zero (suc place) first all (omega arith) within in
    let order = behind-first first entry (get_or others place first) before (found first) in
    ap (λ (rest : List KeptEntry). first ∷ rest) (put-found place others entry all.1 (omega arith) found)
    ∙ sym (ap (λ (order : Ordering). put_by order entry first others (with_entry entry others)) order)

-- one that isn't is put between those before it and those behind it
pub put-between : (place : ℕ) (entries : List KeptEntry) (entry : KeptEntry) → place ≤ length entries → IsPartitionPoint (λ kept. order_of kept entry ≡ Less) (λ kept. order_of kept entry ≡ Greater) entries place → insert entries place entry ≡ with_entry entry entries
put-between zero [] entry within parted = refl
put-between (suc place) [] entry within parted = absurd (omega arith)
put-between zero (first ∷ others) entry within parted =
    sym (ap (λ (order : Ordering). put_by order entry first others (with_entry entry others)) (flipped first entry Greater (parted.1 zero first (omega arith) (omega arith))))
put-between (suc place) (first ∷ others) entry within parted =
    ap (λ (rest : List KeptEntry). first ∷ rest) (put-between place others entry (omega arith) (λ k d low high. parted.0 (suc k) d (omega arith) (omega arith), λ k d low high. parted.1 (suc k) d (omega arith) (omega arith)))
    ∙ sym (ap (λ (order : Ordering). put_by order entry first others (with_entry entry others)) (flipped first entry Less (parted.0 zero first (omega arith) (omega arith))))

ap-le : (a : Ordering) → a ≡ Less → ordering_index a ≤ 0
ap-le Less e = omega arith
ap-le Equal e = cc
ap-le Greater e = cc

ap-low : (a : Ordering) → a ≡ Less → ordering_index a ≤ 1
ap-low Less e = omega arith
ap-low Equal e = cc
ap-low Greater e = cc

index-le : (a b : Ordering) → (b ≡ Less → a ≡ Less) → (b ≡ Equal → a ≡ Less) → ordering_index a ≤ ordering_index b
index-le a Less less equal = ap-le a (less refl)
index-le a Equal less equal = ap-low a (equal refl)
index-le Less Greater less equal = omega arith
index-le Equal Greater less equal = omega arith
index-le Greater Greater less equal = omega arith

ap-index : (entries : List KeptEntry) (entry : KeptEntry) (i j : ℕ) (d : KeptEntry) → i ≡ j → ordering_index (order_of (get_or entries i d) entry) ≤ ordering_index (order_of (get_or entries j d) entry)
ap-index entries entry i j d e = subst (λ (k : ℕ). ordering_index (order_of (get_or entries i d) entry) ≤ ordering_index (order_of (get_or entries k d) entry)) e (le_refl (ordering_index (order_of (get_or entries i d) entry)))

rise-by : (b : Bool) (entries : List KeptEntry) (entry : KeptEntry) → AreOrdered entries → (i j : ℕ) (d : KeptEntry) → nat_lt i j ≡ b → i ≤ j → j < length entries → ordering_index (order_of (get_or entries i d) entry) ≤ ordering_index (order_of (get_or entries j d) entry)
rise-by true entries entry all i j d e upto within =
    let before = Less-from_sorted order_of entries i j d all (ltb-true i j e) within in
    let one = get_or entries i d in
    let other = get_or entries j d in
    index-le (order_of one entry) (order_of other entry) (order-total.trans one other entry before)
    (λ ties. flipped entry one Greater (behind-first one entry other before ties))
rise-by false entries entry all i j d e upto within =
    let back = ltb-false i j e in
    let same : i ≡ j = omega arith in
    ap-index entries entry i j d same

-- the answers of a search rise
pub answers-rise : (entries : List KeptEntry) (entry : KeptEntry) → AreOrdered entries → IsNonDecreasingBy (λ kept. ordering_index (order_of kept entry)) entries
answers-rise entries entry all i j d upto within = rise-by (nat_lt i j) entries entry all i j d refl upto within

-- one that a search found is put in its place
pub put-ok : (items seen : List KeptEntry) (place : ℕ) (entry : KeptEntry) → AreOrdered items → seen ≡ items → place < length seen → IsBinarySearchResult (λ kept. order_of kept entry) seen (Ok place) → set items place entry ≡ with_entry entry items
put-ok items seen place entry all same within found =
    put-found place items entry all (subst (λ (xs : List KeptEntry). place < length xs) same within) (λ d. sym (ap (λ (xs : List KeptEntry). order_of (get_or xs place d) entry) same) ∙ found d)

if-ok : (is : Bool) (items behind others : List KeptEntry) → is ≡ true → behind ≡ cond is items others → behind ≡ items
if-ok true items behind others e put = put
if-ok false items behind others e put = cc

-- and one that it didn't find where it would stand
pub put-err : (items seen behind : List KeptEntry) (place : ℕ) (entry : KeptEntry) (is : Bool) → AreOrdered items → seen ≡ items → place ≤ length seen → IsBinarySearchResult (λ kept. order_of kept entry) seen (Err place) → is ≡ true → behind ≡ cond is (insert items place entry) items → behind ≡ with_entry entry items
put-err items seen behind place entry is all same within missed ok put =
    if-ok is (insert items place entry) behind items ok put
    ∙ put-between place items entry (subst (λ (xs : List KeptEntry). place ≤ length xs) same within)
    (subst (λ (xs : List KeptEntry). IsPartitionPoint (λ kept. order_of kept entry ≡ Less) (λ kept. order_of kept entry ≡ Greater) xs place) same
    (missed (subst (λ (xs : List KeptEntry). IsNonDecreasingBy (λ kept. ordering_index (order_of kept entry)) xs) (sym same) (answers-rise items entry all))))

-- ---- those of a page

-- of two in their order, the process and the page of the first aren't behind those of the other
then-le : (p q g h : ℕ) (rest : Ordering) → ordering_then (nat_cmp p q) (ordering_then (nat_cmp g h) rest) ≡ Less → (p ≤ q) × (p ≡ q → g ≤ h)
then-le p q g h rest e = (grind (arith, nat_tests), λ same. grind (arith, nat_tests))

-- what isn't before a page is behind it where it isn't of it, and so is what is behind that
later-by : (p q g h pid page : ℕ) → p ≤ q → (p ≡ q → g ≤ h) → (nat_lt p pid || p == pid && nat_lt g page) ≡ false → (p == pid && g == page) ≡ false → ((nat_lt q pid || q == pid && nat_lt h page) ≡ false) × ((q == pid && h == page) ≡ false)
later-by p q g h pid page le then before here = (grind (arith, nat_tests), grind (arith, nat_tests))

later-before : (p q g h pid page : ℕ) → p ≤ q → (p ≡ q → g ≤ h) → (nat_lt p pid || p == pid && nat_lt g page) ≡ false → (nat_lt q pid || q == pid && nat_lt h page) ≡ false
later-before p q g h pid page le then before = grind (arith, nat_tests)

-- what stands before a page isn't of it
before-apart : (p g pid page : ℕ) → (nat_lt p pid || p == pid && nat_lt g page) ≡ true → (p == pid && g == page) ≡ false
before-apart p g pid page before = grind (arith, nat_tests)

-- what is behind one that is behind a page is none of that page
all-beyond : (first : KeptEntry) (others : List KeptEntry) (pid page : ℕ) → is_before pid page first ≡ false → is_for pid page first ≡ false → AllByRecursion (λ other. order_of first other ≡ Less) others → AllByRecursion (λ other. is_for pid page other ≡ false) others
all-beyond first [] pid page before here all = tt
all-beyond first (other ∷ others) pid page before here all =
    let le = then-le first.pid other.pid first.page other.page _ all.0 in
    ((later-by first.pid other.pid first.page other.page pid page le.0 le.1 before here).1, all-beyond first others pid page before here all.1)

none-for : (entries : List KeptEntry) (now : Result Translated StorageFault) (kind : Kind) (problem : Bool) (pid page : ℕ) → AllByRecursion (λ entry. is_for pid page entry ≡ false) entries → find (is_stale now kind problem pid page) entries ≡ None
none-for [] now kind problem pid page all = refl
none-for (first ∷ others) now kind problem pid page all =
    ap (λ (b : Bool). cond (b && lets kind problem first && is_elsewhere now first) (Some first) (find (is_stale now kind problem pid page) others)) all.0
    ∙ none-for others now kind problem pid page all.1

-- behind the first one that isn't of a page none is stale
pub past-page : (first : KeptEntry) (others : List KeptEntry) (now : Result Translated StorageFault) (kind : Kind) (problem : Bool) (pid page : ℕ) → AreOrdered (first ∷ others) → is_before pid page first ≡ false → is_for pid page first ≡ false → find (is_stale now kind problem pid page) (first ∷ others) ≡ None
unfolding IsStrictlySortedBy
past-page first others now kind problem pid page all before here =
    none-for (first ∷ others) now kind problem pid page (here, all-beyond first others pid page before here all.0)

-- ---- from a place on

-- where the one at a place is behind a page, none from there on is stale
pub past-at : (place : ℕ) (entries : List KeptEntry) (now : Result Translated StorageFault) (kind : Kind) (problem : Bool) (pid page : ℕ) (d : KeptEntry) → AreOrdered entries → place < length entries → is_before pid page (get_or entries place d) ≡ false → is_for pid page (get_or entries place d) ≡ false → find (is_stale now kind problem pid page) (drop place entries) ≡ None
unfolding IsStrictlySortedBy
past-at place [] now kind problem pid page d all within before here = absurd (omega arith)
past-at zero (first ∷ others) now kind problem pid page d all within before here = past-page first others now kind problem pid page all before here
past-at (suc place) (first ∷ others) now kind problem pid page d all within before here = past-at place others now kind problem pid page d all.1 (omega arith) before here

-- where the one at a place is stale, it is the first from there on
pub found-at : (place : ℕ) (entries : List KeptEntry) (now : Result Translated StorageFault) (kind : Kind) (problem : Bool) (pid page : ℕ) (d : KeptEntry) → place < length entries → is_stale now kind problem pid page (get_or entries place d) ≡ true → find (is_stale now kind problem pid page) (drop place entries) ≡ Some (get_or entries place d)
found-at place [] now kind problem pid page d within here = absurd (omega arith)
found-at zero (first ∷ others) now kind problem pid page d within here = ap (λ (b : Bool). cond b (Some first) (find (is_stale now kind problem pid page) others)) here
found-at (suc place) (first ∷ others) now kind problem pid page d within here = found-at place others now kind problem pid page d (omega arith) here

-- and where it isn't, the first is behind it
pub next-at : (place : ℕ) (entries : List KeptEntry) (now : Result Translated StorageFault) (kind : Kind) (problem : Bool) (pid page : ℕ) (d : KeptEntry) → place < length entries → is_stale now kind problem pid page (get_or entries place d) ≡ false → find (is_stale now kind problem pid page) (drop (suc place) entries) ≡ find (is_stale now kind problem pid page) (drop place entries)
next-at place [] now kind problem pid page d within here = absurd (omega arith)
next-at zero (first ∷ others) now kind problem pid page d within here = sym (ap (λ (b : Bool). cond b (Some first) (find (is_stale now kind problem pid page) others)) here)
next-at (suc place) (first ∷ others) now kind problem pid page d within here = next-at place others now kind problem pid page d (omega arith) here

-- behind the last there is none
pub end-at : (place : ℕ) (entries : List KeptEntry) (now : Result Translated StorageFault) (kind : Kind) (problem : Bool) (pid page : ℕ) → length entries ≤ place → find (is_stale now kind problem pid page) (drop place entries) ≡ None
end-at zero [] now kind problem pid page past = refl
end-at (suc place) [] now kind problem pid page past = refl
end-at zero (first ∷ others) now kind problem pid page past = absurd (omega arith)
end-at (suc place) (first ∷ others) now kind problem pid page past = end-at place others now kind problem pid page (omega arith)

-- the same of a list as it is seen, from one that was read there
module _ (seen items : List KeptEntry) (now : Result Translated StorageFault) (kind : Kind) (problem : Bool) (pid page place : ℕ) (one : KeptEntry) (same : items ≡ seen) (there : one ≡ get_or items place one) (within : place < length items) (left : find (is_stale now kind problem pid page) (drop place seen) ≡ find (is_stale now kind problem pid page) seen) where
  from-here : find (is_stale now kind problem pid page) (drop place items) ≡ find (is_stale now kind problem pid page) seen
  from-here = ap (λ (xs : List KeptEntry). find (is_stale now kind problem pid page) (drop place xs)) same ∙ left

  -- none is stale where it is behind the page
  pub seen-past : AreOrdered items → is_before pid page (get_or seen place one) ≡ false → is_for pid page one ≡ false → None ≡ find (is_stale now kind problem pid page) seen
  seen-past all before here =
      sym (past-at place items now kind problem pid page one all within (ap (λ (xs : List KeptEntry). is_before pid page (get_or xs place one)) same ∙ before) (sym (ap (is_for pid page) there) ∙ here))
      ∙ from-here

  -- it is the first where it is stale
  pub seen-found : is_stale now kind problem pid page one ≡ true → Some one ≡ find (is_stale now kind problem pid page) seen
  seen-found here =
      ap Some there ∙ sym (found-at place items now kind problem pid page one within (sym (ap (is_stale now kind problem pid page) there) ∙ here))
      ∙ from-here

  -- and else the first is behind it
  pub seen-next : is_stale now kind problem pid page one ≡ false → find (is_stale now kind problem pid page) (drop (place + 1) seen) ≡ find (is_stale now kind problem pid page) seen
  seen-next here =
      let next : place + 1 ≡ suc place = omega arith in
      ap (λ (n : ℕ). find (is_stale now kind problem pid page) (drop n seen)) next
      ∙ ap (λ (xs : List KeptEntry). find (is_stale now kind problem pid page) (drop (suc place) xs)) (sym same)
      ∙ next-at place items now kind problem pid page one within (sym (ap (is_stale now kind problem pid page) there) ∙ here)
      ∙ from-here

-- none before a page is stale
pub skipped : (place : ℕ) (entries : List KeptEntry) (now : Result Translated StorageFault) (kind : Kind) (problem : Bool) (pid page : ℕ) → place ≤ length entries → ((k : ℕ) (d : KeptEntry) → 0 ≤ k → k < place → is_before pid page (get_or entries k d) ≡ true) → find (is_stale now kind problem pid page) (drop place entries) ≡ find (is_stale now kind problem pid page) entries
skipped zero entries now kind problem pid page within before = refl
skipped (suc place) [] now kind problem pid page within before = refl
skipped (suc place) (first ∷ others) now kind problem pid page within before =
    let apart : is_for pid page first ≡ false = before-apart first.pid first.page pid page (before zero first (omega arith) (omega arith)) in
    skipped place others now kind problem pid page (omega arith) (λ k d low high. before (suc k) d (omega arith) (omega arith))
    ∙ sym (ap (λ (b : Bool). cond (b && lets kind problem first && is_elsewhere now first) (Some first) (find (is_stale now kind problem pid page) others)) apart)

first-by : (less here : Bool) (entries : List KeptEntry) (pid page : ℕ) → AreOrdered entries → (i j : ℕ) (d : KeptEntry) → nat_lt i j ≡ less → is_before pid page (get_or entries i d) ≡ here → i ≤ j → j < length entries → is_before pid page (get_or entries j d) ≡ true → here ≡ true
first-by true true entries pid page all i j d e is upto within before = refl
first-by true false entries pid page all i j d e is upto within before =
    let one = get_or entries i d in
    let other = get_or entries j d in
    let le = then-le one.pid other.pid one.page other.page _ (Less-from_sorted order_of entries i j d all (ltb-true i j e) within) in
    absurd (true≢false (sym before ∙ later-before one.pid other.pid one.page other.page pid page le.0 le.1 is))
first-by false here entries pid page all i j d e is upto within before =
    let back = ltb-false i j e in
    let same : i ≡ j = omega arith in
    sym is ∙ ap (λ (k : ℕ). is_before pid page (get_or entries k d)) same ∙ before

-- those before a page come first
pub before-first : (entries : List KeptEntry) (pid page : ℕ) → AreOrdered entries → IsPartitionedBy (is_before pid page) entries
before-first entries pid page all i j d upto within before = first-by (nat_lt i j) (is_before pid page (get_or entries i d)) entries pid page all i j d refl refl upto within before

-- ---- invalidations, and synchronizing events

-- those before a place are changed, and then the one there is
pub changed-next : (f : KeptEntry → KeptEntry) (place : ℕ) (entries items : List KeptEntry) (d y : KeptEntry) → items ≡ take place (map f entries) ++ drop place entries → place < length entries → y ≡ f (get_or items place d) → set items place y ≡ take (suc place) (map f entries) ++ drop (suc place) entries
changed-next f place [] items d y e within is = absurd (omega arith)
changed-next f zero (first ∷ others) items d y e within is =
    ap (λ (xs : List KeptEntry). set xs 0 y) e ∙ ap (λ (x : KeptEntry). x ∷ others) (is ∙ ap (λ (xs : List KeptEntry). f (get_or xs 0 d)) e)
changed-next f (suc place) (first ∷ others) items d y e within is =
    ap (λ (xs : List KeptEntry). set xs (suc place) y) e
    ∙ ap (λ (rest : List KeptEntry). f first ∷ rest) (changed-next f place others (take place (map f others) ++ drop place others) d y refl (omega arith) (is ∙ ap (λ (xs : List KeptEntry). f (get_or xs (suc place) d)) e))

-- an invalidation that reaches none leaves all as they are
pub none-left : (entries : List KeptEntry) → entries ≡ map (left_by Nothing) entries
none-left [] = refl
none-left (first ∷ others) = ap (λ (rest : List KeptEntry). first ∷ rest) (none-left others)

-- where none is leaving, a synchronizing event leaves all
pub none-gone : (entries : List KeptEntry) → AllByRecursion (λ entry. entry.leaving ≡ false) entries → entries ≡ filter stays entries
none-gone [] all = refl
none-gone (first ∷ others) all =
    ap (λ (rest : List KeptEntry). first ∷ rest) (none-gone others all.1)
    ∙ sym (ap (λ (b : Bool). cond (not b) (first ∷ filter stays others) (filter stays others)) all.0)

-- ---- what is kept stays well kept

all-low : (P : KeptEntry → Type 0) (scope : Scope) (entries : List KeptEntry) → ((entry : KeptEntry) → P entry → P (left_by scope entry)) → AllByRecursion P entries → AllByRecursion P (map (left_by scope) entries)
all-low P scope [] goes all = tt
all-low P scope (first ∷ others) goes all = (goes first all.0, all-low P scope others goes all.1)

filter-if : (b : Bool) (P : KeptEntry → Type 0) (first : KeptEntry) (others : List KeptEntry) → P first → AllByRecursion P others → AllByRecursion P (cond b (first ∷ others) others)
filter-if true P first others one all = (one, all)
filter-if false P first others one all = all

all-filter : (P : KeptEntry → Type 0) (entries : List KeptEntry) → AllByRecursion P entries → AllByRecursion P (filter stays entries)
all-filter P [] all = tt
all-filter P (first ∷ others) all = filter-if (stays first) P first (filter stays others) all.0 (all-filter P others all.1)

still-if : (b : Bool) (first : KeptEntry) (others : List KeptEntry) → first.leaving ≡ b → AllByRecursion (λ entry. entry.leaving ≡ false) others → AllByRecursion (λ entry. entry.leaving ≡ false) (cond (not b) (first ∷ others) others)
still-if true first others e all = all
still-if false first others e all = (e, all)

all-still : (entries : List KeptEntry) → AllByRecursion (λ entry. entry.leaving ≡ false) (filter stays entries)
all-still [] = tt
all-still (first ∷ others) = still-if first.leaving first (filter stays others) refl (all-still others)

-- with one more
pub kept-put : (entries behind : List KeptEntry) (leaving : Bool) (entry : KeptEntry) → AreKept entries leaving → entry.real < 2 ^ 52 → entry.leaving ≡ false → behind ≡ with_entry entry entries → AreKept behind leaving
kept-put entries behind leaving entry kept low new e =
    subst (λ (items : List KeptEntry). AreKept items leaving) (sym e)
    (record {
      ordered = with_entry-ordered entry entries kept.ordered;
      low = all-with (λ it. it.real < 2 ^ 52) entry entries low kept.low;
      still = λ none. all-with (λ it. it.leaving ≡ false) entry entries new (kept.still none);
    })

-- behind an invalidation
pub kept-left : (entries behind : List KeptEntry) (leaving : Bool) (scope : Scope) → AreKept entries leaving → behind ≡ map (left_by scope) entries → AreKept behind true
kept-left entries behind leaving scope kept e =
    subst (λ (items : List KeptEntry). AreKept items true) (sym e)
    (record {
      ordered = left-ordered scope entries kept.ordered;
      low = all-low (λ it. it.real < 2 ^ 52) scope entries (λ it low. low) kept.low;
      still = λ none. absurd (true≢false none);
    })

-- behind a synchronizing event
pub kept-synced : (entries behind : List KeptEntry) (leaving : Bool) → AreKept entries leaving → behind ≡ filter stays entries → AreKept behind false
kept-synced entries behind leaving kept e =
    subst (λ (items : List KeptEntry). AreKept items false) (sym e)
    (record {
      ordered = stays-ordered entries kept.ordered;
      low = all-filter (λ it. it.real < 2 ^ 52) entries kept.low;
      still = λ none. all-still entries;
    })

-- none is well kept
pub kept-none : (entries : List KeptEntry) → entries ≡ [] → AreKept entries false
unfolding IsStrictlySortedBy
kept-none entries e = subst (λ (items : List KeptEntry). AreKept items false) (sym e) (record { ordered = tt; low = tt; still = λ none. tt })

low-if : (b : Bool) (first : KeptEntry) (rest : Option KeptEntry) → first.real < 2 ^ 52 → IfSome rest (λ entry. entry.real < 2 ^ 52) → IfSome (cond b (Some first) rest) (λ entry. entry.real < 2 ^ 52)
low-if true first rest one later = one
low-if false first rest one later = later

-- what is found is one of them, at a real page
pub stale-low : (entries : List KeptEntry) (now : Result Translated StorageFault) (kind : Kind) (problem : Bool) (pid page : ℕ) → AllByRecursion (λ entry. entry.real < 2 ^ 52) entries → IfSome (find (is_stale now kind problem pid page) entries) (λ entry. entry.real < 2 ^ 52)
stale-low [] now kind problem pid page all = tt
stale-low (first ∷ others) now kind problem pid page all = low-if (is_stale now kind problem pid page first) first (find (is_stale now kind problem pid page) others) all.0 (stale-low others now kind problem pid page all.1)
