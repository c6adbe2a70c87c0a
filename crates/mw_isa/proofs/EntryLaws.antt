-- What holds of the translations that the update discipline keeps: their order, which of them are there and which stay
-- behind each step, and what an access that breaks no discipline tells of them.
use Rattle.std.specs.Prelude.{⊤}
use Rattle.std.proofs.Common.{◌≡◌, ℕ, ◌+◌, ◌*◌, ◌/◌, ◌<◌, ◌≤◌, ◌==◌, Bool, true, false, not, ◌||◌, ◌&&◌, cond, List, [], ◌∷◌, ◌++◌, map, get_or, Option, Some, None, Result, Ok, Err, is_ok, nat_lt, option_map, refl, sym, ap, ◌∙◌, subst, arith}
use Rattle.std.specs.Int.{from_bool}
use Rattle.std.specs.Cmp.{IsTotalOrder}
use Rattle.std.specs.Cmp.Lexicographic.{slice_cmp}
use Rattle.std.specs.List.{AllByRecursion, filter, find, list_any}
use Rattle.std.specs.List.Sorted.{IsStrictlySortedBy}
use Rattle.std.specs.Option.{option_map_or, option_or}
use Rattle.std.specs.Ordering.{is_eq, nat_cmp, ordering_reverse}
use Rattle.std.specs.declared.cmp.Ordering.{Ordering}
use Rattle.std.specs.declared.cmp.Ordering.TheVariants.{Less, Equal, Greater}
use Rattle.std.proofs.lemmas.Bool.{and_left, and_parts, and_from, eqb-true, or_parts, or_from, or_left, or_right, true≢false}
use Rattle.std.proofs.lemmas.Cmp.{nat_list_cmp_total, on_total, tied_itself}
use Rattle.std.proofs.lemmas.List.Kept.{IsStrictlySortedBy-filter}
use Rattle.std.proofs.lemmas.Map.Lookups.{exact_bytes}
use Rattle.mw_bits.specs.declared.rights.Rights.{Rights}
use Rattle.mw_bits.specs.declared.scope.Scope.{Scope}
use Rattle.mw_bits.specs.Scopes.{is_in_scope}
use Rattle.mw_bus.specs.Memory.{ram_size}
use Rattle.mw_isa.specs.declared.access.Deed.{Deed}
use Rattle.mw_isa.specs.declared.access.Deed.TheVariants.{Plain, Store as StoreDeed, Icbi, Tlbie, Sync, NewTable}
use Rattle.mw_isa.specs.declared.access.Kind.{Kind}
use Rattle.mw_isa.specs.declared.access.Kind.TheVariants.{Fetch as Fetches, Load as Loads, Store as Stores}
use Rattle.mw_isa.specs.declared.access.Touch.{Touch}
use Rattle.mw_isa.specs.declared.offence.Access.{Access}
use Rattle.mw_isa.specs.declared.offence.BlockStatus.{BlockStatus}
use Rattle.mw_isa.specs.declared.offence.Why.{Why}
use Rattle.mw_isa.specs.declared.packet.Packet.{Packet}
use Rattle.mw_isa.specs.declared.pages.StorageFault.{StorageFault}
use Rattle.mw_isa.specs.declared.regs.Regs.{Regs}
use Rattle.mw_isa.specs.declared.walk.KeptEntry.{KeptEntry}
use Rattle.mw_isa.specs.declared.walk.Translated.{Translated}
use Rattle.mw_isa.specs.Discipline.{Kept, access_by, accesses_of, block_rule, block_why, deed_kept, entry_in, first_by, first_of, offends, page_rule, status_of, synced, used_by, used_kept, why_by, with_some, with_used}
use Rattle.mw_isa.specs.Entries.{AreOrdered, is_elsewhere, is_for, is_known, is_ready, is_stale, is_staying, key_of, left_by, lets, order_of, page_rule_in, page_why, put_by, rights_number, stays, with_entry}
use Rattle.mw_isa.specs.Msr.{pr_place}
use Rattle.mw_isa.specs.Pages.{page_size}
use Rattle.mw_isa.specs.Statuses.{Watched, behind_event, behind_events, invalidates, is_sync, is_tlbie_of, uses_page}
use Rattle.mw_isa.specs.Translate.{is_translated, permits, quadrant_of, translate_of}
use Rattle.mw_isa.specs.Xer.{has_bit}

-- ---- the order

-- the order is total
pub order-total : IsTotalOrder order_of
order-total = on_total key_of nat_list_cmp_total

-- one that stands behind another has that before it
order-before : (entry first : KeptEntry) → order_of entry first ≡ Greater → order_of first entry ≡ Less
order-before entry first e = order-total.antisymm first entry ∙ ap ordering_reverse e

-- what is behind one that is before another is behind that other
all-after : (entry first : KeptEntry) (others : List KeptEntry) → order_of entry first ≡ Less → AllByRecursion (λ other. order_of first other ≡ Less) others → AllByRecursion (λ other. order_of entry other ≡ Less) others
all-after entry first [] e all = tt
all-after entry first (other ∷ others) e all = (order-total.trans entry first other e all.0, all-after entry first others e all.1)

-- what is behind one is behind the same one
all-same : (entry first : KeptEntry) (others : List KeptEntry) → order_of entry first ≡ Equal → AllByRecursion (λ other. order_of first other ≡ Less) others → AllByRecursion (λ other. order_of entry other ≡ Less) others
all-same entry first [] e all = tt
all-same entry first (other ∷ others) e all = (order-total.congr entry first other e ∙ all.0, all-same entry first others e all.1)

-- what holds of one more and of all holds of all with it
all-put : (P : KeptEntry → Type 0) (order : Ordering) (entry first : KeptEntry) (others behind : List KeptEntry) → P entry → P first → AllByRecursion P others → AllByRecursion P behind → AllByRecursion P (put_by order entry first others behind)
all-put P Less entry first others behind one here all more = (one, (here, all))
all-put P Equal entry first others behind one here all more = (one, all)
all-put P Greater entry first others behind one here all more = (here, more)

-- and what holds of one more and of all holds of all, it being put in its place
pub all-with : (P : KeptEntry → Type 0) (entry : KeptEntry) (entries : List KeptEntry) → P entry → AllByRecursion P entries → AllByRecursion P (with_entry entry entries)
all-with P entry [] one all = (one, tt)
all-with P entry (first ∷ others) one all = all-put P (order_of entry first) entry first others (with_entry entry others) one all.0 all.1 (all-with P entry others one all.1)

put-ordered : (order : Ordering) (entry first : KeptEntry) (others : List KeptEntry) → order_of entry first ≡ order → AreOrdered (first ∷ others) → AreOrdered (with_entry entry others) → AreOrdered (put_by order entry first others (with_entry entry others))
unfolding IsStrictlySortedBy
put-ordered Less entry first others e all more = ((e, all-after entry first others e all.0), all)
put-ordered Equal entry first others e all more = (all-same entry first others e all.0, all.1)
put-ordered Greater entry first others e all more = (all-with (λ other. order_of first other ≡ Less) entry others (order-before entry first e) all.0, more)

-- one more translation stands in its place
pub with_entry-ordered : (entry : KeptEntry) (entries : List KeptEntry) → AreOrdered entries → AreOrdered (with_entry entry entries)
unfolding IsStrictlySortedBy
with_entry-ordered entry [] all = (tt, tt)
with_entry-ordered entry (first ∷ others) all = put-ordered (order_of entry first) entry first others refl all (with_entry-ordered entry others all.1)

all-left : (scope : Scope) (first : KeptEntry) (others : List KeptEntry) → AllByRecursion (λ other. order_of first other ≡ Less) others → AllByRecursion (λ other. order_of (left_by scope first) other ≡ Less) (map (left_by scope) others)
all-left scope first [] all = tt
all-left scope first (other ∷ others) all = (all.0, all-left scope first others all.1)

-- an invalidation leaves their order
pub left-ordered : (scope : Scope) (entries : List KeptEntry) → AreOrdered entries → AreOrdered (map (left_by scope) entries)
unfolding IsStrictlySortedBy
left-ordered scope [] all = tt
left-ordered scope (first ∷ others) all = (all-left scope first others all.0, left-ordered scope others all.1)

-- and so does a synchronizing event
pub stays-ordered : (entries : List KeptEntry) → AreOrdered entries → AreOrdered (filter stays entries)
stays-ordered entries all = IsStrictlySortedBy-filter order_of stays entries all

some-ordered : (entry : Option KeptEntry) (entries : List KeptEntry) → AreOrdered entries → AreOrdered (with_some entry entries)
some-ordered None entries all = all
some-ordered (Some entry) entries all = with_entry-ordered entry entries all

used-ordered : (ram : List ℕ) (regs : Regs) (touches : List Touch) (entries : List KeptEntry) → AreOrdered entries → AreOrdered (with_used ram regs touches entries)
used-ordered ram regs [] entries all = all
used-ordered ram regs (touch ∷ touches) entries all =
    let entry = entry_in (translate_of ram regs touch.kind touch.ea) in
    used-ordered ram regs touches (with_some entry entries) (some-ordered entry entries all)

deed-ordered : (deed : Deed) (kept : Kept) → AreOrdered kept.entries → AreOrdered (deed_kept deed kept).entries
unfolding IsStrictlySortedBy
deed-ordered Plain kept all = all
deed-ordered (StoreDeed spans) kept all = all
deed-ordered (Icbi block) kept all = all
deed-ordered (Tlbie scope) kept all = left-ordered scope kept.entries all
deed-ordered Sync kept all = all
deed-ordered NewTable kept all = tt

synced-ordered : (b : Bool) (kept : Kept) → AreOrdered kept.entries → AreOrdered (cond b (synced kept) kept).entries
synced-ordered true kept all = stays-ordered kept.entries all
synced-ordered false kept all = all

-- an event leaves the translations each once, and in their order
pub event-ordered : (kept : Kept) (event : Option Watched) → AreOrdered kept.entries → AreOrdered (behind_event kept event).entries
event-ordered kept None all = stays-ordered kept.entries all
event-ordered kept (Some it) all =
    let used = used_kept it.ram it.regs it.packet kept in
    synced-ordered (is_sync (Some it)) (deed_kept it.packet.deed used) (deed-ordered it.packet.deed used (used-ordered it.ram it.regs (used_by it.packet) kept.entries all))

-- ---- which are there, and which stay

any-by : (here there rest : Bool) → (here ≡ true → there ≡ true) → (here || rest) ≡ true → (there || rest) ≡ true
any-by true there rest same any = or_left there rest (same refl)
any-by false there rest same any = or_right there rest any

any-more : (here rest more : Bool) → (rest ≡ true → more ≡ true) → (here || rest) ≡ true → (here || more) ≡ true
any-more true rest more grows any = refl
any-more false rest more grows any = grows any

-- a test that finds something among some finds something among these and one more, if it finds the same one that this replaces
any-put : (order : Ordering) (test : KeptEntry → Bool) (entry first : KeptEntry) (others behind : List KeptEntry) → (order ≡ Equal → test first ≡ true → test entry ≡ true) → (list_any test others ≡ true → list_any test behind ≡ true) → list_any test (first ∷ others) ≡ true → list_any test (put_by order entry first others behind) ≡ true
any-put Less test entry first others behind same more any = or_right (test entry) (list_any test (first ∷ others)) any
any-put Equal test entry first others behind same more any = any-by (test first) (test entry) (list_any test others) (same refl) any
any-put Greater test entry first others behind same more any = any-more (test first) (list_any test others) (list_any test behind) more any

any-with : (test : KeptEntry → Bool) (entry : KeptEntry) (entries : List KeptEntry) → ((first : KeptEntry) → order_of entry first ≡ Equal → test first ≡ true → test entry ≡ true) → list_any test entries ≡ true → list_any test (with_entry entry entries) ≡ true
any-with test entry [] same any = absurd (true≢false (sym any))
any-with test entry (first ∷ others) same any =
    any-put (order_of entry first) test entry first others (with_entry entry others) (same first) (any-with test entry others same) any

put-added : (order : Ordering) (test : KeptEntry → Bool) (entry first : KeptEntry) (others behind : List KeptEntry) → test entry ≡ true → list_any test behind ≡ true → list_any test (put_by order entry first others behind) ≡ true
put-added Less test entry first others behind is more = or_left (test entry) (list_any test (first ∷ others)) is
put-added Equal test entry first others behind is more = or_left (test entry) (list_any test others) is
put-added Greater test entry first others behind is more = or_right (test first) (list_any test behind) more

any-added : (test : KeptEntry → Bool) (entry : KeptEntry) (entries : List KeptEntry) → test entry ≡ true → list_any test (with_entry entry entries) ≡ true
any-added test entry [] is = or_left (test entry) false is
any-added test entry (first ∷ others) is = put-added (order_of entry first) test entry first others (with_entry entry others) is (any-added test entry others is)

put-none : (order : Ordering) (test : KeptEntry → Bool) (entry first : KeptEntry) (others behind : List KeptEntry) → test entry ≡ false → list_any test (first ∷ others) ≡ false → list_any test behind ≡ false → list_any test (put_by order entry first others behind) ≡ false
put-none Less test entry first others behind isnt none more = or_from (test entry) (list_any test (first ∷ others)) isnt none
put-none Equal test entry first others behind isnt none more = or_from (test entry) (list_any test others) isnt (or_parts (test first) (list_any test others) none).1
put-none Greater test entry first others behind isnt none more = or_from (test first) (list_any test behind) (or_parts (test first) (list_any test others) none).0 more

none-with : (test : KeptEntry → Bool) (entry : KeptEntry) (entries : List KeptEntry) → test entry ≡ false → list_any test entries ≡ false → list_any test (with_entry entry entries) ≡ false
none-with test entry [] isnt none = or_from (test entry) false isnt refl
none-with test entry (first ∷ others) isnt none =
    put-none (order_of entry first) test entry first others (with_entry entry others) isnt none
    (none-with test entry others isnt (or_parts (test first) (list_any test others) none).1)

eq-true : (order : Ordering) → is_eq order ≡ true → order ≡ Equal
eq-true Less e = cc
eq-true Equal e = refl
eq-true Greater e = cc

-- one that is the same as a second is the same as each that is the same as that
same-on : (other first entry : KeptEntry) → order_of entry first ≡ Equal → is_eq (order_of other first) ≡ true → is_eq (order_of other entry) ≡ true
same-on other first entry e is =
    let back : order_of first entry ≡ Equal = order-total.antisymm first entry ∙ ap ordering_reverse e in
    ap is_eq (order-total.congr other first entry (eq-true (order_of other first) is) ∙ back)

both-on : (is leaving : Bool) (later : Bool) → (is ≡ true → later ≡ true) → (is && not leaving) ≡ true → (later && not false) ≡ true
both-on true leaving later goes e = and_from later true (goes refl) refl
both-on false leaving later goes e = cc

-- a translation that is kept is kept with one more
pub known-kept : (other entry : KeptEntry) (entries : List KeptEntry) → is_known other entries ≡ true → is_known other (with_entry entry entries) ≡ true
known-kept other entry entries = any-with (λ kept. is_eq (order_of other kept)) entry entries (λ first. same-on other first entry)

-- and one that stays stays, with one more that isn't leaving
pub staying-kept : (other entry : KeptEntry) (entries : List KeptEntry) → entry.leaving ≡ false → is_staying other entries ≡ true → is_staying other (with_entry entry entries) ≡ true
staying-kept other entry entries new =
    any-with (λ kept. is_eq (order_of other kept) && not kept.leaving) entry entries
    (λ first e is. ap (λ (leaving : Bool). is_eq (order_of other entry) && not leaving) new ∙ both-on (is_eq (order_of other first)) first.leaving (is_eq (order_of other entry)) (same-on other first entry e) is)

-- one that is added stays, whether or not it was leaving
pub staying-added : (entry : KeptEntry) (entries : List KeptEntry) → entry.leaving ≡ false → is_staying entry (with_entry entry entries) ≡ true
staying-added entry entries new =
    any-added (λ kept. is_eq (order_of entry kept) && not kept.leaving) entry entries
    (and_from (is_eq (order_of entry entry)) (not entry.leaving) (ap is_eq (tied_itself order-total entry)) (ap not new))

digit-same : (a b : Bool) → from_bool a ≡ from_bool b → a ≡ b
digit-same true true e = refl
digit-same true false e = cc
digit-same false true e = cc
digit-same false false e = refl

digit-le : (a : Bool) → from_bool a ≤ 1
digit-le true = omega arith
digit-le false = omega arith

-- rights are told by their number
pub rights-same : (a b : Rights) → rights_number a ≡ rights_number b → a ≡ b
rights-same a b e =
    let ac = digit-le a.changed in
    let app = digit-le a.privileged in
    let ar = digit-le a.read in
    let aw = digit-le a.write in
    let ax = digit-le a.execute in
    let bc = digit-le b.changed in
    let bp = digit-le b.privileged in
    let br = digit-le b.read in
    let bw = digit-le b.write in
    let bx = digit-le b.execute in
    let changed : from_bool a.changed ≡ from_bool b.changed = omega arith in
    let privileged : from_bool a.privileged ≡ from_bool b.privileged = omega arith in
    let reads : from_bool a.read ≡ from_bool b.read = omega arith in
    let writes : from_bool a.write ≡ from_bool b.write = omega arith in
    let executes : from_bool a.execute ≡ from_bool b.execute = omega arith in
    ap (λ (x : Bool). record { privileged = x; read = a.read; write = a.write; execute = a.execute; changed = a.changed }) (digit-same a.privileged b.privileged privileged)
    ∙ ap (λ (x : Bool). record { privileged = b.privileged; read = x; write = a.write; execute = a.execute; changed = a.changed }) (digit-same a.read b.read reads)
    ∙ ap (λ (x : Bool). record { privileged = b.privileged; read = b.read; write = x; execute = a.execute; changed = a.changed }) (digit-same a.write b.write writes)
    ∙ ap (λ (x : Bool). record { privileged = b.privileged; read = b.read; write = b.write; execute = x; changed = a.changed }) (digit-same a.execute b.execute executes)
    ∙ ap (λ (x : Bool). record { privileged = b.privileged; read = b.read; write = b.write; execute = b.execute; changed = x }) (digit-same a.changed b.changed changed)

-- what two translations have in common that are the same
pub record AreSame (a b : KeptEntry) : Type 0 where
  pub pid : a.pid ≡ b.pid
  pub page : a.page ≡ b.page
  pub real : a.real ≡ b.real
  pub rights : a.rights ≡ b.rights

pub same-parts : (a b : KeptEntry) → is_eq (order_of a b) ≡ true → AreSame a b
same-parts a b e =
    let keys : key_of a ≡ key_of b = exact_bytes (key_of a) (key_of b) (eq-true (order_of a b) e) in
    record {
      pid = ap (λ (key : List ℕ). get_or key 0 0) keys;
      page = ap (λ (key : List ℕ). get_or key 1 0) keys;
      real = ap (λ (key : List ℕ). get_or key 2 0) keys;
      rights = rights-same a.rights b.rights (ap (λ (key : List ℕ). get_or key 3 0) keys);
    }

-- an invalidation leaves every translation known
pub known-left : (other : KeptEntry) (scope : Scope) (entries : List KeptEntry) → is_known other (map (left_by scope) entries) ≡ is_known other entries
known-left other scope [] = refl
known-left other scope (first ∷ others) = ap (λ (rest : Bool). is_eq (order_of other first) || rest) (known-left other scope others)

left-by : (is : Bool) (other first : KeptEntry) (scope : Scope) → is_eq (order_of other first) ≡ is → is_in_scope scope other.pid other.page ≡ false → (is && not (is_in_scope scope first.pid first.page || first.leaving)) ≡ (is && not first.leaving)
left-by true other first scope e outside =
    let same = same-parts other first e in
    let apart : is_in_scope scope first.pid first.page ≡ false =
    sym (ap (λ (pid : ℕ). is_in_scope scope pid other.page) same.pid ∙ ap (λ (page : ℕ). is_in_scope scope first.pid page) same.page) ∙ outside in
    ap (λ (b : Bool). not (b || first.leaving)) apart
left-by false other first scope e outside = refl

-- and those outside its scope stay
pub staying-left : (other : KeptEntry) (scope : Scope) (entries : List KeptEntry) → is_in_scope scope other.pid other.page ≡ false → is_staying other (map (left_by scope) entries) ≡ is_staying other entries
staying-left other scope [] outside = refl
staying-left other scope (first ∷ others) outside =
    ap (λ (here : Bool). here || is_staying other (map (left_by scope) others)) (left-by (is_eq (order_of other first)) other first scope refl outside)
    ∙ ap (λ (rest : Bool). (is_eq (order_of other first) && not first.leaving) || rest) (staying-left other scope others outside)

stays-by : (leaving is : Bool) (other first : KeptEntry) (others : List KeptEntry) → first.leaving ≡ leaving → is_eq (order_of other first) ≡ is → is_staying other (cond (not leaving) (first ∷ others) others) ≡ ((is && not leaving) || is_staying other others)
stays-by true true other first others e same = refl
stays-by true false other first others e same = refl
stays-by false is other first others e same =
    ap (λ (leaving : Bool). (is_eq (order_of other first) && not leaving) || is_staying other others) e
    ∙ ap (λ (b : Bool). (b && true) || is_staying other others) same

-- a synchronizing event leaves what stays
pub staying-synced : (other : KeptEntry) (entries : List KeptEntry) → is_staying other (filter stays entries) ≡ is_staying other entries
staying-synced other [] = refl
staying-synced other (first ∷ others) =
    stays-by first.leaving (is_eq (order_of other first)) other first (filter stays others) refl refl
    ∙ ap (λ (rest : Bool). (is_eq (order_of other first) && not first.leaving) || rest) (staying-synced other others)

-- a write of the table of translations leaves none
pub known-table : (other : KeptEntry) (kept : Kept) → is_known other (deed_kept NewTable kept).entries ≡ false
known-table other kept = refl

-- ---- what an invalidation and a synchronizing event remove

-- a translation of a page for a process that isn't leaving
abbrev stays_for : ℕ → ℕ → KeptEntry → Bool
stays_for pid page entry = is_for pid page entry && not entry.leaving

marks-by : (is : Bool) (scope : Scope) (pid page : ℕ) (first : KeptEntry) → is_for pid page first ≡ is → is_in_scope scope pid page ≡ true → (is && not (is_in_scope scope first.pid first.page || first.leaving)) ≡ false
marks-by true scope pid page first e within =
    let parts = and_parts (first.pid == pid) (first.page == page) e in
    let inside : is_in_scope scope first.pid first.page ≡ true =
    ap (λ (p : ℕ). is_in_scope scope p first.page) (eqb-true first.pid pid parts.0) ∙ ap (λ (p : ℕ). is_in_scope scope pid p) (eqb-true first.page page parts.1) ∙ within in
    ap (λ (b : Bool). not (b || first.leaving)) inside
marks-by false scope pid page first e within = refl

left-marks : (scope : Scope) (pid page : ℕ) (entries : List KeptEntry) → is_in_scope scope pid page ≡ true → list_any (stays_for pid page) (map (left_by scope) entries) ≡ false
left-marks scope pid page [] within = refl
left-marks scope pid page (first ∷ others) within =
    or_from (stays_for pid page (left_by scope first)) (list_any (stays_for pid page) (map (left_by scope) others))
    (marks-by (is_for pid page first) scope pid page first refl within) (left-marks scope pid page others within)

leaving-more : (is inside leaving : Bool) → (is && not leaving) ≡ false → (is && not (inside || leaving)) ≡ false
leaving-more true true leaving e = refl
leaving-more true false leaving e = e
leaving-more false inside leaving e = refl

left-none : (scope : Scope) (pid page : ℕ) (entries : List KeptEntry) → list_any (stays_for pid page) entries ≡ false → list_any (stays_for pid page) (map (left_by scope) entries) ≡ false
left-none scope pid page [] none = refl
left-none scope pid page (first ∷ others) none =
    let parts = or_parts (stays_for pid page first) (list_any (stays_for pid page) others) none in
    or_from (stays_for pid page (left_by scope first)) (list_any (stays_for pid page) (map (left_by scope) others))
    (leaving-more (is_for pid page first) (is_in_scope scope first.pid first.page) first.leaving parts.0) (left-none scope pid page others parts.1)

and_whole : (a : Bool) → (a && true) ≡ false → a ≡ false
and_whole true e = cc
and_whole false e = refl

filter-by : (leaving : Bool) (pid page : ℕ) (first : KeptEntry) (others : List KeptEntry) → first.leaving ≡ leaving → (is_for pid page first && not leaving) ≡ false → list_any (is_for pid page) others ≡ false → list_any (is_for pid page) (cond (not leaving) (first ∷ others) others) ≡ false
filter-by true pid page first others e isnt none = none
filter-by false pid page first others e isnt none = or_from (is_for pid page first) (list_any (is_for pid page) others) (and_whole (is_for pid page first) isnt) none

-- behind a synchronizing event there is none of a page of which none stayed
filter-none : (pid page : ℕ) (entries : List KeptEntry) → list_any (stays_for pid page) entries ≡ false → list_any (is_for pid page) (filter stays entries) ≡ false
filter-none pid page [] none = refl
filter-none pid page (first ∷ others) none =
    let parts = or_parts (stays_for pid page first) (list_any (stays_for pid page) others) none in
    filter-by first.leaving pid page first (filter stays others) refl parts.0 (filter-none pid page others parts.1)

none-stays : (pid page : ℕ) (entries : List KeptEntry) → list_any (is_for pid page) entries ≡ false → list_any (stays_for pid page) entries ≡ false
none-stays pid page [] none = refl
none-stays pid page (first ∷ others) none =
    let parts = or_parts (is_for pid page first) (list_any (is_for pid page) others) none in
    or_from (stays_for pid page first) (list_any (stays_for pid page) others) (and_left (is_for pid page first) (not first.leaving) parts.0) (none-stays pid page others parts.1)

-- the translations of a page behind accesses of other pages
some-none : (entry : Option KeptEntry) (pid page : ℕ) (entries : List KeptEntry) → option_map_or (is_for pid page) entry false ≡ false → list_any (stays_for pid page) entries ≡ false → list_any (stays_for pid page) (with_some entry entries) ≡ false
some-none None pid page entries isnt none = none
some-none (Some entry) pid page entries isnt none =
    none-with (stays_for pid page) entry entries (and_left (is_for pid page entry) (not entry.leaving) isnt) none

used-none : (ram : List ℕ) (regs : Regs) (touches : List Touch) (pid page : ℕ) (entries : List KeptEntry) → list_any (λ touch. option_map_or (is_for pid page) (entry_in (translate_of ram regs touch.kind touch.ea)) false) touches ≡ false → list_any (stays_for pid page) entries ≡ false → list_any (stays_for pid page) (with_used ram regs touches entries) ≡ false
used-none ram regs [] pid page entries isnt none = none
used-none ram regs (touch ∷ touches) pid page entries isnt none =
    let entry = entry_in (translate_of ram regs touch.kind touch.ea) in
    let parts = or_parts (option_map_or (is_for pid page) entry false) (list_any (λ touch. option_map_or (is_for pid page) (entry_in (translate_of ram regs touch.kind touch.ea)) false) touches) isnt in
    used-none ram regs touches pid page (with_some entry entries) parts.1 (some-none entry pid page entries parts.0 none)

deed-none : (deed : Deed) (pid page : ℕ) (kept : Kept) → list_any (stays_for pid page) kept.entries ≡ false → list_any (stays_for pid page) (deed_kept deed kept).entries ≡ false
deed-none Plain pid page kept none = none
deed-none (StoreDeed spans) pid page kept none = none
deed-none (Icbi block) pid page kept none = none
deed-none (Tlbie scope) pid page kept none = left-none scope pid page kept.entries none
deed-none Sync pid page kept none = none
deed-none NewTable pid page kept none = refl

deed-marks : (deed : Deed) (pid page : ℕ) (kept : Kept) → invalidates pid page deed ≡ true → list_any (stays_for pid page) (deed_kept deed kept).entries ≡ false
deed-marks Plain pid page kept e = cc
deed-marks (StoreDeed spans) pid page kept e = cc
deed-marks (Icbi block) pid page kept e = cc
deed-marks (Tlbie scope) pid page kept e = left-marks scope pid page kept.entries e
deed-marks Sync pid page kept e = cc
deed-marks NewTable pid page kept e = cc

synced-none : (b : Bool) (pid page : ℕ) (kept : Kept) → list_any (stays_for pid page) kept.entries ≡ false → list_any (stays_for pid page) (cond b (synced kept) kept).entries ≡ false
synced-none true pid page kept none = none-stays pid page (filter stays kept.entries) (filter-none pid page kept.entries none)
synced-none false pid page kept none = none

-- an event that doesn't use a page of which no translation stays leaves none that stays
event-none : (event : Option Watched) (pid page : ℕ) (kept : Kept) → uses_page pid page event ≡ false → list_any (stays_for pid page) kept.entries ≡ false → list_any (stays_for pid page) (behind_event kept event).entries ≡ false
event-none None pid page kept isnt none = synced-none true pid page kept none
event-none (Some it) pid page kept isnt none =
    let used = used_kept it.ram it.regs it.packet kept in
    synced-none (is_sync (Some it)) pid page (deed_kept it.packet.deed used) (deed-none it.packet.deed pid page used (used-none it.ram it.regs (used_by it.packet) pid page kept.entries isnt none))

events-none : (events : List (Option Watched)) (pid page : ℕ) (kept : Kept) → list_any (uses_page pid page) events ≡ false → list_any (stays_for pid page) kept.entries ≡ false → list_any (stays_for pid page) (behind_events kept events).entries ≡ false
events-none [] pid page kept isnt none = none
events-none (event ∷ events) pid page kept isnt none =
    let parts = or_parts (uses_page pid page event) (list_any (uses_page pid page) events) isnt in
    events-none events pid page (behind_event kept event) parts.1 (event-none event pid page kept parts.0 none)

-- an event that invalidates the translations of a page leaves none that stays
tlbie-none : (event : Option Watched) (pid page : ℕ) (kept : Kept) → is_tlbie_of pid page event ≡ true → list_any (stays_for pid page) (behind_event kept event).entries ≡ false
tlbie-none None pid page kept e = cc
tlbie-none (Some it) pid page kept e =
    let used = used_kept it.ram it.regs it.packet kept in
    synced-none (is_sync (Some it)) pid page (deed_kept it.packet.deed used) (deed-marks it.packet.deed pid page used e)

sync-none : (event : Option Watched) (pid page : ℕ) (kept : Kept) → is_sync event ≡ true → uses_page pid page event ≡ false → list_any (stays_for pid page) kept.entries ≡ false → list_any (is_for pid page) (behind_event kept event).entries ≡ false
sync-none None pid page kept syncs isnt none = filter-none pid page kept.entries none
sync-none (Some it) pid page kept syncs isnt none =
    let used = used_kept it.ram it.regs it.packet kept in
    let done = deed_kept it.packet.deed used in
    ap (λ (b : Bool). list_any (is_for pid page) (cond b (synced done) done).entries) syncs
    ∙ filter-none pid page done.entries (deed-none it.packet.deed pid page used (used-none it.ram it.regs (used_by it.packet) pid page kept.entries isnt none))

events-join : (kept : Kept) (events others : List (Option Watched)) → behind_events kept (events ++ others) ≡ behind_events (behind_events kept events) others
events-join kept [] others = refl
events-join kept (event ∷ events) others = events-join (behind_event kept event) events others

-- behind a tlbie that reaches a page and a synchronizing event, with no access of that page from the one to the other, no
-- translation of it is kept, whatever was before
pub tlbie-removes : (kept : Kept) (between : List (Option Watched)) (tlbie sync : Option Watched) (pid page : ℕ) → is_tlbie_of pid page tlbie ≡ true → list_any (uses_page pid page) between ≡ false → is_sync sync ≡ true → uses_page pid page sync ≡ false → list_any (is_for pid page) (behind_events kept (tlbie ∷ between ++ sync ∷ [])).entries ≡ false
tlbie-removes kept between tlbie sync pid page reaches apart syncs isnt =
    let marked = behind_event kept tlbie in
    let behind = behind_events marked between in
    ap (λ (k : Kept). list_any (is_for pid page) k.entries) (events-join marked between (sync ∷ []))
    ∙ sync-none sync pid page behind syncs isnt (events-none between pid page marked apart (tlbie-none tlbie pid page kept reaches))

-- ---- what an access that breaks no discipline tells

same-elsewhere : (a b : KeptEntry) (now : Result Translated StorageFault) → a.real ≡ b.real → is_elsewhere now a ≡ is_elsewhere now b
same-elsewhere a b (Ok there) e = ap (λ (real : ℕ). not (there.real / page_size == real)) e
same-elsewhere a b (Err fault) e = refl

-- a translation that is kept, whether it is leaving or not, is stale where the same one is
same-stale : (a b : KeptEntry) (now : Result Translated StorageFault) (kind : Kind) (problem : Bool) (pid page : ℕ) → AreSame a b → is_stale now kind problem pid page a ≡ is_stale now kind problem pid page b
same-stale a b now kind problem pid page same =
    ap (λ (p : ℕ). (p == pid && a.page == page) && lets kind problem a && is_elsewhere now a) same.pid
    ∙ ap (λ (g : ℕ). (b.pid == pid && g == page) && lets kind problem a && is_elsewhere now a) same.page
    ∙ ap (λ (rights : Rights). is_for pid page b && (permits rights kind problem && is_ready kind rights) && is_elsewhere now a) same.rights
    ∙ ap (λ (c : Bool). is_for pid page b && lets kind problem b && c) (same-elsewhere a b now same.real)

found-none : (here : Bool) (entry : KeptEntry) (rest : Option KeptEntry) → cond here (Some entry) rest ≡ None → (here ≡ false) × (rest ≡ None)
found-none true entry rest e = cc
found-none false entry rest e = (refl, e)

calm-by : (is : Bool) (entry first : KeptEntry) (now : Result Translated StorageFault) (kind : Kind) (problem : Bool) (pid page : ℕ) (rest : Bool) → is_eq (order_of entry first) ≡ is → is_stale now kind problem pid page first ≡ false → (rest ≡ true → is_stale now kind problem pid page entry ≡ false) → (is || rest) ≡ true → is_stale now kind problem pid page entry ≡ false
calm-by true entry first now kind problem pid page rest e calm later known = same-stale entry first now kind problem pid page (same-parts entry first e) ∙ calm
calm-by false entry first now kind problem pid page rest e calm later known = later known

-- where none is stale, one that is known isn't
known-calm : (entry : KeptEntry) (entries : List KeptEntry) (now : Result Translated StorageFault) (kind : Kind) (problem : Bool) (pid page : ℕ) → find (is_stale now kind problem pid page) entries ≡ None → is_known entry entries ≡ true → is_stale now kind problem pid page entry ≡ false
known-calm entry [] now kind problem pid page none known = absurd (true≢false (sym known))
known-calm entry (first ∷ others) now kind problem pid page none known =
    let parts = found-none (is_stale now kind problem pid page first) first (find (is_stale now kind problem pid page) others) none in
    calm-by (is_eq (order_of entry first)) entry first now kind problem pid page (is_known entry others) refl parts.0 (known-calm entry others now kind problem pid page parts.1) known

both-true : (a b c : Bool) → a ≡ true → b ≡ true → (a && b && c) ≡ false → c ≡ false
both-true true true c e f none = none
both-true false b c e f none = cc
both-true true false c e f none = cc

-- a translation whose page comes to its real page
abbrev pub IsThere : Result Translated StorageFault → KeptEntry → Type 0
IsThere (Ok there) entry = there.real / page_size ≡ entry.real
IsThere (Err fault) entry = ⊥

not-false : (b : Bool) → not b ≡ false → b ≡ true
not-false true e = refl
not-false false e = cc

there-by : (now : Result Translated StorageFault) (entry : KeptEntry) → is_elsewhere now entry ≡ false → IsThere now entry
there-by (Ok there) entry e = eqb-true (there.real / page_size) entry.real (not-false (there.real / page_size == entry.real) e)
there-by (Err fault) entry e = cc

rule-none : (why : KeptEntry → Why) (found : Option KeptEntry) → option_map why found ≡ None → found ≡ None
rule-none why None e = refl
rule-none why (Some entry) e = cc

-- where an access breaks no discipline of translations, one that is known for its process and page and permits it has the
-- real page that the access comes to
pub calm-page : (kept : Kept) (regs : Regs) (touch : Touch) (now : Result Translated StorageFault) (pid : ℕ) (entry : KeptEntry) → is_translated touch.kind regs.msr ≡ true → quadrant_of regs.pidr touch.ea ≡ Ok pid → page_rule kept regs touch now ≡ None → is_known entry kept.entries ≡ true → is_for pid (touch.ea / page_size) entry ≡ true → lets touch.kind (has_bit regs.msr pr_place) entry ≡ true → IsThere now entry
calm-page kept regs touch now pid entry on process calm known is allowed =
    let rule : page_rule_in kept.entries now touch.kind (has_bit regs.msr pr_place) touch.ea (Ok pid) ≡ None =
    sym (ap (λ (b : Bool). cond b (page_rule_in kept.entries now touch.kind (has_bit regs.msr pr_place) touch.ea (quadrant_of regs.pidr touch.ea)) None) on
    ∙ ap (page_rule_in kept.entries now touch.kind (has_bit regs.msr pr_place) touch.ea) process) ∙ calm in
    let none = rule-none (page_why touch.kind now) (find (is_stale now touch.kind (has_bit regs.msr pr_place) pid (touch.ea / page_size)) kept.entries) rule in
    let fresh = known-calm entry kept.entries now touch.kind (has_bit regs.msr pr_place) pid (touch.ea / page_size) none known in
    there-by now entry (both-true (is_for pid (touch.ea / page_size) entry) (lets touch.kind (has_bit regs.msr pr_place) entry) (is_elsewhere now entry) is allowed fresh)

-- an access that isn't translated breaks no discipline of translations
pub off-calm : (kept : Kept) (regs : Regs) (touch : Touch) (now : Result Translated StorageFault) → is_translated touch.kind regs.msr ≡ false → page_rule kept regs touch now ≡ None
off-calm kept regs touch now off =
    ap (λ (b : Bool). cond b (page_rule_in kept.entries now touch.kind (has_bit regs.msr pr_place) touch.ea (quadrant_of regs.pidr touch.ea)) None) off

none-found : (entries : List KeptEntry) (now : Result Translated StorageFault) (kind : Kind) (problem : Bool) (pid page : ℕ) → list_any (is_for pid page) entries ≡ false → find (is_stale now kind problem pid page) entries ≡ None
none-found [] now kind problem pid page none = refl
none-found (first ∷ others) now kind problem pid page none =
    let parts = or_parts (is_for pid page first) (list_any (is_for pid page) others) none in
    ap (λ (b : Bool). cond (b && lets kind problem first && is_elsewhere now first) (Some first) (find (is_stale now kind problem pid page) others)) parts.0
    ∙ none-found others now kind problem pid page parts.1

rule-calm : (on : Bool) (kept : Kept) (now : Result Translated StorageFault) (kind : Kind) (problem : Bool) (ea : ℕ) (process : Result ℕ StorageFault) → ((pid : ℕ) → process ≡ Ok pid → list_any (is_for pid (ea / page_size)) kept.entries ≡ false) → cond on (page_rule_in kept.entries now kind problem ea process) None ≡ None
rule-calm true kept now kind problem ea (Ok pid) none = ap (option_map (page_why kind now)) (none-found kept.entries now kind problem pid (ea / page_size) (none pid refl))
rule-calm true kept now kind problem ea (Err fault) none = refl
rule-calm false kept now kind problem ea process none = refl

-- nor does one of a page of which no translation is kept, whatever the tables say
pub free-calm : (kept : Kept) (regs : Regs) (touch : Touch) (now : Result Translated StorageFault) → ((pid : ℕ) → quadrant_of regs.pidr touch.ea ≡ Ok pid → list_any (is_for pid (touch.ea / page_size)) kept.entries ≡ false) → page_rule kept regs touch now ≡ None
free-calm kept regs touch now none = rule-calm (is_translated touch.kind regs.msr) kept now touch.kind (has_bit regs.msr pr_place) touch.ea (quadrant_of regs.pidr touch.ea) none

-- ---- what a record of nothing tells

no-why : (real : ℕ) (status : Option BlockStatus) → status ≡ None → block_why real status ≡ None
no-why real None e = refl
no-why real (Some status) e = cc

no-block : (inside : Bool) (real : ℕ) (status : Option BlockStatus) → status ≡ None → cond inside (block_why real status) None ≡ None
no-block true real status e = no-why real status e
no-block false real status e = refl

clean-block : (kept : Kept) (kind : Kind) (now : Result Translated StorageFault) → ((block : ℕ) → status_of kept block ≡ None) → block_rule kept kind now ≡ None
clean-block kept Fetches (Ok there) clean = no-block (nat_lt there.real ram_size) there.real (status_of kept (there.real / 64)) (clean (there.real / 64))
clean-block kept Fetches (Err fault) clean = refl
clean-block kept Loads now clean = refl
clean-block kept Stores now clean = refl

first-none : (touch : Touch) (why : Option Why) (now : Result Translated StorageFault) (later : Option Access) → why ≡ None → later ≡ None → first_by (option_map (access_by touch) why) now later ≡ None
first-none touch None (Ok there) later e f = f
first-none touch None (Err fault) later e f = refl
first-none touch (Some why) now later e f = cc

both-none : (a b : Option Why) → a ≡ None → b ≡ None → option_or a b ≡ None
both-none None b e f = f
both-none (Some why) b e f = cc

none-any : (test : KeptEntry → Bool) (entries : List KeptEntry) → list_any (λ entry. true) entries ≡ false → list_any test entries ≡ false
none-any test [] none = refl
none-any test (first ∷ others) none = absurd (true≢false none)

accesses-calm : (kept : Kept) (ram : List ℕ) (regs : Regs) (touches : List Touch) → list_any (λ entry. true) kept.entries ≡ false → ((block : ℕ) → status_of kept block ≡ None) → first_of kept ram regs touches ≡ None
accesses-calm kept ram regs [] none clean = refl
accesses-calm kept ram regs (touch ∷ touches) none clean =
    let now = translate_of ram regs touch.kind touch.ea in
    first-none touch (why_by kept regs touch now) now (first_of kept ram regs touches)
    (both-none (page_rule kept regs touch now) (block_rule kept touch.kind now)
    (free-calm kept regs touch now (λ pid e. none-any (is_for pid (touch.ea / page_size)) kept.entries none)) (clean-block kept touch.kind now clean))
    (accesses-calm kept ram regs touches none clean)

-- where no translation is kept and every block is clean, nothing breaks the discipline
pub nothing-offends : (kept : Kept) (ram : List ℕ) (regs : Regs) (packet : Packet) → kept.entries ≡ [] → ((block : ℕ) → status_of kept block ≡ None) → offends kept ram regs packet ≡ None
nothing-offends kept ram regs packet none clean = accesses-calm kept ram regs (accesses_of packet) (ap (list_any (λ entry. true)) none) clean

-- ---- what an instruction that breaks no discipline tells of its accesses

calm-parts : (touch : Touch) (why : Option Why) (now : Result Translated StorageFault) (later : Option Access) → first_by (option_map (access_by touch) why) now later ≡ None → (why ≡ None) × (is_ok now ≡ true → later ≡ None)
calm-parts touch None (Ok there) later e = (refl, λ is. e)
calm-parts touch None (Err fault) later e = (refl, λ is. absurd (true≢false (sym is)))
calm-parts touch (Some why) now later e = cc

or-none : (a b : Option Why) → option_or a b ≡ None → a ≡ None
or-none None b e = refl
or-none (Some why) b e = cc

-- the first of accesses that break none breaks none, and where it has no fault neither do those behind it
pub first-calm : (kept : Kept) (ram : List ℕ) (regs : Regs) (touch : Touch) (touches : List Touch) → first_of kept ram regs (touch ∷ touches) ≡ None → (why_by kept regs touch (translate_of ram regs touch.kind touch.ea) ≡ None) × (is_ok (translate_of ram regs touch.kind touch.ea) ≡ true → first_of kept ram regs touches ≡ None)
first-calm kept ram regs touch touches e = calm-parts touch (why_by kept regs touch (translate_of ram regs touch.kind touch.ea)) (translate_of ram regs touch.kind touch.ea) (first_of kept ram regs touches) e

-- an access that breaks no discipline breaks none of translations
pub why-calm : (kept : Kept) (regs : Regs) (touch : Touch) (now : Result Translated StorageFault) → why_by kept regs touch now ≡ None → page_rule kept regs touch now ≡ None
why-calm kept regs touch now e = or-none (page_rule kept regs touch now) (block_rule kept touch.kind now) e
