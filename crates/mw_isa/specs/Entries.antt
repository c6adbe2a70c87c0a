-- Translations that may be in use, as the update discipline keeps them (Book III, translation lookaside buffers; that they
-- are kept beside the machine, and in which order, is this board's own).
use Rattle.std.specs.Int.{from_bool}
use Rattle.std.specs.Prelude.{ℕ, ◌+◌, ◌*◌, ◌/◌, ◌==◌, Bool, true, not, ◌&&◌, ◌||◌, List, [], ◌∷◌, Option, Some, None, Result, Ok, Err, map, option_map}
use Rattle.std.specs.Cmp.Lexicographic.{slice_cmp}
use Rattle.std.specs.List.{filter, find, list_any}
use Rattle.std.specs.List.Sorted.{IsStrictlySortedBy}
use Rattle.std.specs.Ordering.{is_eq, nat_cmp, on}
use Rattle.std.specs.declared.cmp.Ordering.{Ordering}
use Rattle.std.specs.declared.cmp.Ordering.TheVariants.{Less, Equal, Greater}
use Rattle.mw_bits.specs.declared.rights.Rights.{Rights}
use Rattle.mw_bits.specs.declared.scope.Scope.{Scope}
use Rattle.mw_bits.specs.Scopes.{is_in_scope}
use Rattle.mw_isa.specs.declared.access.Kind.{Kind}
use Rattle.mw_isa.specs.declared.access.Kind.TheVariants.{Fetch, Load, Store}
use Rattle.mw_isa.specs.declared.offence.Fresh.{Fresh}
use Rattle.mw_isa.specs.declared.offence.Fresh.TheVariants.{Page as FreshPage, Fault as FreshFault}
use Rattle.mw_isa.specs.declared.offence.Why.{Why}
use Rattle.mw_isa.specs.declared.offence.Why.TheVariants.{Page as KeptPage}
use Rattle.mw_isa.specs.declared.pages.StorageFault.{StorageFault}
use Rattle.mw_isa.specs.declared.walk.KeptEntry.{KeptEntry}
use Rattle.mw_isa.specs.declared.walk.Translated.{Translated}
use Rattle.mw_isa.specs.Faults.{fault_raises}
use Rattle.mw_isa.specs.Pages.{page_size}
use Rattle.mw_isa.specs.Translate.{permits}

-- rights as a number, by which they are ordered
abbrev pub rights_number : Rights → ℕ
rights_number rights = 16 * from_bool rights.changed + 8 * from_bool rights.privileged + 4 * from_bool rights.read + 2 * from_bool rights.write + from_bool rights.execute

-- what tells a translation from another, whether it is leaving or not: process, page, real page, rights
abbrev pub key_of : KeptEntry → List ℕ
key_of entry = entry.pid ∷ entry.page ∷ entry.real ∷ rights_number entry.rights ∷ []

-- how a translation stands to another in the order of these numbers
abbrev pub order_of : KeptEntry → KeptEntry → Ordering
order_of = on key_of (slice_cmp nat_cmp)

-- each translation is kept once, and they rise
abbrev pub AreOrdered : List KeptEntry → Type 0
AreOrdered entries = IsStrictlySortedBy order_of entries

-- a translation put before one that is kept, in its place or behind it, by how the two stand
abbrev pub put_by : Ordering → KeptEntry → KeptEntry → List KeptEntry → List KeptEntry → List KeptEntry
put_by Less entry first others behind = entry ∷ first ∷ others
put_by Equal entry first others behind = entry ∷ others
put_by Greater entry first others behind = first ∷ behind

-- the translations that are kept, and one more, or it in place of the same one
abbrev pub with_entry : KeptEntry → List KeptEntry → List KeptEntry
with_entry entry [] = entry ∷ []
with_entry entry (first ∷ others) = put_by (order_of entry first) entry first others (with_entry entry others)

-- a translation is kept
abbrev pub is_known : KeptEntry → List KeptEntry → Bool
is_known entry entries = list_any (λ kept. is_eq (order_of entry kept)) entries

-- a translation is kept, and isn't leaving
abbrev pub is_staying : KeptEntry → List KeptEntry → Bool
is_staying entry entries = list_any (λ kept. is_eq (order_of entry kept) && not kept.leaving) entries

-- a translation behind an invalidation: it is leaving where that reaches it
abbrev pub left_by : Scope → KeptEntry → KeptEntry
left_by scope entry = record entry { leaving = is_in_scope scope entry.pid entry.page || entry.leaving }

-- a translation outlasts a synchronizing event
abbrev pub stays : KeptEntry → Bool
stays entry = not entry.leaving

-- a translation is one of a page, by its number, for a process
abbrev pub is_for : ℕ → ℕ → KeptEntry → Bool
is_for pid page entry = entry.pid == pid && entry.page == page

-- rights are marked for an access of a kind: for a store as changed
abbrev pub is_ready : Kind → Rights → Bool
is_ready Fetch rights = true
is_ready Load rights = true
is_ready Store rights = rights.changed

-- a translation permits an access of a kind, in problem state or not
abbrev pub lets : Kind → Bool → KeptEntry → Bool
lets kind problem entry = permits entry.rights kind problem && is_ready kind entry.rights

-- a translation has another real page than what its page comes to now
abbrev pub is_elsewhere : Result Translated StorageFault → KeptEntry → Bool
is_elsewhere (Ok there) entry = not (there.real / page_size == entry.real)
is_elsewhere (Err fault) entry = true

-- a translation of a page for a process permits an access of a kind and has another real page than that comes to now
abbrev pub is_stale : Result Translated StorageFault → Kind → Bool → ℕ → ℕ → KeptEntry → Bool
is_stale now kind problem pid page entry = is_for pid page entry && lets kind problem entry && is_elsewhere now entry

-- what a page comes to now, for an access of a kind
abbrev pub fresh_by : Kind → Result Translated StorageFault → Fresh
fresh_by kind (Ok there) = FreshPage (there.real / page_size * page_size)
fresh_by kind (Err fault) = FreshFault (fault_raises fault kind 0).vector

-- why an access of a kind breaks the discipline, by the translation that is kept and what its page comes to now
abbrev pub page_why : Kind → Result Translated StorageFault → KeptEntry → Why
page_why kind now entry = KeptPage (entry.real * page_size) (fresh_by kind now)

-- why an access at an effective address for a process breaks the discipline of translations, if it does: the first in their
-- order that permits it and has another page
abbrev pub page_rule_in : List KeptEntry → Result Translated StorageFault → Kind → Bool → ℕ → Result ℕ StorageFault → Option Why
page_rule_in entries now kind problem ea (Ok pid) = option_map (page_why kind now) (find (is_stale now kind problem pid (ea / page_size)) entries)
page_rule_in entries now kind problem ea (Err fault) = None
