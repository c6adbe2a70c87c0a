-- A search by halves in the index of mnemonics.
use Rattle.std.proofs.Common.{◌≡◌, ℕ, zero, suc, ◌+◌, ◌<◌, length, slice_get, get_or, Bool, true, false, true≢false, not, ◌&&◌, ◌||◌, List, [], ◌∷◌, Option, Some, None, Err, map, refl, sym, ap, ◌∙◌, arith}
use Rattle.std.specs.Prelude.{bytes_eq, nat_lt}
use Rattle.std.specs.List.{list_all}
use Rattle.std.specs.List.Sorted.{IsSortedBy, IsBinarySearchResult, IsPartitionPoint}
use Rattle.std.specs.Ordering.{nat_cmp}
use Rattle.std.specs.Cmp.Lexicographic.{slice_cmp}
use Rattle.std.specs.declared.cmp.Ordering.{Ordering}
use Rattle.std.specs.declared.cmp.Ordering.TheVariants.{Less, Equal, Greater}
use Rattle.std.proofs.lemmas.Bool.{and_parts, not-true, ltb-true, ltb-false}
use Rattle.std.proofs.lemmas.Cmp.{nat_list_cmp_total, tied_itself}
use Rattle.std.proofs.lemmas.List.Sorted.{searchable_from_sorted}
use Rattle.std.proofs.lemmas.Map.Lookups.{exact_bytes}
use Rattle.std.proofs.lemmas.Option.{slice_get-get_or, slice_get_within, get_or_from_slice_get}
use Rattle.std.proofs.lemmas.Slice.Eq.{bytes_eq-Decides}
use Rattle.mw_syntax.specs.declared.mnemonic.Mnemonic.{Mnemonic}
use Rattle.mw_syntax.specs.declared.spelling.Spelled.{Spelled}
use Rattle.mw_syntax.specs.Mnemonics.{Spelling, spellings, mnemonic_of}
use Rattle.mw_syntax.specs.Index.{is_before, is_among, IsIndex}
use Rattle.mw_syntax.proofs.MnemonicLemmas.{list_all-at, same_at, IsSpelling, mnemonic_of-IsSpelling}

-- no entry is before the one in front of it
abbrev pub is_sorted : List Spelled → Bool
is_sorted [] = true
is_sorted (e ∷ []) = true
is_sorted (e ∷ next ∷ es) = not (is_before next e) && is_sorted (next ∷ es)

next_place : (k : ℕ) → suc k + 1 ≡ suc (k + 1)
next_place k = omega arith

pub is_sorted-IsSortedBy : (entries : List Spelled) → is_sorted entries ≡ true → IsSortedBy is_before entries
is_sorted-IsSortedBy [] sorted k d low high = absurd (omega arith)
is_sorted-IsSortedBy (e ∷ []) sorted k d low high = absurd (omega arith)
is_sorted-IsSortedBy (e ∷ next ∷ es) sorted zero d low high = not-true _ (and_parts _ _ sorted).0
is_sorted-IsSortedBy (e ∷ next ∷ es) sorted (suc k) d low high = rw next_place (is_sorted-IsSortedBy (next ∷ es) (and_parts _ _ sorted).1 k d (omega arith) (omega arith))

-- what the three tests say
pub tests-IsIndex : (entries : List Spelled) → is_sorted entries ≡ true → map (λ (entry : Spelled). mnemonic_of entry.name.now) entries ≡ map (λ (entry : Spelled). Some entry.mnemonic) entries → list_all (λ (spelling : Spelling). is_among entries spelling.name) spellings ≡ true → IsIndex entries
tests-IsIndex entries sorted meant whole = record { sorted = is_sorted-IsSortedBy entries sorted; meant = meant; whole = whole }

-- an entry of a name, with its place
record IsEntry (entries : List Spelled) (name : List ℕ) : Type 0 where
  pub place : ℕ
  pub entry : Spelled
  pub there : slice_get entries place ≡ Some entry
  pub named : entry.name.now ≡ name

among_next : (e : Spelled) (es : List Spelled) (name : List ℕ) (first : Bool) → bytes_eq e.name.now name ≡ first → (is_among es name ≡ true → IsEntry es name) → (first || is_among es name) ≡ true → IsEntry (e ∷ es) name
among_next e es name true m later among = record { place = zero; entry = e; there = refl; named = (bytes_eq-Decides e.name.now name).0 m }
among_next e es name false m later among =
    let rest : IsEntry es name = later among in
    record { place = suc rest.place; entry = rest.entry; there = rest.there; named = rest.named }

is_among-IsEntry : (entries : List Spelled) (name : List ℕ) → is_among entries name ≡ true → IsEntry entries name
is_among-IsEntry [] name among = absurd (true≢false (sym among))
is_among-IsEntry (e ∷ es) name among = among_next e es name (bytes_eq e.name.now name) refl (is_among-IsEntry es name) among

-- how an entry's name compares with a name
abbrev pub compared : List ℕ → Spelled → Ordering
compared name entry = slice_cmp nat_cmp entry.name.now name

module _ (entries : List Spelled) (index : IsIndex entries) (name : List ℕ) where
  -- an entry's name means what stands with it
  entry_means : (place : ℕ) (entry : Spelled) → slice_get entries place ≡ Some entry → mnemonic_of entry.name.now ≡ Some entry.mnemonic
  entry_means place entry there = same_at (λ (e : Spelled). mnemonic_of e.name.now) (λ (e : Spelled). Some e.mnemonic) entries index.meant place entry there

  -- a mnemonic's name has an entry
  spelling_entry : (mnemonic : Mnemonic) → IsSpelling name mnemonic → IsEntry entries name
  spelling_entry mnemonic is =
      let entry = is_among-IsEntry entries is.spelling.name (list_all-at (λ (spelling : Spelling). is_among entries spelling.name) spellings is.place is.spelling index.whole is.there) in
      record { place = entry.place; entry = entry.entry; there = entry.there; named = entry.named ∙ is.named }

  -- an equal answer is the entry of the name
  pub found_means : (place : ℕ) (entry : Spelled) → slice_get entries place ≡ Some entry → compared name entry ≡ Equal → Some entry.mnemonic ≡ mnemonic_of name
  found_means place entry there equal = sym (entry_means place entry there) ∙ ap mnemonic_of (exact_bytes entry.name.now name equal)

  -- an entry of the name compares equal
  entry_equal : (entry : Spelled) → entry.name.now ≡ name → compared name entry ≡ Equal
  entry_equal entry named = ap (λ n. slice_cmp nat_cmp n name) named ∙ tied_itself nat_list_cmp_total name

  -- a place that holds an equal answer holds what the name means
  pub searched_found : (place : ℕ) (other : Spelled) → place < length entries → compared name (get_or entries place other) ≡ Equal → Some (get_or entries place other).mnemonic ≡ mnemonic_of name
  searched_found place other within equal = found_means place (get_or entries place other) (slice_get-get_or entries place other within) equal

  -- an entry of the name stands on neither side of a place between the lesser and the greater
  none_beside : (place at : ℕ) (entry : Spelled) (first : Bool) → nat_lt at place ≡ first → slice_get entries at ≡ Some entry → entry.name.now ≡ name → IsPartitionPoint (λ e. compared name e ≡ Less) (λ e. compared name e ≡ Greater) entries place → ⊥
  none_beside place at entry true below there named parted =
      let less : compared name (get_or entries at entry) ≡ Less = parted.0 at entry (omega arith) (ltb-true at place below) in
      let here : get_or entries at entry ≡ entry = get_or_from_slice_get entries at entry entry there in
      let equal = entry_equal entry named in
      cc
  none_beside place at entry false below there named parted =
      let within = slice_get_within entries at entry there in
      let greater : compared name (get_or entries at entry) ≡ Greater = parted.1 at entry (ltb-false at place below) within in
      let here : get_or entries at entry ≡ entry = get_or_from_slice_get entries at entry entry there in
      let equal = entry_equal entry named in
      cc

  none_means : (place : ℕ) (meant : Option Mnemonic) → mnemonic_of name ≡ meant → IsPartitionPoint (λ e. compared name e ≡ Less) (λ e. compared name e ≡ Greater) entries place → None ≡ meant
  none_means place None means parted = refl
  none_means place (Some mnemonic) means parted =
      let found = spelling_entry mnemonic (mnemonic_of-IsSpelling name mnemonic means) in
      absurd (none_beside place found.place found.entry (nat_lt found.place place) refl found.there found.named parted)

  -- where no answer is equal, the name is no mnemonic
  pub searched_none : (place : ℕ) → IsBinarySearchResult (compared name) entries (Err place) → None ≡ mnemonic_of name
  searched_none place parted = none_means place (mnemonic_of name) refl (parted (searchable_from_sorted nat_list_cmp_total (λ (e : Spelled). e.name.now) entries name index.sorted))
