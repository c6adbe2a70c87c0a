use Rattle.std.proofs.Common.{rules, ℕ, ◌+◌, ◌≡◌, ◌<◌, Bool, true, false, Some, None, inl, inr, subst, sym}
use Rattle.std.specs.Prelude.{◌↔◌, IsTrue}
use Rattle.std.proofs.lemmas.Bool.{both_ways}
use Rattle.mw_tables.specs.declared.row.PrefixKind.{PrefixKind}
use Rattle.mw_tables.specs.Rows.{table, row_count}
use Rattle.mw_tables.specs.Matching.{MatchesAt, row_place}
use Rattle.mw_tables.proofs.Places.{row_place-from_place, row_place-from_no_place, MatchesAt-below}
use Rattle.mw_decode.specs.Groups.{LeadsTo}
use Rattle.mw_decode.proofs.decoder.row_place.Goals as goal

-- a test that is true says that the row matches
matched : (test : Bool) (kind : PrefixKind) (word place : ℕ) → (IsTrue test ↔ MatchesAt table kind word place) → test ≡ true → MatchesAt table kind word place
matched test kind word place same is = same.0 is

-- where neither the place nor the next one matches, none does
none : (kind : PrefixKind) (word place : ℕ) (first second : Bool) → LeadsTo kind word place → (IsTrue first ↔ MatchesAt table kind word place) → (IsTrue second ↔ MatchesAt table kind word (place + 1)) → first ≡ false → second ≡ false → row_place kind word ≡ None
none kind word place first second leads at behind not_at not_behind =
    row_place-from_no_place kind word (λ other there. elim (leads other there) [
      | inl same ↦ both_ways first not_at (at.1 (subst (λ n. MatchesAt table kind word n) same there))
      | inr next ↦ both_ways second not_behind (behind.1 (subst (λ n. MatchesAt table kind word n) next there))
    ])

-- a place that matches is in the table
below : (test : Bool) (kind : PrefixKind) (word place : ℕ) → (IsTrue test ↔ MatchesAt table kind word place) → test ≡ true → place < row_count
below test kind word place same is = MatchesAt-below kind word place (matched test kind word place same is)

-- a place that matches is the word's place
found : (test : Bool) (kind : PrefixKind) (word place : ℕ) → (IsTrue test ↔ MatchesAt table kind word place) → test ≡ true → Some place ≡ row_place kind word
found test kind word place same is = sym (row_place-from_place kind word place (matched test kind word place same is))

pub overflow_cast-result-then-is_at-2 : goal.overflow_cast-result-then-is_at-2
overflow_cast-result-then-is_at-2 c = search (rules, below _ _ _ _ c.is_at-else-is_at.ensures c.if-is_at-2.true)

pub returns-then-is_at-clause-value : goal.returns-then-is_at-clause-value
returns-then-is_at-clause-value c = found _ _ _ _ c.is_at.ensures c.if-is_at.true

pub returns-then-is_at-clause-within : goal.returns-then-is_at-clause-within
returns-then-is_at-clause-within c = below _ _ _ _ c.is_at.ensures c.if-is_at.true

pub returns-then-is_at-2-clause-value : goal.returns-then-is_at-2-clause-value
returns-then-is_at-2-clause-value c = found _ _ _ _ c.is_at-else-is_at.ensures c.if-is_at-2.true

pub returns-then-is_at-2-clause-within : goal.returns-then-is_at-2-clause-within
returns-then-is_at-2-clause-within c = below _ _ _ _ c.is_at-else-is_at.ensures c.if-is_at-2.true

pub returns-else-is_at-2-clause-value : goal.returns-else-is_at-2-clause-value
returns-else-is_at-2-clause-value c =
    sym (none c.args.kind c.args.word c.from-place.result c.is_at.result c.is_at-else-is_at.result
    (subst (λ n. LeadsTo c.args.kind c.args.word n) (sym c.from-place.ensures) c.leading_place.ensures)
    c.is_at.ensures c.is_at-else-is_at.ensures c.if-is_at.false c.if-is_at-2.false)
