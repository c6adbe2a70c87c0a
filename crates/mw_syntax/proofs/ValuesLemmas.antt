-- Values that were read, in front of those behind them.
use Rattle.std.proofs.Common.{◌≡◌, ◌≢◌, ℕ, suc, ◌+◌, ◌-◌, ◌<◌, true, false, List, [], ◌∷◌, ◌++◌, Result, Ok, Err, length, refl, sym, ◌∙◌, eq-eqb, arith}
use Rattle.std.proofs.lemmas.Bool.{ne_eqb}
use Rattle.mw_text.specs.declared.token.Token.{Token}
use Rattle.mw_syntax.specs.declared.expression.Expression.{Expression}
use Rattle.mw_syntax.specs.declared.expression.Read.{Read}
use Rattle.mw_syntax.specs.declared.item.Item.TheVariants.{Comma}
use Rattle.mw_syntax.specs.Expressions.{kind_at, expression_at}
use Rattle.mw_syntax.specs.Items.{is_mark}
use Rattle.mw_syntax.specs.Lines.{and_values, values_at}
use Rattle.mw_syntax.proofs.ReadingLemmas.{behind, behind-with_first}

-- how values are read where one may stand yet
values_at-more : (left most : ℕ) (line : List ℕ) (tokens : List Token) (place : ℕ) → left ≡ suc most → values_at left line tokens place ≡ and_values tokens (expression_at line tokens place) (values_at most line tokens)
unfolding values_at
values_at-more left most line tokens place is = rw is refl

-- one value fewer may stand behind the next
pub left-suc : (end counter : ℕ) → counter < end → end - counter ≡ suc (end - (counter + 1))
left-suc end counter lt = omega arith

-- a value that is refused refuses all
pub value-refused : (left most : ℕ) (line : List ℕ) (tokens : List Token) (place refused : ℕ) (front : List Expression) (whole : Result (List Expression) ℕ) →
    left ≡ suc most → expression_at line tokens place ≡ Err refused → behind front (values_at left line tokens place) ≡ whole → whole ≡ Err refused
value-refused left most line tokens place refused front whole is read same =
    sym same ∙ rw (values_at-more left most line tokens place is, read) refl

-- the last value ends the list at the line's end
pub value-last : (left most : ℕ) (line : List ℕ) (tokens : List Token) (place : ℕ) (r : Read) (front : List Expression) (whole : Result (List Expression) ℕ) →
    left ≡ suc most → expression_at line tokens place ≡ Ok r → r.next ≡ length tokens → behind front (values_at left line tokens place) ≡ whole → whole ≡ Ok (front ++ r.expression ∷ [])
value-last left most line tokens place r front whole is read at same =
    sym same ∙ rw (values_at-more left most line tokens place is, read, eq-eqb r.next (length tokens) at) refl

-- something else than a comma behind a value refuses the list
pub value-alone : (left most : ℕ) (line : List ℕ) (tokens : List Token) (place : ℕ) (r : Read) (front : List Expression) (whole : Result (List Expression) ℕ) →
    left ≡ suc most → expression_at line tokens place ≡ Ok r → r.next ≢ length tokens → is_mark Comma (kind_at tokens r.next) ≡ false → behind front (values_at left line tokens place) ≡ whole → whole ≡ Err r.next
value-alone left most line tokens place r front whole is read at mark same =
    sym same ∙ rw (values_at-more left most line tokens place is, read, ne_eqb r.next (length tokens) at, mark) refl

-- behind a value and a comma the other values are read
pub value-more : (left most : ℕ) (line : List ℕ) (tokens : List Token) (place : ℕ) (r : Read) (front : List Expression) (whole : Result (List Expression) ℕ) →
    left ≡ suc most → expression_at line tokens place ≡ Ok r → r.next ≢ length tokens → is_mark Comma (kind_at tokens r.next) ≡ true → behind front (values_at left line tokens place) ≡ whole → behind (front ++ r.expression ∷ []) (values_at most line tokens (r.next + 1)) ≡ whole
value-more left most line tokens place r front whole is read at mark same =
    behind-with_first front r.expression (values_at most line tokens (r.next + 1))
    ∙ sym (rw (values_at-more left most line tokens place is, read, ne_eqb r.next (length tokens) at, mark) refl)
    ∙ same

-- where no value may stand any more, the list is refused
pub values-end : (left : ℕ) (line : List ℕ) (tokens : List Token) (place : ℕ) (front : List Expression) (whole : Result (List Expression) ℕ) →
    left ≡ 0 → behind front (values_at left line tokens place) ≡ whole → whole ≡ Err place
unfolding values_at
values-end left line tokens place front whole is same = sym same ∙ rw is refl
