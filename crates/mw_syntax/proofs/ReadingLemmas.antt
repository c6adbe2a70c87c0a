-- Expressions that were read, in front of those behind them.
use Rattle.std.proofs.Common.{◌≡◌, ℕ, suc, ◌+◌, ◌<◌, ◌≤◌, true, false, List, [], ◌∷◌, ◌++◌, Result, Ok, Err, length, drop, get_or, if◌then◌else◌, ◌≢◌, refl, sym, ◌∙◌, ap, inl, inr, append_assoc, eq-eqb}
use mathlib.Core.Logic.{◌⊎◌}
use Rattle.std.proofs.lemmas.List.{append-nil, drop_more, at_drop_all}
use Rattle.std.proofs.lemmas.Bool.{ne_eqb}
use Rattle.mw_text.specs.declared.token.Token.{Token}
use Rattle.mw_syntax.specs.declared.expression.Expression.{Expression}
use Rattle.mw_syntax.specs.declared.expression.Read.{Read}
use Rattle.mw_syntax.specs.declared.item.Kind.{Kind}
use Rattle.mw_syntax.specs.declared.item.Item.{Item}
use Rattle.mw_syntax.specs.declared.item.Item.TheVariants.{Operand, Comma, Open, Close}
use Rattle.mw_syntax.specs.Expressions.{kind_at}
use Rattle.mw_syntax.specs.Items.{kinds_of, is_mark, operand_at, with_first, and_behind, operands_at}

-- expressions in front of others, unless those are refused
abbrev pub behind : List Expression → Result (List Expression) ℕ → Result (List Expression) ℕ
behind front (Ok others) = Ok (front ++ others)
behind front (Err place) = Err place

pub behind-with_first : (front : List Expression) (e : Expression) (r : Result (List Expression) ℕ) → behind (front ++ e ∷ []) r ≡ behind front (with_first e r)
behind-with_first front e (Ok others) = ap Ok (append_assoc front (e ∷ []) others)
behind-with_first front e (Err place) = refl

-- how operands are read where an operand is next
operands_at-operand : (items : List Item) (i : ℕ) (d : Item) (kind : Kind) (line : List ℕ) (tokens : List Token) (place : ℕ) → i < length items → get_or items i d ≡ Operand kind → operands_at (drop i items) line tokens place ≡ and_behind (operand_at kind line tokens place) (operands_at (drop (i + 1) items) line tokens)
unfolding operands_at
operands_at-operand items i d kind line tokens place lt is = rw (drop_more items i d lt, is) refl

-- an operand that is refused refuses the list
pub operand-refused : (items : List Item) (i : ℕ) (d : Item) (kind : Kind) (line : List ℕ) (tokens : List Token) (place refused : ℕ) (front : List Expression) (whole : Result (List Expression) ℕ) →
    i < length items → get_or items i d ≡ Operand kind → operand_at kind line tokens place ≡ Err refused → behind front (operands_at (drop i items) line tokens place) ≡ whole → whole ≡ Err refused
operand-refused items i d kind line tokens place refused front whole lt is read same =
    sym same ∙ rw (operands_at-operand items i d kind line tokens place lt is, read) refl

-- an operand that is read stands in front of the others
pub operand-read : (items : List Item) (i : ℕ) (d : Item) (kind : Kind) (line : List ℕ) (tokens : List Token) (place : ℕ) (r : Read) (front : List Expression) (whole : Result (List Expression) ℕ) →
    i < length items → get_or items i d ≡ Operand kind → operand_at kind line tokens place ≡ Ok r → behind front (operands_at (drop i items) line tokens place) ≡ whole → behind (front ++ r.expression ∷ []) (operands_at (drop (i + 1) items) line tokens r.next) ≡ whole
operand-read items i d kind line tokens place r front whole lt is read same =
    behind-with_first front r.expression (operands_at (drop (i + 1) items) line tokens r.next)
    ∙ sym (rw (operands_at-operand items i d kind line tokens place lt is, read) refl)
    ∙ same

-- an item that is a mark
abbrev pub IsMark : Item → Type 0
IsMark item = (item ≡ Comma) ⊎ ((item ≡ Open) ⊎ (item ≡ Close))

-- how operands are read where a mark is the first item
mark-first : (mark : Item) (items : List Item) (line : List ℕ) (tokens : List Token) (place : ℕ) → IsMark mark → operands_at (mark ∷ items) line tokens place ≡ (if is_mark mark (kind_at tokens place) then operands_at items line tokens (place + 1) else Err place)
unfolding operands_at
mark-first Comma items line tokens place is = refl
mark-first Open items line tokens place is = refl
mark-first Close items line tokens place is = refl
mark-first (Operand kind) items line tokens place (inl e) = cc
mark-first (Operand kind) items line tokens place (inr (inl e)) = cc
mark-first (Operand kind) items line tokens place (inr (inr e)) = cc

-- how operands are read where a mark is next
operands_at-mark : (items : List Item) (i : ℕ) (d : Item) (line : List ℕ) (tokens : List Token) (place : ℕ) → i < length items → IsMark (get_or items i d) → operands_at (drop i items) line tokens place ≡ (if is_mark (get_or items i d) (kind_at tokens place) then operands_at (drop (i + 1) items) line tokens (place + 1) else Err place)
operands_at-mark items i d line tokens place lt is = rw (drop_more items i d lt) (mark-first (get_or items i d) (drop (i + 1) items) line tokens place is)

-- a mark that is missing refuses the list
pub mark-refused : (items : List Item) (i : ℕ) (d : Item) (line : List ℕ) (tokens : List Token) (place : ℕ) (front : List Expression) (whole : Result (List Expression) ℕ) →
    i < length items → IsMark (get_or items i d) → is_mark (get_or items i d) (kind_at tokens place) ≡ false → behind front (operands_at (drop i items) line tokens place) ≡ whole → whole ≡ Err place
mark-refused items i d line tokens place front whole lt is read same =
    sym same ∙ rw (operands_at-mark items i d line tokens place lt is, read) refl

-- a mark that stands there is passed
pub mark-read : (items : List Item) (i : ℕ) (d : Item) (line : List ℕ) (tokens : List Token) (place : ℕ) (front : List Expression) (whole : Result (List Expression) ℕ) →
    i < length items → IsMark (get_or items i d) → is_mark (get_or items i d) (kind_at tokens place) ≡ true → behind front (operands_at (drop i items) line tokens place) ≡ whole → behind front (operands_at (drop (i + 1) items) line tokens (place + 1)) ≡ whole
mark-read items i d line tokens place front whole lt is read same =
    sym (rw (operands_at-mark items i d line tokens place lt is, read) refl) ∙ same

-- behind the last item, at the line's end, the operands are whole
pub operands-end : (items : List Item) (i : ℕ) (line : List ℕ) (tokens : List Token) (place : ℕ) (front : List Expression) (whole : Result (List Expression) ℕ) →
    length items ≤ i → place ≡ length tokens → behind front (operands_at (drop i items) line tokens place) ≡ whole → whole ≡ Ok front
unfolding operands_at
operands-end items i line tokens place front whole past at same =
    sym same ∙ at_drop_all (λ left. behind front (operands_at left line tokens place)) items i past ∙ rw (at, eq-eqb (length tokens) (length tokens) refl) (ap Ok (append-nil front))

-- a token behind the last item refuses the list
pub operands-more : (items : List Item) (i : ℕ) (line : List ℕ) (tokens : List Token) (place : ℕ) (front : List Expression) (whole : Result (List Expression) ℕ) →
    length items ≤ i → place ≢ length tokens → behind front (operands_at (drop i items) line tokens place) ≡ whole → whole ≡ Err place
unfolding operands_at
operands-more items i line tokens place front whole past at same =
    sym same ∙ at_drop_all (λ left. behind front (operands_at left line tokens place)) items i past ∙ rw (ne_eqb place (length tokens) at) refl

-- an operand is counted
pub kinds-operand : (items : List Item) (i : ℕ) (d : Item) (kind : Kind) → i < length items → get_or items i d ≡ Operand kind → length (kinds_of (drop i items)) ≡ suc (length (kinds_of (drop (i + 1) items)))
kinds-operand items i d kind lt is = rw (drop_more items i d lt, is) refl

kinds-first : (mark : Item) (items : List Item) → IsMark mark → kinds_of (mark ∷ items) ≡ kinds_of items
kinds-first Comma items is = refl
kinds-first Open items is = refl
kinds-first Close items is = refl
kinds-first (Operand kind) items (inl e) = cc
kinds-first (Operand kind) items (inr (inl e)) = cc
kinds-first (Operand kind) items (inr (inr e)) = cc

-- a mark isn't counted as an operand
pub kinds-mark : (items : List Item) (i : ℕ) (d : Item) → i < length items → IsMark (get_or items i d) → length (kinds_of (drop i items)) ≡ length (kinds_of (drop (i + 1) items))
kinds-mark items i d lt is = rw (drop_more items i d lt) (ap length (kinds-first (get_or items i d) (drop (i + 1) items) is))
