-- The operands of an instruction that aren't refused fit their fields.
use Rattle.std.proofs.Common.{◌≡◌, ℕ, ◌^◌, length, Bool, true, List, [], ◌∷◌, Option, Some, None, Result, Ok, Err, refl, sym, subst, arith}
use Rattle.std.specs.Prelude.{ℤ}
use Rattle.std.proofs.lemmas.Bool.Decides.{Decides-int_eq}
use Rattle.std.proofs.lemmas.Nat.{mod_below, pow_pos}
use Rattle.std.proofs.lemmas.Option.{cond_some, none-some}
use Rattle.mw_tables.specs.declared.layout.Field.{Field}
use Rattle.mw_tables.specs.Layouts.{width_of, bits_from, InRange, HasOperands}
use Rattle.mw_syntax.specs.declared.expression.Expression.{Expression}
use Rattle.mw_syntax.specs.declared.fault.Refusal.{Refusal}
use Rattle.mw_syntax.specs.declared.item.Kind.{Kind}
use Rattle.mw_asm.specs.Values.{Placed, value_of, converted, fits_field, if_fits, in_range, operand_by, and_operands, operands_of}

pub fits_field-InRange : (f : Field) (operand : ℤ) → fits_field f operand ≡ true → InRange f operand
fits_field-InRange f operand fits =
    (bits_from f operand, mod_below _ (2 ^ width_of f) (pow_pos (width_of f)), sym ((Decides-int_eq _ _).0 fits))

if_fits-InRange : (f : Field) (read : Option ℤ) (operand : ℤ) → if_fits f read ≡ Some operand → InRange f operand
if_fits-InRange f None operand e = absurd (none-some operand e)
if_fits-InRange f (Some other) operand e =
    let parts = cond_some (fits_field f other) other operand e in
    subst (InRange f) parts.1 (fits_field-InRange f other parts.0)

in_range-Ok : (expression : Expression) (read : Option ℤ) (operand : ℤ) → in_range expression read ≡ Ok operand → read ≡ Some operand
in_range-Ok expression None operand e = absurd (cc)
in_range-Ok expression (Some other) operand e = cc

-- an operand that isn't refused fits its field
pub operand_by-InRange : (expression : Expression) (kind : Kind) (f : Field) (aa : Bool) (at : ℕ) (value : Option ℤ) (operand : ℤ) → operand_by expression kind f aa at value ≡ Ok operand → InRange f operand
operand_by-InRange expression kind f aa at None operand e = absurd (cc)
operand_by-InRange expression kind f aa at (Some value) operand e = if_fits-InRange f (converted kind aa at value) operand (in_range-Ok expression _ operand e)

and_operands-has : (f : Field) (fs : List Field) (first : Result ℤ Refusal) (rest : Result (List ℤ) Refusal) (operands : List ℤ) → ((z : ℤ) → first ≡ Ok z → InRange f z) → ((zs : List ℤ) → rest ≡ Ok zs → HasOperands fs zs) → and_operands first rest ≡ Ok operands → HasOperands (f ∷ fs) operands
and_operands-has f fs (Ok z) (Ok zs) operands one others e =
    let same : z ∷ zs ≡ operands = cc in
    subst (HasOperands (f ∷ fs)) same (one z refl, others zs refl)
and_operands-has f fs (Ok z) (Err refused) operands one others e = absurd (cc)
and_operands-has f fs (Err refused) rest operands one others e = absurd (cc)

-- operands that aren't refused fit their fields, where there is one of each
pub operands_of-HasOperands : (labels : List Placed) (at : ℕ) (line : List ℕ) (aa : Bool) (expressions : List Expression) (kinds : List Kind) (fields : List Field) (operands : List ℤ) → length expressions ≡ length kinds → length kinds ≡ length fields → operands_of labels at line aa expressions kinds fields ≡ Ok operands → HasOperands fields operands
unfolding operands_of
operands_of-HasOperands labels at line aa [] [] [] operands p q e =
    let same : [] ≡ operands = cc in
    subst (HasOperands []) same tt
operands_of-HasOperands labels at line aa (e ∷ es) (k ∷ ks) (f ∷ fs) operands p q ok =
    and_operands-has f fs (operand_by e k f aa at (value_of labels at line e)) (operands_of labels at line aa es ks fs) operands
    (λ z. operand_by-InRange e k f aa at (value_of labels at line e) z)
    (λ zs. operands_of-HasOperands labels at line aa es ks fs zs (omega arith) (omega arith))
    ok
operands_of-HasOperands labels at line aa [] [] (f ∷ fs) operands p q e = absurd (omega arith)
operands_of-HasOperands labels at line aa [] (k ∷ ks) fs operands p q e = absurd (omega arith)
operands_of-HasOperands labels at line aa (x ∷ es) [] fs operands p q e = absurd (omega arith)
operands_of-HasOperands labels at line aa (x ∷ es) (k ∷ ks) [] operands p q e = absurd (omega arith)
