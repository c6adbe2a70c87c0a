-- The bytes of data, one value after the other.
use Rattle.std.proofs.Common.{◌≡◌, ℕ, ◌+◌, ◌-◌, ◌*◌, ◌%◌, ◌^◌, ◌<◌, ◌≤◌, List, [], ◌∷◌, ◌++◌, Some, Result, Ok, Err, length, drop, slice_get, refl, sym, ap, ◌∙◌, append_assoc, arith, mod-eq_of_lt}
use Rattle.std.specs.Prelude.{reverse, replicate}
use Rattle.std.specs.Int.{w32, w64, to_le_bytes, to_be_bytes}
use Rattle.std.specs.Hash.{le_bytes}
use Rattle.std.proofs.lemmas.List.{append-nil, at_drop_all, replicate-append-replicate}
use Rattle.mw_syntax.specs.declared.expression.Expression.{Expression}
use Rattle.mw_syntax.specs.declared.fault.Refusal.{Refusal}
use Rattle.mw_syntax.specs.declared.statement.Unit.{Unit as DataUnit}
use Rattle.mw_syntax.specs.declared.statement.Unit.TheVariants.{Byte, Long, Quad, BigQuad}
use Rattle.mw_asm.specs.Values.{Placed, value_of, value_by, unit_size, unit_bytes, and_bytes, data_bytes}
use Rattle.mw_asm.proofs.InstructionLemmas.{drop_at}

byte-le : (n : ℕ) → n % 256 ∷ [] ≡ le_bytes 1 (n % 256)
unfolding le_bytes
byte-le n = ap (λ (k : ℕ). k ∷ []) (omega arith)

long-le : (n : ℕ) → to_le_bytes w32 n ≡ le_bytes 4 n
unfolding le_bytes
long-le n = refl

quad-le : (n : ℕ) → to_le_bytes w64 n ≡ le_bytes 8 n
unfolding le_bytes
quad-le n = refl

quad-be : (n : ℕ) → to_be_bytes w64 n ≡ reverse (le_bytes 8 n)
unfolding le_bytes
quad-be n = refl

-- the bytes of a number in each unit
pub byte-unit : (unit : DataUnit) (n : ℕ) → unit ≡ Byte → n % 256 ∷ [] ≡ unit_bytes unit (n % 2 ^ (8 * unit_size unit))
byte-unit unit n is = byte-le n ∙ ap (λ u. unit_bytes u (n % 2 ^ (8 * unit_size u))) (sym is)

pub long-unit : (unit : DataUnit) (n : ℕ) → unit ≡ Long → to_le_bytes w32 (n % 2 ^ 32) ≡ unit_bytes unit (n % 2 ^ (8 * unit_size unit))
long-unit unit n is = long-le (n % 2 ^ 32) ∙ ap (λ u. unit_bytes u (n % 2 ^ (8 * unit_size u))) (sym is)

pub quad-unit : (unit : DataUnit) (n : ℕ) → n < 2 ^ 64 → unit ≡ Quad → to_le_bytes w64 n ≡ unit_bytes unit (n % 2 ^ (8 * unit_size unit))
quad-unit unit n fits is = ap (to_le_bytes w64) (sym (mod-eq_of_lt fits)) ∙ quad-le (n % 2 ^ 64) ∙ ap (λ u. unit_bytes u (n % 2 ^ (8 * unit_size u))) (sym is)

pub big_quad-unit : (unit : DataUnit) (n : ℕ) → n < 2 ^ 64 → unit ≡ BigQuad → to_be_bytes w64 n ≡ unit_bytes unit (n % 2 ^ (8 * unit_size unit))
big_quad-unit unit n fits is = ap (to_be_bytes w64) (sym (mod-eq_of_lt fits)) ∙ quad-be (n % 2 ^ 64) ∙ ap (λ u. unit_bytes u (n % 2 ^ (8 * unit_size u))) (sym is)

data_bytes-more : (labels : List Placed) (at : ℕ) (line : List ℕ) (unit : DataUnit) (es : List Expression) (place : ℕ) (e : Expression) → slice_get es place ≡ Some e → data_bytes labels at line unit (drop place es) ≡ and_bytes (value_by unit e (value_of labels at line e)) (data_bytes labels at line unit (drop (place + 1) es))
unfolding data_bytes
data_bytes-more labels at line unit es place e there = rw (drop_at es place e there) refl

and_bytes-ok : (old bytes : List ℕ) (r : Result (List ℕ) Refusal) → and_bytes (Ok (old ++ bytes)) r ≡ and_bytes (Ok old) (and_bytes (Ok bytes) r)
and_bytes-ok old bytes (Ok others) = ap Ok (append_assoc old bytes others)
and_bytes-ok old bytes (Err refused) = refl

-- a value that is refused refuses all values of its data
pub value-refused : (labels : List Placed) (at : ℕ) (line : List ℕ) (unit : DataUnit) (es : List Expression) (place : ℕ) (e : Expression) (old : List ℕ) (refused : Refusal) (whole : Result (List ℕ) Refusal) →
    slice_get es place ≡ Some e → value_by unit e (value_of labels at line e) ≡ Err refused → and_bytes (Ok old) (data_bytes labels at line unit (drop place es)) ≡ whole → whole ≡ Err refused
value-refused labels at line unit es place e old refused whole there is same = sym same ∙ rw (data_bytes-more labels at line unit es place e there, is) refl

-- the bytes of one value more stand behind those before it
pub value-more : (labels : List Placed) (at : ℕ) (line : List ℕ) (unit : DataUnit) (es : List Expression) (place : ℕ) (e : Expression) (old new bytes : List ℕ) (whole : Result (List ℕ) Refusal) →
    slice_get es place ≡ Some e → value_by unit e (value_of labels at line e) ≡ Ok bytes → new ≡ old ++ bytes → and_bytes (Ok old) (data_bytes labels at line unit (drop place es)) ≡ whole → and_bytes (Ok new) (data_bytes labels at line unit (drop (place + 1) es)) ≡ whole
value-more labels at line unit es place e old new bytes whole there is behind same =
    ap (λ (bs : List ℕ). and_bytes (Ok bs) (data_bytes labels at line unit (drop (place + 1) es))) behind
    ∙ and_bytes-ok old bytes (data_bytes labels at line unit (drop (place + 1) es))
    ∙ sym (rw (data_bytes-more labels at line unit es place e there, is) refl)
    ∙ same

-- where no value is left the bytes of the data are whole
pub values-end : (labels : List Placed) (at : ℕ) (line : List ℕ) (unit : DataUnit) (es : List Expression) (place : ℕ) (old : List ℕ) (whole : Result (List ℕ) Refusal) → length es ≤ place → and_bytes (Ok old) (data_bytes labels at line unit (drop place es)) ≡ whole → whole ≡ Ok old
unfolding data_bytes
values-end labels at line unit es place old whole past same =
    sym same ∙ at_drop_all (λ left. and_bytes (Ok old) (data_bytes labels at line unit left)) es place past ∙ ap Ok (append-nil old)

-- some of the zeros that are left are appended
pub zeros-more : (old new zeros whole : List ℕ) (left piece : ℕ) → zeros ≡ replicate piece 0 → piece ≤ left → new ≡ old ++ zeros → old ++ replicate left 0 ≡ whole → new ++ replicate (left - piece) 0 ≡ whole
zeros-more old new zeros whole left piece all within is same =
    let parts : piece + (left - piece) ≡ left = omega arith in
    ap (λ bs. bs ++ replicate (left - piece) 0) (is ∙ ap (λ zs. old ++ zs) all)
    ∙ append_assoc old (replicate piece 0) (replicate (left - piece) 0)
    ∙ ap (λ bs. old ++ bs) (replicate-append-replicate piece (left - piece) 0 ∙ ap (λ n. replicate n 0) parts)
    ∙ same
