-- A source that is read up to one byte past its limit shows what the whole source gives.
use Rattle.std.proofs.Common.{◌≡◌, ℕ, inl, inr, ◌+◌, ◌<◌, Bool, cond, List, length, take, Some, None, Result, Err, [], IfSome, refl, sym, ap, ◌∙◌, arith}
use Rattle.std.proofs.lemmas.Bool.{lt-ltb, cases_lt}
use Rattle.std.proofs.lemmas.List.{take_all, take-take, length-take}
use Rattle.mw_io.specs.Outside.{content_of}
use Rattle.mw_syntax.specs.declared.fault.What.TheVariants.{TooLong}
use Rattle.mw_asm.specs.declared.fault.Place.{Place}
use Rattle.mw_asm.specs.Assembled.{assembled, both_passes, first_pass, lines_of, last_of, place_past}
use Rattle.mw_cli.proofs.FileLemmas.{Files}

-- a source past the limit is refused at the first byte past it
long-refused : (source : List ℕ) → 4194304 < length source → assembled source ≡ Err (place_past source)
unfolding assembled
long-refused source long = ap (λ (b : Bool). cond b (Err (place_past source)) (both_passes (lines_of source) (first_pass 1 (record { at = 0; known = [] }) (lines_of source)))) (lt-ltb 4194304 (length source) long)

-- the front of a source up to one byte past the limit has the same first byte past the limit
same-place : (source : List ℕ) → place_past (take 4194305 source) ≡ place_past source
same-place source = ap (λ (front : List ℕ). record { line = length (lines_of front); column = length (last_of (lines_of front)) + 1; what = TooLong }) (take-take 4194304 4194305 source (omega arith))

-- the front of a source up to one byte past the limit gives what the source gives
front-gives : (source : List ℕ) → assembled (take 4194305 source) ≡ assembled source
front-gives source = elim (cases_lt 4194304 (length source)) [
  | inr short ↦ ap assembled (take_all 4194305 source (omega arith))
  | inl long ↦ long-refused (take 4194305 source) (omega (arith, length-take 4194305 source)) ∙ ap Err (same-place source) ∙ sym (long-refused source long)
]

-- what the front of a source's file gives, the file gives
pub source-gives : (files : Files) (name bytes : List ℕ) (r : Result (List ℕ) Place) → IfSome files (λ told. bytes ≡ take (4194304 + 1) (content_of told name)) → assembled bytes ≡ r → (source : List ℕ) × IfSome files (λ told. source ≡ content_of told name) × (assembled source ≡ r)
source-gives None name bytes r front e = (bytes, tt, e)
source-gives (Some told) name bytes r front e = (content_of told name, refl, sym (front-gives (content_of told name)) ∙ ap assembled (sym front) ∙ e)
