-- A whole source, by its two passes.
use Rattle.std.proofs.Common.{◌≡◌, ℕ, ◌<◌, ◌≤◌, List, Result, Ok, Err, length, sym, ap, ◌∙◌}
use Rattle.std.specs.Prelude.{nat_lt}
use Rattle.std.specs.Result.{IsOkAnd}
use Rattle.std.proofs.lemmas.Bool.{cond-true, cond-false, lt-ltb, le-ltb}
use Rattle.mw_asm.specs.declared.fault.Place.{Place}
use Rattle.mw_asm.specs.declared.fault.AsmFault.{AsmFault}
use Rattle.mw_asm.specs.declared.fault.AsmFault.TheVariants.{Bad, NoMemory}
use Rattle.mw_asm.specs.Values.{Placed}
use Rattle.mw_asm.specs.Labels.{AreSame}
use Rattle.mw_asm.specs.Assembled.{lines_of, source_limit, first_pass, second_pass, both_passes, place_past, assembled}
use Rattle.mw_asm.specs.Passes.{IfBad, start, LeavesLabels}
use Rattle.mw_asm.proofs.SecondLemmas.{second_pass-same}

-- a source that is too long is refused at the first byte past the limit
pub assembled-long : (source : List ℕ) → source_limit < length source → assembled source ≡ Err (place_past source)
unfolding assembled
assembled-long source long = cond-true (nat_lt source_limit (length source)) _ _ (lt-ltb source_limit (length source) long)

-- a source that isn't too long gives what its two passes give
pub assembled-short : (source : List ℕ) → length source ≤ source_limit → assembled source ≡ both_passes (lines_of source) (first_pass 1 start (lines_of source))
unfolding assembled
assembled-short source short = cond-false (nat_lt source_limit (length source)) _ _ (le-ltb source_limit (length source) short)

both-same : (labels : List Placed) (lines : List (List ℕ)) (first : Result (List Placed) Place) → IsOkAnd first (AreSame labels) → both_passes lines first ≡ second_pass 1 labels 0 lines
both-same labels lines (Ok known) leaves = sym (second_pass-same labels known leaves 1 0 lines)
both-same labels lines (Err place) leaves = absurd leaves

-- a source gives what the second pass gives by the labels that the first pass leaves
pub assembled-second : (source : List ℕ) (labels : List Placed) → length source ≤ source_limit → LeavesLabels labels source → assembled source ≡ second_pass 1 labels 0 (lines_of source)
assembled-second source labels short leaves = assembled-short source short ∙ both-same labels (lines_of source) (first_pass 1 start (lines_of source)) leaves

-- what the first pass refuses of a source is refused of the source
pub assembled-first : (source : List ℕ) (place : Place) → length source ≤ source_limit → first_pass 1 start (lines_of source) ≡ Err place → assembled source ≡ Err place
assembled-first source place short refused = assembled-short source short ∙ ap (both_passes (lines_of source)) refused

-- a fact on the place of a fault gives each fact that follows from it
pub IfBad-weaker : (fault : AsmFault) (P Q : Place → Type 0) → ((place : Place) → P place → Q place) → IfBad fault P → IfBad fault Q
IfBad-weaker (Bad line column what) P Q more is = more _ is
IfBad-weaker NoMemory P Q more is = tt
