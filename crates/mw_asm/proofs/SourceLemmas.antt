-- The two passes give what a source means, or the refusal that comes first.
use Rattle.std.proofs.Common.{◌≡◌, ℕ, ◌+◌, Bool, true, false, List, [], ◌∷◌, ◌++◌, Option, Some, None, Result, Ok, Err, length, refl, sym, ap, ◌∙◌}
use Rattle.std.specs.Prelude.{nat_lt, if◌then◌else◌, IfOk, IfErr}
use Rattle.mw_asm.specs.declared.fault.Place.{Place}
use Rattle.mw_syntax.specs.declared.fault.Refusal.{Refusal}
use Rattle.mw_asm.specs.declared.fault.AsmFault.{AsmFault}
use Rattle.mw_asm.specs.declared.fault.AsmFault.TheVariants.{Bad, NoMemory}
use Rattle.mw_asm.specs.Values.{Placed}
use Rattle.mw_asm.specs.Assembled.{Pass, lines_of, first_line, first_pass, second_line, second_pass, both_passes, and_then, in_front, place_past, source_limit, assembled}
use Rattle.mw_asm.specs.Passes.{start, IfBad}
use Rattle.mw_asm.specs.Source.{or_before, placed, labels_of, bytes_from, meaning_of, refused_or, first_refusal, value_refusal, or_else, refusal_of, unless_refused}

-- a line of the first pass, by what it gives
first_step : (number : ℕ) (pass : Pass) (lines : List (List ℕ)) (said : Result Pass Refusal) → ((next : Pass) → first_pass (number + 1) next lines ≡ unless_refused (first_refusal (number + 1) next lines) (placed next lines).known) →
    and_then number said (λ next. first_pass (number + 1) next lines) ≡ unless_refused (refused_or number said (λ next. first_refusal (number + 1) next lines)) (placed (or_before pass said) lines).known
first_step number pass lines (Ok next) rest = rest next
first_step number pass lines (Err refused) rest = refl

-- the first pass leaves the labels, or the first refusal
first_pass-is : (number : ℕ) (pass : Pass) (lines : List (List ℕ)) → first_pass number pass lines ≡ unless_refused (first_refusal number pass lines) (placed pass lines).known
first_pass-is number pass [] = refl
first_pass-is number pass (line ∷ lines) = first_step number pass lines (first_line pass line) (λ next. first_pass-is (number + 1) next lines)

-- bytes in front of what the lines behind them mean, unless these are refused
in_front-unless : (bytes : List ℕ) (refused : Option Place) (meant : List ℕ) → in_front bytes (unless_refused refused meant) ≡ unless_refused refused (bytes ++ meant)
in_front-unless bytes None meant = refl
in_front-unless bytes (Some place) meant = refl

-- a line of the second pass, by what it gives
second_step : (number : ℕ) (labels : List Placed) (at : ℕ) (lines : List (List ℕ)) (said : Result (List ℕ) Refusal) → ((next : ℕ) → second_pass (number + 1) labels next lines ≡ unless_refused (value_refusal (number + 1) labels next lines) (bytes_from labels next lines)) →
    and_then number said (λ bytes. in_front bytes (second_pass (number + 1) labels (at + length bytes) lines)) ≡ unless_refused (refused_or number said (λ bytes. value_refusal (number + 1) labels (at + length bytes) lines)) (or_before [] said ++ bytes_from labels (at + length (or_before [] said)) lines)
second_step number labels at lines (Ok bytes) rest = ap (in_front bytes) (rest (at + length bytes)) ∙ in_front-unless bytes _ _
second_step number labels at lines (Err refused) rest = refl

-- the second pass gives the bytes, or the first refusal
second_pass-is : (number : ℕ) (labels : List Placed) (at : ℕ) (lines : List (List ℕ)) → second_pass number labels at lines ≡ unless_refused (value_refusal number labels at lines) (bytes_from labels at lines)
second_pass-is number labels at [] = refl
second_pass-is number labels at (line ∷ lines) = second_step number labels at lines (second_line labels at line) (λ next. second_pass-is (number + 1) labels next lines)

-- both passes over lines give what these mean, or the first refusal, by what the first pass gives
both-is : (lines : List (List ℕ)) (refused : Option Place) (labels : List Placed) → both_passes lines (unless_refused refused labels) ≡ unless_refused (or_else refused (value_refusal 1 labels 0 lines)) (bytes_from labels 0 lines)
both-is lines None labels = second_pass-is 1 labels 0 lines
both-is lines (Some place) labels = refl

-- a source is refused for its length, or gives what its passes give
limited : (long : Bool) (place : Place) (said : Result (List ℕ) Place) (refused : Option Place) (meant : List ℕ) → said ≡ unless_refused refused meant → (if long then Err place else said) ≡ unless_refused (if long then Some place else refused) meant
limited true place said refused meant e = refl
limited false place said refused meant e = e

-- an assembled source is what it means, or the refusal that comes first
pub assembled-is : (source : List ℕ) → assembled source ≡ unless_refused (refusal_of source) (meaning_of source)
unfolding assembled
assembled-is source =
    limited (nat_lt source_limit (length source)) (place_past source) _ _ (meaning_of source)
    (ap (both_passes (lines_of source)) (first_pass-is 1 start (lines_of source)) ∙ both-is (lines_of source) (first_refusal 1 start (lines_of source)) (labels_of source))

-- what is meant is given where nothing is refused
unless_refused-Ok : {A : Type 0} (refused : Option Place) (meant given : A) → unless_refused refused meant ≡ Ok given → (refused ≡ None) × (given ≡ meant)
unless_refused-Ok None meant given e = (refl, cc)
unless_refused-Ok (Some place) meant given e = cc

-- a place is given where something is refused
unless_refused-Err : {A : Type 0} (refused : Option Place) (meant : A) (place : Place) → unless_refused refused meant ≡ Err place → refused ≡ Some place
unless_refused-Err None meant place e = cc
unless_refused-Err (Some other) meant place e = cc

-- an answer with the bytes of both passes has what is meant
pub meaning-from : {E : Type 0} (source : List ℕ) (said : Result (List ℕ) E) → IfOk said (λ bytes. assembled source ≡ Ok bytes) → IfOk said (λ bytes. (refusal_of source ≡ None) × (bytes ≡ meaning_of source))
meaning-from source (Ok bytes) is = unless_refused-Ok (refusal_of source) (meaning_of source) bytes (sym (assembled-is source) ∙ is)
meaning-from source (Err fault) is = tt

-- a fault at the place of both passes is the refusal that comes first
fault-from : (source : List ℕ) (fault : AsmFault) → IfBad fault (λ place. assembled source ≡ Err place) → IfBad fault (λ place. refusal_of source ≡ Some place)
fault-from source (Bad line column what) is = unless_refused-Err (refusal_of source) (meaning_of source) _ (sym (assembled-is source) ∙ is)
fault-from source NoMemory is = tt

-- an answer with a fault at the place of both passes has the refusal that comes first
pub refusal-from : {A : Type 0} (source : List ℕ) (said : Result A AsmFault) → IfErr said (λ fault. IfBad fault (λ place. assembled source ≡ Err place)) → IfErr said (λ fault. IfBad fault (λ place. refusal_of source ≡ Some place))
refusal-from source (Ok bytes) is = tt
refusal-from source (Err fault) is = fault-from source fault is
