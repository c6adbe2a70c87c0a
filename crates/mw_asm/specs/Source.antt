-- A whole source in two functions: what it means, by its labels and its statements, and which refusal comes first.
use Rattle.std.specs.Prelude.{ℕ, ◌+◌, nat_lt, if◌then◌else◌, List, [], ◌∷◌, ◌++◌, Option, Some, None, Result, Ok, Err, length}
use Rattle.mw_asm.specs.declared.fault.Place.{Place}
use Rattle.mw_syntax.specs.declared.fault.Refusal.{Refusal}
use Rattle.mw_asm.specs.Values.{Placed}
use Rattle.mw_asm.specs.Assembled.{Pass, lines_of, first_line, second_line, placed_at, place_past, source_limit}
use Rattle.mw_asm.specs.Passes.{start}

-- what a line gives, or what there was before it where it is refused
abbrev pub or_before : {A : Type 0} → A → Result A Refusal → A
or_before before (Ok value) = value
or_before before (Err refused) = before

-- the address behind lines, and their labels with the addresses at which they stand
abbrev pub placed : Pass → List (List ℕ) → Pass
placed pass [] = pass
placed pass (line ∷ lines) = placed (or_before pass (first_line pass line)) lines

-- the labels of a source
abbrev pub labels_of : List ℕ → List Placed
labels_of source = (placed start (lines_of source)).known

-- the bytes of a line at an address: those of its statement, and the zeros that `.org` leaves
abbrev pub bytes_at : List Placed → ℕ → List ℕ → List ℕ
bytes_at labels at line = or_before [] (second_line labels at line)

-- the bytes of lines from an address on, each behind those before it
abbrev pub bytes_from : List Placed → ℕ → List (List ℕ) → List ℕ
bytes_from labels at [] = []
bytes_from labels at (line ∷ lines) = bytes_at labels at line ++ bytes_from labels (at + length (bytes_at labels at line)) lines

-- what a source means: the image that consists of the bytes of its lines
abbrev pub meaning_of : List ℕ → List ℕ
meaning_of source = bytes_from (labels_of source) 0 (lines_of source)

-- the refusal of the line of this number, or what is refused behind it
abbrev pub refused_or : {A : Type 0} → ℕ → Result A Refusal → (A → Option Place) → Option Place
refused_or number (Ok value) others = others value
refused_or number (Err refused) others = Some (placed_at number refused)

-- the first refusal before values are known
abbrev pub first_refusal : ℕ → Pass → List (List ℕ) → Option Place
first_refusal number pass [] = None
first_refusal number pass (line ∷ lines) = refused_or number (first_line pass line) (λ next. first_refusal (number + 1) next lines)

-- the first refusal of a value
abbrev pub value_refusal : ℕ → List Placed → ℕ → List (List ℕ) → Option Place
value_refusal number labels at [] = None
value_refusal number labels at (line ∷ lines) = refused_or number (second_line labels at line) (λ bytes. value_refusal (number + 1) labels (at + length bytes) lines)

-- the first of two refusals that may be there
abbrev pub or_else : Option Place → Option Place → Option Place
or_else (Some place) other = Some place
or_else None other = other

-- which refusal comes first: of a source that is too long, then of all lines before values are known, then of a value
abbrev pub refusal_of : List ℕ → Option Place
refusal_of source = if nat_lt source_limit (length source) then Some (place_past source) else or_else (first_refusal 1 start (lines_of source)) (value_refusal 1 (labels_of source) 0 (lines_of source))

-- what is meant, unless there is a refusal
abbrev pub unless_refused : {A : Type 0} → Option Place → A → Result A Place
unless_refused None meant = Ok meant
unless_refused (Some place) meant = Err place
