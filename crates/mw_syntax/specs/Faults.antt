-- What an answer says of a definition where want of memory is an answer too, which says nothing.
use Rattle.std.specs.Prelude.{◌≡◌, ℕ, ⊤, Result, Ok, Err}
use Rattle.mw_syntax.specs.declared.data.ValuesFault.{ValuesFault}
use Rattle.mw_syntax.specs.declared.data.ValuesFault.TheVariants.{Refused as RefusedPlace, NoMemory as ValuesNoMemory}
use Rattle.mw_syntax.specs.declared.fault.Refusal.{Refusal}
use Rattle.mw_syntax.specs.declared.fault.LineFault.{LineFault}
use Rattle.mw_syntax.specs.declared.fault.LineFault.TheVariants.{Refused, NoMemory}

-- a fact on the place of the token that can't stand there
abbrev pub IfPlace : ValuesFault → (ℕ → Type 0) → Type 0
IfPlace (RefusedPlace place) P = P place
IfPlace ValuesNoMemory P = ⊤

-- the answer is what the definition says: the value or the refusal
abbrev pub IsReadAs : {A : Type 0} → Result A LineFault → Result A Refusal → Type 0
IsReadAs (Ok value) said = said ≡ Ok value
IsReadAs (Err (Refused refusal)) said = said ≡ Err refusal
IsReadAs (Err NoMemory) said = ⊤
