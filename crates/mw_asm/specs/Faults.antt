-- What an answer says of the bytes that a definition gives, where want of memory is an answer too, which says nothing.
use Rattle.std.specs.Prelude.{◌≡◌, ℕ, ⊤, List, Result, Ok, Err}
use Rattle.mw_syntax.specs.declared.fault.Refusal.{Refusal}
use Rattle.mw_syntax.specs.declared.fault.LineFault.{LineFault}
use Rattle.mw_syntax.specs.declared.fault.LineFault.TheVariants.{Refused, NoMemory}
use Rattle.mw_asm.specs.Values.{and_bytes}

-- the bytes are as the definition says: behind those that were there, or refused
abbrev pub IsAdded : Result (Unit {0}) LineFault → List ℕ → List ℕ → Result (List ℕ) Refusal → Type 0
IsAdded (Ok done) old new said = and_bytes (Ok old) said ≡ Ok new
IsAdded (Err (Refused refusal)) old new said = and_bytes (Ok old) said ≡ Err refusal
IsAdded (Err NoMemory) old new said = ⊤
