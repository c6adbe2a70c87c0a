-- Labels with their addresses, as a map keeps them.
use Rattle.std.specs.Prelude.{ℕ, ◌≡◌, List, map}
use Rattle.mw_asm.specs.Values.{Placed, address_of}
use denote.Ref.{Bor}

-- the entries of a map as labels
abbrev pub labels_in : List (Bor (List ℕ) × ℕ) → List Placed
labels_in entries = map (λ (entry : Bor (List ℕ) × ℕ). record { name = entry.0.now; address = entry.1 }) entries

-- each name has the same address in both
abbrev pub AreSame : List Placed → List Placed → Type 0
AreSame labels others = (name : List ℕ) → address_of labels name ≡ address_of others name
