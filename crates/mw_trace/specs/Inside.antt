-- How a line is read word by word: what the functions below `read` give, for the proofs alone.
use Rattle.std.specs.Prelude.{ℕ, ◌≡◌, ◌≢◌, ◌^◌, ◌&&◌, nat_lt, if◌then◌else◌, List, [], ◌∷◌, ◌++◌, Option, Some, None, option_map, option_and_then, codes, decimal, bytes_eq}
use Rattle.std.specs.Str.Parse.{digits_value}
use Rattle.mw_digits.specs.Digits.{hex}
use Rattle.mw_isa.specs.declared.event.Event.{Event}
use Rattle.mw_isa.specs.declared.event.Event.TheVariants.{Retire, Trap, Irq}
use Rattle.mw_isa.specs.declared.vector.Vector.{Vector}
use Rattle.mw_isa.specs.Reading.{vector_at}

-- a byte doesn't stand in a text
abbrev pub Lacks : ℕ → List ℕ → Type 0
Lacks byte [] = Unit {0}
Lacks byte (x ∷ xs) = (x ≢ byte) × Lacks byte xs

-- a text is cut at its first such byte, in what stands before it and behind it
abbrev pub IsCut : ℕ → List ℕ → List ℕ → List ℕ → Type 0
IsCut byte text front behind = (text ≡ front ++ byte ∷ behind) × Lacks byte front

-- the number below a bound whose digits, of a radix, a word is
abbrev pub number_by : (ℕ → List ℕ) → ℕ → ℕ → List ℕ → Option ℕ
number_by digits radix bound word =
    if bytes_eq (digits (digits_value radix word)) word && nat_lt (digits_value radix word) bound
    then Some (digits_value radix word)
    else None

-- the number of 64 bits whose decimal digits a word is
abbrev pub decimal_in : List ℕ → Option ℕ
decimal_in word = number_by decimal 10 (2 ^ 64) word

-- the number whose so many hexadecimal digits a word is
abbrev pub hex_in : ℕ → List ℕ → Option ℕ
hex_in digits word = number_by (hex digits) 16 (16 ^ digits) word

-- the interrupt whose address a word is
abbrev pub vector_in : List ℕ → Option Vector
vector_in word = option_and_then vector_at (hex_in 4 word)

-- the event of this kind, cycle, address, and last word
abbrev pub event_with : List ℕ → ℕ → ℕ → List ℕ → Option Event
event_with kind cycle at last =
    if bytes_eq kind (codes "R") then option_map (λ word. Retire cycle at word None) (hex_in 8 last)
    else (if bytes_eq kind (codes "T") then option_map (Trap cycle at) (vector_in last)
    else (if bytes_eq kind (codes "I") then option_map (Irq cycle at) (vector_in last)
    else None))

-- the event of four words
abbrev pub event_of_four : List ℕ → List ℕ → List ℕ → List ℕ → Option Event
event_of_four kind cycle at last =
    option_and_then (λ c. option_and_then (λ a. event_with kind c a last) (hex_in 16 at)) (decimal_in cycle)

-- the event of this cycle and address, and of the words of an instruction with a prefix
abbrev pub prefixed_with : ℕ → ℕ → List ℕ → List ℕ → Option Event
prefixed_with cycle at word suffix =
    option_and_then (λ w. option_map (λ s. Retire cycle at w (Some s)) (hex_in 8 suffix)) (hex_in 8 word)

-- the event of five words
abbrev pub event_of_five : List ℕ → List ℕ → List ℕ → List ℕ → List ℕ → Option Event
event_of_five kind cycle at word suffix =
    if bytes_eq kind (codes "R")
    then option_and_then (λ c. option_and_then (λ a. prefixed_with c a word suffix) (hex_in 16 at)) (decimal_in cycle)
    else None
