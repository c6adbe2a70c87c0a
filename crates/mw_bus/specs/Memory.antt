-- RAM as a list of bytes, and what a real address reads (the board's map; numbers by Book I, storage operands).
use Rattle.std.specs.Prelude.{ℕ, ◌+◌, ◌-◌, ◌%◌, ◌^◌, List, [], ◌∷◌, ◌++◌, length, map, replicate, Bool, if◌then◌else◌, nat_lt, slice_index, slice_set}
use Rattle.std.specs.List.{range_with_len}
use Rattle.byteorder.specs.Endian.{big_number, little_number, big_bytes, little_bytes}

-- how many bytes of RAM there are: 16 MiB
abbrev pub ram_size : ℕ
ram_size = 16777216

-- the image from address 0 on, and zeros behind it
abbrev pub ram_of : List ℕ → List ℕ
ram_of image = image ++ replicate (ram_size - length image) 0

-- the byte at a real address: RAM's below 16 MiB, and all ones where RAM isn't
abbrev pub byte_at : List ℕ → ℕ → ℕ
byte_at ram at = if nat_lt at ram_size then slice_index ram at else 255

-- the number that an operand's first bytes hold, the byte at the lowest address the most significant one where big, and the least one otherwise
unfoldable pub number_of : Bool → ℕ → List ℕ → ℕ
number_of big n bytes = if big then big_number n bytes else little_number n bytes

-- the four bytes from a real address on
abbrev pub four_at : List ℕ → ℕ → List ℕ
four_at ram at = byte_at ram at ∷ byte_at ram (at + 1) ∷ byte_at ram (at + 2) ∷ byte_at ram (at + 3) ∷ []

-- the word at a real address, its first byte the most significant one where big, and the least one otherwise
unfoldable pub word_at : Bool → List ℕ → ℕ → ℕ
word_at big ram at = number_of big 4 (four_at ram at)

-- the bytes of an operand of this length from a real address on, one after another, round the end of the 60-bit real address space
unfoldable pub bytes_at : List ℕ → ℕ → ℕ → List ℕ
bytes_at ram at n = map (λ i. byte_at ram ((at + i) % 2 ^ 60)) (range_with_len 0 n)

-- RAM with this byte at a real address, and RAM as it is where the address lies outside
abbrev pub byte_put : List ℕ → ℕ → ℕ → List ℕ
byte_put ram at byte = if nat_lt at ram_size then slice_set ram at byte else ram

-- RAM with these bytes stored from a real address on, round the end of the 60-bit real address space, each where RAM is
unfoldable pub laid : List ℕ → ℕ → List ℕ → List ℕ
laid ram at [] = ram
laid ram at (byte ∷ bytes) = laid (byte_put ram at byte) ((at + 1) % 2 ^ 60) bytes

-- the operand's bytes for the low bytes of a number, in the order of storage
unfoldable pub bytes_of : Bool → ℕ → ℕ → List ℕ
bytes_of big n x = if big then big_bytes n x else little_bytes n x

-- an operand of at most 8 bytes, with zeros behind it up to 8
abbrev pub padded : List ℕ → List ℕ
padded bytes = bytes ++ replicate (8 - length bytes) 0
