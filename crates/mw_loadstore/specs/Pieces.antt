-- The pieces of a storage access, which stand each in one block of 64 bytes (Book I, effective addresses; the block of 64 bytes is this core's own choice).
use Rattle.std.specs.Prelude.{ℕ, ◌+◌, ◌-◌, ◌%◌, ◌^◌, ◌≤◌, List, [], ◌∷◌, map, Option, Some, None, if◌then◌else◌, nat_le}
use Rattle.std.specs.List.{range_with_len}
use Rattle.mw_isa.specs.declared.pages.Stretch.{Stretch}
use Rattle.mw_isa.specs.declared.pages.Stretches.{Stretches}
use Rattle.mw_loadstore.specs.declared.access.Piece.{Piece}

-- how many bytes there are from an effective address to the end of its block
abbrev pub room_of : ℕ → ℕ
room_of ea = 64 - ea % 64

-- the pieces of an access: one where it lies in one block, and else its bytes up to the block's end and the rest from the next block on, modulo 2^64
unfoldable pub pieces_of : ℕ → ℕ → List Piece
pieces_of ea len =
    if nat_le (ea % 64 + len) 64
    then record { ea = ea; len = len } ∷ []
    else record { ea = ea; len = room_of ea } ∷ record { ea = (ea + room_of ea) % 2 ^ 64; len = len - room_of ea } ∷ []

-- how many bytes a piece has
abbrev pub piece_len : Piece → ℕ
piece_len piece = piece.len

-- the effective addresses of an access of this length, one after another, modulo 2^64
unfoldable pub addresses_from : ℕ → ℕ → List ℕ
addresses_from ea len = map (λ i. (ea + i) % 2 ^ 64) (range_with_len 0 len)

-- the effective addresses of a piece's bytes
abbrev pub piece_addresses : Piece → List ℕ
piece_addresses piece = addresses_from piece.ea piece.len

-- a piece has a byte or more, and lies in one block
abbrev pub IsInOneBlock : Piece → Type 0
IsInOneBlock piece = (1 ≤ piece.len) × (piece.ea % 64 + piece.len ≤ 64)

-- a stretch of real storage by pieces: itself where it lies in one block, and else its bytes up to the block's end and the rest
abbrev pub pieces_from : Stretch → Stretches
pieces_from stretch =
    if nat_le stretch.len (room_of stretch.at)
    then record { first = stretch; second = None }
    else record { first = record { at = stretch.at; len = room_of stretch.at }; second = Some (record { at = stretch.at + room_of stretch.at; len = stretch.len - room_of stretch.at }) }

-- stretches by pieces: of two, which meet at the end of a page, each is one
abbrev pub pieces_by : Stretch → Option Stretch → Stretches
pieces_by first None = pieces_from first
pieces_by first (Some second) = record { first = first; second = Some second }

-- the pieces in which stretches are stored to, at most two
unfoldable pub pieces_in : Stretches → Stretches
pieces_in at = pieces_by at.first at.second

-- a stretch lies in one block
abbrev pub IsInBlock : Stretch → Type 0
IsInBlock stretch = stretch.at % 64 + stretch.len ≤ 64
