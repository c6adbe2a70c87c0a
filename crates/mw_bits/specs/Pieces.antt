-- Pieces of bytes that are laid over others.
use Rattle.std.specs.Prelude.{ℕ, ◌+◌, List, ◌++◌, length, take, drop}

-- bytes with a piece in place of those that stand from a place on
abbrev pub with_piece : List ℕ → ℕ → List ℕ → List ℕ
with_piece bytes at piece = take at bytes ++ piece ++ drop (at + length piece) bytes
