-- Bits and bytes by their places. A place is counted from the right here: the last bit, and the last byte, has place 0.
use Rattle.std.specs.Prelude.{ℕ, zero, suc, ◌+◌, ◌*◌, ◌/◌, ◌%◌, ◌^◌, count_ones}

-- the sum of what a function gives for the places below this number
unfoldable pub sum_below : ℕ → (ℕ → ℕ) → ℕ
sum_below zero f = 0
sum_below (suc n) f = sum_below n f + f n

-- the byte at a place
abbrev pub byte_at : ℕ → ℕ → ℕ
byte_at x place = x / 2 ^ (8 * place) % 2 ^ 8

-- the halfword at a place
abbrev pub halfword_at : ℕ → ℕ → ℕ
halfword_at x place = x / 2 ^ (16 * place) % 2 ^ 16

-- how many ones a number has below a place
abbrev pub ones_below : ℕ → ℕ → ℕ
ones_below place x = count_ones (x % 2 ^ place)
