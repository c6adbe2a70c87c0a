-- Draws: numbers that follow from one another, and what each gives.
use Rattle.std.specs.Prelude.{ℕ, suc, zero, ◌+◌, ◌*◌, ◌/◌, ◌%◌, ◌^◌}

-- the number behind a number, of 64 bits (own choice: a linear congruential generator)
unfoldable pub next_number : ℕ → ℕ
next_number x = (x * 6364136223846793005 + 1442695040888963407) % 2 ^ 64

-- what a number gives below a limit, by its high bits
unfoldable pub below : ℕ → ℕ → ℕ
below limit x = x / 2 ^ 33 % limit

-- the number that so many draws end with
abbrev pub number_behind : ℕ → ℕ → ℕ
number_behind zero x = x
number_behind (suc n) x = number_behind n (next_number x)

-- what the nth draw from a number on gives below a limit, 1 for the first
abbrev pub draw : ℕ → ℕ → ℕ → ℕ
draw n limit x = below limit (number_behind n x)
