-- When a branch goes by its target, and by which count (Book I, branch instructions).
use Rattle.std.specs.Prelude.{ℕ, ◌+◌, ◌-◌, ◌*◌, ◌/◌, ◌%◌, ◌^◌, ◌==◌, Bool, not, ◌&&◌, ◌||◌, if◌then◌else◌}

-- a bit of BO, counted from the left of five
abbrev pub bo_bit : ℕ → ℕ → Bool
bo_bit bo number = bo / 2 ^ (4 - number) % 2 == 1

-- CTR falls by 1
abbrev pub falls : ℕ → Bool
falls bo = not (bo_bit bo 2)

-- CTR as the branch tests it, from what it was: modulo 2^64
abbrev pub count_of : ℕ → ℕ → ℕ
count_of bo ctr = if falls bo then (ctr + (2 ^ 64 - 1)) % 2 ^ 64 else ctr

-- what BO asks of CTR: nothing, or that it is 0 where BO3 is 1, and else that it isn't
abbrev pub ctr_permits : ℕ → ℕ → Bool
ctr_permits bo count = bo_bit bo 2 || (if bo_bit bo 3 then count == 0 else not (count == 0))

-- what BO asks of the bit: nothing, or that it equals BO1
abbrev pub bit_permits : ℕ → Bool → Bool
bit_permits bo bit = bo_bit bo 0 || (if bo_bit bo 1 then bit else not bit)

-- the branch is taken, by CTR as it tests it and by the bit
abbrev pub is_taken : ℕ → ℕ → Bool → Bool
is_taken bo count bit = ctr_permits bo count && bit_permits bo bit

-- an address in LR, CTR or TAR as a target: its low two bits count as 0
abbrev pub word_address : ℕ → ℕ
word_address n = n / 4 * 4
