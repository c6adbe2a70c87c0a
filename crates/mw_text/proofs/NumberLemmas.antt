-- Numbers that digits write.
use Rattle.std.proofs.Common.{◌≡◌, ℕ, ◌+◌, ◌*◌, ◌<◌, ◌≤◌, List, [], ◌∷◌, length, get_or, arith, drop}
use Rattle.std.specs.Char.{digit_value}
use Rattle.std.specs.Str.Parse.{digits_value_after}
use Rattle.std.proofs.Math.Nat.{mul-le-mul_left}
use Rattle.std.proofs.lemmas.List.{at_drop_more, at_drop_all}

-- one digit more doesn't make the number less
shifted : (base m d : ℕ) → 1 ≤ base → m ≤ m * base + d
shifted base m d some = let h = mul-le-mul_left m some in omega (arith, h)

-- digits don't make the number before them less
pub after-least : (base m : ℕ) (digits : List ℕ) → 1 ≤ base → m ≤ digits_value_after base m digits
after-least base m [] some = omega arith
after-least base m (d ∷ ds) some =
    let here = shifted base m (digit_value d) some in
    let there = after-least base (m * base + digit_value d) ds some in
    omega (arith, here, there)

-- the number with the next digit isn't above the whole
pub value-more : (base m : ℕ) (digits : List ℕ) (i d whole : ℕ) → 1 ≤ base → i < length digits → digits_value_after base m (drop i digits) ≡ whole → m * base + digit_value (get_or digits i d) ≤ whole
value-more base m digits i d whole some within is =
    let here = at_drop_more (digits_value_after base m) digits i d within in
    let there = after-least base (m * base + digit_value (get_or digits i d)) (drop (i + 1) digits) some in
    omega (arith, here, there, is)

-- with no digit left the number so far is the whole
pub value-end : (base m : ℕ) (digits : List ℕ) (i whole : ℕ) → length digits ≤ i → digits_value_after base m (drop i digits) ≡ whole → m ≡ whole
value-end base m digits i whole past is =
    let here = at_drop_all (digits_value_after base m) digits i past in
    omega (arith, here, is)
