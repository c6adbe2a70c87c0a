-- Numbers that decimal digits write.
use Rattle.std.proofs.Common.{◌≡◌, ℕ, ◌+◌, ◌*◌, ◌<◌, ◌≤◌, List, [], ◌∷◌, length, get_or, arith, drop}
use Rattle.std.specs.Char.{digit_value}
use Rattle.std.specs.Str.Parse.{digits_value_after}
use Rattle.std.proofs.lemmas.List.{at_drop_more, at_drop_all}

-- digits don't make the number before them less
after-least : (m : ℕ) (digits : List ℕ) → m ≤ digits_value_after 10 m digits
after-least m [] = omega arith
after-least m (d ∷ ds) =
    let there = after-least (m * 10 + digit_value d) ds in
    omega (arith, there)

-- the number with the next digit isn't above the whole
pub value-more : (m : ℕ) (digits : List ℕ) (i d whole : ℕ) → i < length digits → digits_value_after 10 m (drop i digits) ≡ whole → m * 10 + digit_value (get_or digits i d) ≤ whole
value-more m digits i d whole within is =
    let here = at_drop_more (digits_value_after 10 m) digits i d within in
    let there = after-least (m * 10 + digit_value (get_or digits i d)) (drop (i + 1) digits) in
    omega (arith, here, there, is)

-- with no digit left the number so far is the whole
pub value-end : (m : ℕ) (digits : List ℕ) (i whole : ℕ) → length digits ≤ i → digits_value_after 10 m (drop i digits) ≡ whole → m ≡ whole
value-end m digits i whole past is =
    let here = at_drop_all (digits_value_after 10 m) digits i past in
    omega (arith, here, is)
