-- Which bytes of a script have arrived, and what is received of them.
use Rattle.std.proofs.Common.{◌≡◌, ℕ, zero, suc, ◌+◌, ◌-◌, ◌<◌, ◌≤◌, List, [], ◌∷◌, ◌++◌, length, map, take, drop, get_or, nat_le, refl, sym, ap, ◌∙◌, arith, append_assoc, append-nil, take_all, drop-drop, length-append, nat_lt, ltb-true, ltb-false}
use Rattle.std.proofs.lemmas.Bool.{cond-true, cond-false, cond_both, le-leb, lt-leb}
use Rattle.std.proofs.lemmas.List.{at_drop_more, at_drop_all, take-append-le, take_rest}
use Rattle.mw_uart.specs.UartAt.{arrived_by, arrivals}
use Rattle.mw_uart.specs.Inside.{with_received}

-- the script's next byte has arrived
pub arrived_more : (cycle : ℕ) (pair : ℕ × ℕ) (rest : List (ℕ × ℕ)) → pair.0 ≤ cycle → arrived_by cycle (pair ∷ rest) ≡ 1 + arrived_by cycle rest
unfolding arrived_by
arrived_more cycle pair rest early = cond-true (nat_le pair.0 cycle) (1 + arrived_by cycle rest) 0 (le-leb pair.0 cycle early)

-- the script's next byte hasn't arrived
pub arrived_none : (cycle : ℕ) (pair : ℕ × ℕ) (rest : List (ℕ × ℕ)) → cycle < pair.0 → arrived_by cycle (pair ∷ rest) ≡ 0
unfolding arrived_by
arrived_none cycle pair rest late = cond-false (nat_le pair.0 cycle) (1 + arrived_by cycle rest) 0 (lt-leb pair.0 cycle late)

-- a front of a front and more
pub take_then : (k : ℕ) (xs ys : List ℕ) → take k (take k xs ++ ys) ≡ take k (xs ++ ys)
take_then zero xs ys = refl
take_then (suc k) [] ys = refl
take_then (suc k) (x ∷ xs) ys = ap (λ (zs : List ℕ). x ∷ zs) (take_then k xs ys)

-- no byte of an empty script has arrived
pub arrived_nil : (cycle : ℕ) → arrived_by cycle [] ≡ 0
unfolding arrived_by
arrived_nil cycle = refl

-- the bytes that have arrived, where the next one has
arrivals_more : (cycle : ℕ) (pair : ℕ × ℕ) (rest : List (ℕ × ℕ)) → pair.0 ≤ cycle → arrivals cycle (pair ∷ rest) ≡ pair.1 ∷ arrivals cycle rest
arrivals_more cycle pair rest early =
    let e : 1 + arrived_by cycle rest ≡ suc (arrived_by cycle rest) = omega arith in
    ap (λ (k : ℕ). map (λ p. p.1) (take k (pair ∷ rest))) (arrived_more cycle pair rest early ∙ e)

-- a received byte stands in the front of all
received-take : (now : List ℕ) (byte : ℕ) → length now ≤ 16 → with_received now byte ≡ take 16 (now ++ byte ∷ [])
received-take now byte few =
    cond_both (nat_lt (length now) 16) (now ++ byte ∷ []) now (λ (xs : List ℕ). xs ≡ take 16 (now ++ byte ∷ []))
    (λ e. let less : length now < 16 = ltb-true (length now) 16 e in
    sym (take_all 16 (now ++ byte ∷ []) (omega (arith, length-append now (byte ∷ [])))))
    (λ e. let full : 16 ≤ length now = ltb-false (length now) 16 e in
    sym (take-append-le 16 now (byte ∷ []) full ∙ take_all 16 now few))

-- the count of arrived bytes, one byte further
pub count-more : (cycle i : ℕ) (pending : List (ℕ × ℕ)) (whole : ℕ) → i < length pending → (get_or pending i (0, 0)).0 ≤ cycle → i + arrived_by cycle (drop i pending) ≡ whole → (i + 1) + arrived_by cycle (drop (i + 1) pending) ≡ whole
count-more cycle i pending whole within early is =
    let here = at_drop_more (arrived_by cycle) pending i (0, 0) within in
    let more = arrived_more cycle (get_or pending i (0, 0)) (drop (i + 1) pending) early in
    omega (arith, here, more, is)

-- the received bytes, one byte further
pub received-more : (cycle i : ℕ) (pending : List (ℕ × ℕ)) (now next whole : List ℕ) → i < length pending → (get_or pending i (0, 0)).0 ≤ cycle → length now ≤ 16 → next ≡ with_received now (get_or pending i (0, 0)).1 → take 16 (now ++ arrivals cycle (drop i pending)) ≡ whole → take 16 (next ++ arrivals cycle (drop (i + 1) pending)) ≡ whole
received-more cycle i pending now next whole within early few is same =
    let pair = get_or pending i (0, 0) in
    let rest = arrivals cycle (drop (i + 1) pending) in
    ap (λ (xs : List ℕ). take 16 (xs ++ rest)) (is ∙ received-take now pair.1 few)
    ∙ take_then 16 (now ++ pair.1 ∷ []) rest
    ∙ ap (take 16) (append_assoc now (pair.1 ∷ []) rest)
    ∙ ap (λ (xs : List ℕ). take 16 (now ++ xs)) (sym (arrivals_more cycle pair (drop (i + 1) pending) early))
    ∙ sym (ap (λ (xs : List ℕ). take 16 (now ++ xs)) (at_drop_more (arrivals cycle) pending i (0, 0) within))
    ∙ same

-- the received bytes are whole where nothing more has arrived
received-all : (n : ℕ) (pending : List (ℕ × ℕ)) (now whole : List ℕ) → n ≡ 0 → length now ≤ 16 → take 16 (now ++ map (λ p. p.1) (take n pending)) ≡ whole → now ≡ whole
received-all n pending now whole none few same =
    sym (ap (take 16) (append-nil now) ∙ take_all 16 now few)
    ∙ sym (ap (λ (k : ℕ). take 16 (now ++ map (λ p. p.1) (take k pending))) none)
    ∙ same

-- the arrived bytes are all counted, since the next byte is late
pub late-count : (cycle i : ℕ) (pending : List (ℕ × ℕ)) (whole : ℕ) → i < length pending → cycle < (get_or pending i (0, 0)).0 → i + arrived_by cycle (drop i pending) ≡ whole → i ≡ whole
late-count cycle i pending whole within late is =
    let here = at_drop_more (arrived_by cycle) pending i (0, 0) within in
    let none = arrived_none cycle (get_or pending i (0, 0)) (drop (i + 1) pending) late in
    omega (arith, here, none, is)

pub late-received : (cycle i : ℕ) (pending : List (ℕ × ℕ)) (now whole : List ℕ) → i < length pending → cycle < (get_or pending i (0, 0)).0 → length now ≤ 16 → take 16 (now ++ arrivals cycle (drop i pending)) ≡ whole → now ≡ whole
late-received cycle i pending now whole within late few same =
    let here = at_drop_more (arrived_by cycle) pending i (0, 0) within in
    let none = arrived_none cycle (get_or pending i (0, 0)) (drop (i + 1) pending) late in
    received-all (arrived_by cycle (drop i pending)) (drop i pending) now whole (here ∙ none) few same

-- the arrived bytes are all counted, since there is no next byte
pub end-count : (cycle i : ℕ) (pending : List (ℕ × ℕ)) (whole : ℕ) → length pending ≤ i → i + arrived_by cycle (drop i pending) ≡ whole → i ≡ whole
end-count cycle i pending whole past is =
    let here = at_drop_all (arrived_by cycle) pending i past in
    let none = arrived_nil cycle in
    omega (arith, here, none, is)

pub end-received : (cycle i : ℕ) (pending : List (ℕ × ℕ)) (now whole : List ℕ) → length pending ≤ i → length now ≤ 16 → take 16 (now ++ arrivals cycle (drop i pending)) ≡ whole → now ≡ whole
end-received cycle i pending now whole past few same =
    received-all (arrived_by cycle (drop i pending)) (drop i pending) now whole (at_drop_all (arrived_by cycle) pending i past ∙ arrived_nil cycle) few same

-- what has arrived of the rest of a script leaves a shorter rest
pub rest-after : (cycle next count : ℕ) (script pending : List (ℕ × ℕ)) → pending ≡ drop next script → count ≡ arrived_by cycle pending → drop (next + count) script ≡ drop (arrived_by cycle (drop next script)) (drop next script)
rest-after cycle next count script pending is counts =
    ap (λ (k : ℕ). drop (next + k) script) (counts ∙ ap (arrived_by cycle) is) ∙ sym (drop-drop (arrived_by cycle (drop next script)) next script)

-- the rest of a script, as the code reads it
pub pending-is : (read script : List (ℕ × ℕ)) (next : ℕ) → read ≡ script → take (length read - next) (drop next read) ≡ drop next script
pending-is read script next is = take_rest read next ∙ ap (drop next) is
