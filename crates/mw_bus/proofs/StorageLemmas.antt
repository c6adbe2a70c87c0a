-- The laws of reads and stores of several bytes, and of numbers by their bytes.
use Rattle.std.proofs.Common.{◌≡◌, ◌≢◌, ℕ, zero, suc, ◌+◌, ◌-◌, ◌%◌, ◌^◌, ◌<◌, ◌≤◌, List, [], ◌∷◌, ◌++◌, length, take, drop, set, get_or, slice_index, replicate, Bool, true, false, cond, nat_lt, refl, sym, ap, ap₂, ◌∙◌, arith, append_assoc}
use Rattle.std.proofs.Math.Nat.{mod-add-mod, mod-eq_of_lt}
use Rattle.std.proofs.lemmas.List.{append-nil, length-set, length-take, length-drop, length_push, get_or_default, get_or-drop, get_or-take, get_or-set_other, get_or-set_same, same_lists, set_at, take_at, at_drop_more, at_drop_all}
use Rattle.std.proofs.lemmas.List.FromFn.{length-map-range_with_len, map-range_with_len_more, get_or-map-range_with_len}
use Rattle.std.proofs.lemmas.Bool.Decides.{nat_tests}
use Rattle.byteorder.specs.Endian.{big_number, little_number, big_bytes, little_bytes}
use Rattle.byteorder.specs.Numbers.{big_number-reads_back, length-bytes_high_first, length-bytes_low_first, little_number-reads_back}
use Rattle.mw_bus.specs.Memory.{four_at, word_at, byte_at, byte_put, bytes_at, laid, number_of, bytes_of, padded}

-- the address behind the next one, a step on from the next
step_on : (at i : ℕ) → ((at + 1) % 2 ^ 60 + i) % 2 ^ 60 ≡ (at + suc i) % 2 ^ 60
step_on at i =
    let e : at + 1 + i ≡ at + suc i = omega arith in
    mod-add-mod (at + 1) (2 ^ 60) i ∙ ap (λ (k : ℕ). k % 2 ^ 60) e

-- a real address is its own remainder
own_address : (at : ℕ) → at < 2 ^ 60 → (at + 0) % 2 ^ 60 ≡ at
own_address at real =
    let e : at + 0 ≡ at = omega arith in
    ap (λ (k : ℕ). k % 2 ^ 60) e ∙ mod-eq_of_lt real

-- a read gives as many bytes as asked for
pub length-bytes_at : (ram : List ℕ) (at n : ℕ) → length (bytes_at ram at n) ≡ n
unfolding bytes_at
length-bytes_at ram at n = length-map-range_with_len (λ (i : ℕ). byte_at ram ((at + i) % 2 ^ 60)) 0 n

-- the byte of a read at a place
pub get_or-bytes_at : (ram : List ℕ) (at n i d : ℕ) → i < n → get_or (bytes_at ram at n) i d ≡ byte_at ram ((at + i) % 2 ^ 60)
unfolding bytes_at
get_or-bytes_at ram at n i d below =
    get_or-map-range_with_len (λ (k : ℕ). byte_at ram ((at + k) % 2 ^ 60)) 0 n i i d below (omega arith)

-- a read of one byte more has the byte behind the others
pub bytes_at-more : (ram : List ℕ) (at n : ℕ) → bytes_at ram at (n + 1) ≡ bytes_at ram at n ++ byte_at ram ((at + n) % 2 ^ 60) ∷ []
unfolding bytes_at
bytes_at-more ram at n =
    map-range_with_len_more (λ (i : ℕ). byte_at ram ((at + i) % 2 ^ 60)) 0 n n (omega arith)

-- two reads side by side are one
pub bytes_at-append : (ram : List ℕ) (at m n : ℕ) → bytes_at ram at (m + n) ≡ bytes_at ram at m ++ bytes_at ram ((at + m) % 2 ^ 60) n
unfolding bytes_at
bytes_at-append ram at m zero =
    let e : m + 0 ≡ m = omega arith in
    ap (bytes_at ram at) e ∙ sym (append-nil (bytes_at ram at m))
bytes_at-append ram at m (suc n) =
    let e : m + suc n ≡ m + n + 1 = omega arith in
    let k : n + 1 ≡ suc n = omega arith in
    let sum : at + m + n ≡ at + (m + n) = omega arith in
    let place : ((at + m) % 2 ^ 60 + n) % 2 ^ 60 ≡ (at + (m + n)) % 2 ^ 60 = mod-add-mod (at + m) (2 ^ 60) n ∙ ap (λ (x : ℕ). x % 2 ^ 60) sum in
    let last = byte_at ram ((at + (m + n)) % 2 ^ 60) in
    let back : bytes_at ram ((at + m) % 2 ^ 60) n ++ last ∷ [] ≡ bytes_at ram ((at + m) % 2 ^ 60) (suc n) =
    ap (λ (q : ℕ). bytes_at ram ((at + m) % 2 ^ 60) n ++ byte_at ram q ∷ []) (sym place)
    ∙ sym (bytes_at-more ram ((at + m) % 2 ^ 60) n)
    ∙ ap (bytes_at ram ((at + m) % 2 ^ 60)) k in
    ap (bytes_at ram at) e
    ∙ bytes_at-more ram at (m + n)
    ∙ ap (λ (xs : List ℕ). xs ++ last ∷ []) (bytes_at-append ram at m n)
    ∙ append_assoc (bytes_at ram at m) (bytes_at ram ((at + m) % 2 ^ 60) n) (last ∷ [])
    ∙ ap (λ (xs : List ℕ). bytes_at ram at m ++ xs) back

-- the byte at an address in RAM is RAM's
pub byte_at_inside : (ram : List ℕ) (q : ℕ) → q < 16777216 → byte_at ram q ≡ slice_index ram q
byte_at_inside ram q inside = grind (arith, nat_tests)

-- a read that lies in RAM gives a stretch of RAM
pub bytes_at_inside : (ram : List ℕ) (at n : ℕ) → length ram ≡ 16777216 → at + n ≤ 16777216 → bytes_at ram at n ≡ take n (drop at ram)
bytes_at_inside ram at n whole inside =
    let long : length (take n (drop at ram)) ≡ n = simp (length-take, length-drop) (omega arith) in
    same_lists _ _
    (length-bytes_at ram at n ∙ sym long)
    (λ k d h.
    let below : k < n = omega (arith, length-bytes_at ram at n) in
    let small : at + k < 2 ^ 60 = omega arith in
    let within : at + k < 16777216 = omega arith in
    let there : at + k < length ram = omega arith in
    get_or-bytes_at ram at n k d below
    ∙ ap (byte_at ram) (mod-eq_of_lt small)
    ∙ byte_at_inside ram (at + k) within
    ∙ get_or_default ram (at + k) 0 d there
    ∙ sym (get_or-drop at ram k d)
    ∙ sym (get_or-take n (drop at ram) k d below))

-- a store of a byte keeps RAM's length
pub length-byte_put : (ram : List ℕ) (at byte : ℕ) → length (byte_put ram at byte) ≡ length ram
length-byte_put ram at byte =
    elim (nat_lt at 16777216) as (λ (b : Bool). length (cond b (set ram at byte) ram) ≡ length ram) [
      | true ↦ length-set ram at byte
      | false ↦ refl
    ]

-- a store of a byte keeps each other byte
pub byte_at-byte_put_other : (ram : List ℕ) (at byte q : ℕ) → at ≢ q → byte_at (byte_put ram at byte) q ≡ byte_at ram q
byte_at-byte_put_other ram at byte q apart =
    let other : q ≢ at = λ e. apart (sym e) in
    let kept : slice_index (byte_put ram at byte) q ≡ slice_index ram q = elim (nat_lt at 16777216) as (λ (b : Bool). slice_index (cond b (set ram at byte) ram) q ≡ slice_index ram q) [
      | true ↦ get_or-set_other ram at q byte 0 other
      | false ↦ refl
    ] in
    ap (λ (x : ℕ). cond (nat_lt q 16777216) x 255) kept

-- the byte that was stored reads back where RAM is
pub byte_at-byte_put_same : (ram : List ℕ) (at byte : ℕ) → length ram ≡ 16777216 → at < 16777216 → byte_at (byte_put ram at byte) at ≡ byte
byte_at-byte_put_same ram at byte whole inside =
    let there : at < length ram = omega arith in
    let put : byte_put ram at byte ≡ set ram at byte = grind (arith, nat_tests) in
    byte_at_inside (byte_put ram at byte) at inside
    ∙ ap (λ (xs : List ℕ). slice_index xs at) put
    ∙ get_or-set_same ram at byte 0 there

-- a store keeps RAM's length
pub length-laid : (ram : List ℕ) (at : ℕ) (bytes : List ℕ) → length (laid ram at bytes) ≡ length ram
unfolding laid
length-laid ram at [] = refl
length-laid ram at (byte ∷ bytes) =
    length-laid (byte_put ram at byte) ((at + 1) % 2 ^ 60) bytes ∙ length-byte_put ram at byte

-- a byte that a store doesn't touch stays
pub byte_at-laid_other : (ram : List ℕ) (at : ℕ) (bytes : List ℕ) (q : ℕ) → at < 2 ^ 60 → ((i : ℕ) → i < length bytes → (at + i) % 2 ^ 60 ≢ q) → byte_at (laid ram at bytes) q ≡ byte_at ram q
unfolding laid
byte_at-laid_other ram at [] q real apart = refl
byte_at-laid_other ram at (byte ∷ bytes) q real apart =
    let first : at ≢ q = λ e. apart 0 (omega arith) (own_address at real ∙ e) in
    let rest : (i : ℕ) → i < length bytes → ((at + 1) % 2 ^ 60 + i) % 2 ^ 60 ≢ q = λ i h e. apart (suc i) (omega arith) (sym (step_on at i) ∙ e) in
    byte_at-laid_other (byte_put ram at byte) ((at + 1) % 2 ^ 60) bytes q (omega arith) rest
    ∙ byte_at-byte_put_other ram at byte q first

-- a byte that was stored where RAM is reads back
pub byte_at-laid_own : (ram : List ℕ) (at : ℕ) (bytes : List ℕ) (i : ℕ) → at < 2 ^ 60 → length ram ≡ 16777216 → length bytes ≤ 2 ^ 60 → i < length bytes → (at + i) % 2 ^ 60 < 16777216 → byte_at (laid ram at bytes) ((at + i) % 2 ^ 60) ≡ get_or bytes i 0
unfolding laid
byte_at-laid_own ram at [] i real whole short below inside = absurd (omega arith)
byte_at-laid_own ram at (byte ∷ bytes) zero real whole short below inside =
    let here : at < 16777216 = omega (arith, own_address at real) in
    let apart : (k : ℕ) → k < length bytes → ((at + 1) % 2 ^ 60 + k) % 2 ^ 60 ≢ at = λ k h e. omega (arith, step_on at k) in
    ap (byte_at (laid (byte_put ram at byte) ((at + 1) % 2 ^ 60) bytes)) (own_address at real)
    ∙ byte_at-laid_other (byte_put ram at byte) ((at + 1) % 2 ^ 60) bytes at (omega arith) apart
    ∙ byte_at-byte_put_same ram at byte whole here
byte_at-laid_own ram at (byte ∷ bytes) (suc i) real whole short below inside =
    let place : (at + suc i) % 2 ^ 60 ≡ ((at + 1) % 2 ^ 60 + i) % 2 ^ 60 = sym (step_on at i) in
    ap (byte_at (laid (byte_put ram at byte) ((at + 1) % 2 ^ 60) bytes)) place
    ∙ byte_at-laid_own (byte_put ram at byte) ((at + 1) % 2 ^ 60) bytes i (omega arith) (length-byte_put ram at byte ∙ whole) (omega arith) (omega arith) (omega arith)

-- what was stored in RAM reads back
pub bytes_at-laid : (ram : List ℕ) (at : ℕ) (bytes : List ℕ) → length ram ≡ 16777216 → at + length bytes ≤ 16777216 → bytes_at (laid ram at bytes) at (length bytes) ≡ bytes
bytes_at-laid ram at bytes whole inside =
    same_lists _ _
    (length-bytes_at (laid ram at bytes) at (length bytes))
    (λ k d h.
    let below : k < length bytes = omega (arith, length-bytes_at (laid ram at bytes) at (length bytes)) in
    let small : at + k < 2 ^ 60 = omega arith in
    let within : (at + k) % 2 ^ 60 < 16777216 = omega (arith, mod-eq_of_lt small) in
    get_or-bytes_at (laid ram at bytes) at (length bytes) k d below
    ∙ byte_at-laid_own ram at bytes k (omega arith) whole (omega arith) below within
    ∙ get_or_default bytes k 0 d below)

-- what a store doesn't touch reads as before
pub bytes_at-laid_other : (ram : List ℕ) (at : ℕ) (bytes : List ℕ) (q n : ℕ) → at < 2 ^ 60 → ((i k : ℕ) → i < length bytes → k < n → (at + i) % 2 ^ 60 ≢ (q + k) % 2 ^ 60) → bytes_at (laid ram at bytes) q n ≡ bytes_at ram q n
bytes_at-laid_other ram at bytes q n real apart =
    same_lists _ _
    (length-bytes_at (laid ram at bytes) q n ∙ sym (length-bytes_at ram q n))
    (λ k d h.
    let below : k < n = omega (arith, length-bytes_at (laid ram at bytes) q n) in
    get_or-bytes_at (laid ram at bytes) q n k d below
    ∙ byte_at-laid_other ram at bytes ((q + k) % 2 ^ 60) real (λ i l. apart i k l below)
    ∙ sym (get_or-bytes_at ram q n k d below))

-- two stores side by side are one
pub laid-append : (ram : List ℕ) (at : ℕ) (xs ys : List ℕ) → at < 2 ^ 60 → laid ram at (xs ++ ys) ≡ laid (laid ram at xs) ((at + length xs) % 2 ^ 60) ys
unfolding laid
laid-append ram at [] ys real = ap (λ (q : ℕ). laid ram q ys) (sym (own_address at real))
laid-append ram at (x ∷ xs) ys real =
    laid-append (byte_put ram at x) ((at + 1) % 2 ^ 60) xs ys (omega arith)
    ∙ ap (λ (q : ℕ). laid (laid (byte_put ram at x) ((at + 1) % 2 ^ 60) xs) q ys) (step_on at (length xs))

-- what is left to store once the first byte that is left is stored
pub laid-more : (bytes : List ℕ) (at i : ℕ) (ram next : List ℕ) → i < length bytes → next ≡ byte_put ram at (get_or bytes i 0) → laid next ((at + 1) % 2 ^ 60) (drop (i + 1) bytes) ≡ laid ram at (drop i bytes)
unfolding laid
laid-more bytes at i ram next below e =
    ap (λ (xs : List ℕ). laid xs ((at + 1) % 2 ^ 60) (drop (i + 1) bytes)) e ∙ sym (at_drop_more (laid ram at) bytes i 0 below)

-- nothing is left to store behind the last byte
pub laid-none : (ram : List ℕ) (at : ℕ) (bytes : List ℕ) (i : ℕ) → length bytes ≤ i → laid ram at (drop i bytes) ≡ ram
unfolding laid
laid-none ram at bytes i past = at_drop_all (laid ram at) bytes i past

-- a number has as many bytes as asked for
pub length-bytes_of : (big : Bool) (n x : ℕ) → length (bytes_of big n x) ≡ n
unfolding bytes_of
length-bytes_of true n x = length-bytes_high_first n x
length-bytes_of false n x = length-bytes_low_first 0 n x

-- a number reads back from its bytes
pub number_of-bytes_of : (big : Bool) (n x : ℕ) → x < 256 ^ n → number_of big n (bytes_of big n x) ≡ x
unfolding number_of bytes_of
number_of-bytes_of true n x fits = ap (big_number n) (sym (append-nil (big_bytes n x))) ∙ big_number-reads_back n x [] fits
number_of-bytes_of false n x fits = ap (little_number n) (sym (append-nil (little_bytes n x))) ∙ little_number-reads_back n x [] fits

-- the four bytes of a word that doesn't go round the end of the real address space
four_at-bytes_at : (ram : List ℕ) (at : ℕ) → at + 3 < 2 ^ 60 → four_at ram at ≡ bytes_at ram at 4
unfolding bytes_at
four_at-bytes_at ram at straight =
    let a : at ≡ (at + 0) % 2 ^ 60 = omega arith in
    let b : at + 1 ≡ (at + 1) % 2 ^ 60 = omega arith in
    let c : at + 2 ≡ (at + 2) % 2 ^ 60 = omega arith in
    let d : at + 3 ≡ (at + 3) % 2 ^ 60 = omega arith in
    ap (λ (x : ℕ). byte_at ram x ∷ byte_at ram (at + 1) ∷ byte_at ram (at + 2) ∷ byte_at ram (at + 3) ∷ []) a
    ∙ ap (λ (x : ℕ). byte_at ram ((at + 0) % 2 ^ 60) ∷ byte_at ram x ∷ byte_at ram (at + 2) ∷ byte_at ram (at + 3) ∷ []) b
    ∙ ap (λ (x : ℕ). byte_at ram ((at + 0) % 2 ^ 60) ∷ byte_at ram ((at + 1) % 2 ^ 60) ∷ byte_at ram x ∷ byte_at ram (at + 3) ∷ []) c
    ∙ ap (λ (x : ℕ). byte_at ram ((at + 0) % 2 ^ 60) ∷ byte_at ram ((at + 1) % 2 ^ 60) ∷ byte_at ram ((at + 2) % 2 ^ 60) ∷ byte_at ram x ∷ []) d

-- a word is the number of its four bytes
pub word_at-number_of : (big : Bool) (ram : List ℕ) (at : ℕ) → at + 3 < 2 ^ 60 → word_at big ram at ≡ number_of big 4 (bytes_at ram at 4)
unfolding word_at
word_at-number_of big ram at straight = ap (number_of big 4) (four_at-bytes_at ram at straight)

-- the front of a padded operand is the operand
pub take-padded : (xs : List ℕ) (n : ℕ) → length xs ≡ n → take n (padded xs) ≡ xs
take-padded xs n len = take_at xs (replicate (8 - length xs) 0) n len

-- a padded operand with one byte more
pub padded-more : (xs : List ℕ) (i y : ℕ) → length xs ≡ i → i < 8 → set (padded xs) i y ≡ padded (xs ++ y ∷ [])
padded-more xs i y len below =
    let room : 8 - length xs ≡ suc (8 - (length xs + 1)) = omega arith in
    ap (λ (k : ℕ). set (xs ++ replicate k 0) i y) room
    ∙ set_at xs 0 (replicate (8 - (length xs + 1)) 0) y i len
    ∙ sym (append_assoc xs (y ∷ []) (replicate (8 - (length xs + 1)) 0))
    ∙ ap (λ (k : ℕ). (xs ++ y ∷ []) ++ replicate (8 - k) 0) (sym (length_push xs y))

-- a padded read with one byte more
pub padded-bytes_at : (ram : List ℕ) (at i byte : ℕ) (bytes : List ℕ) → bytes ≡ padded (bytes_at ram at i) → i < 8 → byte ≡ byte_at ram ((at + i) % 2 ^ 60) → set bytes i byte ≡ padded (bytes_at ram at (i + 1))
padded-bytes_at ram at i byte bytes was below e =
    ap₂ (λ (xs : List ℕ) (y : ℕ). set xs i y) was e
    ∙ padded-more (bytes_at ram at i) i (byte_at ram ((at + i) % 2 ^ 60)) (length-bytes_at ram at i) below
    ∙ ap padded (sym (bytes_at-more ram at i))
