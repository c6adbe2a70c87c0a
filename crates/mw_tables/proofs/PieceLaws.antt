-- Numbers in pieces of a code: what is written is read, of the definitions alone.
use Rattle.std.proofs.Common.{◌≡◌, ℕ, zero, suc, ◌+◌, ◌*◌, ◌/◌, ◌%◌, ◌^◌, ◌<◌, ◌≤◌, min, max, true, List, [], ◌∷◌, bit_and, bit_or, refl, sym, ap, ◌∙◌, arith, mod-eq_of_lt, pow_pos}
use Rattle.std.specs.Int.Bits.{and_zero_l, and_zero_r, or_zero_l, or_zero_r, and_self}
use Rattle.std.specs.Int.{bit_at}
use Rattle.std.proofs.lemmas.Nat.{and_comm, or_comm, and_assoc, and_or_self, or_shr, or_mod, or_block, shl-shr, mod-pow-add, pow-add, mod_below, mod_low, shr_high, mul-le}
use Rattle.std.proofs.lemmas.Nat.Bits.{same_from_bits, bit_at_and, bit_at_or, and_high}
use Rattle.std.proofs.lemmas.Bool.{and_parts, eqb-true}
use Rattle.mw_tables.specs.declared.layout.Piece.{Piece}
use Rattle.mw_tables.specs.Layouts.{slot, gathered, scattered}
use Rattle.mw_tables.specs.Sound.{piece_mask, with_pieces, pieces_apart}

-- all bits of a number are among those of another
abbrev pub Within : ℕ → ℕ → Type 0
Within n mask = bit_and n mask ≡ n

spread : (x y z : ℕ) → min (max x y) z ≡ max (min x z) (min y z)
spread x y z = omega arith

-- a mask over an or
pub and-or : (a b c : ℕ) → bit_and (bit_or a b) c ≡ bit_or (bit_and a c) (bit_and b c)
and-or a b c = same_from_bits (bit_and (bit_or a b) c) (bit_or (bit_and a c) (bit_and b c)) (λ i.
    bit_at_and (bit_or a b) c i
    ∙ ap (λ n. min n (bit_at c i)) (bit_at_or a b i)
    ∙ spread (bit_at a i) (bit_at b i) (bit_at c i)
    ∙ sym (ap (λ n. max n (min (bit_at b i) (bit_at c i))) (bit_at_and a c i))
    ∙ sym (ap (max (bit_at (bit_and a c) i)) (bit_at_and b c i))
    ∙ sym (bit_at_or (bit_and a c) (bit_and b c) i))

turned : (x y z : ℕ) → max (max x y) z ≡ max x (max y z)
turned x y z = omega arith

-- the order of two ors is free
pub or_assoc : (a b c : ℕ) → bit_or (bit_or a b) c ≡ bit_or a (bit_or b c)
or_assoc a b c = same_from_bits (bit_or (bit_or a b) c) (bit_or a (bit_or b c)) (λ i.
    bit_at_or (bit_or a b) c i
    ∙ ap (λ n. max n (bit_at c i)) (bit_at_or a b i)
    ∙ turned (bit_at a i) (bit_at b i) (bit_at c i)
    ∙ sym (ap (max (bit_at a i)) (bit_at_or b c i))
    ∙ sym (bit_at_or a (bit_or b c) i))

-- two numbers without a mask's bits have none together
pub or-clear : (a b m : ℕ) → bit_and a m ≡ 0 → bit_and b m ≡ 0 → bit_and (bit_or a b) m ≡ 0
or-clear a b m p q = and-or a b m ∙ ap (λ n. bit_or n (bit_and b m)) p ∙ ap (bit_or 0) q ∙ or_zero_l 0

-- two numbers within a mask are together
pub or-within : (a b m : ℕ) → Within a m → Within b m → Within (bit_or a b) m
or-within a b m p q = and-or a b m ∙ ap (λ n. bit_or n (bit_and b m)) p ∙ ap (bit_or a) q

-- a mask within a mask
pub within-trans : (a m n : ℕ) → Within a m → Within m n → Within a n
within-trans a m n p q = ap (λ k. bit_and k n) (sym p) ∙ and_assoc n a m ∙ ap (bit_and a) q ∙ p

-- a number is within itself and more
pub within-or_right : (a m : ℕ) → Within m (bit_or a m)
within-or_right a m = and_comm m (bit_or a m) ∙ and_or_self m a

pub within-or_left : (a m : ℕ) → Within a (bit_or a m)
within-or_left a m = ap (bit_and a) (or_comm a m) ∙ within-or_right m a

-- what is within a mask has none of the bits that the mask lacks
pub within-clear : (a m n : ℕ) → Within a m → bit_and m n ≡ 0 → bit_and a n ≡ 0
within-clear a m n p q = ap (λ k. bit_and k n) (sym p) ∙ and_assoc n a m ∙ ap (bit_and a) q ∙ and_zero_r a

-- a number without a mask's bits has none of a part of them
pub clear-part : (a m n : ℕ) → bit_and a m ≡ 0 → Within n m → bit_and a n ≡ 0
clear-part a m n p q = and_comm a n ∙ within-clear n m a q (and_comm m a ∙ p)

-- bits that are used stay used
pub within-with_pieces : (used : ℕ) (ps : List Piece) → Within used (with_pieces used ps)
within-with_pieces used [] = and_self used
within-with_pieces used (p ∷ ps) =
    within-trans used (bit_or used (piece_mask p)) (with_pieces (bit_or used (piece_mask p)) ps) (within-or_left used (piece_mask p)) (within-with_pieces (bit_or used (piece_mask p)) ps)

no_product : (x y : ℕ) → 0 < y → x * y ≡ 0 → x ≡ 0
no_product x zero pos none = omega arith
no_product x (suc y) pos none = omega arith

-- the number in a piece, of two codes together
pub slot-or : (a b : ℕ) (p : Piece) → slot (bit_or a b) p ≡ bit_or (slot a p) (slot b p)
slot-or a b p = ap (λ n. n % 2 ^ p.width) (or_shr a b p.low) ∙ or_mod (a / 2 ^ p.low) (b / 2 ^ p.low) p.width

-- a code without a piece's bits has 0 there
pub slot-clear : (a : ℕ) (p : Piece) → bit_and a (piece_mask p) ≡ 0 → slot a p ≡ 0
slot-clear a p none = no_product (slot a p) (2 ^ p.low) (pow_pos p.low) (sym (and_high a p.width p.low) ∙ none)

-- a number below a power stays as it is
pub mod-twice : (n k : ℕ) → n % 2 ^ k % 2 ^ k ≡ n % 2 ^ k
mod-twice n k = mod-eq_of_lt (mod_below n (2 ^ k) (pow_pos k))

-- what is written to a piece is read there
pub slot-put : (n : ℕ) (p : Piece) → slot (n % 2 ^ p.width * 2 ^ p.low) p ≡ n % 2 ^ p.width
slot-put n p = ap (λ k. k % 2 ^ p.width) (shl-shr (n % 2 ^ p.width) p.low) ∙ mod-twice n p.width

-- what is written to a piece has no bits elsewhere
pub put-within : (n : ℕ) (p : Piece) → Within (n % 2 ^ p.width * 2 ^ p.low) (piece_mask p)
put-within n p = and_high (n % 2 ^ p.width * 2 ^ p.low) p.width p.low ∙ ap (λ k. k * 2 ^ p.low) (slot-put n p)

-- the pieces' test, in its parts
pub apart-head : (used : ℕ) (p : Piece) (ps : List Piece) → pieces_apart used (p ∷ ps) ≡ true → bit_and used (piece_mask p) ≡ 0
apart-head used p ps test = eqb-true _ _ (and_parts _ _ test).0

pub apart-tail : (used : ℕ) (p : Piece) (ps : List Piece) → pieces_apart used (p ∷ ps) ≡ true → pieces_apart (bit_or used (piece_mask p)) ps ≡ true
apart-tail used p ps test = (and_parts _ _ test).1

-- what is written to pieces has none of the bits that were used before
pub scattered-clear : (n used : ℕ) (ps : List Piece) → pieces_apart used ps ≡ true → bit_and (scattered n ps) used ≡ 0
scattered-clear n used [] test = and_zero_l used
scattered-clear n used (p ∷ ps) test =
    let here = within-clear (n % 2 ^ p.width * 2 ^ p.low) (piece_mask p) used (put-within n p) (and_comm (piece_mask p) used ∙ apart-head used p ps test) in
    let later = clear-part (scattered (n / 2 ^ p.width) ps) (bit_or used (piece_mask p)) used (scattered-clear (n / 2 ^ p.width) (bit_or used (piece_mask p)) ps (apart-tail used p ps test)) (within-or_left used (piece_mask p)) in
    or-clear (n % 2 ^ p.width * 2 ^ p.low) (scattered (n / 2 ^ p.width) ps) used here later

-- what is written to pieces has no bits elsewhere
pub scattered-within : (n used : ℕ) (ps : List Piece) → Within (scattered n ps) (with_pieces used ps)
scattered-within n used [] = and_zero_l used
scattered-within n used (p ∷ ps) =
    let more = bit_or used (piece_mask p) in
    let here = within-trans (n % 2 ^ p.width * 2 ^ p.low) (piece_mask p) (with_pieces more ps) (put-within n p)
    (within-trans (piece_mask p) more (with_pieces more ps) (within-or_right used (piece_mask p)) (within-with_pieces more ps)) in
    or-within (n % 2 ^ p.width * 2 ^ p.low) (scattered (n / 2 ^ p.width) ps) (with_pieces more ps) here (scattered-within (n / 2 ^ p.width) more ps)

both_zero : (x y w : ℕ) → x ≡ 0 → y ≡ 0 → x + w * y ≡ 0
both_zero x y w p q = ap (λ n. n + w * y) p ∙ ap (λ n. 0 + w * n) q ∙ omega arith

-- a code within bits that the pieces are apart from has 0 there
pub gathered-apart : (a used : ℕ) (ps : List Piece) → pieces_apart used ps ≡ true → Within a used → gathered a ps ≡ 0
gathered-apart a used [] test within = refl
gathered-apart a used (p ∷ ps) test within =
    both_zero (slot a p) (gathered a ps) (2 ^ p.width)
    (slot-clear a p (within-clear a used (piece_mask p) within (apart-head used p ps test)))
    (gathered-apart a (bit_or used (piece_mask p)) ps (apart-tail used p ps test) (within-trans a used (bit_or used (piece_mask p)) within (within-or_left used (piece_mask p))))

-- a code without the pieces' bits has 0 there
pub gathered-clear : (a used : ℕ) (ps : List Piece) → bit_and a (with_pieces used ps) ≡ 0 → gathered a ps ≡ 0
gathered-clear a used [] none = refl
gathered-clear a used (p ∷ ps) none =
    let more = bit_or used (piece_mask p) in
    let reached = within-trans (piece_mask p) more (with_pieces more ps) (within-or_right used (piece_mask p)) (within-with_pieces more ps) in
    both_zero (slot a p) (gathered a ps) (2 ^ p.width)
    (slot-clear a p (clear-part a (with_pieces more ps) (piece_mask p) none reached))
    (gathered-clear a more ps none)

-- the widths of pieces together
abbrev pub total : List Piece → ℕ
total [] = 0
total (p ∷ ps) = p.width + total ps

swapped : (s g w : ℕ) → g * w + s ≡ s + w * g
swapped s g w = omega arith

-- the number in pieces, of two codes together
pub gathered-or : (a b : ℕ) (ps : List Piece) → gathered (bit_or a b) ps ≡ bit_or (gathered a ps) (gathered b ps)
gathered-or a b [] = sym (or_zero_l 0)
gathered-or a b (p ∷ ps) =
    ap (λ n. n + 2 ^ p.width * gathered (bit_or a b) ps) (slot-or a b p)
    ∙ ap (λ n. bit_or (slot a p) (slot b p) + 2 ^ p.width * n) (gathered-or a b ps)
    ∙ sym (swapped (bit_or (slot a p) (slot b p)) (bit_or (gathered a ps) (gathered b ps)) (2 ^ p.width))
    ∙ sym (or_block p.width (gathered a ps) (gathered b ps) (slot a p) (slot b p) (mod_below _ _ (pow_pos p.width)) (mod_below _ _ (pow_pos p.width)))
    ∙ ap (λ n. bit_or n (gathered b ps * 2 ^ p.width + slot b p)) (swapped (slot a p) (gathered a ps) (2 ^ p.width))
    ∙ ap (bit_or (slot a p + 2 ^ p.width * gathered a ps)) (swapped (slot b p) (gathered b ps) (2 ^ p.width))

grown : (w g t : ℕ) → g ≤ t → w * g ≤ w * t
grown w g t le = mul-le w g w t (omega arith) le

fits_product : (s g w t : ℕ) → s < w → g < t → s + w * g < w * t
fits_product s g w zero p q = omega arith
fits_product s g w (suc t) p q = omega (arith, grown w g t (omega arith))

-- the number in pieces has their bits
pub gathered-lt : (a : ℕ) (ps : List Piece) → gathered a ps < 2 ^ total ps
gathered-lt a [] = omega arith
gathered-lt a (p ∷ ps) =
    let small = fits_product (slot a p) (gathered a ps) (2 ^ p.width) (2 ^ total ps) (mod_below _ _ (pow_pos p.width)) (gathered-lt a ps) in
    let joined : 2 ^ (p.width + total ps) ≡ 2 ^ p.width * 2 ^ total ps = pow-add 2 p.width (total ps) in
    omega (arith, small, joined)

-- what is written to pieces is read there, as far as they have bits for it
pub gathered-scattered : (n used : ℕ) (ps : List Piece) → pieces_apart used ps ≡ true → gathered (scattered n ps) ps ≡ n % 2 ^ total ps
gathered-scattered n used [] test = omega arith
gathered-scattered n used (p ∷ ps) test =
    let more = bit_or used (piece_mask p) in
    let x = n % 2 ^ p.width * 2 ^ p.low in
    let s = scattered (n / 2 ^ p.width) ps in
    let tail : pieces_apart more ps ≡ true = apart-tail used p ps test in
    let none : bit_and s (piece_mask p) ≡ 0 = clear-part s more (piece_mask p) (scattered-clear (n / 2 ^ p.width) more ps tail) (within-or_right used (piece_mask p)) in
    let first : slot (bit_or x s) p ≡ n % 2 ^ p.width =
    slot-or x s p ∙ ap (bit_or (slot x p)) (slot-clear s p none) ∙ or_zero_r (slot x p) ∙ slot-put n p in
    let apart : gathered x ps ≡ 0 = gathered-apart x more ps tail (within-trans x (piece_mask p) more (put-within n p) (within-or_right used (piece_mask p))) in
    let rest : gathered (bit_or x s) ps ≡ n / 2 ^ p.width % 2 ^ total ps =
    gathered-or x s ps ∙ ap (λ k. bit_or k (gathered s ps)) apart ∙ or_zero_l (gathered s ps) ∙ gathered-scattered (n / 2 ^ p.width) more ps tail in
    ap (λ k. k + 2 ^ p.width * gathered (bit_or x s) ps) first
    ∙ ap (λ k. n % 2 ^ p.width + 2 ^ p.width * k) rest
    ∙ sym (swapped (n % 2 ^ p.width) (n / 2 ^ p.width % 2 ^ total ps) (2 ^ p.width))
    ∙ sym (mod-pow-add n (total ps) p.width)
    ∙ ap (λ (k : ℕ). n % 2 ^ k) (omega arith)

-- a part of a number over an or of masks
pub and-or_masks : (n a b : ℕ) → bit_or (bit_and n a) (bit_and n b) ≡ bit_and n (bit_or a b)
and-or_masks n a b =
    ap (λ k. bit_or k (bit_and n b)) (and_comm n a)
    ∙ ap (bit_or (bit_and a n)) (and_comm n b)
    ∙ sym (and-or a b n)
    ∙ and_comm (bit_or a b) n

-- what is read from pieces and written there again are the code's bits there
pub scattered-gathered : (code used : ℕ) (ps : List Piece) → bit_or (bit_and code used) (scattered (gathered code ps) ps) ≡ bit_and code (with_pieces used ps)
scattered-gathered code used [] = or_zero_r (bit_and code used)
scattered-gathered code used (p ∷ ps) =
    let s = slot code p in
    let g = gathered code ps in
    let below : s < 2 ^ p.width = mod_below (code / 2 ^ p.low) (2 ^ p.width) (pow_pos p.width) in
    let here : (s + 2 ^ p.width * g) % 2 ^ p.width * 2 ^ p.low ≡ bit_and code (piece_mask p) =
    ap (λ n. n % 2 ^ p.width * 2 ^ p.low) (sym (swapped s g (2 ^ p.width)))
    ∙ ap (λ n. n * 2 ^ p.low) (mod_low g p.width s below)
    ∙ sym (and_high code p.width p.low) in
    let rest : (s + 2 ^ p.width * g) / 2 ^ p.width ≡ g =
    ap (λ n. n / 2 ^ p.width) (sym (swapped s g (2 ^ p.width))) ∙ shr_high g p.width s below in
    ap (λ n. bit_or (bit_and code used) (bit_or n (scattered ((s + 2 ^ p.width * g) / 2 ^ p.width) ps))) here
    ∙ ap (λ n. bit_or (bit_and code used) (bit_or (bit_and code (piece_mask p)) (scattered n ps))) rest
    ∙ sym (or_assoc (bit_and code used) (bit_and code (piece_mask p)) (scattered g ps))
    ∙ ap (λ n. bit_or n (scattered g ps)) (and-or_masks code used (piece_mask p))
    ∙ scattered-gathered code (bit_or used (piece_mask p)) ps
