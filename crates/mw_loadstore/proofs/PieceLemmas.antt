-- What the pieces of an access are, and how two pieces' bytes stand together.
use Rattle.std.proofs.Common.{◌≡◌, inl, inr, ℕ, zero, suc, ◌+◌, ◌-◌, ◌%◌, ◌^◌, ◌<◌, ◌≤◌, List, [], ◌∷◌, ◌++◌, length, drop, replicate, sym, ap, ap₂, ◌∙◌, subst, arith, append_assoc}
use Rattle.std.proofs.Math.Nat.{mod-add-mod}
use Rattle.std.proofs.lemmas.List.{append-nil, length-append, drop-replicate}
use Rattle.std.proofs.lemmas.List.Elements.{All-cons}
use Rattle.std.proofs.lemmas.List.FromFn.{map-range_with_len_more}
use Rattle.std.proofs.lemmas.Bool.{cases_lt}
use Rattle.std.proofs.lemmas.Bool.Decides.{nat_tests}
use Rattle.std.specs.List.{All, sum_by, flat_map}
use Rattle.mw_loadstore.specs.declared.access.Piece.{Piece}
use Rattle.mw_bus.specs.Memory.{padded}
use Rattle.mw_loadstore.specs.Pieces.{IsInOneBlock, addresses_from, piece_addresses, piece_len, pieces_of, room_of}

-- an access of one byte more has one address more
pub addresses_from-more : (ea n : ℕ) → addresses_from ea (n + 1) ≡ addresses_from ea n ++ (ea + n) % 2 ^ 64 ∷ []
unfolding addresses_from
addresses_from-more ea n = map-range_with_len_more (λ (i : ℕ). (ea + i) % 2 ^ 64) 0 n n (omega arith)

-- two accesses side by side are one
pub addresses_from-append : (ea m n : ℕ) → addresses_from ea (m + n) ≡ addresses_from ea m ++ addresses_from ((ea + m) % 2 ^ 64) n
unfolding addresses_from
addresses_from-append ea m zero =
    let e : m + 0 ≡ m = omega arith in
    ap (addresses_from ea) e ∙ sym (append-nil (addresses_from ea m))
addresses_from-append ea m (suc n) =
    let e : m + suc n ≡ m + n + 1 = omega arith in
    let k : n + 1 ≡ suc n = omega arith in
    let sum : ea + m + n ≡ ea + (m + n) = omega arith in
    let place : ((ea + m) % 2 ^ 64 + n) % 2 ^ 64 ≡ (ea + (m + n)) % 2 ^ 64 = mod-add-mod (ea + m) (2 ^ 64) n ∙ ap (λ (x : ℕ). x % 2 ^ 64) sum in
    let back : addresses_from ((ea + m) % 2 ^ 64) n ++ (ea + (m + n)) % 2 ^ 64 ∷ [] ≡ addresses_from ((ea + m) % 2 ^ 64) (suc n) =
    ap (λ (q : ℕ). addresses_from ((ea + m) % 2 ^ 64) n ++ q ∷ []) (sym place)
    ∙ sym (addresses_from-more ((ea + m) % 2 ^ 64) n)
    ∙ ap (addresses_from ((ea + m) % 2 ^ 64)) k in
    ap (addresses_from ea) e
    ∙ addresses_from-more ea (m + n)
    ∙ ap (λ (xs : List ℕ). xs ++ (ea + (m + n)) % 2 ^ 64 ∷ []) (addresses_from-append ea m n)
    ∙ append_assoc (addresses_from ea m) (addresses_from ((ea + m) % 2 ^ 64) n) ((ea + (m + n)) % 2 ^ 64 ∷ [])
    ∙ ap (λ (xs : List ℕ). addresses_from ea m ++ xs) back

-- an access in one block is one piece
pub pieces_of-whole : (ea len : ℕ) → ea % 64 + len ≤ 64 → pieces_of ea len ≡ record { ea = ea; len = len } ∷ []
unfolding pieces_of
pieces_of-whole ea len within = grind (arith, nat_tests)

-- an access that crosses the end of a block is two pieces
pub pieces_of-cut : (ea len : ℕ) → 64 < ea % 64 + len → pieces_of ea len ≡ record { ea = ea; len = room_of ea } ∷ record { ea = (ea + room_of ea) % 2 ^ 64; len = len - room_of ea } ∷ []
unfolding pieces_of
pieces_of-cut ea len across = grind (arith, nat_tests)

-- two pieces that are pushed one after the other are the pieces of an access that is cut
pub pushed : (ea len step : ℕ) (start one two : List Piece) → 64 < ea % 64 + len → start ≡ [] → one ≡ start ++ record { ea = ea; len = room_of ea } ∷ [] → step ≡ room_of ea → two ≡ one ++ record { ea = (ea + step) % 2 ^ 64; len = len - room_of ea } ∷ [] → two ≡ pieces_of ea len
pushed ea len step start one two across start_is one_is step_is two_is =
    two_is
    ∙ ap₂ (λ (xs : List Piece) (k : ℕ). xs ++ record { ea = (ea + k) % 2 ^ 64; len = len - room_of ea } ∷ []) (one_is ∙ ap (λ (xs : List Piece). xs ++ record { ea = ea; len = room_of ea } ∷ []) start_is) step_is
    ∙ sym (pieces_of-cut ea len across)

-- the pieces have as many bytes as the access
pub pieces_of-sum : (ea len : ℕ) → sum_by piece_len (pieces_of ea len) ≡ len
pieces_of-sum ea len = elim (cases_lt 64 (ea % 64 + len)) [
  | inl across ↦
      let e : 0 + room_of ea + (len - room_of ea) ≡ len = omega arith in
      ap (sum_by piece_len) (pieces_of-cut ea len across) ∙ e
  | inr within ↦
      let e : 0 + len ≡ len = omega arith in
      ap (sum_by piece_len) (pieces_of-whole ea len within) ∙ e
]

-- the addresses of two parts of an access are the access's own
pub addresses_from-cut : (ea room len : ℕ) → room ≤ len → addresses_from ea room ++ addresses_from ((ea + room) % 2 ^ 64) (len - room) ≡ addresses_from ea len
addresses_from-cut ea room len enough =
    let e : room + (len - room) ≡ len = omega arith in
    sym (addresses_from-append ea room (len - room)) ∙ ap (addresses_from ea) e

-- the addresses of an access's pieces, one after another, are the access's
pub pieces_of-joined : (ea len : ℕ) → flat_map piece_addresses (pieces_of ea len) ≡ addresses_from ea len
pieces_of-joined ea len = elim (cases_lt 64 (ea % 64 + len)) [
  | inl across ↦
      ap (flat_map piece_addresses) (pieces_of-cut ea len across)
      ∙ ap (λ (xs : List ℕ). addresses_from ea (room_of ea) ++ xs) (append-nil (addresses_from ((ea + room_of ea) % 2 ^ 64) (len - room_of ea)))
      ∙ addresses_from-cut ea (room_of ea) len (omega arith)
  | inr within ↦
      ap (flat_map piece_addresses) (pieces_of-whole ea len within) ∙ append-nil (addresses_from ea len)
]

-- no pieces are all in one block
none : All IsInOneBlock []
none k d h = absurd (omega arith)

-- each piece of an access has a byte or more, in one block
pub pieces_of-each : (ea len : ℕ) → 1 ≤ len → len ≤ 64 → All IsInOneBlock (pieces_of ea len)
pieces_of-each ea len some few = elim (cases_lt 64 (ea % 64 + len)) [
  | inl across ↦
      let rest : All IsInOneBlock (record { ea = (ea + room_of ea) % 2 ^ 64; len = len - room_of ea } ∷ []) = All-cons IsInOneBlock _ [] (omega arith, omega arith) none in
      subst (All IsInOneBlock) (sym (pieces_of-cut ea len across)) (All-cons IsInOneBlock _ (record { ea = (ea + room_of ea) % 2 ^ 64; len = len - room_of ea } ∷ []) (omega arith, omega arith) rest)
  | inr within ↦
      subst (All IsInOneBlock) (sym (pieces_of-whole ea len within)) (All-cons IsInOneBlock _ [] (some, within) none)
]

-- no piece is longer than the access
pub pieces_of-short : (ea len : ℕ) → All (λ (piece : Piece). piece.len ≤ len) (pieces_of ea len)
pieces_of-short ea len = elim (cases_lt 64 (ea % 64 + len)) [
  | inl across ↦
      let first : room_of ea ≤ len = omega arith in
      let rest : All (λ (piece : Piece). piece.len ≤ len) (record { ea = (ea + room_of ea) % 2 ^ 64; len = len - room_of ea } ∷ []) = All-cons (λ (piece : Piece). piece.len ≤ len) _ [] (omega arith) (λ k d h. absurd (omega arith)) in
      subst (All (λ (piece : Piece). piece.len ≤ len)) (sym (pieces_of-cut ea len across)) (All-cons (λ (piece : Piece). piece.len ≤ len) _ (record { ea = (ea + room_of ea) % 2 ^ 64; len = len - room_of ea } ∷ []) first rest)
  | inr within ↦
      subst (All (λ (piece : Piece). piece.len ≤ len)) (sym (pieces_of-whole ea len within)) (All-cons (λ (piece : Piece). piece.len ≤ len) _ [] (omega arith) (λ k d h. absurd (omega arith)))
]

-- an access has at most two pieces
pub pieces_of-few : (ea len : ℕ) → length (pieces_of ea len) ≤ 2
pieces_of-few ea len = elim (cases_lt 64 (ea % 64 + len)) [
  | inl across ↦ omega (arith, ap length (pieces_of-cut ea len across))
  | inr within ↦ omega (arith, ap length (pieces_of-whole ea len within))
]

-- zeros that are left behind two fronts
zeros_behind : (first second n : ℕ) → drop {A = ℕ} second (drop first (replicate n 0)) ≡ replicate (n - (first + second)) 0
zeros_behind first second n =
    let rest : n - first - second ≡ n - (first + second) = omega arith in
    ap (drop {A = ℕ} second) (drop-replicate first n 0) ∙ drop-replicate second (n - first) 0 ∙ ap (λ (k : ℕ). replicate k 0) rest

-- what two copies into an array of zeros leave there
pub merged : (first second front middle back : List ℕ) → front ≡ first → middle ≡ second → back ≡ drop (length first) (replicate 8 0) → front ++ (middle ++ drop (length second) back) ≡ padded (first ++ second)
merged first second front middle back front_is middle_is back_is =
    ap₂ (λ (xs ys : List ℕ). xs ++ (ys ++ drop (length second) back)) front_is middle_is
    ∙ ap (λ (xs : List ℕ). first ++ (second ++ drop (length second) xs)) back_is
    ∙ ap (λ (xs : List ℕ). first ++ (second ++ xs)) (zeros_behind (length first) (length second) 8)
    ∙ sym (append_assoc first second (replicate (8 - (length first + length second)) 0))
    ∙ ap (λ (k : ℕ). (first ++ second) ++ replicate (8 - k) 0) (sym (length-append first second))
