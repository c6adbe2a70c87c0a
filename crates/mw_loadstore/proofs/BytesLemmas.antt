-- The bytes of a number that is stored, in the front of eight.
use Rattle.std.proofs.Common.{◌≡◌, ℕ, ◌%◌, ◌^◌, ◌<◌, Bool, List, ◌++◌, length, take, sym, ap₂, ◌∙◌, subst, arith, mod-lt}
use Rattle.std.proofs.Math.Nat.{one-le-pow}
use Rattle.std.proofs.Math.Seq.{take-append_seam}
use Rattle.mw_bus.specs.Memory.{bytes_of, padded}
use Rattle.mw_bus.proofs.StorageLemmas.{take-padded, length-bytes_of}

-- bytes that a number was turned into
pub bytes-written : (reversed : Bool) (bytes : List ℕ) (k len low value : ℕ) → k ≡ len → low ≡ value % 256 ^ len → bytes ≡ padded (bytes_of reversed k low) → take len bytes ≡ bytes_of reversed len (value % 256 ^ len)
bytes-written reversed bytes k len low value sized is wrote =
    ap₂ take (sym sized) wrote ∙ take-padded (bytes_of reversed k low) k (length-bytes_of reversed k low) ∙ ap₂ (bytes_of reversed) sized is

-- the low bytes of a number fit
pub low-fits : (low value k len : ℕ) → k ≡ len → low ≡ value % 256 ^ len → low < 256 ^ k
low-fits low value k len sized is =
    let some : 0 < 256 ^ len = omega (arith, one-le-pow len 256 (omega arith)) in
    let below : value % 256 ^ len < 256 ^ len = mod-lt value some in
    subst (λ (n : ℕ). n < 256 ^ k) (sym is) (subst (λ (i : ℕ). value % 256 ^ len < 256 ^ i) (sym sized) below)

-- bytes in front of others
pub fronted : (n : ℕ) (front bytes back : List ℕ) → front ≡ bytes → length bytes ≡ n → take n (front ++ back) ≡ bytes
fronted n front bytes back e l = ap₂ (λ (k : ℕ) (xs : List ℕ). take k (xs ++ back)) (sym l) e ∙ take-append_seam bytes back
