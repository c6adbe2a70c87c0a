-- The labels of a map, by name.
use Rattle.std.proofs.Common.{◌≡◌, ℕ, Bool, true, false, List, [], ◌∷◌, Some, if◌then◌else◌, cond, refl, sym, ap, ◌∙◌}
use Rattle.std.specs.Prelude.{bytes_eq}
use Rattle.std.specs.BTreeMap as tree
use Rattle.std.specs.BTreeMap.{BTreeMap, is_at}
use Rattle.std.specs.Map.{lookup}
use Rattle.std.specs.Ordering.{nat_cmp}
use Rattle.std.specs.Cmp.Lexicographic.{slice_cmp}
use Rattle.std.proofs.lemmas.Map.Text.{is_eq-slice_cmp, btree_map_updates_str}
use Rattle.std.proofs.lemmas.Slice.Eq.{bytes_eq-Decides}
use denote.Ref.{Bor}
use Rattle.mw_asm.specs.Values.{address_of}
use Rattle.mw_asm.specs.Labels.{labels_in}

swapped : (a b : List ℕ) (p q : Bool) → bytes_eq a b ≡ p → bytes_eq b a ≡ q → p ≡ q
swapped a b true true e f = refl
swapped a b false false e f = refl
swapped a b true false e f = sym ((bytes_eq-Decides b a).1 (sym ((bytes_eq-Decides a b).0 e))) ∙ f
swapped a b false true e f = sym e ∙ (bytes_eq-Decides a b).1 (sym ((bytes_eq-Decides b a).0 f))

-- the order of two texts doesn't matter
pub bytes_eq-swapped : (a b : List ℕ) → bytes_eq a b ≡ bytes_eq b a
bytes_eq-swapped a b = swapped a b (bytes_eq a b) (bytes_eq b a) refl refl

-- a label's address is what the map has at its name
pub address_of-labels_in : (entries : List (Bor (List ℕ) × ℕ)) (name : List ℕ) → address_of (labels_in entries) name ≡ lookup (is_at (λ (k : Bor (List ℕ)). slice_cmp nat_cmp name k.now)) entries
address_of-labels_in [] name = refl
address_of-labels_in (e ∷ es) name = rw (is_eq-slice_cmp name e.0.now, bytes_eq-swapped name e.0.now, address_of-labels_in es name) refl

-- the labels behind the addition of one
pub address_of-updates : (m n : BTreeMap (Bor (List ℕ)) ℕ) (name q : List ℕ) (address : ℕ) → tree.UpdatesBy (λ x y. slice_cmp nat_cmp x.now y.now) (λ k. slice_cmp nat_cmp name k.now) m n (Some address) → address_of (labels_in n.entries) q ≡ (if bytes_eq name q then Some address else address_of (labels_in m.entries) q)
address_of-updates m n name q address updates =
    address_of-labels_in n.entries q
    ∙ btree_map_updates_str name m n (Some address) updates q
    ∙ ap (λ o. cond (bytes_eq name q) (Some address) o) (sym (address_of-labels_in m.entries q))
