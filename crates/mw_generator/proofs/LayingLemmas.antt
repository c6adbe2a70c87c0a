-- The steps of what is laid one behind the other.
use Rattle.std.proofs.Common.{◌≡◌, ℕ, suc, ◌+◌, ◌*◌, List, sym, ap}
use Rattle.mw_generator.specs.Draws.{number_behind}
use Rattle.mw_generator.specs.Generated.{with_word, with_words, with_doubleword, leaf, leaves_at, with_leaves, drawn_word, back, program}

-- the leaf of the first of the pages that are left is laid
pub with_leaves-next : (n k turn g : ℕ) (bytes : List ℕ) → suc n ≡ k → with_leaves k turn g bytes ≡ with_leaves n turn (g + 1) (with_doubleword (leaves_at + 8 * g) (leaf turn g) bytes)
unfolding with_leaves
with_leaves-next n k turn g bytes e = ap (λ j. with_leaves j turn g bytes) (sym e)

-- the first of the instructions that are left is laid
pub program-next : (n k at x : ℕ) (bytes : List ℕ) → suc n ≡ k → with_words at (program k x) bytes ≡ with_words (at + 4) (program n (number_behind 5 x)) (with_word at (drawn_word x) bytes)
unfolding with_words program
program-next n k at x bytes e = ap (λ j. with_words at (program j x) bytes) (sym e)

-- where none is left the branch back is laid
pub program-end : (k at x : ℕ) (bytes : List ℕ) → k ≡ 0 → with_words at (program k x) bytes ≡ with_word at back bytes
unfolding with_words program
program-end k at x bytes e = ap (λ j. with_words at (program j x) bytes) e
