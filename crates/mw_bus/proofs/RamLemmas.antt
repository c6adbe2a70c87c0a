-- How RAM is filled.
use Rattle.std.proofs.Common.{◌≡◌, ℕ, ◌-◌, ◌≤◌, List, ◌++◌, length, take, replicate, ap, ap₂, ◌∙◌}
use Rattle.std.proofs.lemmas.List.{take_all}

-- what a resize leaves of a list that is short enough
pub filled : (n len : ℕ) (image base items : List ℕ) → length image ≤ n → base ≡ image → len ≡ length image → items ≡ take n base ++ replicate (n - len) 0 → items ≡ image ++ replicate (n - length image) 0
filled n len image base items short same counted e =
    e
    ∙ ap₂ (λ (xs : List ℕ) (k : ℕ). xs ++ replicate (n - k) 0) (ap (take n) same ∙ take_all n image short) counted
