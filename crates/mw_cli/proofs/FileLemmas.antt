-- What was read of a file is its front, and within the limit all of it.
use Rattle.std.proofs.Common.{◌≡◌, ℕ, ◌+◌, ◌<◌, ◌≤◌, List, length, take, Option, Some, None, IfSome, refl, ap, ◌∙◌, arith}
use Rattle.std.proofs.lemmas.List.{take_all, length-take}
use Rattle.mw_io.specs.Outside.{content_of}

-- the files that a host tells, if it does
abbrev pub Files : Type 0
Files = Option (List ℕ → Option (List ℕ))

-- a front within the limit is the whole file
pub read-image : (files : Files) (name bytes : List ℕ) (n : ℕ) → IfSome files (λ told. bytes ≡ take (n + 1) (content_of told name)) → length bytes ≤ n → IfSome files (λ told. bytes ≡ content_of told name)
read-image None name bytes n front short = tt
read-image (Some told) name bytes n front short =
    let counted : length bytes ≡ length (take (n + 1) (content_of told name)) = ap length front in
    let fits : length (content_of told name) ≤ n + 1 = omega (arith, length-take (n + 1) (content_of told name)) in
    front ∙ take_all (n + 1) (content_of told name) fits

-- a front past the limit shows that the file is too long
pub long-image : (files : Files) (name bytes : List ℕ) (n : ℕ) → IfSome files (λ told. bytes ≡ take (n + 1) (content_of told name)) → n < length bytes → (image : List ℕ) × IfSome files (λ told. image ≡ content_of told name) × (n < length image)
long-image None name bytes n front long = (bytes, tt, long)
long-image (Some told) name bytes n front long =
    let counted : length bytes ≡ length (take (n + 1) (content_of told name)) = ap length front in
    (content_of told name, refl, omega (arith, length-take (n + 1) (content_of told name)))
