-- The pending interrupt from the better of the two candidates that there can be.
use Rattle.std.proofs.Common.{◌≡◌, ◌≢◌, ℕ, suc, ◌≤◌, Bool, true, false, Option, Some, IfSome, subst, arith}
use Rattle.std.proofs.lemmas.Bool.Decides.{nat_tests}
use Rattle.mw_xics.specs.XicsData.{XicsData}
use Rattle.mw_xics.specs.Pending.{below, pending_of, pending_source, source_of}
use Rattle.mw_xics.specs.Inside.{better}

-- the better of the two candidates is pending where it is below CPPR, since a masked one never is
pub pending-better : (xics : XicsData) (line : Bool) → xics.cppr ≤ 255 → below xics.cppr (Some (better xics line)) ≡ pending_of xics line
unfolding pending_of
pending-better xics true small = grind (arith, nat_tests)
pending-better xics false small = grind (arith, nat_tests)

-- a fact on what there is, by what it is
IfSome-at : {A : Type 0} (o : Option A) (P : A → Type 0) (value : A) → IfSome o P → o ≡ Some value → P value
IfSome-at {A = A} o P value is e = subst (λ (p : Option A). IfSome p P) e is

-- the source of the pending interrupt, if there is one, is at most that of line 0
some-small : (xics : XicsData) (line : Bool) → IfSome (pending_of xics line) (λ candidate. candidate.1 ≤ source_of 0)
unfolding pending_of
some-small xics true = grind (arith, nat_tests)
some-small xics false = grind (arith, nat_tests)

-- the source of an interrupt that is pending is at most that of line 0
pub pending-small : (xics : XicsData) (line : Bool) (candidate : ℕ × ℕ) → pending_of xics line ≡ Some candidate → candidate.1 ≤ source_of 0
pending-small xics line candidate e = IfSome-at (pending_of xics line) (λ candidate. candidate.1 ≤ source_of 0) candidate (some-small xics line) e

-- the source that XIRR has is at most that of line 0
pub source-small : (xics : XicsData) (line : Bool) → pending_source xics line ≤ source_of 0
unfolding pending_of
source-small xics true = grind (arith, nat_tests)
source-small xics false = grind (arith, nat_tests)

-- the source of a pending interrupt isn't that of a line behind line 0
pub no_later : (xics : XicsData) (line : Bool) (n : ℕ) → IfSome (pending_of xics line) (λ candidate. candidate.1 ≢ source_of (suc n))
unfolding pending_of
no_later xics true n = grind (arith, nat_tests)
no_later xics false n = grind (arith, nat_tests)
