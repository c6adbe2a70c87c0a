-- What an accept and an end of interrupt leave, what is never pending, and how much a load gives.
use Rattle.std.proofs.Common.{◌≡◌, ◌≢◌, ℕ, zero, suc, ◌+◌, ◌*◌, ◌^◌, ◌<◌, ◌≤◌, ◌==◌, Bool, true, false, Option, None, Some, List, length, filter, IfSome, slice_index, nat_lt, refl, sym, ap, ◌∙◌, arith}
use Rattle.std.specs.Int.{w32, to_be_bytes}
use Rattle.std.specs.Option.{option_map_or}
use Rattle.std.proofs.lemmas.Bool.{cond_both, cond-false, eqb-true, le-ltb}
use Rattle.std.proofs.lemmas.Bool.Decides.{nat_tests}
use Rattle.std.proofs.lemmas.List.{length-replicate}
use Rattle.mw_xics.specs.XicsData.{XicsData, masked}
use Rattle.mw_xics.specs.Pending.{candidates_of, is_open, best_of, below, pending_of, pending_source, source_of}
use Rattle.mw_xics.specs.declared.register.Register.{Register}
use Rattle.mw_xics.specs.declared.register.Register.TheVariants.{Poll, Xirr, Mfrr, Priority, Unused}
use Rattle.mw_xics.specs.Inside.{parts}
use Rattle.mw_xics.proofs.PendingLemmas.{source-small, no_later}
use Rattle.mw_xics.specs.Registers.{register_at, word_of, xics_loaded, after_xics_load, after_xics_store}

-- a candidate isn't below its own priority
below-again : (cppr : ℕ) (best : Option (ℕ × ℕ)) → below (option_map_or (λ candidate. candidate.0) (below cppr best) cppr) best ≡ None
below-again cppr None = refl
below-again cppr (Some candidate) =
    cond_both (nat_lt candidate.0 cppr) (Some candidate) None
    (λ (o : Option (ℕ × ℕ)). below (option_map_or (λ c. c.0) o cppr) (Some candidate) ≡ None)
    (λ e. cond-false (nat_lt candidate.0 candidate.0) (Some candidate) None (le-ltb candidate.0 candidate.0 (omega arith)))
    (λ e. cond-false (nat_lt candidate.0 cppr) (Some candidate) None e)

-- behind an accept nothing is pending, with the lines as they are
pub pending_of-accept : (xics : XicsData) (line : Bool) → pending_of (after_xics_load xics 0x4 4 line) line ≡ None
unfolding pending_of after_xics_load
pending_of-accept xics line = below-again xics.cppr (best_of (filter is_open (candidates_of xics line)))

-- XIRR's first byte is CPPR
first-xirr : (cppr source : ℕ) → cppr < 2 ^ 8 → source ≤ source_of 0 → slice_index (to_be_bytes w32 (cppr * 2 ^ 24 + source)) 0 ≡ cppr
first-xirr cppr source byte small = omega arith

-- a priority of 0xFF is never pending
pub pending_of-open : (xics : XicsData) (line : Bool) → IfSome (pending_of xics line) (λ candidate. candidate.0 ≢ masked)
unfolding pending_of
pending_of-open xics true = grind (arith, nat_tests)
pending_of-open xics false = grind (arith, nat_tests)

-- where line 0 is masked, its source isn't pending
wired-masked : (xics : XicsData) (line : Bool) → slice_index xics.priorities 0 ≡ masked → IfSome (pending_of xics line) (λ candidate. candidate.1 ≢ source_of 0)
unfolding pending_of
wired-masked xics true is = grind (arith, nat_tests)
wired-masked xics false is = grind (arith, nat_tests)

-- a line of priority 0xFF is never pending
pub pending_of-masked : (xics : XicsData) (line : Bool) (n : ℕ) → slice_index xics.priorities n ≡ masked → IfSome (pending_of xics line) (λ candidate. candidate.1 ≢ source_of n)
pending_of-masked xics line zero is = wired-masked xics line is
pending_of-masked xics line (suc n) is = no_later xics line n

-- a store of the accepted XIRR leaves the controller as it was before the accept
pub after_xics_store-accept : (xics : XicsData) (line : Bool) → xics.cppr < 2 ^ 8 → after_xics_store (after_xics_load xics 0x4 4 line) 0x4 (xics_loaded xics 0x4 4 line) ≡ xics
unfolding after_xics_load after_xics_store xics_loaded
after_xics_store-accept xics line byte =
    ap (λ (cppr : ℕ). parts cppr xics.mfrr xics.priorities) (first-xirr xics.cppr (pending_source xics line) byte (source-small xics line))

-- a load of a word gives 4 bytes
length-word_of : (xics : XicsData) (line : Bool) (register : Register) → length (word_of xics line register) ≡ 4
length-word_of xics line Poll = refl
length-word_of xics line Xirr = refl
length-word_of xics line Mfrr = refl
length-word_of xics line (Priority number) = refl
length-word_of xics line Unused = refl

-- a load gives as many bytes as its width says
pub length-xics_loaded : (xics : XicsData) (at width : ℕ) (line : Bool) → length (xics_loaded xics at width line) ≡ width
unfolding xics_loaded
length-xics_loaded xics at width line =
    cond_both (width == 4) _ _ (λ (bytes : List ℕ). length bytes ≡ width)
    (λ e. length-word_of xics line (register_at at) ∙ sym (eqb-true width 4 e))
    (λ _. cond_both (width == 1) _ _ (λ (bytes : List ℕ). length bytes ≡ width) (λ e. sym (eqb-true width 1 e)) (λ _. length-replicate width 0))
