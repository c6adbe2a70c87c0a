-- A walk depends on RAM only by the doublewords that it reads.
use Rattle.std.proofs.Common.{◌≡◌, ℕ, zero, suc, Bool, true, false, cond, List, Err, refl, ap, ◌∙◌}
use Rattle.mw_isa.specs.declared.walk.Level.{Level}
use Rattle.mw_isa.specs.declared.walk.WalkFault.TheVariants.{Segment, NoEntry, BadTree}
use Rattle.mw_isa.specs.Tables.{doubleword, tree_bits, is_there, is_leaf}
use Rattle.mw_isa.specs.Walk.{Walked, ended, reading, is_level, left_behind, entry_at, next_level, leaf_of, walk_behind, walk_from, root_of, is_in_tree, walk_in, is_in_table, process_at, walk_of, AgreeOn}

same-behind : (there leaf : Bool) (ram other : List ℕ) (entry left : ℕ) (on also : Walked) → (AgreeOn ram other on.reads → on ≡ also) → AgreeOn ram other (cond there (cond leaf (ended (leaf_of entry left)) on) (ended (Err NoEntry))).reads → cond there (cond leaf (ended (leaf_of entry left)) on) (ended (Err NoEntry)) ≡ cond there (cond leaf (ended (leaf_of entry left)) also) (ended (Err NoEntry))
same-behind true true ram other entry left on also rest agree = refl
same-behind true false ram other entry left on also rest agree = rest agree
same-behind false leaf ram other entry left on also rest agree = refl

same-level : (b : Bool) (ram other : List ℕ) (at left : ℕ) (walk also : ℕ → Walked) → ((entry : ℕ) → AgreeOn ram other (walk entry).reads → walk entry ≡ also entry) → AgreeOn ram other (cond b (reading at (walk_behind (doubleword ram at) left (walk (doubleword ram at)))) (ended (Err BadTree))).reads → cond b (reading at (walk_behind (doubleword ram at) left (walk (doubleword ram at)))) (ended (Err BadTree)) ≡ cond b (reading at (walk_behind (doubleword other at) left (also (doubleword other at)))) (ended (Err BadTree))
same-level true ram other at left walk also rest agree =
    let entry = doubleword ram at in
    ap (reading at) (same-behind (is_there entry) (is_leaf entry) ram other entry left (walk entry) (also entry) (rest entry) agree.1)
    ∙ ap (λ (e : ℕ). reading at (walk_behind e left (also e))) agree.0
same-level false ram other at left walk also rest agree = refl

same-from : (n : ℕ) (ram other : List ℕ) (ea : ℕ) (level : Level) → AgreeOn ram other (walk_from n ram ea level).reads → walk_from n ram ea level ≡ walk_from n other ea level
unfolding walk_from
same-from zero ram other ea level agree = refl
same-from (suc n) ram other ea level agree =
    same-level (is_level level) ram other (entry_at ea level) (left_behind level) (λ (entry : ℕ). walk_from n ram ea (next_level entry level)) (λ (entry : ℕ). walk_from n other ea (next_level entry level)) (λ entry on. same-from n ram other ea (next_level entry level) on) agree

same-in : (b : Bool) (ram other : List ℕ) (ea entry : ℕ) → AgreeOn ram other (cond b (walk_from (tree_bits entry) ram ea (root_of entry)) (ended (Err Segment))).reads → cond b (walk_from (tree_bits entry) ram ea (root_of entry)) (ended (Err Segment)) ≡ cond b (walk_from (tree_bits entry) other ea (root_of entry)) (ended (Err Segment))
same-in true ram other ea entry agree = same-from (tree_bits entry) ram other ea (root_of entry) agree
same-in false ram other ea entry agree = refl

same-table : (b : Bool) (ram other : List ℕ) (ea at : ℕ) → AgreeOn ram other (cond b (reading at (walk_in ram ea (doubleword ram at))) (ended (Err NoEntry))).reads → cond b (reading at (walk_in ram ea (doubleword ram at))) (ended (Err NoEntry)) ≡ cond b (reading at (walk_in other ea (doubleword other at))) (ended (Err NoEntry))
same-table true ram other ea at agree =
    let entry = doubleword ram at in
    ap (reading at) (same-in (is_in_tree ea (tree_bits entry)) ram other ea entry agree.1)
    ∙ ap (λ (e : ℕ). reading at (walk_in other ea e)) agree.0
same-table false ram other ea at agree = refl

-- two RAMs that agree on the doublewords that a walk reads have the same walk
pub walk-same : (ram other : List ℕ) (prtbl pid ea : ℕ) → AgreeOn ram other (walk_of ram prtbl pid ea).reads → walk_of ram prtbl pid ea ≡ walk_of other prtbl pid ea
unfolding walk_of
walk-same ram other prtbl pid ea agree = same-table (is_in_table prtbl pid) ram other ea (process_at prtbl pid) agree
