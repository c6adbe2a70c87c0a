-- The addresses of one page of 4 KiB have one walk, where it ends in a leaf, and stand side by side in real storage.
use Rattle.std.proofs.Common.{◌≡◌, ℕ, zero, suc, ◌+◌, ◌-◌, ◌*◌, ◌/◌, ◌%◌, ◌^◌, ◌<◌, ◌≤◌, Bool, true, false, cond, List, Result, Ok, Err, IfOk, refl, sym, ap, ◌∙◌, arith, mod-lt, pow_pos}
use Rattle.std.specs.Prelude.{nat_lt}
use Rattle.std.proofs.Math.Nat.{div-div-eq-div-mul}
use Rattle.std.proofs.Math.Pow.{mod-mod-pow, pow_mono}
use Rattle.std.proofs.lemmas.Nat.{pow-add}
use Rattle.std.proofs.lemmas.Bool.Decides.{nat_tests}
use Rattle.mw_isa.specs.declared.access.Kind.{Kind}
use Rattle.mw_isa.specs.declared.pages.StorageFault.{StorageFault}
use Rattle.mw_isa.specs.declared.pages.StorageFault.TheVariants.{NotPermitted, ReferenceOrChange}
use Rattle.mw_isa.specs.declared.regs.Regs.{Regs}
use Rattle.mw_isa.specs.declared.walk.Leaf.{Leaf}
use Rattle.mw_isa.specs.declared.walk.Level.{Level}
use Rattle.mw_isa.specs.declared.walk.WalkFault.{WalkFault}
use Rattle.mw_isa.specs.declared.walk.WalkFault.TheVariants.{Segment, NoEntry, BadTree}
use Rattle.mw_isa.specs.Tables.{doubleword, tree_bits, is_there, is_leaf}
use Rattle.mw_isa.specs.Walk.{Walked, ended, reading, is_level, left_behind, entry_at, next_level, page_in, leaf_of, walk_behind, walk_from, root_of, is_in_tree, walk_in, is_in_table, process_at, walk_of, IsLeaf}
use Rattle.mw_isa.specs.Msr.{pr_place}
use Rattle.mw_isa.specs.Pages.{page_size, IsPagewise}
use Rattle.mw_isa.specs.Translate.{quadrant_of, permits, is_marked, real_in, translated, found_by, translated_in, is_translated, untranslated, translate_of, real_found, page_real}
use Rattle.mw_isa.specs.Xer.{has_bit}
use Rattle.mw_isa.proofs.WalkReadLaws.{walk-leaf}

-- a leaf's page has 12 bits at least
long-leaf : (b : Bool) (entry left : ℕ) (page : Leaf) → nat_lt left 12 ≡ b → cond b (Err BadTree) (Ok (page_in entry left)) ≡ Ok page → 12 ≤ left
long-leaf true entry left page e ends = cc
long-leaf false entry left page e ends = grind (arith, nat_tests)

long-behind : (there leaf : Bool) (entry left : ℕ) (on : Walked) (page : Leaf) → (on.end ≡ Ok page → 12 ≤ left) → (cond there (cond leaf (ended (leaf_of entry left)) on) (ended (Err NoEntry))).end ≡ Ok page → 12 ≤ left
long-behind true true entry left on page rest ends = long-leaf (nat_lt left 12) entry left page refl ends
long-behind true false entry left on page rest ends = rest ends
long-behind false leaf entry left on page rest ends = cc

long-level : (b : Bool) (at left bits : ℕ) (on : Walked) (page : Leaf) → (on.end ≡ Ok page → 12 ≤ left - bits) → (cond b (reading at on) (ended (Err BadTree))).end ≡ Ok page → 12 ≤ left
long-level true at left bits on page rest ends =
    let more = rest ends in
    omega arith
long-level false at left bits on page rest ends = cc

-- so as many are left where a walk ends in one
long-from : (n : ℕ) (ram : List ℕ) (ea : ℕ) (level : Level) (page : Leaf) → (walk_from n ram ea level).end ≡ Ok page → 12 ≤ level.left
unfolding walk_from
long-from zero ram ea level page ends = cc
long-from (suc n) ram ea level page ends =
    let entry = doubleword ram (entry_at ea level) in
    let on = walk_from n ram ea (next_level entry level) in
    long-level (is_level level) (entry_at ea level) level.left level.bits (walk_behind entry (left_behind level) on) page
    (long-behind (is_there entry) (is_leaf entry) entry (left_behind level) on page (long-from n ram ea (next_level entry level) page)) ends

-- above the low twelve bits the addresses are one
high-same : (ea near left : ℕ) → 12 ≤ left → ea / 4096 ≡ near / 4096 → ea / 2 ^ left ≡ near / 2 ^ left
high-same ea near left long e =
    let whole : 12 + (left - 12) ≡ left = omega arith in
    let split : 2 ^ left ≡ 4096 * 2 ^ (left - 12) = ap (λ (n : ℕ). 2 ^ n) (sym whole) ∙ pow-add 2 12 (left - 12) in
    ap (λ (n : ℕ). ea / n) split
    ∙ sym (div-div-eq-div-mul ea 4096 (2 ^ (left - 12)))
    ∙ ap (λ (n : ℕ). n / 2 ^ (left - 12)) e
    ∙ div-div-eq-div-mul near 4096 (2 ^ (left - 12))
    ∙ ap (λ (n : ℕ). near / n) (sym split)

page-behind : (there leaf : Bool) (entry left : ℕ) (on beside : Walked) (page : Leaf) → (on.end ≡ Ok page → beside ≡ on) → (cond there (cond leaf (ended (leaf_of entry left)) on) (ended (Err NoEntry))).end ≡ Ok page → cond there (cond leaf (ended (leaf_of entry left)) beside) (ended (Err NoEntry)) ≡ cond there (cond leaf (ended (leaf_of entry left)) on) (ended (Err NoEntry))
page-behind true true entry left on beside page rest ends = refl
page-behind true false entry left on beside page rest ends = rest ends
page-behind false leaf entry left on beside page rest ends = refl

page-level : (b : Bool) (ram : List ℕ) (at other left : ℕ) (walk beside : ℕ → Walked) (page : Leaf) → ((walk_behind (doubleword ram at) left (walk (doubleword ram at))).end ≡ Ok page → other ≡ at) → ((entry : ℕ) → (walk entry).end ≡ Ok page → beside entry ≡ walk entry) → (cond b (reading at (walk_behind (doubleword ram at) left (walk (doubleword ram at)))) (ended (Err BadTree))).end ≡ Ok page → cond b (reading other (walk_behind (doubleword ram other) left (beside (doubleword ram other)))) (ended (Err BadTree)) ≡ cond b (reading at (walk_behind (doubleword ram at) left (walk (doubleword ram at)))) (ended (Err BadTree))
page-level true ram at other left walk beside page same rest ends =
    let entry = doubleword ram at in
    ap (λ (a : ℕ). reading a (walk_behind (doubleword ram a) left (beside (doubleword ram a)))) (same ends)
    ∙ ap (reading at) (page-behind (is_there entry) (is_leaf entry) entry left (walk entry) (beside entry) page (rest entry) ends)
page-level false ram at other left walk beside page same rest ends = refl

page-from : (n : ℕ) (ram : List ℕ) (ea near : ℕ) (level : Level) (page : Leaf) → ea / 4096 ≡ near / 4096 → (walk_from n ram ea level).end ≡ Ok page → walk_from n ram near level ≡ walk_from n ram ea level
unfolding walk_from
page-from zero ram ea near level page e ends = refl
page-from (suc n) ram ea near level page e ends =
    let entry = doubleword ram (entry_at ea level) in
    page-level (is_level level) ram (entry_at ea level) (entry_at near level) (left_behind level) (λ (entry : ℕ). walk_from n ram ea (next_level entry level)) (λ (entry : ℕ). walk_from n ram near (next_level entry level)) page
    (λ on. ap (λ (high : ℕ). (level.base + 8 * (high % 2 ^ level.bits)) % 2 ^ 60) (sym (high-same ea near (left_behind level) (long-behind (is_there entry) (is_leaf entry) entry (left_behind level) (walk_from n ram ea (next_level entry level)) page (long-from n ram ea (next_level entry level) page) on) e)))
    (λ entry on. page-from n ram ea near (next_level entry level) page e on) ends

-- of two addresses of one page both lie in a tree, or none
tests-same : (a b : Bool) (x y n : ℕ) → nat_lt x n ≡ a → nat_lt y n ≡ b → (x < n → y < n) → (y < n → x < n) → a ≡ b
tests-same true true x y n e f to back = refl
tests-same true false x y n e f to back = let on : x < n = grind (arith, nat_tests) in let also = to on in grind (arith, nat_tests)
tests-same false true x y n e f to back = let on : y < n = grind (arith, nat_tests) in let also = back on in grind (arith, nat_tests)
tests-same false false x y n e f to back = refl

below-same : (ea near bound : ℕ) → ea / 4096 ≡ near / 4096 → ea % 2 ^ 62 < 4096 * bound → near % 2 ^ 62 < 4096 * bound
below-same ea near bound e below = omega arith

tree-same : (ea near size : ℕ) → 12 ≤ size → ea / 4096 ≡ near / 4096 → is_in_tree near size ≡ is_in_tree ea size
tree-same ea near size long e =
    let whole : 12 + (size - 12) ≡ size = omega arith in
    let split : 2 ^ size ≡ 4096 * 2 ^ (size - 12) = ap (λ (n : ℕ). 2 ^ n) (sym whole) ∙ pow-add 2 12 (size - 12) in
    ap (λ (n : ℕ). nat_lt (near % 2 ^ 62) n) split
    ∙ tests-same (nat_lt (near % 2 ^ 62) (4096 * 2 ^ (size - 12))) (nat_lt (ea % 2 ^ 62) (4096 * 2 ^ (size - 12))) (near % 2 ^ 62) (ea % 2 ^ 62) (4096 * 2 ^ (size - 12)) refl refl
    (below-same near ea (2 ^ (size - 12)) (sym e)) (below-same ea near (2 ^ (size - 12)) e)
    ∙ ap (λ (n : ℕ). nat_lt (ea % 2 ^ 62) n) (sym split)

page-in : (b : Bool) (ram : List ℕ) (ea near entry : ℕ) (page : Leaf) → ea / 4096 ≡ near / 4096 → (cond b (walk_from (tree_bits entry) ram ea (root_of entry)) (ended (Err Segment))).end ≡ Ok page → cond b (walk_from (tree_bits entry) ram near (root_of entry)) (ended (Err Segment)) ≡ cond b (walk_from (tree_bits entry) ram ea (root_of entry)) (ended (Err Segment))
page-in true ram ea near entry page e ends = page-from (tree_bits entry) ram ea near (root_of entry) page e ends
page-in false ram ea near entry page e ends = refl

tree-long : (entry : ℕ) → 12 ≤ tree_bits entry
tree-long entry = omega arith

page-table : (b : Bool) (ram : List ℕ) (ea near at : ℕ) (page : Leaf) → ea / 4096 ≡ near / 4096 → (cond b (reading at (walk_in ram ea (doubleword ram at))) (ended (Err NoEntry))).end ≡ Ok page → cond b (reading at (walk_in ram near (doubleword ram at))) (ended (Err NoEntry)) ≡ cond b (reading at (walk_in ram ea (doubleword ram at))) (ended (Err NoEntry))
page-table true ram ea near at page e ends =
    let entry = doubleword ram at in
    ap (λ (b : Bool). reading at (cond b (walk_from (tree_bits entry) ram near (root_of entry)) (ended (Err Segment)))) (tree-same ea near (tree_bits entry) (tree-long entry) e)
    ∙ ap (reading at) (page-in (is_in_tree ea (tree_bits entry)) ram ea near entry page e ends)
page-table false ram ea near at page e ends = refl

-- where the walk of an address ends in a leaf, every address of its page of 4 KiB has the same walk
pub walk-same_page : (ram : List ℕ) (prtbl pid ea near : ℕ) (page : Leaf) → ea / 4096 ≡ near / 4096 → (walk_of ram prtbl pid ea).end ≡ Ok page → walk_of ram prtbl pid near ≡ walk_of ram prtbl pid ea
unfolding walk_of
walk-same_page ram prtbl pid ea near page e ends = page-table (is_in_table prtbl pid) ram ea near (process_at prtbl pid) page e ends

-- a real address of 60 bits, with the place of an effective one in its page
abbrev IsBeside : ℕ → ℕ → Type 0
IsBeside ea at = (at < 2 ^ 60) × (at % page_size ≡ ea % page_size)

-- the low twelve bits of a longer remainder are those of the number
pub low-same : (x left : ℕ) → 12 ≤ left → x % 2 ^ left % 4096 ≡ x % 4096
low-same x left long =
    let whole : left ≡ (left - 12) + 12 = omega arith in
    ap (λ (n : ℕ). x % 2 ^ n % 4096) whole ∙ mod-mod-pow x (left - 12) 12

-- a leaf puts an address so
leaf-beside : (leaf : Leaf) (ea : ℕ) → IsLeaf leaf → IsBeside ea (real_in leaf ea)
leaf-beside leaf ea known =
    let least = known.least in
    let most = known.most in
    let low = known.low in
    let bound : 2 ^ leaf.left ≤ 2 ^ 57 = pow_mono most in
    let part : ea % 2 ^ leaf.left < 2 ^ leaf.left = mod-lt ea (pow_pos leaf.left) in
    let begins : leaf.base % 4096 ≡ 0 = sym (low-same leaf.base leaf.left least) ∙ ap (λ (n : ℕ). n % 4096) known.whole in
    let place : ea % 2 ^ leaf.left % 4096 ≡ ea % 4096 = low-same ea leaf.left least in
    (omega arith, omega arith)

gives-beside : (permitted marked : Bool) (leaf : Leaf) (pid ea : ℕ) → IsLeaf leaf → IfOk (real_found (cond permitted (cond marked (Ok (translated leaf pid ea)) (Err ReferenceOrChange)) (Err NotPermitted))) (IsBeside ea)
gives-beside true true leaf pid ea known = leaf-beside leaf ea known
gives-beside true false leaf pid ea known = tt
gives-beside false marked leaf pid ea known = tt

end-beside : (end : Result Leaf WalkFault) (kind : Kind) (problem : Bool) (pid ea : ℕ) → IfOk end IsLeaf → IfOk (real_found (found_by end kind problem pid ea)) (IsBeside ea)
end-beside (Ok leaf) kind problem pid ea known = gives-beside (permits leaf.rights kind problem) (is_marked leaf kind) leaf pid ea known
end-beside (Err Segment) kind problem pid ea known = tt
end-beside (Err NoEntry) kind problem pid ea known = tt
end-beside (Err BadTree) kind problem pid ea known = tt

quadrant-beside : (process : Result ℕ StorageFault) (ram : List ℕ) (regs : Regs) (kind : Kind) (ea : ℕ) → IfOk (real_found (translated_in ram regs kind ea process)) (IsBeside ea)
quadrant-beside (Ok pid) ram regs kind ea = end-beside (walk_of ram regs.prtbl pid ea).end kind (has_bit regs.msr pr_place) pid ea (walk-leaf ram regs.prtbl pid ea)
quadrant-beside (Err fault) ram regs kind ea = tt

on-beside : (on : Bool) (ram : List ℕ) (regs : Regs) (kind : Kind) (ea : ℕ) → IfOk (real_found (cond on (translated_in ram regs kind ea (quadrant_of regs.pidr ea)) (Ok (untranslated ea)))) (IsBeside ea)
on-beside true ram regs kind ea = quadrant-beside (quadrant_of regs.pidr ea) ram regs kind ea
on-beside false ram regs kind ea = (omega arith, omega arith)

-- so addresses of one page of 4 KiB stand side by side in real storage, translated or not
pub walk-page : (ram : List ℕ) (regs : Regs) → IsPagewise (page_real ram regs)
unfolding translate_of
walk-page ram regs page = on-beside (is_translated page.kind regs.msr) ram regs page.kind page.ea
