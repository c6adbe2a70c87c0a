-- What is known of a translation that is kept of an access, and that it stays right while the tables that it was read from do.
use Rattle.std.proofs.Common.{◌≡◌, ℕ, ◌+◌, ◌*◌, ◌-◌, ◌/◌, ◌%◌, ◌^◌, ◌<◌, ◌≤◌, ◌==◌, Bool, true, false, not, ◌&&◌, cond, List, Option, Some, None, Result, Ok, Err, IfOk, unwrap_or, refl, sym, ap, ◌∙◌, subst, arith, mod-lt, pow_pos}
use Rattle.std.proofs.Math.Arith.{mod-mul}
use Rattle.std.proofs.Math.Pow.{pow_mono}
use Rattle.std.proofs.lemmas.Nat.{pow-add}
use Rattle.std.proofs.lemmas.Bool.Decides.{nat_tests}
use Rattle.std.proofs.lemmas.Bool.{and_from, and_parts}
use Rattle.mw_bits.specs.declared.rights.Rights.{Rights}
use Rattle.mw_isa.specs.declared.access.Kind.{Kind}
use Rattle.mw_isa.specs.declared.access.Kind.TheVariants.{Fetch, Load, Store}
use Rattle.mw_isa.specs.declared.pages.StorageFault.{StorageFault}
use Rattle.mw_isa.specs.declared.pages.StorageFault.TheVariants.{NotPermitted, ReferenceOrChange}
use Rattle.mw_isa.specs.declared.regs.Regs.{Regs}
use Rattle.mw_isa.specs.declared.walk.KeptEntry.{KeptEntry}
use Rattle.mw_isa.specs.declared.walk.Leaf.{Leaf}
use Rattle.mw_isa.specs.declared.walk.Translated.{Translated}
use Rattle.mw_isa.specs.declared.walk.WalkFault.{WalkFault}
use Rattle.mw_isa.specs.declared.walk.WalkFault.TheVariants.{Segment, NoEntry, BadTree}
use Rattle.mw_isa.specs.Discipline.{entry_in}
use Rattle.mw_isa.specs.Entries.{is_elsewhere, is_ready, lets}
use Rattle.mw_isa.specs.Msr.{pr_place}
use Rattle.mw_isa.specs.Pages.{page_size}
use Rattle.mw_isa.specs.Translate.{entry_of, found_by, is_marked, is_translated, permits, quadrant_of, real_in, translate_of, translated, translated_in, untranslated}
use Rattle.mw_isa.specs.Walk.{AgreeOn, IsLeaf, Walked, walk_of}
use Rattle.mw_isa.specs.Xer.{has_bit}
use Rattle.mw_isa.proofs.WalkPageLaws.{low-same, walk-same_page}
use Rattle.mw_isa.proofs.WalkReadLaws.{walk-leaf}
use Rattle.mw_isa.proofs.WalkSameLaws.{walk-same}

-- what is known of a translation that is kept of what an access came to
pub record IsKept (ram : List ℕ) (regs : Regs) (ea : ℕ) (entry : KeptEntry) : Type 0 where
  pub new : entry.leaving ≡ false
  pub low : entry.real < 2 ^ 52
  pub process : quadrant_of regs.pidr ea ≡ Ok entry.pid
  pub page : entry.page ≡ ea / page_size
  pub leaf : Leaf
  pub known : IsLeaf leaf
  pub ends : (walk_of ram regs.prtbl entry.pid ea).end ≡ Ok leaf
  pub real : entry.real ≡ real_in leaf ea / page_size
  pub rights : entry.rights ≡ leaf.rights
  pub referenced : leaf.referenced ≡ true

marked-referenced : (leaf : Leaf) (kind : Kind) → is_marked leaf kind ≡ true → leaf.referenced ≡ true
marked-referenced leaf Fetch e = e
marked-referenced leaf Load e = e
marked-referenced leaf Store e = (and_parts leaf.referenced leaf.rights.changed e).0

real-low : (leaf : Leaf) (ea : ℕ) → IsLeaf leaf → real_in leaf ea / page_size < 2 ^ 52
real-low leaf ea known =
    let most = known.most in
    let low = known.low in
    let bound : 2 ^ leaf.left ≤ 2 ^ 57 = pow_mono most in
    let part : ea % 2 ^ leaf.left < 2 ^ leaf.left = mod-lt ea (pow_pos leaf.left) in
    omega arith

gives-kept : (permitted marked : Bool) (ram : List ℕ) (regs : Regs) (kind : Kind) (pid ea : ℕ) (leaf : Leaf) (entry : KeptEntry) → is_marked leaf kind ≡ marked → quadrant_of regs.pidr ea ≡ Ok pid → (walk_of ram regs.prtbl pid ea).end ≡ Ok leaf → IsLeaf leaf → entry_in (cond permitted (cond marked (Ok (translated leaf pid ea)) (Err ReferenceOrChange)) (Err NotPermitted)) ≡ Some entry → IsKept ram regs ea entry
gives-kept true true ram regs kind pid ea leaf entry marked process ends known e =
    subst (IsKept ram regs ea) (ap (λ (o : Option KeptEntry). unwrap_or o entry) e)
    (record {
      new = refl;
      low = real-low leaf ea known;
      process = process;
      page = refl;
      leaf = leaf;
      known = known;
      ends = ends;
      real = refl;
      rights = refl;
      referenced = marked-referenced leaf kind marked;
    })
gives-kept true false ram regs kind pid ea leaf entry marked process ends known e = cc
gives-kept false marked ram regs kind pid ea leaf entry is process ends known e = cc

end-kept : (end : Result Leaf WalkFault) (ram : List ℕ) (regs : Regs) (kind : Kind) (pid ea : ℕ) (entry : KeptEntry) → (walk_of ram regs.prtbl pid ea).end ≡ end → IfOk end IsLeaf → quadrant_of regs.pidr ea ≡ Ok pid → entry_in (found_by end kind (has_bit regs.msr pr_place) pid ea) ≡ Some entry → IsKept ram regs ea entry
end-kept (Ok leaf) ram regs kind pid ea entry ends known process e = gives-kept (permits leaf.rights kind (has_bit regs.msr pr_place)) (is_marked leaf kind) ram regs kind pid ea leaf entry refl process ends known e
end-kept (Err Segment) ram regs kind pid ea entry ends known process e = cc
end-kept (Err NoEntry) ram regs kind pid ea entry ends known process e = cc
end-kept (Err BadTree) ram regs kind pid ea entry ends known process e = cc

quadrant-kept : (process : Result ℕ StorageFault) (ram : List ℕ) (regs : Regs) (kind : Kind) (ea : ℕ) (entry : KeptEntry) → quadrant_of regs.pidr ea ≡ process → entry_in (translated_in ram regs kind ea process) ≡ Some entry → IsKept ram regs ea entry
quadrant-kept (Ok pid) ram regs kind ea entry process e = end-kept (walk_of ram regs.prtbl pid ea).end ram regs kind pid ea entry refl (walk-leaf ram regs.prtbl pid ea) process e
quadrant-kept (Err fault) ram regs kind ea entry process e = cc

on-kept : (on : Bool) (ram : List ℕ) (regs : Regs) (kind : Kind) (ea : ℕ) (entry : KeptEntry) → entry_in (cond on (translated_in ram regs kind ea (quadrant_of regs.pidr ea)) (Ok (untranslated ea))) ≡ Some entry → IsKept ram regs ea entry
on-kept true ram regs kind ea entry e = quadrant-kept (quadrant_of regs.pidr ea) ram regs kind ea entry refl e
on-kept false ram regs kind ea entry e = cc

-- the translation of an access is new, of its process and page, and what a walk's leaf gives
pub entry-kept : (ram : List ℕ) (regs : Regs) (kind : Kind) (ea : ℕ) (entry : KeptEntry) → entry_in (translate_of ram regs kind ea) ≡ Some entry → IsKept ram regs ea entry
unfolding translate_of
entry-kept ram regs kind ea entry e = on-kept (is_translated kind regs.msr) ram regs kind ea entry e

left-split : (left : ℕ) → 12 ≤ left → left ≡ (left - 12) + 12
left-split left long = omega arith

-- one page of 4 KiB has one real page in a leaf
real-page : (leaf : Leaf) (ea near : ℕ) → IsLeaf leaf → ea / 4096 ≡ near / 4096 → real_in leaf ea / 4096 ≡ real_in leaf near / 4096
real-page leaf ea near known e =
    let least = known.least in
    let size = 2 ^ (leaf.left - 12) in
    let split : 2 ^ leaf.left ≡ size * 4096 = ap (λ (n : ℕ). 2 ^ n) (left-split leaf.left least) ∙ pow-add 2 (leaf.left - 12) 12 in
    let one : ea % 2 ^ leaf.left ≡ (ea / 4096 % size) * 4096 + ea % 4096 = ap (λ (n : ℕ). ea % n) split ∙ mod-mul ea (pow_pos (leaf.left - 12)) (omega arith) in
    let other : near % 2 ^ leaf.left ≡ (near / 4096 % size) * 4096 + near % 4096 = ap (λ (n : ℕ). near % n) split ∙ mod-mul near (pow_pos (leaf.left - 12)) (omega arith) in
    let same : ea / 4096 % size ≡ near / 4096 % size = ap (λ (n : ℕ). n % size) e in
    let begins : leaf.base % 4096 ≡ 0 = sym (low-same leaf.base leaf.left least) ∙ ap (λ (n : ℕ). n % 4096) known.whole in
    omega arith

marks : (leaf : Leaf) (kind : Kind) → leaf.referenced ≡ true → is_ready kind leaf.rights ≡ true → is_marked leaf kind ≡ true
marks leaf Fetch e ready = e
marks leaf Load e ready = e
marks leaf Store e ready = and_from leaf.referenced leaf.rights.changed e ready

there-same : (real other : ℕ) → real ≡ other → not (real == other) ≡ false
there-same real other e = grind (arith, nat_tests)

-- a translation that was kept of an access is right for any access to its page that it permits, on any RAM that agrees on
-- what its walk read, while the table of translations is the same
pub walk-calm : (before ram : List ℕ) (earlier regs : Regs) (kind : Kind) (ea near : ℕ) (entry : KeptEntry) → IsKept before earlier ea entry → AgreeOn before ram (walk_of before earlier.prtbl entry.pid ea).reads → regs.prtbl ≡ earlier.prtbl → is_translated kind regs.msr ≡ true → quadrant_of regs.pidr near ≡ Ok entry.pid → entry.page ≡ near / page_size → lets kind (has_bit regs.msr pr_place) entry ≡ true → is_elsewhere (translate_of ram regs kind near) entry ≡ false
unfolding translate_of
walk-calm before ram earlier regs kind ea near entry kept agree table on process page allowed =
    let leaf = kept.leaf in
    let beside : ea / 4096 ≡ near / 4096 = sym kept.page ∙ page in
    let here : (walk_of ram earlier.prtbl entry.pid ea).end ≡ Ok leaf = ap (λ (w : Walked). w.end) (sym (walk-same before ram earlier.prtbl entry.pid ea agree)) ∙ kept.ends in
    let there : (walk_of ram regs.prtbl entry.pid near).end ≡ Ok leaf =
    ap (λ (prtbl : ℕ). (walk_of ram prtbl entry.pid near).end) table
    ∙ ap (λ (w : Walked). w.end) (walk-same_page ram earlier.prtbl entry.pid ea near leaf beside here) ∙ here in
    let parts = and_parts (permits entry.rights kind (has_bit regs.msr pr_place)) (is_ready kind entry.rights) allowed in
    let permitted : permits leaf.rights kind (has_bit regs.msr pr_place) ≡ true = ap (λ (rights : Rights). permits rights kind (has_bit regs.msr pr_place)) (sym kept.rights) ∙ parts.0 in
    let marked : is_marked leaf kind ≡ true = marks leaf kind kept.referenced (ap (is_ready kind) (sym kept.rights) ∙ parts.1) in
    let real : real_in leaf near / page_size ≡ entry.real = sym (real-page leaf ea near kept.known beside) ∙ sym kept.real in
    ap (λ (b : Bool). is_elsewhere (cond b (translated_in ram regs kind near (quadrant_of regs.pidr near)) (Ok (untranslated near))) entry) on
    ∙ ap (λ (p : Result ℕ StorageFault). is_elsewhere (translated_in ram regs kind near p) entry) process
    ∙ ap (λ (end : Result Leaf WalkFault). is_elsewhere (found_by end kind (has_bit regs.msr pr_place) entry.pid near) entry) there
    ∙ ap (λ (b : Bool). is_elsewhere (cond b (cond (is_marked leaf kind) (Ok (translated leaf entry.pid near)) (Err ReferenceOrChange)) (Err NotPermitted)) entry) permitted
    ∙ ap (λ (b : Bool). is_elsewhere (cond b (Ok (translated leaf entry.pid near)) (Err ReferenceOrChange)) entry) marked
    ∙ there-same (real_in leaf near / page_size) entry.real real
