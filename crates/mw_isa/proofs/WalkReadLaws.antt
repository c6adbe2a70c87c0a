-- What a walk reads, and where it ends: 13 doublewords at most, each at a real address that a doubleword of a table can
-- have, and a leaf with a page of 4 KiB at least.
use Rattle.std.proofs.Common.{◌≡◌, ℕ, zero, suc, ◌+◌, ◌-◌, ◌*◌, ◌/◌, ◌%◌, ◌^◌, ◌<◌, ◌≤◌, Bool, true, false, ◌&&◌, cond, List, length, Result, Ok, Err, IfOk, refl, ap, ◌∙◌, arith, pow_pos}
use Rattle.std.specs.Prelude.{nat_lt, nat_le}
use Rattle.std.proofs.Math.Nat.{div-add-mod, mul-mod_right}
use Rattle.std.proofs.lemmas.Bool.{and_parts}
use Rattle.std.proofs.lemmas.Bool.Decides.{nat_tests}
use Rattle.mw_isa.specs.declared.walk.Leaf.{Leaf}
use Rattle.mw_isa.specs.declared.walk.Level.{Level}
use Rattle.mw_isa.specs.declared.walk.WalkFault.{WalkFault}
use Rattle.mw_isa.specs.declared.walk.WalkFault.TheVariants.{Segment, NoEntry, BadTree}
use Rattle.mw_isa.specs.Tables.{doubleword, tree_bits, is_there, is_leaf, page_base}
use Rattle.mw_isa.specs.Walk.{Walked, ended, reading, is_level, left_behind, entry_at, next_level, page_in, leaf_of, walk_behind, walk_from, root_of, is_in_tree, walk_in, is_in_table, process_at, walk_of, IsLeaf, IsLevel, AreAddresses}

-- what is shown of a walk where so many address bits are left
record Reads (left : ℕ) (walked : Walked) : Type 0 where
  few : 5 * length walked.reads ≤ left
  real : AreAddresses walked.reads
  leaf : IfOk walked.end IsLeaf

-- the base of a table's entry and its place give such an address
entry-real : (base index : ℕ) → base % 8 ≡ 0 → ((base + 8 * index) % 2 ^ 60 < 2 ^ 60) × ((base + 8 * index) % 2 ^ 60 % 8 ≡ 0)
entry-real base index whole = (omega arith, omega arith)

-- the part of a number that is a multiple
whole-part : (x size : ℕ) → 0 < size → (x - x % size) % size ≡ 0
whole-part x size some =
    let e : x - x % size ≡ size * (x / size) = omega (arith, div-add-mod x size) in
    ap (λ n. n % size) e ∙ mul-mod_right size (x / size)

-- a leaf's page is one
page-leaf : (entry left : ℕ) → 12 ≤ left → left ≤ 57 → IsLeaf (page_in entry left)
page-leaf entry left least most =
    record {
      least = least;
      most = most;
      low = omega arith;
      whole = whole-part (page_base entry) (2 ^ left) (pow_pos left);
    }

leaf-by : (b : Bool) (entry left : ℕ) → left ≤ 57 → nat_lt left 12 ≡ b → IfOk (cond b (Err BadTree) (Ok (page_in entry left))) IsLeaf
leaf-by true entry left most e = tt
leaf-by false entry left most e = page-leaf entry left (grind (arith, nat_tests)) most

ended-reads : (left : ℕ) (end : Result Leaf WalkFault) → IfOk end IsLeaf → Reads left (ended end)
ended-reads left end leaf = record { few = omega arith; real = tt; leaf = leaf }

behind-by : (there leaf : Bool) (entry left : ℕ) (on : Walked) → left ≤ 57 → Reads left on → Reads left (cond there (cond leaf (ended (leaf_of entry left)) on) (ended (Err NoEntry)))
behind-by true true entry left on most rest = ended-reads left (leaf_of entry left) (leaf-by (nat_lt left 12) entry left most refl)
behind-by true false entry left on most rest = rest
behind-by false leaf entry left on most rest = ended-reads left (Err NoEntry) tt

reading-reads : (left bits at : ℕ) (walked : Walked) → 5 ≤ bits → bits ≤ left → at < 2 ^ 60 → at % 8 ≡ 0 → Reads (left - bits) walked → Reads left (reading at walked)
reading-reads left bits at walked wide within below whole rest =
    let few = rest.few in
    let more : 5 * (length walked.reads + 1) ≤ left = omega arith in
    record { few = omega arith; real = (below, whole, rest.real); leaf = rest.leaf }

-- the test of a level's bounds is one
pub level-is : (level : Level) → is_level level ≡ true → IsLevel level
level-is level e =
    let parts = and_parts (nat_le 5 level.bits && nat_le level.bits 16) (nat_le level.bits level.left) e in
    let first = and_parts (nat_le 5 level.bits) (nat_le level.bits 16) parts.0 in
    let wide = first.0 in
    let short = first.1 in
    let within = parts.1 in
    record { wide = grind (arith, nat_tests); short = grind (arith, nat_tests); within = grind (arith, nat_tests) }

-- the leaf behind a level is a page of 2^12 to 2^57 bytes
pub leaf-behind : (entry : ℕ) (level : Level) → is_level level ≡ true → level.left ≤ 62 → IfOk (leaf_of entry (left_behind level)) IsLeaf
leaf-behind entry level e most =
    let wide = (level-is level e).wide in
    leaf-by (nat_lt (left_behind level) 12) entry (left_behind level) (omega arith) refl

level-by : (b : Bool) (ea : ℕ) (level : Level) (inner : Walked) → is_level level ≡ b → level.base % 8 ≡ 0 → (IsLevel level → Reads (left_behind level) inner) → Reads level.left (cond b (reading (entry_at ea level) inner) (ended (Err BadTree)))
level-by true ea level inner e whole rest =
    let bounds = level-is level e in
    let at = entry-real level.base (ea / 2 ^ left_behind level % 2 ^ level.bits) whole in
    reading-reads level.left level.bits (entry_at ea level) inner bounds.wide bounds.within at.0 at.1 (rest bounds)
level-by false ea level inner e whole rest = ended-reads level.left (Err BadTree) tt

-- a level that a directory leads to begins at a multiple of 8
next-whole : (entry : ℕ) (level : Level) → (next_level entry level).base % 8 ≡ 0
next-whole entry level = omega arith

reads-from : (n : ℕ) (ram : List ℕ) (ea : ℕ) (level : Level) → level.left ≤ 62 → level.base % 8 ≡ 0 → Reads level.left (walk_from n ram ea level)
unfolding walk_from
reads-from zero ram ea level most whole = ended-reads level.left (Err BadTree) tt
reads-from (suc n) ram ea level most whole =
    let entry = doubleword ram (entry_at ea level) in
    level-by (is_level level) ea level (walk_behind entry (left_behind level) (walk_from n ram ea (next_level entry level))) refl whole (λ bounds.
    let wide = bounds.wide in
    let left : level.left - level.bits ≤ 57 = omega arith in
    behind-by (is_there entry) (is_leaf entry) entry (left_behind level) (walk_from n ram ea (next_level entry level)) left
    (reads-from n ram ea (next_level entry level) (omega arith) (next-whole entry level)))

tree-most : (entry : ℕ) → tree_bits entry ≤ 62
tree-most entry = omega arith

root-whole : (entry : ℕ) → (root_of entry).base % 8 ≡ 0
root-whole entry = omega arith

in-by : (b : Bool) (ram : List ℕ) (ea entry : ℕ) → Reads 62 (cond b (walk_from (tree_bits entry) ram ea (root_of entry)) (ended (Err Segment)))
in-by true ram ea entry =
    let rest = reads-from (tree_bits entry) ram ea (root_of entry) (tree-most entry) (root-whole entry) in
    let few = rest.few in
    let most = tree-most entry in
    record { few = omega arith; real = rest.real; leaf = rest.leaf }
in-by false ram ea entry = ended-reads 62 (Err Segment) tt

-- what is shown of a whole walk
pub record WalkReads (walked : Walked) : Type 0 where
  pub few : length walked.reads ≤ 13
  pub real : AreAddresses walked.reads
  pub leaf : IfOk walked.end IsLeaf

process-real : (prtbl pid : ℕ) → (process_at prtbl pid < 2 ^ 60) × (process_at prtbl pid % 8 ≡ 0)
process-real prtbl pid = (omega arith, omega arith)

table-by : (b : Bool) (ram : List ℕ) (prtbl pid ea : ℕ) → WalkReads (cond b (reading (process_at prtbl pid) (walk_in ram ea (doubleword ram (process_at prtbl pid)))) (ended (Err NoEntry)))
table-by true ram prtbl pid ea =
    let entry = doubleword ram (process_at prtbl pid) in
    let rest = in-by (is_in_tree ea (tree_bits entry)) ram ea entry in
    let few = rest.few in
    let at = process-real prtbl pid in
    record { few = omega arith; real = (at.0, at.1, rest.real); leaf = rest.leaf }
table-by false ram prtbl pid ea = record { few = omega arith; real = tt; leaf = tt }

walk-reads : (ram : List ℕ) (prtbl pid ea : ℕ) → WalkReads (walk_of ram prtbl pid ea)
unfolding walk_of
walk-reads ram prtbl pid ea = table-by (is_in_table prtbl pid) ram prtbl pid ea

-- a walk reads at most 13 doublewords
pub walk-few : (ram : List ℕ) (prtbl pid ea : ℕ) → length (walk_of ram prtbl pid ea).reads ≤ 13
walk-few ram prtbl pid ea = (walk-reads ram prtbl pid ea).few

-- each at a real address that is a multiple of 8
pub walk-real : (ram : List ℕ) (prtbl pid ea : ℕ) → AreAddresses (walk_of ram prtbl pid ea).reads
walk-real ram prtbl pid ea = (walk-reads ram prtbl pid ea).real

-- a leaf that a walk ends in has a page of 2^12 to 2^57 bytes, which begins at a multiple of its size
pub walk-leaf : (ram : List ℕ) (prtbl pid ea : ℕ) → IfOk (walk_of ram prtbl pid ea).end IsLeaf
walk-leaf ram prtbl pid ea = (walk-reads ram prtbl pid ea).leaf
