-- What is known of the stretches in which an access stands.
use Rattle.std.proofs.Common.{Option, ◌≡◌, ◌==◌, inl, inr, ℕ, ◌+◌, ◌-◌, ◌%◌, ◌^◌, ◌<◌, ◌≤◌, Bool, true, false, not, ◌&&◌, ◌||◌, cond, Some, None, Result, Ok, Err, IfOk, is_some, refl, sym, ap, ◌∙◌, subst, arith}
use Rattle.std.specs.Option.{option_map_or}
use Rattle.std.proofs.lemmas.Bool.{eqb-true, le-leb, not-true, or_cases, true≢false}
use Rattle.std.proofs.lemmas.Bool.Decides.{nat_tests}
use Rattle.mw_isa.specs.declared.memory.MemOp.{MemOp}
use Rattle.mw_isa.specs.declared.memory.MemWhat.{MemWhat}
use Rattle.mw_isa.specs.declared.memory.MemWhat.TheVariants.{Load, Store, Conditional, Zero, Clean, Icbi}
use Rattle.mw_isa.specs.declared.pages.Page.{Page}
use Rattle.mw_isa.specs.declared.pages.StorageFault.{StorageFault}
use Rattle.mw_isa.specs.declared.pages.Stretch.{Stretch}
use Rattle.mw_isa.specs.declared.pages.Stretches.{Stretches}
use Rattle.mw_isa.specs.Pages.{page_size, left_of, is_in_page, page_of, one_page, two_pages, stretch_of, stretches_of, stretches_by, with_second, is_in_ram, IsPagewise}
use Rattle.mw_isa.specs.Storage.{is_sized_by, IsSized, first_byte, first_of, kind_of, pages_of, is_aligned, is_exclusive, needs_ram, raises_alignment, IsPlaced}

-- one page's stretch
one-stretch : (page : Page) (r : Result ℕ StorageFault) (real : Page → Result ℕ StorageFault) (at : Stretches) → stretches_by real (stretch_of page r) None ≡ Ok at → (x : ℕ) × (r ≡ Ok x) × (at ≡ record { first = record { at = x; len = page.len }; second = None })
one-stretch page (Ok x) real at e = (x, refl, cc)
one-stretch page (Err fault) real at e = cc

-- two pages' stretches
second-stretch : (first : Stretch) (page : Page) (r : Result ℕ StorageFault) (at : Stretches) → with_second first (stretch_of page r) ≡ Ok at → (y : ℕ) × (r ≡ Ok y) × (at ≡ record { first = first; second = Some (record { at = y; len = page.len }) })
second-stretch first page (Ok y) at e = (y, refl, cc)
second-stretch first page (Err fault) at e = cc

two-stretches : (page other : Page) (r : Result ℕ StorageFault) (real : Page → Result ℕ StorageFault) (at : Stretches) → stretches_by real (stretch_of page r) (Some other) ≡ Ok at → (x y : ℕ) × (r ≡ Ok x) × (real other ≡ Ok y) × (at ≡ record { first = record { at = x; len = page.len }; second = Some (record { at = y; len = other.len }) })
two-stretches page other (Ok x) real at e =
    let two = second-stretch (record { at = x; len = page.len }) other (real other) at e in
    (x, two.0, refl, two.1, two.2)
two-stretches page other (Err fault) real at e = cc

-- what is said of an address that may be there is said of the one that is there
said : (r : Result ℕ StorageFault) (x : ℕ) (P : ℕ → Type 0) → IfOk r P → r ≡ Ok x → P x
said r x P h e = subst (λ (o : Result ℕ StorageFault). IfOk o P) e h

-- an access of one page stands in one stretch
placed-once : (real : Page → Result ℕ StorageFault) (op : MemOp) (at : Stretches) → IsPagewise real → is_in_page (first_byte op) op.len ≡ true → stretches_by real (stretch_of (page_of (kind_of op.what) (first_byte op) op.len) (real (page_of (kind_of op.what) (first_byte op) op.len))) None ≡ Ok at → IsPlaced op at
placed-once real op at wise inside e =
    let page = page_of (kind_of op.what) (first_byte op) op.len in
    let one = one-stretch page (real page) real at e in
    let known = said (real page) one.0 (λ (x : ℕ). (x < 2 ^ 60) × (x % page_size ≡ first_byte op % page_size)) (wise page) one.1 in
    let whole : op.len + 0 ≡ op.len = omega arith in
    subst (IsPlaced op) (sym one.2) (record {
      real = known.0;
      offset = known.1;
      size = whole;
      crosses = ap not (sym inside);
      second = tt;
    })

-- an access of two pages stands in two stretches
placed-twice : (real : Page → Result ℕ StorageFault) (op : MemOp) (at : Stretches) → IsPagewise real → is_in_page (first_byte op) op.len ≡ false → stretches_by real (stretch_of (page_of (kind_of op.what) (first_byte op) (left_of (first_byte op))) (real (page_of (kind_of op.what) (first_byte op) (left_of (first_byte op))))) (Some (page_of (kind_of op.what) ((first_byte op + left_of (first_byte op)) % 2 ^ 64) (op.len - left_of (first_byte op)))) ≡ Ok at → IsPlaced op at
placed-twice real op at wise across e =
    let page = page_of (kind_of op.what) (first_byte op) (left_of (first_byte op)) in
    let other = page_of (kind_of op.what) ((first_byte op + left_of (first_byte op)) % 2 ^ 64) (op.len - left_of (first_byte op)) in
    let two = two-stretches page other (real page) real at e in
    let known = said (real page) two.0 (λ (x : ℕ). (x < 2 ^ 60) × (x % page_size ≡ first_byte op % page_size)) (wise page) two.2 in
    let behind = said (real other) two.1 (λ (x : ℕ). (x < 2 ^ 60) × (x % page_size ≡ (first_byte op + left_of (first_byte op)) % 2 ^ 64 % page_size)) (wise other) two.3 in
    let past : page_size < first_byte op % page_size + op.len = grind (arith, nat_tests) in
    let whole : left_of (first_byte op) + (op.len - left_of (first_byte op)) ≡ op.len = omega arith in
    let ends : two.0 % page_size + left_of (first_byte op) ≡ page_size = omega arith in
    let begins : two.1 % page_size ≡ 0 = omega arith in
    subst (IsPlaced op) (sym two.4) (record {
      real = known.0;
      offset = known.1;
      size = whole;
      crosses = ap not (sym across);
      second = (ends, behind.0, begins);
    })

placed-from : (b : Bool) (real : Page → Result ℕ StorageFault) (op : MemOp) (at : Stretches) → IsPagewise real → is_in_page (first_byte op) op.len ≡ b → stretches_of real (pages_of op) ≡ Ok at → IsPlaced op at
placed-from true real op at wise inside e =
    placed-once real op at wise inside (sym (ap (λ (b : Bool). stretches_of real (cond b (one_page (kind_of op.what) (first_byte op) op.len) (two_pages (kind_of op.what) (first_byte op) op.len))) inside) ∙ e)
placed-from false real op at wise inside e =
    placed-twice real op at wise inside (sym (ap (λ (b : Bool). stretches_of real (cond b (one_page (kind_of op.what) (first_byte op) op.len) (two_pages (kind_of op.what) (first_byte op) op.len))) inside) ∙ e)

-- the stretches of an access's pages are as `IsPlaced` says
pub placed-by : (real : Page → Result ℕ StorageFault) (op : MemOp) (at : Stretches) → IsPagewise real → stretches_of real (pages_of op) ≡ Ok at → IsPlaced op at
placed-by real op at wise e = placed-from (is_in_page (first_byte op) op.len) real op at wise refl e

-- a multiple of its length doesn't cross the end of a page
inside-of : (size ea len : ℕ) → len ≡ size → (ea % size ≡ 0 → ea % page_size + size ≤ page_size) → (ea % len == 0) ≡ true → is_in_page ea len ≡ true
inside-of size ea len e fits aligned =
    let whole : ea % size ≡ 0 = ap (λ (n : ℕ). ea % n) (sym e) ∙ eqb-true (ea % len) 0 aligned in
    ap (λ (n : ℕ). is_in_page ea n) e ∙ le-leb _ _ (fits whole)

aligned-inside : (ea len : ℕ) → ((len == 1 || len == 2) || (len == 4 || len == 8)) ≡ true → (ea % len == 0) ≡ true → is_in_page ea len ≡ true
aligned-inside ea len sized aligned = elim (or_cases (len == 1 || len == 2) (len == 4 || len == 8) sized) [
  | inl small ↦ elim (or_cases (len == 1) (len == 2) small) [
    | inl e ↦ inside-of 1 ea len (eqb-true len 1 e) (λ whole. omega arith) aligned
    | inr e ↦ inside-of 2 ea len (eqb-true len 2 e) (λ whole. omega arith) aligned
  ]
  | inr large ↦ elim (or_cases (len == 4) (len == 8) large) [
    | inl e ↦ inside-of 4 ea len (eqb-true len 4 e) (λ whole. omega arith) aligned
    | inr e ↦ inside-of 8 ea len (eqb-true len 8 e) (λ whole. omega arith) aligned
  ]
]

-- an access that crosses the end of a page isn't a multiple of its length
across-unaligned : (b : Bool) (ea len : ℕ) → ((len == 1 || len == 2) || (len == 4 || len == 8)) ≡ true → is_in_page ea len ≡ false → (ea % len == 0) ≡ b → (ea % len == 0) ≡ false
across-unaligned true ea len sized across e = absurd (true≢false (sym (aligned-inside ea len sized e) ∙ across))
across-unaligned false ea len sized across e = e

-- an access that isn't aligned and raises no alignment interrupt isn't exclusive, and lies in RAM
plain-by : (exclusive aligned needs ram : Bool) → aligned ≡ false → ((exclusive && not aligned) || (not ram && (not aligned || needs))) ≡ false → (exclusive ≡ false) × (ram ≡ true)
plain-by false false needs true e calm = (refl, refl)
plain-by false false needs false e calm = cc
plain-by true false needs ram e calm = cc
plain-by exclusive true needs ram e calm = cc

-- a block of zeros, and one byte, lie in one page
zeros-inside : (ea len : ℕ) → (len == 64) ≡ true → is_in_page (ea - ea % 64) len ≡ true
zeros-inside ea len sized =
    let e = eqb-true len 64 sized in
    le-leb _ _ (omega arith)

byte-inside : (ea len : ℕ) → (len == 1) ≡ true → is_in_page ea len ≡ true
byte-inside ea len sized =
    let e = eqb-true len 1 sized in
    le-leb _ _ (omega arith)

two-plain-by : (what : MemWhat) (op : MemOp) (at : Stretches) → is_sized_by what op.len ≡ true → is_in_page (first_of op what) op.len ≡ false → ((is_exclusive what && not (is_aligned op)) || (not (is_in_ram at) && (not (is_aligned op) || needs_ram what))) ≡ false → (is_exclusive what ≡ false) × (needs_ram what ≡ false) × (is_in_ram at ≡ true)
two-plain-by (Load signed reversed reserve) op at sized across calm =
    let p = plain-by reserve (is_aligned op) reserve (is_in_ram at) (across-unaligned (is_aligned op) op.ea op.len sized across refl) calm in
    (p.0, p.0, p.1)
two-plain-by (Store reversed) op at sized across calm =
    let p = plain-by false (is_aligned op) false (is_in_ram at) (across-unaligned (is_aligned op) op.ea op.len sized across refl) calm in
    (refl, refl, p.1)
two-plain-by (Conditional reversed) op at sized across calm =
    let p = plain-by true (is_aligned op) true (is_in_ram at) (across-unaligned (is_aligned op) op.ea op.len sized across refl) calm in
    (p.0, p.0, p.1)
two-plain-by Zero op at sized across calm = absurd (true≢false (sym (zeros-inside op.ea op.len sized) ∙ across))
two-plain-by Clean op at sized across calm = absurd (true≢false (sym (byte-inside op.ea op.len sized) ∙ across))
two-plain-by Icbi op at sized across calm = absurd (true≢false (sym (byte-inside op.ea op.len sized) ∙ across))

-- an access of two stretches lies in two pages
pub two-across : (op : MemOp) (at : Stretches) → IsPlaced op at → is_some at.second ≡ true → is_in_page (first_byte op) op.len ≡ false
two-across op at p two = not-true (is_in_page (first_byte op) op.len) (sym p.crosses ∙ two)

-- behind the alignment rules an access in two stretches is neither exclusive nor zeros, and lies in RAM
pub two-plain : (op : MemOp) (at : Stretches) → IsSized op → IsPlaced op at → is_some at.second ≡ true → raises_alignment op at ≡ false → (is_exclusive op.what ≡ false) × (needs_ram op.what ≡ false) × (is_in_ram at ≡ true)
two-plain op at sized p two calm = two-plain-by op.what op at sized (two-across op at p two) calm

-- a second stretch that isn't there is none
none-of : (second : Option Stretch) → is_some second ≡ false → second ≡ None
none-of None e = refl
none-of (Some stretch) e = cc

-- an access with a byte outside RAM that raises no alignment interrupt has no second stretch
single-by : (b : Bool) (op : MemOp) (at : Stretches) → IsSized op → IsPlaced op at → raises_alignment op at ≡ false → is_in_ram at ≡ false → is_some at.second ≡ b → is_some at.second ≡ false
single-by false op at sized p calm outside e = e
single-by true op at sized p calm outside e = absurd (true≢false (sym (two-plain op at sized p e calm).2 ∙ outside))

-- behind the alignment rules an access with a byte outside RAM stands in one stretch, which has all its bytes
pub outside-single : (op : MemOp) (at : Stretches) → IsSized op → IsPlaced op at → raises_alignment op at ≡ false → is_in_ram at ≡ false → (at.second ≡ None) × (at.first.len ≡ op.len)
outside-single op at sized p calm outside =
    let one = none-of at.second (single-by (is_some at.second) op at sized p calm outside refl) in
    let whole : at.first.len + 0 ≡ op.len = ap (λ (second : Option Stretch). at.first.len + option_map_or (λ (s : Stretch). s.len) second 0) (sym one) ∙ p.size in
    (one, omega arith)
