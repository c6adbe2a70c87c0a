-- What holds of each row of the instruction table.
use Rattle.std.proofs.Common.{◌≡◌, ℕ, zero, suc, ◌+◌, ◌-◌, ◌*◌, ◌%◌, ◌^◌, ◌<◌, ◌≤◌, ◌==◌, nat_lt, nat_le, Bool, true, false, not, ◌&&◌, cond, ℤ, pos, List, [], ◌∷◌, map, Option, Some, None, IfSome, IsSomeAnd, option_map, slice_get, refl, sym, ap, ◌∙◌, subst, arith}
use Rattle.std.specs.Int.{w64, cast_unsigned}
use Rattle.std.proofs.lemmas.Bool.{and_parts, eqb-true, leb-true, not-true}
use Rattle.std.proofs.Math.Pow.{pow_mono}
use Rattle.std.proofs.lemmas.Nat.{pow-add}
use Rattle.std.specs.Prelude.{◌-ℤ◌}
use Rattle.mw_tables.proofs.FieldLaws.{cast_unsigned-negative}
use Rattle.mw_tables.specs.declared.layout.Field.{Field}
use Rattle.mw_tables.specs.declared.layout.Layout.{Layout}
use Rattle.mw_tables.specs.Row.{TableRow}
use Rattle.mw_tables.specs.Rows.{lines, table, layouts}
use Rattle.mw_tables.specs.Layouts.{fields_of, width_of, signed_of, operand_at, InRange, HasOperands}
use Rattle.mw_decode.specs.declared.insn.Insn.{Insn}
use Rattle.mw_decode.specs.Decode.{IsInsn}
use Rattle.mw_isa.specs.declared.operation.Operation.{Operation}
use Rattle.mw_isa.specs.Operations.{OperationLine, operations, operation_lines}
use Rattle.mw_isa.specs.Places.{Role, Written, First, Base, Second, Third, Kept, is_written, is_first, is_base, is_second, is_third, roles_by, Limit, Free, Below, InWords, limit_of, place_in, places_in, places_by, places_of, IsLimited, AreOperands, AreLimited, HasLimitsBy, HasLimits, IsReadyBy, IsReady, IsRegister, HasRegisters, operand_of}

-- the list of operations names the rows of the table, in the table's order
pub operations-named : map (λ (line : OperationLine). line.name) operation_lines ≡ map (λ (row : TableRow). row.name) table
unfolding operation_lines table lines
operations-named = refl

-- a field of so many bits that holds an unsigned number as it is
abbrev is_plain_field : ℕ → Field → Bool
is_plain_field bits f = (width_of f == bits) && ((f.shift == 0) && not f.signed)

-- a field that holds a signed multiple of 4 in at most 62 bits
abbrev is_word_field : Field → Bool
is_word_field f = (f.shift == 2) && (f.signed && nat_le (width_of f) 62)

-- a field is as is asked
abbrev is_as_asked : Limit → Field → Bool
is_as_asked Free f = true
is_as_asked (Below bits) f = is_plain_field bits f
is_as_asked InWords f = is_word_field f

-- there are as many fields as roles, and each is as its role asks
abbrev are_as_asked : List Role → List Field → Bool
are_as_asked [] [] = true
are_as_asked [] (f ∷ fs) = false
are_as_asked (role ∷ roles) [] = false
are_as_asked (role ∷ roles) (f ∷ fs) = is_as_asked (limit_of role) f && are_as_asked roles fs

-- a layout has the operands that roles ask for
abbrev fits_by : Option (List Role) → Layout → Bool
fits_by None layout = true
fits_by (Some roles) layout = are_as_asked roles (fields_of layout)

-- a layout has the operands that an operation asks for
abbrev fits : Operation → Layout → Bool
fits operation layout = fits_by (roles_by operation) layout

-- each layout has the operands that the operation of its row asks for
abbrev all_fit : List Operation → List Layout → Bool
all_fit [] [] = true
all_fit [] (layout ∷ others) = false
all_fit (operation ∷ others) [] = false
all_fit (operation ∷ operations) (layout ∷ layouts) = fits operation layout && all_fit operations layouts

-- each row's operands are as its operation asks
operations-fit : all_fit operations layouts ≡ true
unfolding operations operation_lines layouts lines
operations-fit = refl

-- what holds of all operations and layouts holds at each place
fits-at : (os : List Operation) (ls : List Layout) (place : ℕ) (o : Operation) (l : Layout) → all_fit os ls ≡ true → slice_get os place ≡ Some o → slice_get ls place ≡ Some l → fits o l ≡ true
fits-at [] [] place o l all at there = cc
fits-at [] (layout ∷ others) place o l all at there = cc
fits-at (operation ∷ others) [] place o l all at there = cc
fits-at (operation ∷ os) (layout ∷ ls) zero o l all at there =
    let a : operation ≡ o = cc in
    let b : layout ≡ l = cc in
    rw (sym a, sym b) (and_parts _ _ all).0
fits-at (operation ∷ os) (layout ∷ ls) (suc place) o l all at there = fits-at os ls place o l (and_parts _ _ all).1 at there

-- an operand in a field of so many bits that holds it as it is has no more than these bits
below-in : (bits : ℕ) (f : Field) (z : ℤ) → is_plain_field bits f ≡ true → InRange f z → cast_unsigned w64 z < 2 ^ bits
below-in bits f z is range =
    let parts = and_parts _ _ is in
    let rest = and_parts _ _ parts.1 in
    let width : width_of f ≡ bits = eqb-true _ _ parts.0 in
    let shift : f.shift ≡ 0 = eqb-true _ _ rest.0 in
    let plain : f.signed ≡ false = not-true _ rest.1 in
    let small : range.0 < 2 ^ bits = subst (λ (n : ℕ). range.0 < 2 ^ n) width range.1 in
    let value : z ≡ pos (range.0 * 2 ^ f.shift) = range.2 ∙ rw plain in
    let same : z ≡ pos range.0 = value ∙ rw shift (ap pos (omega arith)) in
    subst (λ (v : ℤ). cast_unsigned w64 v < 2 ^ bits) (sym same) small

-- a signed number of some bits that is a multiple of 4 is one in 64 bits
word-signed : (b : Bool) (n width : ℕ) → n < 2 ^ width → width ≤ 62 → cast_unsigned w64 (cond b (pos (n * 4)) (pos (n * 4) -ℤ pos (2 ^ width * 4))) % 4 ≡ 0
word-signed true n width small fits = omega arith
word-signed false n width small fits =
    let room : 2 ^ width ≤ 2 ^ 62 = pow_mono fits in
    ap (λ (v : ℕ). v % 4) (cast_unsigned-negative (n * 4) (2 ^ width * 4) (omega arith) (omega arith)) ∙ omega arith

words-in : (f : Field) (z : ℤ) → is_word_field f ≡ true → InRange f z → cast_unsigned w64 z % 4 ≡ 0
words-in f z is range =
    let parts = and_parts _ _ is in
    let rest = and_parts _ _ parts.1 in
    let shift : f.shift ≡ 2 = eqb-true _ _ parts.0 in
    let signed : f.signed ≡ true = rest.0 in
    let fits : width_of f ≤ 62 = leb-true _ _ rest.1 in
    let value : z ≡ signed_of (width_of f + f.shift) (range.0 * 2 ^ f.shift) = range.2 ∙ ap (λ (b : Bool). cond b (signed_of (width_of f + f.shift) (range.0 * 2 ^ f.shift)) (pos (range.0 * 2 ^ f.shift))) signed in
    let same : z ≡ signed_of (width_of f + 2) (range.0 * 4) = value ∙ ap (λ (n : ℕ). signed_of (width_of f + n) (range.0 * 2 ^ n)) shift in
    let whole : 2 ^ (width_of f + 2) ≡ 2 ^ width_of f * 4 = pow-add 2 (width_of f) 2 in
    let plain : z ≡ cond (nat_lt (range.0 * 4) (2 ^ (width_of f + 2 - 1))) (pos (range.0 * 4)) (pos (range.0 * 4) -ℤ pos (2 ^ width_of f * 4)) = same ∙ ap (λ (n : ℕ). cond (nat_lt (range.0 * 4) (2 ^ (width_of f + 2 - 1))) (pos (range.0 * 4)) (pos (range.0 * 4) -ℤ pos n)) whole in
    ap (λ (v : ℤ). cast_unsigned w64 v % 4) plain ∙ word-signed (nat_lt (range.0 * 4) (2 ^ (width_of f + 2 - 1))) range.0 (width_of f) range.1 fits

-- an operand is as its field was asked to be
limited-in : (limit : Limit) (f : Field) (z : ℤ) → is_as_asked limit f ≡ true → InRange f z → IsLimited limit (cast_unsigned w64 z)
limited-in Free f z is range = tt
limited-in (Below bits) f z is range = below-in bits f z is range
limited-in InWords f z is range = words-in f z is range

-- all operands are as their fields were asked to be
operands-in : (roles : List Role) (fs : List Field) (zs : List ℤ) → HasOperands fs zs → are_as_asked roles fs ≡ true → AreOperands roles zs
operands-in [] [] [] h is = tt
operands-in [] [] (z ∷ zs) h is = absurd h
operands-in [] (f ∷ fs) zs h is = cc
operands-in (role ∷ roles) [] zs h is = cc
operands-in (role ∷ roles) (f ∷ fs) [] h is = absurd h
operands-in (role ∷ roles) (f ∷ fs) (z ∷ zs) h is =
    let parts = and_parts _ _ is in
    (limited-in (limit_of role) f z parts.0 h.0, operands-in roles fs zs h.1 parts.1)

-- some value is there
some_of : {A : Type 0} (o : Option A) (P : A → Type 0) → IsSomeAnd o P → (x : A) × (o ≡ Some x) × P x
some_of None P h = absurd h
some_of (Some x) P h = (x, refl, h)

ready-by : (insn : Insn) (roles : Option (List Role)) (layout : Layout) → fits_by roles layout ≡ true → HasOperands (fields_of layout) insn.ops.items → IsReadyBy roles insn
ready-by insn None layout fit h = tt
ready-by insn (Some roles) layout fit h = operands-in roles (fields_of layout) insn.ops.items h fit

-- an instruction of the table has the operands that its operation asks for
pub ready : (insn : Insn) (operation : Operation) → IsInsn insn → slice_get operations insn.row ≡ Some operation → IsReady operation insn
ready insn operation is at =
    let there = some_of (slice_get layouts insn.row) (λ (layout : Layout). HasOperands (fields_of layout) insn.ops.items) is.operands in
    ready-by insn (roles_by operation) there.0 (fits-at operations layouts insn.row operation there.0 operations-fit at there.1) there.2

-- the operand at the first place or at a later one
limited-step : (here : Bool) (rest : Option ℕ) (place : ℕ) (z : ℤ) (zs : List ℤ) → cond here (Some 0) (option_map suc rest) ≡ Some place → (here ≡ true → cast_unsigned w64 z < 32) → ((later : ℕ) → rest ≡ Some later → cast_unsigned w64 (operand_at zs later) < 32) → cast_unsigned w64 (operand_at (z ∷ zs) place) < 32
limited-step true rest place z zs e first others =
    let is : 0 ≡ place = cc in
    subst (λ (n : ℕ). cast_unsigned w64 (operand_at (z ∷ zs) n) < 32) is (first refl)
limited-step false None place z zs e first others = cc
limited-step false (Some later) place z zs e first others =
    let is : suc later ≡ place = cc in
    subst (λ (n : ℕ). cast_unsigned w64 (operand_at (z ∷ zs) n) < 32) is (others later refl)

-- a number of five bits
five-bits : (limit : Limit) (n : ℕ) → limit ≡ Below 5 → IsLimited limit n → n < 32
five-bits limit n e h = subst (λ (l : Limit). IsLimited l n) e h

-- the operand of a role of five bits is the number of a register
register-in : (test : Role → Bool) → ((role : Role) → test role ≡ true → limit_of role ≡ Below 5) → (roles : List Role) (zs : List ℤ) (place : ℕ) → AreOperands roles zs → place_in test roles ≡ Some place → cast_unsigned w64 (operand_at zs place) < 32
register-in test five [] zs place h e = cc
register-in test five (role ∷ roles) [] place h e = absurd h
register-in test five (role ∷ roles) (z ∷ zs) place h e =
    limited-step (test role) (place_in test roles) place z zs e (λ is. five-bits (limit_of role) (cast_unsigned w64 z) (five role is) h.0) (λ later is. register-in test five roles zs later h.1 is)

-- the roles of registers have five bits
written-five : (role : Role) → is_written role ≡ true → limit_of role ≡ Below 5
written-five Written e = refl
written-five Kept e = refl
written-five role e = cc

first-five : (role : Role) → is_first role ≡ true → limit_of role ≡ Below 5
first-five First e = refl
first-five role e = cc

base-five : (role : Role) → is_base role ≡ true → limit_of role ≡ Below 5
base-five Base e = refl
base-five role e = cc

second-five : (role : Role) → is_second role ≡ true → limit_of role ≡ Below 5
second-five Second e = refl
second-five role e = cc

third-five : (role : Role) → is_third role ≡ true → limit_of role ≡ Below 5
third-five Third e = refl
third-five Kept e = refl
third-five role e = cc

-- a fact on the place that is there
if-there : (o : Option ℕ) (P : ℕ → Type 0) → ((n : ℕ) → o ≡ Some n → P n) → IfSome o P
if-there None P h = tt
if-there (Some n) P h = h n refl

-- there are registers at the places of the roles that are registers
registers-in : (insn : Insn) (roles : List Role) → AreOperands roles insn.ops.items → HasRegisters insn (places_in roles)
registers-in insn roles h =
    let at : (test : Role → Bool) → ((role : Role) → test role ≡ true → limit_of role ≡ Below 5) → IfSome (place_in test roles) (IsRegister insn) = λ test five. if-there (place_in test roles) (IsRegister insn) (λ n e. register-in test five roles insn.ops.items n h e) in
    record {
      at_written = at is_written written-five;
      at_first = at is_first first-five;
      at_base = at is_base base-five;
      at_second = at is_second second-five;
      at_third = at is_third third-five;
    }

registers-by : (insn : Insn) (roles : Option (List Role)) → IsReadyBy roles insn → HasRegisters insn (places_by roles)
registers-by insn None h = record { at_written = tt; at_first = tt; at_base = tt; at_second = tt; at_third = tt }
registers-by insn (Some roles) h = registers-in insn roles h

-- an instruction of the table has registers where its operation has them
pub registers : (insn : Insn) (operation : Operation) → IsInsn insn → slice_get operations insn.row ≡ Some operation → HasRegisters insn (places_of operation)
registers insn operation is at = registers-by insn (roles_by operation) (ready insn operation is at)

-- operands as their roles ask, told by their places
limited-from : (insn : Insn) (roles : List Role) (zs : List ℤ) (place : ℕ) → ((i : ℕ) → cast_unsigned w64 (operand_at zs i) ≡ operand_of insn (i + place)) → AreOperands roles zs → AreLimited insn place roles
limited-from insn [] zs place same h = tt
limited-from insn (role ∷ roles) [] place same h = absurd h
limited-from insn (role ∷ roles) (z ∷ zs) place same h = (
  subst (IsLimited (limit_of role)) (same 0 ∙ ap (operand_of insn) (omega arith)) h.0,
  limited-from insn roles zs (suc place) (λ i. same (suc i) ∙ ap (operand_of insn) (omega arith)) h.1,
)

limited-by : (insn : Insn) (roles : Option (List Role)) → IsReadyBy roles insn → HasLimitsBy insn roles
limited-by insn None h = tt
limited-by insn (Some roles) h = limited-from insn roles insn.ops.items 0 (λ i. ap (operand_of insn) (omega arith)) h

-- the operands of an instruction of the table are as its operation asks
pub limited : (insn : Insn) (operation : Operation) → IsInsn insn → slice_get operations insn.row ≡ Some operation → HasLimits insn operation
limited insn operation is at = limited-by insn (roles_by operation) (ready insn operation is at)
