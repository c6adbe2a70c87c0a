-- The second pass: it depends on the labels only by their addresses, and each line has as many bytes as the first pass left for it.
use Rattle.std.proofs.Common.{◌≡◌, ℕ, ◌+◌, ◌-◌, ◌*◌, ◌≤◌, Bool, true, false, List, [], ◌∷◌, ◌++◌, Option, Some, None, Result, Ok, Err, if◌then◌else◌, option_map, length, refl, sym, ap, subst, ◌∙◌, append_assoc, length-append, arith}
use Rattle.std.specs.Prelude.{ℤ, pos, ◌≤ℤ◌, int_lt, nat_lt, unsigned_abs, replicate, slice_get, IfOk, IfSome}
use Rattle.std.specs.Option.{option_or, option_map_or}
use Rattle.std.specs.Result.{IsOkAnd}
use Rattle.std.specs.Hash.{le_bytes}
use Rattle.std.proofs.lemmas.Bool.{ltb-false}
use Rattle.std.proofs.lemmas.Int.{ints}
use Rattle.std.proofs.lemmas.List.{append-nil, length-replicate}
use Rattle.mw_tables.specs.declared.row.PrefixKind.{PrefixKind}
use Rattle.mw_tables.specs.declared.row.PrefixKind.TheVariants.{Plain, Mls, Eight, Nop as NopPrefix}
use Rattle.mw_tables.specs.declared.layout.Field.{Field}
use Rattle.mw_tables.specs.declared.layout.Layout.{Layout}
use Rattle.mw_tables.specs.Row.{TableRow}
use Rattle.mw_tables.specs.Rows.{table, layouts}
use Rattle.mw_tables.specs.Matching.{kind_number}
use Rattle.mw_decode.specs.declared.insn.Insn.{Insn}
use Rattle.mw_decode.specs.Rules.{is_illegal_form}
use Rattle.mw_decode.specs.Encode.{encode_of, encoded_by, words_of}
use Rattle.mw_syntax.specs.declared.expression.Base.{Base}
use Rattle.mw_syntax.specs.declared.expression.Base.TheVariants.{Number, Negative, Name, Here}
use Rattle.mw_syntax.specs.declared.expression.Expression.{Expression}
use Rattle.mw_asm.specs.declared.fault.Place.{Place}
use Rattle.mw_syntax.specs.declared.fault.Refusal.{Refusal}
use Rattle.mw_syntax.specs.declared.fault.LineFault.{LineFault}
use Rattle.mw_syntax.specs.declared.fault.LineFault.TheVariants.{Refused, NoMemory}
use Rattle.mw_syntax.specs.declared.item.Kind.{Kind}
use Rattle.mw_syntax.specs.declared.mnemonic.Mnemonic.{Mnemonic}
use Rattle.mw_syntax.specs.declared.statement.Unit.{Unit as DataUnit}
use Rattle.mw_syntax.specs.declared.statement.Unit.TheVariants.{Byte, Long, Quad, BigQuad}
use Rattle.mw_syntax.specs.declared.statement.Label.{Label}
use Rattle.mw_syntax.specs.declared.statement.Statement.{Statement}
use Rattle.mw_syntax.specs.declared.statement.Statement.TheVariants.{Nothing, Org, Data, Instruction}
use Rattle.mw_syntax.specs.declared.statement.Line.{Line}
use Rattle.mw_syntax.specs.Items.{kinds_of, pattern_items}
use Rattle.mw_syntax.specs.Lines.{line_of, shape_at}
use Rattle.mw_syntax.specs.Bounds.{IsStatement}
use Rattle.mw_asm.specs.Values.{Placed, address_of, part_of, base_value, sum_value, value_of, operand_by, and_operands, operands_of, written_fields, fields_at, insn_of, code_bytes, if_legal, instruction_of, unit_size, unit_bytes, value_by, fits_unit, and_bytes, data_bytes}
use Rattle.mw_asm.specs.Labels.{AreSame}
use Rattle.mw_syntax.specs.Faults.{IsReadAs}
use Rattle.mw_asm.specs.Faults.{IsAdded}
use Rattle.mw_asm.specs.Assembled.{Pass, image_limit, code_size, with_label, is_twice, org_by, behind_bytes, behind_statement, at_address, first_by, first_line, and_then, first_pass, statement_bytes, second_by, second_line, in_front, second_pass}
use Rattle.mw_asm.specs.Passes.{fault_at, IfBad, IsInside, LiesInside}
use Rattle.mw_syntax.proofs.LineLemmas.{line_of-IsLine}
use Rattle.mw_asm.proofs.MeaningLemmas.{MeansRow, mnemonic_of-MeansRow}
use Rattle.mw_asm.proofs.PassLemmas.{address_of-append, value_of-same}

-- lists with the same addresses give the same bytes
module _ (labels known : List Placed) (same : AreSame labels known) where
  operands_of-same : (at : ℕ) (line : List ℕ) (aa : Bool) (es : List Expression) (ks : List Kind) (fs : List Field) → operands_of labels at line aa es ks fs ≡ operands_of known at line aa es ks fs
  unfolding operands_of
  operands_of-same at line aa [] ks fs = refl
  operands_of-same at line aa (e ∷ es) [] fs = refl
  operands_of-same at line aa (e ∷ es) (k ∷ ks) [] = refl
  operands_of-same at line aa (e ∷ es) (k ∷ ks) (f ∷ fs) =
      ap (λ v. and_operands (operand_by e k f aa at v) (operands_of labels at line aa es ks fs)) (value_of-same labels known at line e same)
      ∙ ap (and_operands (operand_by e k f aa at (value_of known at line e))) (operands_of-same at line aa es ks fs)

  data_bytes-same : (at : ℕ) (line : List ℕ) (unit : DataUnit) (es : List Expression) → data_bytes labels at line unit es ≡ data_bytes known at line unit es
  unfolding data_bytes
  data_bytes-same at line unit [] = refl
  data_bytes-same at line unit (e ∷ es) =
      ap (λ v. and_bytes (value_by unit e v) (data_bytes labels at line unit es)) (value_of-same labels known at line e same)
      ∙ ap (and_bytes (value_by unit e (value_of known at line e))) (data_bytes-same at line unit es)

  statement_bytes-same : (at : ℕ) (line : List ℕ) (statement : Statement) → statement_bytes labels at line statement ≡ statement_bytes known at line statement
  statement_bytes-same at line Nothing = refl
  statement_bytes-same at line (Org name to) = ap (λ v. Ok (replicate (option_map_or unsigned_abs v at - at) 0)) (value_of-same labels known at line to same)
  statement_bytes-same at line (Data name unit values) = data_bytes-same at line unit values
  statement_bytes-same at line (Instruction name mnemonic operands) =
      ap (instruction_of name mnemonic) (operands_of-same at line mnemonic.aa operands.items (kinds_of (pattern_items mnemonic.pattern (shape_at mnemonic.row))) (written_fields mnemonic.pattern (fields_at mnemonic.row)))

  second_by-same : (at : ℕ) (line : List ℕ) (read : Result Line Refusal) → second_by labels at line read ≡ second_by known at line read
  second_by-same at line (Ok read) = statement_bytes-same at line read.statement
  second_by-same at line (Err refused) = refl

  second_line-same : (at : ℕ) (line : List ℕ) → second_line labels at line ≡ second_line known at line
  unfolding second_line
  second_line-same at line = second_by-same at line (line_of line)

  then-same : (number : ℕ) (r : Result (List ℕ) Refusal) (f g : List ℕ → Result (List ℕ) Place) → ((bytes : List ℕ) → f bytes ≡ g bytes) → and_then number r f ≡ and_then number r g
  then-same number (Ok bytes) f g alike = alike bytes
  then-same number (Err refused) f g alike = refl

  pub second_pass-same : (number at : ℕ) (lines : List (List ℕ)) → second_pass number labels at lines ≡ second_pass number known at lines
  second_pass-same number at [] = refl
  second_pass-same number at (line ∷ lines) =
      ap (λ r. and_then number r (λ bytes. in_front bytes (second_pass (number + 1) labels (at + length bytes) lines))) (second_line-same at line)
      ∙ then-same number (second_line known at line) _ _ (λ bytes. ap (in_front bytes) (second_pass-same (number + 1) (at + length bytes) lines))

-- what a line that the first pass goes over has
pub record FirstLine (pass next : Pass) (line : List ℕ) : Type 0 where
  pub read : Line
  pub is : line_of line ≡ Ok read
  pub known : next.known ≡ with_label line pass.at read.label pass.known
  pub behind : behind_statement next.known pass.at line read.statement ≡ Ok next.at

address-parts : (known : List Placed) (r : Result ℕ Refusal) (next : Pass) → at_address known r ≡ Ok next → (next.known ≡ known) × (r ≡ Ok next.at)
address-parts known (Ok at) next is = let h : record { at = at; known = known } ≡ next = cc in (ap (λ (p : Pass). p.known) (sym h), ap (λ (p : Pass). Ok p.at) h)
address-parts known (Err refused) next is = cc

read-parts : (pass next : Pass) (line : List ℕ) (read : Line) (again : Bool) → is_twice line read.label pass.known ≡ again → first_by pass line (Ok read) ≡ Ok next → at_address (with_label line pass.at read.label pass.known) (behind_statement (with_label line pass.at read.label pass.known) pass.at line read.statement) ≡ Ok next
read-parts pass next line read false test is = sym (rw test refl) ∙ is
read-parts pass next line read true test is = let h = rw test at is in cc

by-parts : (pass next : Pass) (line : List ℕ) (r : Result Line Refusal) → line_of line ≡ r → first_by pass line r ≡ Ok next → FirstLine pass next line
by-parts pass next line (Ok read) of is =
    let parts = address-parts _ _ next (read-parts pass next line read (is_twice line read.label pass.known) refl is) in
    record { read = read; is = of; known = parts.0; behind = ap (λ known. behind_statement known pass.at line read.statement) parts.0 ∙ parts.1 }
by-parts pass next line (Err refused) of is = cc

first_line-parts : (pass next : Pass) (line : List ℕ) → first_line pass line ≡ Ok next → FirstLine pass next line
unfolding first_line
first_line-parts pass next line is = by-parts pass next line (line_of line) refl is

-- a line of those that the first pass goes over
pub record NextLine (number : ℕ) (pass : Pass) (line : List ℕ) (lines : List (List ℕ)) (labels : List Placed) : Type 0 where
  pub next : Pass
  pub first : FirstLine pass next line
  pub others : IsOkAnd (first_pass (number + 1) next lines) (AreSame labels)

pass-then : (number : ℕ) (pass : Pass) (line : List ℕ) (lines : List (List ℕ)) (labels : List Placed) (r : Result Pass Refusal) → first_line pass line ≡ r → IsOkAnd (and_then number r (λ next. first_pass (number + 1) next lines)) (AreSame labels) → NextLine number pass line lines labels
pass-then number pass line lines labels (Ok next) is leaves = record { next = next; first = first_line-parts pass next line is; others = leaves }
pass-then number pass line lines labels (Err refused) is leaves = absurd leaves

pub next-line : (number : ℕ) (pass : Pass) (line : List ℕ) (lines : List (List ℕ)) (labels : List Placed) → IsOkAnd (first_pass number pass (line ∷ lines)) (AreSame labels) → NextLine number pass line lines labels
next-line number pass line lines labels leaves = pass-then number pass line lines labels (first_line pass line) refl leaves

-- each label of some is one of others
abbrev pub Extends : List Placed → List Placed → Type 0
Extends known labels = (name : List ℕ) (address : ℕ) → address_of known name ≡ Some address → address_of labels name ≡ Some address

with_label-extends : (line : List ℕ) (at : ℕ) (label : Option Label) (known : List Placed) → Extends known (with_label line at label known)
with_label-extends line at None known name address there = there
with_label-extends line at (Some label) known name address there =
    let added : List Placed = record { name = part_of line label.from label.to; address = at } ∷ [] in
    address_of-append known added name ∙ ap (λ o. option_or o (address_of added name)) there

leaves-extends : (number : ℕ) (pass : Pass) (lines : List (List ℕ)) (labels : List Placed) → IsOkAnd (first_pass number pass lines) (AreSame labels) → Extends pass.known labels
leaves-extends number pass [] labels leaves name address there = leaves name ∙ there
leaves-extends number pass (line ∷ lines) labels leaves name address there =
    let n = next-line number pass line lines labels leaves in
    leaves-extends (number + 1) n.next lines labels n.others name address
    (ap (λ known. address_of known name) n.first.known ∙ with_label-extends line pass.at n.first.read.label pass.known name address there)

-- bytes that aren't refused
abbrev taken : List ℕ → Result (List ℕ) Refusal
taken bytes = Ok bytes

ok-same : (x y : List ℕ) → taken x ≡ taken y → x ≡ y
ok-same x y is = cc

-- the value of an `.org` that isn't refused is the next address, and lies in the image
record OrgValue (at : ℕ) (found : Option ℤ) (next : ℕ) : Type 0 where
  pub value : ℤ
  pub is : found ≡ Some value
  pub above : pos at ≤ℤ value
  pub below : value ≤ℤ pos image_limit
  pub next-is : unsigned_abs value ≡ next

org-tests : (at name : ℕ) (to : Expression) (value : ℤ) (next : ℕ) (low high : Bool) → int_lt value (pos at) ≡ low → int_lt (pos image_limit) value ≡ high → org_by at name to (Some value) ≡ Ok next → OrgValue at (Some value) next
org-tests at name to value next true high is-low is-high is = let h = rw is-low at is in cc
org-tests at name to value next false true is-low is-high is = let h = rw (is-low, is-high) at is in cc
org-tests at name to value next false false is-low is-high is =
    let h : unsigned_abs value ≡ next = cc (rw (is-low, is-high) at is) in
    record { value = value; is = refl; above = omega (arith, ints); below = omega (arith, ints); next-is = h }

org-value : (at name : ℕ) (to : Expression) (found : Option ℤ) (next : ℕ) → org_by at name to found ≡ Ok next → OrgValue at found next
org-value at name to None next is = cc
org-value at name to (Some value) next is = org-tests at name to value next (int_lt value (pos at)) (int_lt (pos image_limit) value) refl refl is

bytes-tests : (at name size next : ℕ) (past : Bool) → nat_lt image_limit (at + size) ≡ past → behind_bytes at name size ≡ Ok next → (next ≡ at + size) × (next ≤ image_limit)
bytes-tests at name size next true test is = let h = rw test at is in cc
bytes-tests at name size next false test is =
    let h : at + size ≡ next = cc (rw test at is) in
    (sym h, omega (arith, ltb-false image_limit (at + size) test))

bytes-behind : (at name size next : ℕ) → behind_bytes at name size ≡ Ok next → (next ≡ at + size) × (next ≤ image_limit)
bytes-behind at name size next is = bytes-tests at name size next (nat_lt image_limit (at + size)) refl is

name-extends : (o p : Option ℕ) (value : ℤ) → ((address : ℕ) → o ≡ Some address → p ≡ Some address) → option_map pos o ≡ Some value → option_map pos p ≡ Some value
name-extends None p value more is = cc
name-extends (Some address) p value more is = ap (option_map pos) (more address refl) ∙ is

-- a base that has a value by some labels has the same value by more labels
base-extends : (known labels : List Placed) (at : ℕ) (line : List ℕ) (base : Base) (value : ℤ) → Extends known labels → base_value known at line base ≡ Some value → base_value labels at line base ≡ Some value
base-extends known labels at line (Number n) value more is = is
base-extends known labels at line (Negative n) value more is = is
base-extends known labels at line (Name from to) value more is = name-extends (address_of known (part_of line from to)) (address_of labels (part_of line from to)) value (more (part_of line from to)) is
base-extends known labels at line Here value more is = is

sum-extends : (e : Expression) (o p : Option ℤ) (value : ℤ) → ((v : ℤ) → o ≡ Some v → p ≡ Some v) → option_map (sum_value e.addend) o ≡ Some value → option_map (sum_value e.addend) p ≡ Some value
sum-extends e None p value more is = cc
sum-extends e (Some v) p value more is = ap (option_map (sum_value e.addend)) (more v refl) ∙ is

value-extends : (known labels : List Placed) (at : ℕ) (line : List ℕ) (e : Expression) (value : ℤ) → Extends known labels → value_of known at line e ≡ Some value → value_of labels at line e ≡ Some value
value-extends known labels at line e value more is = sum-extends e (base_value known at line e.base) (base_value labels at line e.base) value (λ v there. base-extends known labels at line e.base v more there) is

-- the first pass stands at an address, and leaves these labels
pub record Stands (labels : List Placed) (number at : ℕ) (lines : List (List ℕ)) : Type 0 where
  pub pass : Pass
  pub at-is : pass.at ≡ at
  pub inside : at ≤ image_limit
  pub leaves : IsOkAnd (first_pass number pass lines) (AreSame labels)

-- an `.org` of a line that the first pass goes over lies in the image
inside-statement : (known labels : List Placed) (at : ℕ) (line : List ℕ) (statement : Statement) (next : ℕ) → Extends known labels → behind_statement known at line statement ≡ Ok next → IsInside labels at line statement
inside-statement known labels at line Nothing next more is = tt
inside-statement known labels at line (Org name to) next more is =
    let v = org-value at name to (value_of known at line to) next is in
    let family : Option ℤ → Type 0 = λ o. IfSome o (λ value. (pos 0 ≤ℤ value) × (value ≤ℤ pos image_limit)) in
    subst family (sym (value-extends known labels at line to v.value more v.is)) (omega (arith, ints, v.above), v.below)
inside-statement known labels at line (Data name unit values) next more is = tt
inside-statement known labels at line (Instruction name mnemonic operands) next more is = tt

pub line-inside : (labels : List Placed) (number at : ℕ) (line : List ℕ) (lines : List (List ℕ)) → Stands labels number at (line ∷ lines) → LiesInside labels at line
line-inside labels number at line lines stands =
    let n = next-line number stands.pass line lines labels stands.leaves in
    let more = leaves-extends (number + 1) n.next lines labels n.others in
    let family : Result Line Refusal → Type 0 = λ r. IfOk r (λ (read : Line). IsInside labels at line read.statement) in
    subst family (sym n.first.is)
    (subst (λ a. IsInside labels a line n.first.read.statement) stands.at-is
    (inside-statement n.next.known labels stands.pass.at line n.first.read.statement n.next.at more n.first.behind))

-- a value of data has as many bytes as its unit
length-unit : (unit : DataUnit) (number : ℕ) → length (unit_bytes unit number) ≡ unit_size unit
unfolding le_bytes
length-unit Byte number = refl
length-unit Long number = refl
length-unit Quad number = refl
length-unit BigQuad number = refl

value-tests : (unit : DataUnit) (e : Expression) (value : ℤ) (bytes : List ℕ) (fits : Bool) → fits_unit unit value ≡ fits → value_by unit e (Some value) ≡ Ok bytes → length bytes ≡ unit_size unit
value-tests unit e value bytes true test is = ap length (sym (ok-same _ bytes (rw test at is))) ∙ length-unit unit _
value-tests unit e value bytes false test is = let h = rw test at is in cc

value-length : (unit : DataUnit) (e : Expression) (found : Option ℤ) (bytes : List ℕ) → value_by unit e found ≡ Ok bytes → length bytes ≡ unit_size unit
value-length unit e None bytes is = cc
value-length unit e (Some value) bytes is = value-tests unit e value bytes (fits_unit unit value) refl is

pair-length : (r s : Result (List ℕ) Refusal) (bytes : List ℕ) (m n : ℕ) → ((b : List ℕ) → r ≡ Ok b → length b ≡ m) → ((b : List ℕ) → s ≡ Ok b → length b ≡ n) → and_bytes r s ≡ Ok bytes → length bytes ≡ m + n
pair-length (Ok b) (Ok others) bytes m n first second is =
    ap length (sym (ok-same (b ++ others) bytes is)) ∙ length-append b others ∙ (let h = first b refl in let g = second others refl in omega arith)
pair-length (Ok b) (Err refused) bytes m n first second is = cc
pair-length (Err refused) s bytes m n first second is = cc

data-length : (labels : List Placed) (at : ℕ) (line : List ℕ) (unit : DataUnit) (es : List Expression) (bytes : List ℕ) → data_bytes labels at line unit es ≡ Ok bytes → length bytes ≡ unit_size unit * length es
unfolding data_bytes
data-length labels at line unit [] bytes is = ap length (sym (ok-same [] bytes is)) ∙ (omega arith)
data-length labels at line unit (e ∷ es) bytes is =
    pair-length (value_by unit e (value_of labels at line e)) (data_bytes labels at line unit es) bytes (unit_size unit) (unit_size unit * length es) (value-length unit e (value_of labels at line e)) (data-length labels at line unit es) is
    ∙ (omega arith)

words-length : (prefix : PrefixKind) (code : ℕ) → length (code_bytes (words_of prefix code)) ≡ (if nat_lt 0 (kind_number prefix) then 8 else 4)
unfolding le_bytes
words-length Plain code = refl
words-length Mls code = refl
words-length Eight code = refl
words-length NopPrefix code = refl

pub encoded-length : (insn : Insn) (row : TableRow) (layout : Layout) → slice_get table insn.row ≡ Some row → slice_get layouts insn.row ≡ Some layout → length (code_bytes (encode_of insn)) ≡ code_size insn.row
unfolding encode_of
encoded-length insn row layout there laid =
    ap (λ o. length (code_bytes (encoded_by insn o (slice_get layouts insn.row)))) there
    ∙ ap (λ o. length (code_bytes (encoded_by insn (Some row) o))) laid
    ∙ words-length row.prefix _
    ∙ ap (λ o. if option_map_or (λ (r : TableRow). nat_lt 0 (kind_number r.prefix)) o false then 8 else 4) (sym there)

legal-length : (name : ℕ) (mnemonic : Mnemonic) (operands : List ℤ) (bytes : List ℕ) (illegal : Bool) → MeansRow mnemonic → is_illegal_form mnemonic.row (insn_of mnemonic operands).ops.items ≡ illegal → if_legal name (insn_of mnemonic operands) ≡ Ok bytes → length bytes ≡ code_size mnemonic.row
legal-length name mnemonic operands bytes true means test is = let h = rw test at is in cc
legal-length name mnemonic operands bytes false means test is =
    ap length (sym (ok-same _ bytes (rw test at is))) ∙ encoded-length (insn_of mnemonic operands) means.row means.layout means.there means.laid

instruction-length : (name : ℕ) (mnemonic : Mnemonic) (operands : Result (List ℤ) Refusal) (bytes : List ℕ) → MeansRow mnemonic → instruction_of name mnemonic operands ≡ Ok bytes → length bytes ≡ code_size mnemonic.row
instruction-length name mnemonic (Ok operands) bytes means is = legal-length name mnemonic operands bytes (is_illegal_form mnemonic.row (insn_of mnemonic operands).ops.items) means refl is
instruction-length name mnemonic (Err refused) bytes means is = cc

-- the bytes of a statement reach as far as the first pass says
statement-length : (known labels : List Placed) (at : ℕ) (line : List ℕ) (statement : Statement) (next : ℕ) (bytes : List ℕ) → IsStatement line statement → Extends known labels → at ≤ image_limit → behind_statement known at line statement ≡ Ok next → statement_bytes labels at line statement ≡ Ok bytes → (at + length bytes ≡ next) × (next ≤ image_limit)
statement-length known labels at line Nothing next bytes are more inside is gives =
    let h : at ≡ next = cc in
    let g = ok-same [] bytes gives in
    (ap (λ (b : List ℕ). at + length b) (sym g) ∙ (omega arith), omega arith)
statement-length known labels at line (Org name to) next bytes are more inside is gives =
    let v = org-value at name to (value_of known at line to) next is in
    let found = value-extends known labels at line to v.value more v.is in
    let g = ok-same _ bytes gives in
    let size : length bytes ≡ unsigned_abs v.value - at = ap length (sym g) ∙ length-replicate _ 0 ∙ ap (λ o. option_map_or unsigned_abs o at - at) found in
    (omega (arith, ints, v.above, v.next-is), omega (arith, ints, v.above, v.below, v.next-is))
statement-length known labels at line (Data name unit values) next bytes are more inside is gives =
    let b = bytes-behind at name (unit_size unit * length values) next is in
    let size = data-length labels at line unit values bytes gives in
    (ap (λ n. at + n) size ∙ sym b.0, b.1)
statement-length known labels at line (Instruction name mnemonic operands) next bytes are more inside is gives =
    let b = bytes-behind at name (code_size mnemonic.row) next is in
    let size = instruction-length name mnemonic (operands_of labels at line mnemonic.aa operands.items (kinds_of (pattern_items mnemonic.pattern (shape_at mnemonic.row))) (written_fields mnemonic.pattern (fields_at mnemonic.row))) bytes (mnemonic_of-MeansRow are.text mnemonic are.known) gives in
    (ap (λ n. at + n) size ∙ sym b.0, b.1)

-- the second pass over a line that is read
pub second_line-read : (labels : List Placed) (at : ℕ) (line : List ℕ) (read : Line) → line_of line ≡ Ok read → second_line labels at line ≡ statement_bytes labels at line read.statement
unfolding second_line
second_line-read labels at line read is = ap (second_by labels at line) is

-- a line that can't be read is refused by the second pass
pub second-unread : (fault : LineFault) (labels : List Placed) (at : ℕ) (old new line : List ℕ) → IsReadAs {A = Line} (Err fault) (line_of line) → IsAdded (Err fault) old new (second_line labels at line)
unfolding second_line
second-unread (Refused refused) labels at old new line is = ap (λ r. and_bytes (Ok old) (second_by labels at line r)) is
second-unread NoMemory labels at old new line is = tt

-- the bytes of a line that isn't refused stand behind the old ones
record AddedBytes (old new : List ℕ) (r : Result (List ℕ) Refusal) : Type 0 where
  pub bytes : List ℕ
  pub gives : r ≡ Ok bytes
  pub behind : new ≡ old ++ bytes

added-parts : (old new : List ℕ) (r : Result (List ℕ) Refusal) → and_bytes (Ok old) r ≡ Ok new → AddedBytes old new r
added-parts old new (Ok bytes) is = record { bytes = bytes; gives = refl; behind = sym (ok-same (old ++ bytes) new is) }
added-parts old new (Err refused) is = cc

in_front-append : (old bytes : List ℕ) (r : Result (List ℕ) Place) → in_front (old ++ bytes) r ≡ in_front old (in_front bytes r)
in_front-append old bytes (Ok others) = ap Ok (append_assoc old bytes others)
in_front-append old bytes (Err place) = refl

refused-parts : (old : List ℕ) (refused : Refusal) (r : Result (List ℕ) Refusal) → and_bytes (Ok old) r ≡ Err refused → r ≡ Err refused
refused-parts old refused (Ok bytes) is = cc
refused-parts old refused (Err other) is = is

-- a line that is refused ends the second pass
pub second-refused : (fault : LineFault) (labels : List Placed) (number : ℕ) (old new line : List ℕ) (lines : List (List ℕ)) (whole : Result (List ℕ) Place) → IsAdded (Err fault) old new (second_line labels (length old) line) → in_front old (second_pass number labels (length old) (line ∷ lines)) ≡ whole → IfBad (fault_at number fault) (λ place. whole ≡ Err place)
second-refused (Refused refused) labels number old new line lines whole says same =
    let here = refused-parts old refused (second_line labels (length old) line) says in
    sym same ∙ ap (λ r. in_front old (and_then number r (λ bytes. in_front bytes (second_pass (number + 1) labels (length old + length bytes) lines)))) here
second-refused NoMemory labels number old new line lines whole says same = tt

-- one line more appends its bytes to the image
pub second-more : (labels : List Placed) (number : ℕ) (old new line : List ℕ) (lines : List (List ℕ)) (whole : Result (List ℕ) Place) → IsAdded (Ok tt) old new (second_line labels (length old) line) → in_front old (second_pass number labels (length old) (line ∷ lines)) ≡ whole → in_front new (second_pass (number + 1) labels (length new) lines) ≡ whole
second-more labels number old new line lines whole says same =
    let a = added-parts old new (second_line labels (length old) line) says in
    let long : length new ≡ length old + length a.bytes = ap length a.behind ∙ length-append old a.bytes in
    ap (λ n. in_front new (second_pass (number + 1) labels n lines)) long
    ∙ ap (λ bs. in_front bs (second_pass (number + 1) labels (length old + length a.bytes) lines)) a.behind
    ∙ in_front-append old a.bytes (second_pass (number + 1) labels (length old + length a.bytes) lines)
    ∙ sym (ap (λ r. in_front old (and_then number r (λ bytes. in_front bytes (second_pass (number + 1) labels (length old + length bytes) lines)))) a.gives)
    ∙ same

-- behind a line the first pass stands at the image's end
pub stands-more : (labels : List Placed) (number : ℕ) (old new line : List ℕ) (lines : List (List ℕ)) → Stands labels number (length old) (line ∷ lines) → IsAdded (Ok tt) old new (second_line labels (length old) line) → Stands labels (number + 1) (length new) lines
stands-more labels number old new line lines stands says =
    let a = added-parts old new (second_line labels (length old) line) says in
    let n = next-line number stands.pass line lines labels stands.leaves in
    let more = leaves-extends (number + 1) n.next lines labels n.others in
    let gives = sym (second_line-read labels (length old) line n.first.read n.first.is) ∙ a.gives in
    let behind = ap (λ at. behind_statement n.next.known at line n.first.read.statement) (sym stands.at-is) ∙ n.first.behind in
    let reach = statement-length n.next.known labels (length old) line n.first.read.statement n.next.at a.bytes (line_of-IsLine line n.first.read n.first.is).statement more stands.inside behind gives in
    let long : length new ≡ length old + length a.bytes = ap length a.behind ∙ length-append old a.bytes in
    record {
      pass = n.next;
      at-is = sym (long ∙ reach.0);
      inside = omega (arith, long, reach.0, reach.1);
      leaves = n.others;
    }

-- where no line is left the image has the bytes of all lines
pub second-end : (labels : List Placed) (number : ℕ) (old : List ℕ) (whole : Result (List ℕ) Place) → in_front old (second_pass number labels (length old) []) ≡ whole → whole ≡ Ok old
second-end labels number old whole same = sym same ∙ ap Ok (append-nil old)
