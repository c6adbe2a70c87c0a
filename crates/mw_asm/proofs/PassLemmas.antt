-- The first pass: it depends on the labels only by their addresses, and goes on from line to line.
use Rattle.std.proofs.Common.{◌≡◌, ℕ, ◌+◌, Bool, true, false, true≢false, List, [], ◌∷◌, ◌++◌, Option, Some, None, Result, Ok, Err, if◌then◌else◌, option_map, refl, sym, ap, subst, ◌∙◌}
use Rattle.std.specs.Prelude.{bytes_eq, pos, is_some}
use Rattle.std.specs.Option.{option_or, option_map_or}
use Rattle.std.specs.Result.{IsOkAnd}
use Rattle.std.proofs.lemmas.Slice.Eq.{bytes_eq-Decides}
use Rattle.mw_syntax.specs.declared.expression.Base.{Base}
use Rattle.mw_syntax.specs.declared.expression.Base.TheVariants.{Number, Negative, Name, Here}
use Rattle.mw_syntax.specs.declared.expression.Expression.{Expression}
use Rattle.mw_asm.specs.declared.fault.Place.{Place}
use Rattle.mw_syntax.specs.declared.fault.Refusal.{Refusal}
use Rattle.mw_syntax.specs.declared.fault.LineFault.{LineFault}
use Rattle.mw_syntax.specs.declared.fault.LineFault.TheVariants.{Refused, NoMemory}
use Rattle.mw_syntax.specs.declared.statement.Label.{Label}
use Rattle.mw_syntax.specs.declared.statement.Statement.{Statement}
use Rattle.mw_syntax.specs.declared.statement.Statement.TheVariants.{Nothing, Org, Data, Instruction}
use Rattle.mw_syntax.specs.declared.statement.Line.{Line}
use Rattle.mw_syntax.specs.declared.fault.What.TheVariants.{Label as LabelFault}
use Rattle.mw_syntax.specs.Lines.{refusal, line_of}
use Rattle.mw_asm.specs.Values.{Placed, address_of, part_of, base_value, sum_value, value_of}
use Rattle.mw_asm.specs.Labels.{AreSame}
use Rattle.mw_syntax.specs.Faults.{IsReadAs}
use Rattle.mw_asm.specs.Assembled.{Pass, with_label, is_twice, org_by, behind_statement, at_address, first_by, first_line, and_then, first_pass}
use Rattle.mw_asm.specs.Passes.{fault_at, IfBad, IsLabelled, GoesOn, IsPlaced}

appended : (found : Bool) (address : ℕ) (o p : Option ℕ) → (if found then Some address else option_or o p) ≡ option_or (if found then Some address else o) p
appended true address o p = refl
appended false address o p = refl

-- the address of a name in two lists, one behind the other
pub address_of-append : (labels others : List Placed) (name : List ℕ) → address_of (labels ++ others) name ≡ option_or (address_of labels name) (address_of others name)
address_of-append [] others name = refl
address_of-append (l ∷ ls) others name = ap (λ o. if bytes_eq l.name name then Some l.address else o) (address_of-append ls others name) ∙ appended (bytes_eq l.name name) l.address (address_of ls name) (address_of others name)

-- what two lists with the same addresses give
pub base_value-same : (labels known : List Placed) (at : ℕ) (line : List ℕ) (base : Base) → AreSame labels known → base_value labels at line base ≡ base_value known at line base
base_value-same labels known at line (Number n) same = refl
base_value-same labels known at line (Negative n) same = refl
base_value-same labels known at line (Name from to) same = ap (option_map pos) (same (part_of line from to))
base_value-same labels known at line Here same = refl

pub value_of-same : (labels known : List Placed) (at : ℕ) (line : List ℕ) (e : Expression) → AreSame labels known → value_of labels at line e ≡ value_of known at line e
value_of-same labels known at line e same = ap (option_map (sum_value e.addend)) (base_value-same labels known at line e.base same)

behind_statement-same : (labels known : List Placed) (at : ℕ) (line : List ℕ) (statement : Statement) → AreSame labels known → behind_statement labels at line statement ≡ behind_statement known at line statement
behind_statement-same labels known at line Nothing same = refl
behind_statement-same labels known at line (Org name to) same = ap (org_by at name to) (value_of-same labels known at line to same)
behind_statement-same labels known at line (Data name unit values) same = refl
behind_statement-same labels known at line (Instruction name mnemonic operands) same = refl

is_twice-same : (labels known : List Placed) (line : List ℕ) (label : Option Label) → AreSame labels known → is_twice line label labels ≡ is_twice line label known
is_twice-same labels known line None same = refl
is_twice-same labels known line (Some label) same = ap is_some (same (part_of line label.from label.to))

with_label-same : (labels known : List Placed) (at : ℕ) (line : List ℕ) (label : Option Label) → AreSame labels known → AreSame (with_label line at label labels) (with_label line at label known)
with_label-same labels known at line None same = same
with_label-same labels known at line (Some label) same = λ name.
    let added : List Placed = record { name = part_of line label.from label.to; address = at } ∷ [] in
    address_of-append labels added name ∙ ap (λ o. option_or o (address_of added name)) (same name) ∙ sym (address_of-append known added name)

-- two answers of the first pass over a line that agree
abbrev pub AgreeOn : Result Pass Refusal → Result Pass Refusal → Type 0
AgreeOn (Ok pass) (Ok other) = (pass.at ≡ other.at) × AreSame pass.known other.known
AgreeOn (Ok pass) (Err refused) = ⊥
AgreeOn (Err refused) (Ok other) = ⊥
AgreeOn (Err refused) (Err too) = refused ≡ too

agree_if : (test other : Bool) (refused : Refusal) (r s : Result Pass Refusal) → test ≡ other → AgreeOn r s → AgreeOn (if test then Err refused else r) (if other then Err refused else s)
agree_if true true refused r s e agree = refl
agree_if true false refused r s e agree = absurd (true≢false e)
agree_if false true refused r s e agree = absurd (true≢false (sym e))
agree_if false false refused r s e agree = agree

agree_at : (labels known : List Placed) (r s : Result ℕ Refusal) → r ≡ s → AreSame labels known → AgreeOn (at_address labels r) (at_address known s)
agree_at labels known (Ok at) (Ok other) e same = let h : at ≡ other = cc in (h, same)
agree_at labels known (Ok at) (Err refused) e same = cc
agree_at labels known (Err refused) (Ok at) e same = cc
agree_at labels known (Err refused) (Err other) e same = let h : refused ≡ other = cc in h

agree_by : (labels known : List Placed) (at : ℕ) (line : List ℕ) (read : Result Line Refusal) → AreSame labels known → AgreeOn (first_by (record { at = at; known = labels }) line read) (first_by (record { at = at; known = known }) line read)
agree_by labels known at line (Ok read) same =
    let with = with_label-same labels known at line read.label same in
    agree_if (is_twice line read.label labels) (is_twice line read.label known) _ _ _ (is_twice-same labels known line read.label same)
    (agree_at _ _ _ _ (behind_statement-same (with_label line at read.label labels) (with_label line at read.label known) at line read.statement with) with)
agree_by labels known at line (Err refused) same = refl

-- the first pass over a line, from lists with the same addresses
pub first_line-agree : (labels known : List Placed) (at : ℕ) (line : List ℕ) → AreSame labels known → AgreeOn (first_line (record { at = at; known = labels }) line) (first_line (record { at = at; known = known }) line)
unfolding first_line
first_line-agree labels known at line same = agree_by labels known at line (line_of line) same

-- the labels behind the addition of a new one
pub with_label-added : (old new : List Placed) (at : ℕ) (line : List ℕ) (label : Label) → address_of old (part_of line label.from label.to) ≡ None → ((q : List ℕ) → address_of new q ≡ (if bytes_eq (part_of line label.from label.to) q then Some at else address_of old q)) → AreSame new (with_label line at (Some label) old)
with_label-added old new at line label none updates = λ name. updates name ∙ by name (bytes_eq (part_of line label.from label.to) name) refl ∙ sym (address_of-append old (record { name = part_of line label.from label.to; address = at } ∷ []) name)
  where
    by : (name : List ℕ) (found : Bool) → bytes_eq (part_of line label.from label.to) name ≡ found → (if found then Some at else address_of old name) ≡ option_or (address_of old name) (if found then Some at else None)
    by name true is = sym (ap (λ o. option_or o (Some at)) (ap (address_of old) (sym ((bytes_eq-Decides (part_of line label.from label.to) name).0 is)) ∙ none))
    by name false is = or_none (address_of old name)
      where
        or_none : (o : Option ℕ) → o ≡ option_or o None
        or_none None = refl
        or_none (Some x) = refl

none_of : (o : Option ℕ) → is_some o ≡ false → o ≡ None
none_of None is = refl
none_of (Some x) is = absurd (true≢false is)

-- a label that isn't there yet is added
pub label-new : (old new : List Placed) (at : ℕ) (line : List ℕ) (label : Option Label) (l : Label) (name : List ℕ) (found : Option ℕ) → label ≡ Some l → name ≡ part_of line l.from l.to → found ≡ address_of old name → is_some found ≡ false → ((q : List ℕ) → address_of new q ≡ (if bytes_eq name q then Some at else address_of old q)) → (is_twice line label old ≡ false) × AreSame new (with_label line at label old)
label-new old new at line label l name found is named there none updates =
    let absent : address_of old (part_of line l.from l.to) ≡ None = ap (address_of old) (sym named) ∙ sym there ∙ none_of found none in
    let update : (q : List ℕ) → address_of new q ≡ (if bytes_eq (part_of line l.from l.to) q then Some at else address_of old q) = λ q. updates q ∙ ap (λ (n : List ℕ). if bytes_eq n q then Some at else address_of old q) named in
    let once : is_twice line (Some l) old ≡ false = ap is_some absent in
    (ap (λ o. is_twice line o old) is ∙ once, λ q. with_label-added old new at line l absent update q ∙ ap (λ o. address_of (with_label line at o old) q) (sym is))

-- a line that can't be read is refused by the first pass
pub line-unread : (fault : LineFault) (pass : Pass) (labels : List Placed) (line : List ℕ) → IsReadAs {A = Line} (Err fault) (line_of line) → IsPlaced (Err fault) labels (first_line pass line)
unfolding first_line
line-unread (Refused refused) pass labels line is = ap (first_by pass line) is
line-unread NoMemory pass labels line is = tt

-- the first pass over a line that is read
first_line-read : (pass : Pass) (line : List ℕ) (read : Line) → line_of line ≡ Ok read → first_line pass line ≡ first_by pass line (Ok read)
unfolding first_line
first_line-read pass line read is = ap (first_by pass line) is

twice : (pass : Pass) (line : List ℕ) (read : Line) → is_twice line read.label pass.known ≡ true → first_by pass line (Ok read) ≡ Err (refusal LabelFault (option_map_or (λ (l : Label). l.from + 1) read.label 0))
twice pass line read is = rw is refl

once : (pass : Pass) (line : List ℕ) (read : Line) → is_twice line read.label pass.known ≡ false → first_by pass line (Ok read) ≡ at_address (with_label line pass.at read.label pass.known) (behind_statement (with_label line pass.at read.label pass.known) pass.at line read.statement)
once pass line read is = rw is refl

-- a line whose label is there already is refused by the first pass
pub line-unlabelled : (fault : LineFault) (old new labels : List Placed) (at : ℕ) (line : List ℕ) (read : Line) → line_of line ≡ Ok read → IsLabelled (Err fault) old new at line read.label → IsPlaced (Err fault) labels (first_line (record { at = at; known = old }) line)
line-unlabelled (Refused refused) old new labels at line read is says =
    first_line-read (record { at = at; known = old }) line read is ∙ twice (record { at = at; known = old }) line read says.0 ∙ ap Err (sym says.1)
line-unlabelled NoMemory old new labels at line read is says = tt

-- the first pass over a line whose label is added goes on to its statement
line-labelled : (old new : List Placed) (at : ℕ) (line : List ℕ) (read : Line) → line_of line ≡ Ok read → is_twice line read.label old ≡ false → AreSame new (with_label line at read.label old) → first_line (record { at = at; known = old }) line ≡ at_address (with_label line at read.label old) (behind_statement new at line read.statement)
line-labelled old new at line read is new-label same =
    first_line-read (record { at = at; known = old }) line read is
    ∙ once (record { at = at; known = old }) line read new-label
    ∙ ap (at_address (with_label line at read.label old)) (sym (behind_statement-same new (with_label line at read.label old) at line read.statement same))

-- the first pass refuses a line for its statement
pub line-refused : (old new : List Placed) (at : ℕ) (line : List ℕ) (read : Line) (refused : Refusal) → line_of line ≡ Ok read → IsLabelled (Ok tt) old new at line read.label → behind_statement new at line read.statement ≡ Err refused → first_line (record { at = at; known = old }) line ≡ Err refused
line-refused old new at line read refused is says behind = line-labelled old new at line read is says.0 says.1 ∙ ap (at_address (with_label line at read.label old)) behind

-- the first pass goes on behind a line whose statement is placed
pub line-placed : (old new : List Placed) (at next : ℕ) (line : List ℕ) (read : Line) → line_of line ≡ Ok read → IsLabelled (Ok tt) old new at line read.label → behind_statement new at line read.statement ≡ Ok next → IsOkAnd (first_line (record { at = at; known = old }) line) (GoesOn next new)
line-placed old new at next line read is says behind =
    let gives : first_line (record { at = at; known = old }) line ≡ Ok (record { at = next; known = with_label line at read.label old }) = line-labelled old new at line read is says.0 says.1 ∙ ap (at_address (with_label line at read.label old)) behind in
    subst (λ r. IsOkAnd r (GoesOn next new)) (sym gives) (refl, says.1)

agree-refused : (r s : Result Pass Refusal) (refused : Refusal) → AgreeOn r s → r ≡ Err refused → s ≡ Err refused
agree-refused (Ok pass) s refused agree is = cc
agree-refused (Err other) (Ok pass) refused agree is = absurd agree
agree-refused (Err other) (Err too) refused agree is = ap Err (sym agree) ∙ is

-- where the first pass stands behind a line
pub record NextPass (labels : List Placed) (at : ℕ) (said : Result Pass Refusal) : Type 0 where
  pub pass : Pass
  pub gives : said ≡ Ok pass
  pub at-is : pass.at ≡ at
  pub same : AreSame labels pass.known

agree-next : (r s : Result Pass Refusal) (labels : List Placed) (at : ℕ) → AgreeOn r s → IsOkAnd r (GoesOn at labels) → NextPass labels at s
agree-next (Ok pass) (Ok other) labels at agree goes = record { pass = other; gives = refl; at-is = sym agree.0 ∙ goes.0; same = λ name. goes.1 name ∙ agree.1 name }
agree-next (Ok pass) (Err refused) labels at agree goes = absurd agree
agree-next (Err refused) s labels at agree goes = absurd goes

-- what the first pass gives from a line on is what it gives of the whole source
pub record Left (labels : List Placed) (number at : ℕ) (lines : List (List ℕ)) (whole : Result (List Placed) Place) : Type 0 where
  pub known : List Placed
  pub same : AreSame labels known
  pub gives : first_pass number (record { at = at; known = known }) lines ≡ whole

-- a line that is refused ends the first pass
pub pass-refused : (fault : LineFault) (labels new : List Placed) (number at : ℕ) (line : List ℕ) (lines : List (List ℕ)) (whole : Result (List Placed) Place) → IsPlaced (Err fault) new (first_line (record { at = at; known = labels }) line) → Left labels number at (line ∷ lines) whole → IfBad (fault_at number fault) (λ place. whole ≡ Err place)
pass-refused (Refused refused) labels new number at line lines whole says left =
    let here = agree-refused _ _ refused (first_line-agree labels left.known at line left.same) says in
    sym left.gives ∙ ap (λ r. and_then number r (λ next. first_pass (number + 1) next lines)) here
pass-refused NoMemory labels new number at line lines whole says left = tt

-- behind a line that is placed the first pass goes over the others
pub pass-next : (labels new : List Placed) (number at next : ℕ) (line : List ℕ) (lines : List (List ℕ)) (whole : Result (List Placed) Place) → IsPlaced (Ok next) new (first_line (record { at = at; known = labels }) line) → Left labels number at (line ∷ lines) whole → Left new (number + 1) next lines whole
pass-next labels new number at next line lines whole says left =
    let here = agree-next _ _ new next (first_line-agree labels left.known at line left.same) says in
    record {
      known = here.pass.known;
      same = here.same;
      gives = ap (λ n. first_pass (number + 1) (record { at = n; known = here.pass.known }) lines) (sym here.at-is)
          ∙ ap (λ r. and_then number r (λ next. first_pass (number + 1) next lines)) (sym here.gives)
          ∙ left.gives;
    }

-- where no line is left the first pass leaves the labels
pub pass-end : (labels : List Placed) (number at : ℕ) (whole : Result (List Placed) Place) → Left labels number at [] whole → IsOkAnd whole (AreSame labels)
pass-end labels number at whole left = subst (λ r. IsOkAnd r (AreSame labels)) left.gives left.same
