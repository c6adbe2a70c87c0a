-- Where the parts of a line stand.
use Rattle.std.proofs.Common.{◌≡◌, ℕ, zero, suc, ◌+◌, ◌==◌, Bool, true, false, if◌then◌else◌, List, [], ◌∷◌, Option, Some, None, Result, Ok, Err, length, slice_get, option_map, refl, ap, subst, arith}
use Rattle.std.specs.Prelude.{IfSome, IfOk, All, bytes_eq, codes}
use Rattle.std.specs.Bool.{⊤}
use Rattle.std.specs.Option.{option_map_or}
use Rattle.std.proofs.lemmas.List.Elements.{All-nil, All-cons}
use Rattle.mw_text.specs.declared.token.Token.{Token}
use Rattle.mw_text.specs.declared.token.TokenKind.{TokenKind}
use Rattle.mw_text.specs.declared.token.TokenKind.TheVariants.{Word, Number, Comma as CommaToken, Colon, Open as OpenToken, Close as CloseToken, Plus, Minus, Here}
use Rattle.mw_text.specs.Lines.{IsSpan, tokens_of}
use Rattle.mw_text.proofs.SpanLemmas.{tokens_of-within}
use Rattle.mw_syntax.specs.declared.expression.Base.{Base}
use Rattle.mw_syntax.specs.declared.expression.Base.TheVariants.{Number as BaseNumber, Negative, Name, Here as BaseHere}
use Rattle.mw_syntax.specs.declared.expression.Expression.{Expression}
use Rattle.mw_syntax.specs.declared.expression.Read.{Read}
use Rattle.mw_syntax.specs.declared.fault.LineFault.{LineFault}
use Rattle.mw_syntax.specs.declared.fault.LineFault.TheVariants.{Refused, NoMemory}
use Rattle.mw_syntax.specs.declared.fault.Refusal.{Refusal}
use Rattle.mw_syntax.specs.declared.item.Kind.{Kind}
use Rattle.mw_syntax.specs.declared.item.Kind.TheVariants.{Register, Value, Target, Upper}
use Rattle.mw_syntax.specs.declared.item.Item.{Item}
use Rattle.mw_syntax.specs.declared.item.Item.TheVariants.{Operand, Comma, Open, Close}
use Rattle.mw_syntax.specs.declared.mnemonic.Mnemonic.{Mnemonic}
use Rattle.mw_syntax.specs.declared.statement.Unit.{Unit as DataUnit}
use Rattle.mw_syntax.specs.declared.statement.Label.{Label}
use Rattle.mw_syntax.specs.declared.statement.Statement.{Statement}
use Rattle.mw_syntax.specs.declared.statement.Statement.TheVariants.{Org, Data, Instruction}
use Rattle.mw_syntax.specs.declared.statement.Line.{Line}
use Rattle.mw_syntax.specs.Expressions.{kind_at, column_at, name_at, with_addend, expression_by, expression_at}
use Rattle.mw_syntax.specs.Items.{kinds_of, pattern_items, text_of, register_in, register_or, operand_at, is_mark, with_first, and_behind, operands_at}
use Rattle.mw_syntax.specs.Mnemonics.{mnemonic_of}
use Rattle.mw_syntax.specs.Lines.{or_operand, only, and_values, values_at, unit_of, shape_at, instruction_by, data_or, statement_by, statement_from, statement_at, labelled, label_by, label_of, statement_place, line_by, line_in, line_of}
use Rattle.mw_syntax.specs.Bounds.{IsColumn, IsPart, IsBase, IsExpression, IsStatement, IsLine}
use Rattle.mw_syntax.specs.Faults.{IsReadAs}

-- a fact on each element holds of the one at a place
pub All-slice_get : {X : Type 0} (P : X → Type 0) (xs : List X) (place : ℕ) → All P xs → IfSome (slice_get xs place) P
All-slice_get P [] place all = tt
All-slice_get P (x ∷ xs) zero all = all 0 x (omega arith)
All-slice_get P (x ∷ xs) (suc place) all = All-slice_get P xs place (λ k d lt. all (suc k) d (omega arith))

-- a value that may be there is there
abbrev IsThere : {X : Type 0} → Option X → Type 0
IsThere None = ⊥
IsThere (Some x) = ⊤

column-token : (line : List ℕ) (token : Option Token) → IfSome token (IsSpan (length line)) → IsThere (option_map (λ (t : Token). t.kind) token) → IsColumn line (option_map_or (λ (t : Token). t.from + 1) token (length line + 1))
column-token line None span there = absurd there
column-token line (Some token) span there = record { above = omega arith; within = omega (arith, span.0, span.1) }

-- the column of a token
column_at-is : (line : List ℕ) (tokens : List Token) (place : ℕ) → All (IsSpan (length line)) tokens → IsThere (kind_at tokens place) → IsColumn line (column_at line tokens place)
column_at-is line tokens place spans there = column-token line (slice_get tokens place) (All-slice_get _ tokens place spans) there

name-token : (line : List ℕ) (token : Option Token) → IfSome token (IsSpan (length line)) → IsBase line (option_map_or (λ (t : Token). Name t.from t.to) token BaseHere)
name-token line None span = tt
name-token line (Some token) span = record { some = span.0; within = span.1 }

-- the label that a token names
name_at-is : (line : List ℕ) (tokens : List Token) (place : ℕ) → All (IsSpan (length line)) tokens → IsBase line (name_at tokens place)
name_at-is line tokens place spans = name-token line (slice_get tokens place) (All-slice_get _ tokens place spans)

-- an expression that was read stands in the line
abbrev pub IsReadIn : List ℕ → Read → Type 0
IsReadIn line r = IsExpression line r.expression

with_addend-is : (line : List ℕ) (column : ℕ) (base : Base) (place : ℕ) (first second : Option TokenKind) → IsColumn line column → IsBase line base → IfOk (with_addend column base place first second) (IsReadIn line)
with_addend-is line column base place None second c b = record { column = c; base = b }
with_addend-is line column base place (Some Word) second c b = record { column = c; base = b }
with_addend-is line column base place (Some (Number n)) second c b = record { column = c; base = b }
with_addend-is line column base place (Some CommaToken) second c b = record { column = c; base = b }
with_addend-is line column base place (Some Colon) second c b = record { column = c; base = b }
with_addend-is line column base place (Some OpenToken) second c b = record { column = c; base = b }
with_addend-is line column base place (Some CloseToken) second c b = record { column = c; base = b }
with_addend-is line column base place (Some Plus) None c b = tt
with_addend-is line column base place (Some Plus) (Some Word) c b = tt
with_addend-is line column base place (Some Plus) (Some (Number m)) c b = record { column = c; base = b }
with_addend-is line column base place (Some Plus) (Some CommaToken) c b = tt
with_addend-is line column base place (Some Plus) (Some Colon) c b = tt
with_addend-is line column base place (Some Plus) (Some OpenToken) c b = tt
with_addend-is line column base place (Some Plus) (Some CloseToken) c b = tt
with_addend-is line column base place (Some Plus) (Some Plus) c b = tt
with_addend-is line column base place (Some Plus) (Some Minus) c b = tt
with_addend-is line column base place (Some Plus) (Some Here) c b = tt
with_addend-is line column base place (Some Minus) None c b = tt
with_addend-is line column base place (Some Minus) (Some Word) c b = tt
with_addend-is line column base place (Some Minus) (Some (Number m)) c b = record { column = c; base = b }
with_addend-is line column base place (Some Minus) (Some CommaToken) c b = tt
with_addend-is line column base place (Some Minus) (Some Colon) c b = tt
with_addend-is line column base place (Some Minus) (Some OpenToken) c b = tt
with_addend-is line column base place (Some Minus) (Some CloseToken) c b = tt
with_addend-is line column base place (Some Minus) (Some Plus) c b = tt
with_addend-is line column base place (Some Minus) (Some Minus) c b = tt
with_addend-is line column base place (Some Minus) (Some Here) c b = tt
with_addend-is line column base place (Some Here) second c b = record { column = c; base = b }

expression_by-is : (line : List ℕ) (tokens : List Token) (column place : ℕ) (first second : Option TokenKind) → All (IsSpan (length line)) tokens → (IsThere first → IsColumn line column) → IfOk (expression_by tokens column place first second) (IsReadIn line)
expression_by-is line tokens column place None second spans c = tt
expression_by-is line tokens column place (Some Word) second spans c = with_addend-is line column (name_at tokens place) (place + 1) (kind_at tokens (place + 1)) (kind_at tokens (place + 1 + 1)) (c tt) (name_at-is line tokens place spans)
expression_by-is line tokens column place (Some (Number n)) second spans c = with_addend-is line column (BaseNumber n) (place + 1) (kind_at tokens (place + 1)) (kind_at tokens (place + 1 + 1)) (c tt) tt
expression_by-is line tokens column place (Some CommaToken) second spans c = tt
expression_by-is line tokens column place (Some Colon) second spans c = tt
expression_by-is line tokens column place (Some OpenToken) second spans c = tt
expression_by-is line tokens column place (Some CloseToken) second spans c = tt
expression_by-is line tokens column place (Some Plus) second spans c = tt
expression_by-is line tokens column place (Some Minus) None spans c = tt
expression_by-is line tokens column place (Some Minus) (Some Word) spans c = tt
expression_by-is line tokens column place (Some Minus) (Some (Number m)) spans c = with_addend-is line column (Negative m) (place + 2) (kind_at tokens (place + 2)) (kind_at tokens (place + 2 + 1)) (c tt) tt
expression_by-is line tokens column place (Some Minus) (Some CommaToken) spans c = tt
expression_by-is line tokens column place (Some Minus) (Some Colon) spans c = tt
expression_by-is line tokens column place (Some Minus) (Some OpenToken) spans c = tt
expression_by-is line tokens column place (Some Minus) (Some CloseToken) spans c = tt
expression_by-is line tokens column place (Some Minus) (Some Plus) spans c = tt
expression_by-is line tokens column place (Some Minus) (Some Minus) spans c = tt
expression_by-is line tokens column place (Some Minus) (Some Here) spans c = tt
expression_by-is line tokens column place (Some Here) second spans c = with_addend-is line column BaseHere (place + 1) (kind_at tokens (place + 1)) (kind_at tokens (place + 1 + 1)) (c tt) tt

-- an expression stands in the line
pub expression_at-is : (line : List ℕ) (tokens : List Token) (place : ℕ) → All (IsSpan (length line)) tokens → IfOk (expression_at line tokens place) (IsReadIn line)
unfolding expression_at
expression_at-is line tokens place spans = expression_by-is line tokens (column_at line tokens place) place (kind_at tokens place) (kind_at tokens (place + 1)) spans (column_at-is line tokens place spans)

register_in-there : (line : List ℕ) (token : Option Token) → IsThere (register_in line token) → IsThere (option_map (λ (t : Token). t.kind) token)
register_in-there line None there = absurd there
register_in-there line (Some token) there = tt

register_or-is : (line : List ℕ) (tokens : List Token) (place : ℕ) (number : Option ℕ) → All (IsSpan (length line)) tokens → (IsThere number → IsThere (kind_at tokens place)) → IfOk (register_or line tokens place number) (IsReadIn line)
register_or-is line tokens place None spans there = expression_at-is line tokens place spans
register_or-is line tokens place (Some number) spans there = record { column = column_at-is line tokens place spans (there tt); base = tt }

-- an operand stands in the line
operand_at-is : (kind : Kind) (line : List ℕ) (tokens : List Token) (place : ℕ) → All (IsSpan (length line)) tokens → IfOk (operand_at kind line tokens place) (IsReadIn line)
operand_at-is Register line tokens place spans = register_or-is line tokens place (register_in line (slice_get tokens place)) spans (register_in-there line (slice_get tokens place))
operand_at-is Value line tokens place spans = expression_at-is line tokens place spans
operand_at-is Target line tokens place spans = expression_at-is line tokens place spans
operand_at-is Upper line tokens place spans = expression_at-is line tokens place spans

-- so many expressions that stand in the line
abbrev AreRead : List ℕ → ℕ → List Expression → Type 0
AreRead line count expressions = All (IsExpression line) expressions × (length expressions ≡ count)

with_first-is : (line : List ℕ) (count : ℕ) (expression : Expression) (r : Result (List Expression) ℕ) → IsExpression line expression → IfOk r (AreRead line count) → IfOk (with_first expression r) (AreRead line (suc count))
with_first-is line count expression (Ok others) is are = (All-cons (IsExpression line) expression others is are.0, ap suc are.1)
with_first-is line count expression (Err place) is are = tt

and_behind-is : (line : List ℕ) (count : ℕ) (r : Result Read ℕ) (others : ℕ → Result (List Expression) ℕ) → IfOk r (IsReadIn line) → ((next : ℕ) → IfOk (others next) (AreRead line count)) → IfOk (and_behind r others) (AreRead line (suc count))
and_behind-is line count (Ok r) others is are = with_first-is line count r.expression (others r.next) is (are r.next)
and_behind-is line count (Err place) others is are = tt

if-is : {X : Type 0} (P : X → Type 0) (test : Bool) (r : Result X ℕ) (place : ℕ) → IfOk r P → IfOk (if test then r else Err place) P
if-is P true r place is = is
if-is P false r place is = tt

-- operands stand in the line, and are as many as are written
pub operands_at-is : (items : List Item) (line : List ℕ) (tokens : List Token) (place : ℕ) → All (IsSpan (length line)) tokens → IfOk (operands_at items line tokens place) (AreRead line (length (kinds_of items)))
unfolding operands_at
operands_at-is [] line tokens place spans = if-is (AreRead line 0) (place == length tokens) (Ok []) place (All-nil (IsExpression line), refl)
operands_at-is (Operand kind ∷ items) line tokens place spans =
    and_behind-is line (length (kinds_of items)) (operand_at kind line tokens place) (operands_at items line tokens) (operand_at-is kind line tokens place spans) (λ next. operands_at-is items line tokens next spans)
operands_at-is (Comma ∷ items) line tokens place spans = if-is _ (is_mark Comma (kind_at tokens place)) (operands_at items line tokens (place + 1)) place (operands_at-is items line tokens (place + 1) spans)
operands_at-is (Open ∷ items) line tokens place spans = if-is _ (is_mark Open (kind_at tokens place)) (operands_at items line tokens (place + 1)) place (operands_at-is items line tokens (place + 1) spans)
operands_at-is (Close ∷ items) line tokens place spans = if-is _ (is_mark Close (kind_at tokens place)) (operands_at items line tokens (place + 1)) place (operands_at-is items line tokens (place + 1) spans)

-- expressions of the line in front of others of the line
first-is : (line : List ℕ) (expression : Expression) (r : Result (List Expression) ℕ) → IsExpression line expression → IfOk r (All (IsExpression line)) → IfOk (with_first expression r) (All (IsExpression line))
first-is line expression (Ok others) is are = All-cons (IsExpression line) expression others is are
first-is line expression (Err place) is are = tt

values-more : (line : List ℕ) (last comma : Bool) (expression : Expression) (r : Result (List Expression) ℕ) (place : ℕ) → IsExpression line expression → IfOk r (All (IsExpression line)) → IfOk (if last then Ok (expression ∷ []) else if comma then with_first expression r else Err place) (All (IsExpression line))
values-more line true comma expression r place is are = All-cons (IsExpression line) expression [] is (All-nil (IsExpression line))
values-more line false true expression r place is are = first-is line expression r is are
values-more line false false expression r place is are = tt

and_values-is : (line : List ℕ) (tokens : List Token) (r : Result Read ℕ) (others : ℕ → Result (List Expression) ℕ) → IfOk r (IsReadIn line) → ((next : ℕ) → IfOk (others next) (All (IsExpression line))) → IfOk (and_values tokens r others) (All (IsExpression line))
and_values-is line tokens (Ok r) others is are = values-more line (r.next == length tokens) (is_mark Comma (kind_at tokens r.next)) r.expression (others (r.next + 1)) r.next is (are (r.next + 1))
and_values-is line tokens (Err place) others is are = tt

-- values stand in the line
pub values_at-is : (most : ℕ) (line : List ℕ) (tokens : List Token) (place : ℕ) → All (IsSpan (length line)) tokens → IfOk (values_at most line tokens place) (All (IsExpression line))
unfolding values_at
values_at-is zero line tokens place spans = tt
values_at-is (suc most) line tokens place spans = and_values-is line tokens (expression_at line tokens place) (values_at most line tokens) (expression_at-is line tokens place spans) (λ next. values_at-is most line tokens next spans)

only-is : (line : List ℕ) (tokens : List Token) (r : Result Read ℕ) → IfOk r (IsReadIn line) → IfOk (only tokens r) (IsExpression line)
only-is line tokens (Ok r) is = if-is (IsExpression line) (r.next == length tokens) (Ok r.expression) r.next is
only-is line tokens (Err place) is = tt

or_operand-is : {A B : Type 0} (P : A → Type 0) (Q : B → Type 0) (line : List ℕ) (tokens : List Token) (make : A → B) (r : Result A ℕ) → IfOk r P → ((value : A) → P value → Q (make value)) → IfOk (or_operand line tokens make r) Q
or_operand-is P Q line tokens make (Ok value) is made = made value is
or_operand-is P Q line tokens make (Err place) is made = tt

instruction_by-is : (line : List ℕ) (tokens : List Token) (name place : ℕ) (text : List ℕ) (found : Option Mnemonic) → All (IsSpan (length line)) tokens → IsColumn line name → mnemonic_of text ≡ found → IfOk (instruction_by line tokens name place found) (IsStatement line)
instruction_by-is line tokens name place text None spans column known = tt
instruction_by-is line tokens name place text (Some mnemonic) spans column known =
    or_operand-is (AreRead line (length (kinds_of (pattern_items mnemonic.pattern (shape_at mnemonic.row))))) (IsStatement line) line tokens (λ operands. Instruction name mnemonic (record { items = operands }))
    (operands_at (pattern_items mnemonic.pattern (shape_at mnemonic.row)) line tokens place)
    (operands_at-is (pattern_items mnemonic.pattern (shape_at mnemonic.row)) line tokens place spans)
    (λ operands are. record { column = column; text = text; known = known; count = are.1; each = are.0 })

data_or-is : (line : List ℕ) (tokens : List Token) (name place : ℕ) (text : List ℕ) (unit : Option DataUnit) → All (IsSpan (length line)) tokens → IsColumn line name → IfOk (data_or line tokens name place text unit) (IsStatement line)
data_or-is line tokens name place text None spans column = instruction_by-is line tokens name place text (mnemonic_of text) spans column refl
data_or-is line tokens name place text (Some unit) spans column =
    or_operand-is (All (IsExpression line)) (IsStatement line) line tokens (Data name unit) (values_at (length tokens) line tokens place) (values_at-is (length tokens) line tokens place spans) (λ values are. (column, are))

org-is : (line : List ℕ) (tokens : List Token) (name place : ℕ) → All (IsSpan (length line)) tokens → IsColumn line name → IfOk (or_operand line tokens (Org name) (only tokens (expression_at line tokens place))) (IsStatement line)
org-is line tokens name place spans column =
    or_operand-is (IsExpression line) (IsStatement line) line tokens (Org name) (only tokens (expression_at line tokens place)) (only-is line tokens (expression_at line tokens place) (expression_at-is line tokens place spans)) (λ to is. (column, is))

either-is : {X : Type 0} (P : X → Type 0) (test : Bool) (r s : Result X Refusal) → IfOk r P → IfOk s P → IfOk (if test then r else s) P
either-is P true r s first second = first
either-is P false r s first second = second

statement_by-is : (line : List ℕ) (tokens : List Token) (name place : ℕ) (text : List ℕ) → All (IsSpan (length line)) tokens → IsColumn line name → IfOk (statement_by line tokens name place text) (IsStatement line)
statement_by-is line tokens name place text spans column =
    either-is (IsStatement line) (bytes_eq text (codes ".org")) (or_operand line tokens (Org name) (only tokens (expression_at line tokens place))) (data_or line tokens name place text (unit_of text))
    (org-is line tokens name place spans column) (data_or-is line tokens name place text (unit_of text) spans column)

statement_from-is : (line : List ℕ) (tokens : List Token) (place : ℕ) (token : Token) (kind : TokenKind) → All (IsSpan (length line)) tokens → IsColumn line (token.from + 1) → IfOk (statement_from line tokens place token kind) (IsStatement line)
statement_from-is line tokens place token Word spans column = statement_by-is line tokens (token.from + 1) (place + 1) (text_of line token) spans column
statement_from-is line tokens place token (Number n) spans column = tt
statement_from-is line tokens place token CommaToken spans column = tt
statement_from-is line tokens place token Colon spans column = tt
statement_from-is line tokens place token OpenToken spans column = tt
statement_from-is line tokens place token CloseToken spans column = tt
statement_from-is line tokens place token Plus spans column = tt
statement_from-is line tokens place token Minus spans column = tt
statement_from-is line tokens place token Here spans column = tt

statement_at-is : (line : List ℕ) (tokens : List Token) (place : ℕ) (token : Option Token) → All (IsSpan (length line)) tokens → IfSome token (IsSpan (length line)) → IfOk (statement_at line tokens place token) (IsStatement line)
statement_at-is line tokens place None spans span = tt
statement_at-is line tokens place (Some token) spans span = statement_from-is line tokens place token token.kind spans (record { above = omega arith; within = omega (arith, span.0, span.1) })

-- a label of the line
abbrev IsLabel : List ℕ → Label → Type 0
IsLabel line label = IsPart line label.from label.to

label-token : (line : List ℕ) (token : Option Token) → IfSome token (IsSpan (length line)) → IfSome (option_map (λ (t : Token). record { from = t.from; to = t.to }) token) (IsLabel line)
label-token line None span = tt
label-token line (Some token) span = record { some = span.0; within = span.1 }

label_by-is : (line : List ℕ) (tokens : List Token) (first second : Option TokenKind) → All (IsSpan (length line)) tokens → IfSome (label_by tokens first second) (IsLabel line)
label_by-is line tokens None second spans = tt
label_by-is line tokens (Some Word) None spans = tt
label_by-is line tokens (Some Word) (Some Word) spans = tt
label_by-is line tokens (Some Word) (Some (Number n)) spans = tt
label_by-is line tokens (Some Word) (Some CommaToken) spans = tt
label_by-is line tokens (Some Word) (Some Colon) spans = label-token line (slice_get tokens 0) (All-slice_get _ tokens 0 spans)
label_by-is line tokens (Some Word) (Some OpenToken) spans = tt
label_by-is line tokens (Some Word) (Some CloseToken) spans = tt
label_by-is line tokens (Some Word) (Some Plus) spans = tt
label_by-is line tokens (Some Word) (Some Minus) spans = tt
label_by-is line tokens (Some Word) (Some Here) spans = tt
label_by-is line tokens (Some (Number n)) second spans = tt
label_by-is line tokens (Some CommaToken) second spans = tt
label_by-is line tokens (Some Colon) second spans = tt
label_by-is line tokens (Some OpenToken) second spans = tt
label_by-is line tokens (Some CloseToken) second spans = tt
label_by-is line tokens (Some Plus) second spans = tt
label_by-is line tokens (Some Minus) second spans = tt
label_by-is line tokens (Some Here) second spans = tt

labelled-is : (line : List ℕ) (label : Option Label) (r : Result Statement Refusal) → IfSome label (IsLabel line) → IfOk r (IsStatement line) → IfOk (labelled label r) (IsLine line)
labelled-is line label (Ok statement) is said = record { label = is; statement = said }
labelled-is line label (Err refused) is said = tt

line_in-is : (line : List ℕ) (r : Result (List Token) ℕ) → tokens_of line ≡ r → IfOk (line_in line r) (IsLine line)
line_in-is line (Ok tokens) tokens-are =
    let spans = tokens_of-within line tokens tokens-are in
    let place = statement_place (label_of tokens) in
    labelled-is line (label_of tokens) (statement_at line tokens place (slice_get tokens place))
    (label_by-is line tokens (kind_at tokens 0) (kind_at tokens 1) spans)
    (statement_at-is line tokens place (slice_get tokens place) spans (All-slice_get _ tokens place spans))
line_in-is line (Err column) tokens-are = tt

-- what is read of a line stands in it
pub line_of-is : (line : List ℕ) → IfOk (line_of line) (IsLine line)
unfolding line_of
line_of-is line = line_in-is line (tokens_of line) refl

-- a line that isn't refused has its parts
pub line_of-IsLine : (line : List ℕ) (read : Line) → line_of line ≡ Ok read → IsLine line read
line_of-IsLine line read is = let family : Result Line Refusal → Type 0 = λ r. IfOk r (IsLine line) in subst family is (line_of-is line)

read-is : (line : List ℕ) (r : Result Line LineFault) (said : Result Line Refusal) → IfOk said (IsLine line) → IsReadAs r said → IfOk r (IsLine line)
read-is line (Ok read) said is says = let family : Result Line Refusal → Type 0 = λ r. IfOk r (IsLine line) in subst family says is
read-is line (Err (Refused refusal)) said is says = tt
read-is line (Err NoMemory) said is says = tt

-- what is read of a line's tokens stands in it
pub tokens-read : (line : List ℕ) (tokens : List Token) (r : Result Line LineFault) → tokens_of line ≡ Ok tokens → IsReadAs r (line_by line tokens) → IfOk r (IsLine line)
tokens-read line tokens r are says = read-is line r (line_by line tokens) (line_in-is line (Ok tokens) are) says
