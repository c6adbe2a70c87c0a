-- How printed operands are read from their tokens.
use Rattle.std.proofs.Common.{◌≡◌, ℕ, suc, ◌+◌, ◌-◌, ◌<◌, ◌==◌, Bool, true, false, List, [], ◌∷◌, ◌++◌, Option, Some, None, Result, Ok, Err, length, take, drop, length-append, append_assoc, eq-eqb, if◌then◌else◌, refl, sym, ap, ◌∙◌, arith}
use Rattle.std.specs.Prelude.{ℤ, pos, negsuc, decimal, slice_get}
use Rattle.std.specs.Fmt.{digits}
use Rattle.std.specs.Option.{option_map, option_map_or}
use Rattle.std.proofs.lemmas.Bool.{agree_below_at, eqb-true, cond-true}
use Rattle.std.proofs.lemmas.List.{append-nil, take_at, drop_at}
use Rattle.mw_text.specs.declared.token.Token.{Token}
use Rattle.mw_text.specs.declared.token.TokenKind.{TokenKind}
use Rattle.mw_text.specs.declared.token.TokenKind.TheVariants.{Word, Number, Comma as CommaToken, Colon, Open as OpenToken, Close as CloseToken, Plus, Minus}
use Rattle.mw_syntax.specs.declared.expression.Base.{Base}
use Rattle.mw_syntax.specs.declared.expression.Base.TheVariants.{Number as BaseNumber, Negative}
use Rattle.mw_syntax.specs.declared.expression.Addend.TheVariants.{Nothing}
use Rattle.mw_syntax.specs.declared.expression.Expression.{Expression}
use Rattle.mw_syntax.specs.declared.expression.Read.{Read}
use Rattle.mw_syntax.specs.declared.item.Item.{Item}
use Rattle.mw_syntax.specs.declared.item.Item.TheVariants.{Operand, Comma, Open, Close}
use Rattle.mw_syntax.specs.declared.item.Kind.{Kind}
use Rattle.mw_syntax.specs.declared.item.Kind.TheVariants.{Register, Value, Target, Upper}
use Rattle.mw_syntax.specs.Expressions.{kind_at, column_at, read_of, with_addend, expression_by, expression_at}
use Rattle.mw_syntax.specs.Items.{kinds_of, register_of, text_of, register_in, register_or, operand_at, is_mark, with_first, and_behind, operands_at}
use Rattle.mw_syntax.specs.Lines.{label_by, label_of}
use Rattle.mw_asm.specs.Disassembly.{operand_text, operands_text, behind_name}
use Rattle.mw_asm.proofs.DisassemblyLemmas.{operand-some, behind-some}
use Rattle.mw_asm.proofs.OperandTextLemmas.{unsigned-text, unsigned-token, register-below, register-unsigned, behind-separated}
use Rattle.mw_asm.proofs.OperandWorthLemmas.{base-pos}
use Rattle.mw_asm.proofs.PrintedForms.{token_of, address_of_target, operand_tokens, operand_base, operand_expression, operands_tokens, operands_expressions, is_separated, IsWritable, AreWritable}

-- the number that was found is this one
abbrev is_number : Option ℕ → ℕ → Bool
is_number None n = false
is_number (Some m) n = m == n

is_number-Some : (found : Option ℕ) (n : ℕ) → is_number found n ≡ true → found ≡ Some n
is_number-Some None n is = cc
is_number-Some (Some m) n is = ap Some (eqb-true m n is)

-- each register is read from its name
registers-named : (n : ℕ) → n < 32 → is_number (register_of (114 ∷ decimal n)) n ≡ true
unfolding digits
registers-named n below = agree_below_at (λ k. is_number (register_of (114 ∷ decimal k)) k) (λ k. true) 32 n refl below

register_of-decimal : (n : ℕ) → n < 32 → register_of (114 ∷ decimal n) ≡ Some n
register_of-decimal n below = is_number-Some (register_of (114 ∷ decimal n)) n (registers-named n below)

-- the token that may stand there is no sign
abbrev no_sign : Option TokenKind → Bool
no_sign (Some Plus) = false
no_sign (Some Minus) = false
no_sign other = true

-- without a sign behind it a base is an expression
addend-none : (column : ℕ) (base : Base) (place : ℕ) (kind behind : Option TokenKind) → no_sign kind ≡ true → with_addend column base place kind behind ≡ Ok (read_of column base Nothing place)
addend-none column base place (Some Plus) behind free = cc
addend-none column base place (Some Minus) behind free = cc
addend-none column base place other behind free = refl

-- a number that no sign follows is read as an expression
expression-number : (tokens : List Token) (column place n : ℕ) (first second : Option TokenKind) → first ≡ Some (Number n) → no_sign (kind_at tokens (place + 1)) ≡ true → expression_by tokens column place first second ≡ Ok (read_of column (BaseNumber n) Nothing (place + 1))
expression-number tokens column place n first second is free =
    ap (λ k. expression_by tokens column place k second) is
    ∙ addend-none column (BaseNumber n) (place + 1) (kind_at tokens (place + 1)) (kind_at tokens (place + 1 + 1)) free

-- a number behind `-` that no sign follows is read as an expression
expression-negative : (tokens : List Token) (column place n : ℕ) (first second : Option TokenKind) → first ≡ Some Minus → second ≡ Some (Number n) → no_sign (kind_at tokens (place + 2)) ≡ true → expression_by tokens column place first second ≡ Ok (read_of column (Negative n) Nothing (place + 2))
expression-negative tokens column place n first second is number free =
    ap (λ k. expression_by tokens column place k second) is
    ∙ ap (λ k. expression_by tokens column place (Some Minus) k) number
    ∙ addend-none column (Negative n) (place + 2) (kind_at tokens (place + 2)) (kind_at tokens (place + 2 + 1)) free

-- a token behind others, by its place among those behind them
token-behind : (front ts : List Token) (k : ℕ) → slice_get (front ++ ts) (length front + k) ≡ slice_get ts k
token-behind [] ts k = ap (slice_get ts) (omega arith)
token-behind (token ∷ front) ts k = let next : suc (length front) + k ≡ suc (length front + k) = omega arith in ap (slice_get (token ∷ front ++ ts)) next ∙ token-behind front ts k

token-at : (front ts tokens : List Token) (place k : ℕ) → tokens ≡ front ++ ts → length front ≡ place → slice_get tokens (place + k) ≡ slice_get ts k
token-at front ts tokens place k is long = ap (λ all. slice_get all (place + k)) is ∙ ap (λ n. slice_get (front ++ ts) (n + k)) (sym long) ∙ token-behind front ts k

token-first : (front ts tokens : List Token) (place : ℕ) → tokens ≡ front ++ ts → length front ≡ place → slice_get tokens place ≡ slice_get ts 0
token-first front ts tokens place is long = let none : place ≡ place + 0 = omega arith in ap (slice_get tokens) none ∙ token-at front ts tokens place 0 is long

kind-at : (front ts tokens : List Token) (place k : ℕ) → tokens ≡ front ++ ts → length front ≡ place → kind_at tokens (place + k) ≡ kind_at ts k
kind-at front ts tokens place k is long = ap (λ o. option_map (λ (token : Token). token.kind) o) (token-at front ts tokens place k is long)

kind-first : (front ts tokens : List Token) (place : ℕ) → tokens ≡ front ++ ts → length front ≡ place → kind_at tokens place ≡ kind_at ts 0
kind-first front ts tokens place is long = ap (λ o. option_map (λ (token : Token). token.kind) o) (token-first front ts tokens place is long)

-- the column of a token at a place of a line
column-first : (front ts tokens : List Token) (line : List ℕ) (token : Token) (place : ℕ) → tokens ≡ front ++ token ∷ ts → length front ≡ place → column_at line tokens place ≡ token.from + 1
column-first front ts tokens line token place is long = ap (λ o. option_map_or (λ (t : Token). t.from + 1) o (length line + 1)) (token-first front (token ∷ ts) tokens place is long)

-- an expression is read at a column that is equal to its own
read-column : (column other : ℕ) (base : Base) (next : ℕ) (read : Result Read ℕ) → column ≡ other → read ≡ Ok (read_of column base Nothing next) → read ≡ Ok (read_of other base Nothing next)
read-column column other base next read same is = is ∙ ap (λ k. Ok (read_of k base Nothing next)) same

-- a number is read
number-read : (n size base place : ℕ) (front others tokens : List Token) (line : List ℕ) → tokens ≡ front ++ token_of (Number n) base size ∷ others → length front ≡ place → no_sign (kind_at others 0) ≡ true
    → expression_at line tokens place ≡ Ok (read_of (base + 1) (BaseNumber n) Nothing (place + 1))
unfolding expression_at
number-read n size base place front others tokens line is long free =
    let ts = token_of (Number n) base size ∷ others in
    read-column (column_at line tokens place) (base + 1) (BaseNumber n) (place + 1) _ (column-first front others tokens line (token_of (Number n) base size) place is long)
    (expression-number tokens (column_at line tokens place) place n (kind_at tokens place) (kind_at tokens (place + 1)) (kind-first front ts tokens place is long) (ap no_sign (kind-at front ts tokens place 1 is long) ∙ free))

-- a negative number is read
negative-read : (n size base place : ℕ) (front others tokens : List Token) (line : List ℕ) → tokens ≡ front ++ token_of Minus base 1 ∷ token_of (Number n) (base + 1) size ∷ others → length front ≡ place → no_sign (kind_at others 0) ≡ true
    → expression_at line tokens place ≡ Ok (read_of (base + 1) (Negative n) Nothing (place + 2))
unfolding expression_at
negative-read n size base place front others tokens line is long free =
    let behind = token_of (Number n) (base + 1) size ∷ others in
    let ts = token_of Minus base 1 ∷ behind in
    read-column (column_at line tokens place) (base + 1) (Negative n) (place + 2) _ (column-first front behind tokens line (token_of Minus base 1) place is long)
    (expression-negative tokens (column_at line tokens place) place n (kind_at tokens place) (kind_at tokens (place + 1)) (kind-first front ts tokens place is long) (kind-at front ts tokens place 1 is long) (ap no_sign (kind-at front ts tokens place 2 is long) ∙ free))

-- the text of a token
text-there : (before text rest line : List ℕ) (base : ℕ) (kind : TokenKind) → line ≡ before ++ (text ++ rest) → length before ≡ base → text_of line (token_of kind base (length text)) ≡ text
text-there before text rest line base kind is long =
    let size : base + length text - base ≡ length text = omega arith in
    ap (λ k. take k (drop base line)) size
    ∙ ap (λ all. take (length text) (drop base all)) is
    ∙ ap (take (length text)) (drop_at before (text ++ rest) base long)
    ∙ take_at text rest (length text) refl

-- a register is read
register-read : (n base place : ℕ) (text before rest line : List ℕ) (front others tokens : List Token) → register_of text ≡ Some n → line ≡ before ++ (text ++ rest) → tokens ≡ front ++ token_of Word base (length text) ∷ others → length before ≡ base → length front ≡ place
    → operand_at Register line tokens place ≡ Ok (read_of (base + 1) (BaseNumber n) Nothing (place + 1))
register-read n base place text before rest line front others tokens named is are short long =
    let token = token_of Word base (length text) in
    read-column (column_at line tokens place) (base + 1) (BaseNumber n) (place + 1) _ (column-first front others tokens line token place are long)
    (ap (λ o. register_or line tokens place (register_in line o)) (token-first front (token ∷ others) tokens place are long)
    ∙ ap (register_or line tokens place) (ap register_of (text-there before text rest line base Word is short) ∙ named))

-- an operand is read
operand-read : (kind : Kind) (aa : Bool) (at : ℕ) (z : ℤ) (base place : ℕ) (before rest line : List ℕ) (front others tokens : List Token) → IsWritable kind z → line ≡ before ++ (operand_text kind aa at z ++ rest) → tokens ≡ front ++ (operand_tokens kind aa at z base ++ others) → length before ≡ base → length front ≡ place → no_sign (kind_at others 0) ≡ true
    → operand_at kind line tokens place ≡ Ok (read_of (base + 1) (operand_base kind aa at z) Nothing (place + length (operand_tokens kind aa at z base)))
operand-read Register aa at (pos n) base place before rest line front others tokens writable is are short long free =
    register-read n base place (operand_text Register aa at (pos n)) before rest line front others tokens (ap (λ digits. register_of (114 ∷ digits)) (unsigned-text n) ∙ register_of-decimal n (register-below n writable)) is are short long
operand-read Register aa at (negsuc n) base place before rest line front others tokens writable is are short long free = absurd (register-unsigned n writable)
operand-read Value aa at (pos n) base place before rest line front others tokens writable is are short long free =
    number-read n (length (decimal n)) base place front others tokens line (are ∙ ap (λ ts. front ++ (ts ++ others)) (unsigned-token n base)) long free
    ∙ ap (λ b. Ok (read_of (base + 1) b Nothing (place + 1))) (sym (base-pos aa at n))
    ∙ ap (λ (ts : List Token). Ok (read_of (base + 1) (operand_base Value aa at (pos n)) Nothing (place + length ts))) (sym (unsigned-token n base))
operand-read Value aa at (negsuc n) base place before rest line front others tokens writable is are short long free =
    negative-read (suc n) (length (decimal (suc n))) base place front others tokens line are long free
operand-read Target aa at z base place before rest line front others tokens writable is are short long free =
    number-read (address_of_target aa at z) (length (operand_text Target aa at z)) base place front others tokens line are long free
operand-read Upper aa at z base place before rest line front others tokens writable is are short long free = absurd writable

-- no sign stands behind an operand
behind-no_sign : (kind : Kind) (items : List Item) (aa : Bool) (at : ℕ) (zs : List ℤ) (place : ℕ) → is_separated (Operand kind ∷ items) ≡ true → no_sign (kind_at (operands_tokens items aa at zs place) 0) ≡ true
unfolding operands_tokens
behind-no_sign kind [] aa at zs place separated = refl
behind-no_sign kind (Operand other ∷ items) aa at zs place separated = cc
behind-no_sign kind (Comma ∷ items) aa at zs place separated = refl
behind-no_sign kind (Open ∷ items) aa at zs place separated = refl
behind-no_sign kind (Close ∷ items) aa at zs place separated = refl

-- no operand is read where no item and no token is left
read-end : (line : List ℕ) (front tokens : List Token) (place : ℕ) → tokens ≡ front ++ [] → length front ≡ place → operands_at [] line tokens place ≡ Ok []
unfolding operands_at
read-end line front tokens place are long =
    let whole : length tokens ≡ length front = ap length (are ∙ append-nil front) in
    cond-true (place == length tokens) (Ok []) (Err place) (eq-eqb place (length tokens) (sym long ∙ sym whole))

-- an operand that is read, in front of others
and-behind : (expression : Expression) (next : ℕ) (read : Result Read ℕ) (others : ℕ → Result (List Expression) ℕ) (expressions : List Expression) → read ≡ Ok (record { expression = expression; next = next }) → others next ≡ Ok expressions → and_behind read others ≡ Ok (expression ∷ expressions)
and-behind expression next read others expressions is rest = ap (λ r. and_behind r others) is ∙ ap (with_first expression) rest

-- a line and its tokens, cut behind one part more
line-behind : (before text rest line : List ℕ) → line ≡ before ++ (text ++ rest) → line ≡ (before ++ text) ++ rest
line-behind before text rest line is = is ∙ sym (append_assoc before text rest)

tokens-behind : (front ts others tokens : List Token) → tokens ≡ front ++ (ts ++ others) → tokens ≡ (front ++ ts) ++ others
tokens-behind front ts others tokens are = are ∙ sym (append_assoc front ts others)

-- how long a line's front and its tokens are with one part more
line-length : (before text : List ℕ) (base : ℕ) → length before ≡ base → length (before ++ text) ≡ base + length text
line-length before text base short = length-append before text ∙ ap (λ n. n + length text) short

tokens-length : (front ts : List Token) (place : ℕ) → length front ≡ place → length (front ++ ts) ≡ place + length ts
tokens-length front ts place long = length-append front ts ∙ ap (λ n. n + length ts) long

-- a mark is passed, and what stands behind it is read
mark-read : (mark : Item) (kind : TokenKind) (byte base place : ℕ) (text before line : List ℕ) (others front tokens : List Token) (rest refused : Result (List Expression) ℕ) (expressions : List Expression) → is_mark mark (Some kind) ≡ true
    → line ≡ before ++ byte ∷ text → tokens ≡ front ++ token_of kind base 1 ∷ others → length before ≡ base → length front ≡ place
    → ((beyond : List ℕ) (past : List Token) → line ≡ beyond ++ text → tokens ≡ past ++ others → length beyond ≡ base + 1 → length past ≡ place + 1 → rest ≡ Ok expressions)
    → (if is_mark mark (kind_at tokens place) then rest else refused) ≡ Ok expressions
mark-read mark kind byte base place text before line others front tokens rest refused expressions mark_is is are short long read =
    let token = token_of kind base 1 in
    cond-true (is_mark mark (kind_at tokens place)) rest refused (ap (is_mark mark) (kind-first front (token ∷ others) tokens place are long) ∙ mark_is)
    ∙ read (before ++ byte ∷ []) (front ++ token ∷ []) (line-behind before (byte ∷ []) text line is) (tokens-behind front (token ∷ []) others tokens are) (line-length before (byte ∷ []) base short) (tokens-length front (token ∷ []) place long)

-- operands are read from a place on
read-from : (items : List Item) (aa : Bool) (at : ℕ) (zs : List ℤ) (base place : ℕ) (before line : List ℕ) (front tokens : List Token) → is_separated items ≡ true → AreWritable (kinds_of items) zs → line ≡ before ++ operands_text items aa at zs → tokens ≡ front ++ operands_tokens items aa at zs base → length before ≡ base → length front ≡ place
    → operands_at items line tokens place ≡ Ok (operands_expressions items aa at zs base)
unfolding operands_text operands_tokens operands_expressions operands_at
read-from [] aa at zs base place before line front tokens separated writable is are short long = read-end line front tokens place are long
read-from (Operand kind ∷ items) aa at [] base place before line front tokens separated writable is are short long = absurd writable
read-from (Operand kind ∷ items) aa at (z ∷ zs) base place before line front tokens separated writable is are short long =
    let text = operand_text kind aa at z in
    let rest = operands_text items aa at zs in
    let ts = operand_tokens kind aa at z base in
    let others = operands_tokens items aa at zs (base + length text) in
    and-behind (operand_expression kind aa at z base) (place + length ts) (operand_at kind line tokens place) (operands_at items line tokens) (operands_expressions items aa at zs (base + length text))
    (operand-read kind aa at z base place before rest line front others tokens writable.0 is are short long (behind-no_sign kind items aa at zs (base + length text) separated))
    (read-from items aa at zs (base + length text) (place + length ts) (before ++ text) line (front ++ ts) tokens (behind-separated kind items separated) writable.1
    (line-behind before text rest line is) (tokens-behind front ts others tokens are) (line-length before text base short) (tokens-length front ts place long))
read-from (Comma ∷ items) aa at zs base place before line front tokens separated writable is are short long =
    mark-read Comma CommaToken 44 base place (operands_text items aa at zs) before line (operands_tokens items aa at zs (base + 1)) front tokens (operands_at items line tokens (place + 1)) (Err place) (operands_expressions items aa at zs (base + 1)) refl is are short long
    (λ beyond past. read-from items aa at zs (base + 1) (place + 1) beyond line past tokens separated writable)
read-from (Open ∷ items) aa at zs base place before line front tokens separated writable is are short long =
    mark-read Open OpenToken 40 base place (operands_text items aa at zs) before line (operands_tokens items aa at zs (base + 1)) front tokens (operands_at items line tokens (place + 1)) (Err place) (operands_expressions items aa at zs (base + 1)) refl is are short long
    (λ beyond past. read-from items aa at zs (base + 1) (place + 1) beyond line past tokens separated writable)
read-from (Close ∷ items) aa at zs base place before line front tokens separated writable is are short long =
    mark-read Close CloseToken 41 base place (operands_text items aa at zs) before line (operands_tokens items aa at zs (base + 1)) front tokens (operands_at items line tokens (place + 1)) (Err place) (operands_expressions items aa at zs (base + 1)) refl is are short long
    (λ beyond past. read-from items aa at zs (base + 1) (place + 1) beyond line past tokens separated writable)

-- the text of operands whose list has an item has a byte
items-some : (item : Item) (items : List Item) (aa : Bool) (at : ℕ) (zs : List ℤ) → AreWritable (kinds_of (item ∷ items)) zs → 0 < length (operands_text (item ∷ items) aa at zs)
unfolding operands_text
items-some (Operand kind) items aa at [] writable = absurd writable
items-some (Operand kind) items aa at (z ∷ zs) writable = omega (arith, length-append (operand_text kind aa at z) (operands_text items aa at zs), operand-some kind aa at z)
items-some Comma items aa at zs writable = omega arith
items-some Open items aa at zs writable = omega arith
items-some Close items aa at zs writable = omega arith

-- operands are read from their tokens behind a name
pub behind_name-read : (items : List Item) (aa : Bool) (at : ℕ) (zs : List ℤ) (name : List ℕ) (token : Token) → is_separated items ≡ true → AreWritable (kinds_of items) zs
    → operands_at items (name ++ behind_name (operands_text items aa at zs)) (token ∷ operands_tokens items aa at zs (length name + 1)) 1 ≡ Ok (operands_expressions items aa at zs (length name + 1))
unfolding operands_text operands_tokens operands_expressions operands_at
behind_name-read [] aa at zs name token separated writable = refl
behind_name-read (item ∷ items) aa at zs name token separated writable =
    let text = operands_text (item ∷ items) aa at zs in
    read-from (item ∷ items) aa at zs (length name + 1) 1 (name ++ 32 ∷ []) (name ++ behind_name text) (token ∷ []) (token ∷ operands_tokens (item ∷ items) aa at zs (length name + 1)) separated writable
    (ap (λ bytes. name ++ bytes) (behind-some text (items-some item items aa at zs writable)) ∙ sym (append_assoc name (32 ∷ []) text)) refl (length-append name (32 ∷ [])) refl

-- the token that may stand there is no `:`
abbrev no_colon : Option TokenKind → Bool
no_colon (Some Colon) = false
no_colon other = true

-- a word has no label where no `:` follows
label_by-none : (tokens : List Token) (kind : Option TokenKind) → no_colon kind ≡ true → label_by tokens (Some Word) kind ≡ None
label_by-none tokens (Some Colon) free = cc
label_by-none tokens other free = refl

-- an operand doesn't begin with `:`
operand-no_colon : (kind : Kind) (aa : Bool) (at : ℕ) (z : ℤ) (place : ℕ) (others : List Token) → IsWritable kind z → no_colon (kind_at (operand_tokens kind aa at z place ++ others) 0) ≡ true
operand-no_colon Register aa at z place others writable = refl
operand-no_colon Value aa at (pos n) place others writable = ap (λ ts. no_colon (kind_at (ts ++ others) 0)) (unsigned-token n place)
operand-no_colon Value aa at (negsuc n) place others writable = refl
operand-no_colon Target aa at z place others writable = refl
operand-no_colon Upper aa at z place others writable = absurd writable

-- the tokens of operands don't begin with `:`
operands-no_colon : (items : List Item) (aa : Bool) (at : ℕ) (zs : List ℤ) (place : ℕ) → AreWritable (kinds_of items) zs → no_colon (kind_at (operands_tokens items aa at zs place) 0) ≡ true
unfolding operands_tokens
operands-no_colon [] aa at zs place writable = refl
operands-no_colon (Operand kind ∷ items) aa at [] place writable = absurd writable
operands-no_colon (Operand kind ∷ items) aa at (z ∷ zs) place writable = operand-no_colon kind aa at z place (operands_tokens items aa at zs (place + length (operand_text kind aa at z))) writable.0
operands-no_colon (Comma ∷ items) aa at zs place writable = refl
operands-no_colon (Open ∷ items) aa at zs place writable = refl
operands-no_colon (Close ∷ items) aa at zs place writable = refl

-- a line of a word and operands has no label
pub operands-label : (items : List Item) (aa : Bool) (at : ℕ) (zs : List ℤ) (size place : ℕ) → is_separated items ≡ true → AreWritable (kinds_of items) zs → label_of (token_of Word 0 size ∷ operands_tokens items aa at zs place) ≡ None
operands-label items aa at zs size place separated writable =
    label_by-none (token_of Word 0 size ∷ operands_tokens items aa at zs place) (kind_at (operands_tokens items aa at zs place) 0) (operands-no_colon items aa at zs place writable)
