-- The operands of an instruction, one after the other, and the bytes of its words.
use Rattle.std.proofs.Common.{◌≡◌, ℕ, ◌+◌, ◌≤◌, Bool, true, false, true≢false, ◌&&◌, List, [], ◌∷◌, ◌++◌, Some, None, Result, Ok, Err, length, drop, slice_get, refl, sym, ap, subst, ◌∙◌, append_assoc}
use Rattle.std.specs.Prelude.{ℤ}
use Rattle.std.specs.Option.{option_map_or}
use Rattle.std.specs.Int.{w32, to_le_bytes}
use Rattle.std.specs.Hash.{le_bytes}
use Rattle.std.specs.List.{list_all}
use Rattle.std.proofs.lemmas.Option.{slice_get_within, get_or_from_slice_get}
use Rattle.std.proofs.lemmas.List.{append-nil, drop_more, at_drop_all}
use Rattle.mw_decode.specs.declared.insn.Code.{Code}
use Rattle.mw_decode.specs.declared.insn.Insn.{Insn}
use Rattle.mw_decode.specs.Rules.{is_illegal_form}
use Rattle.mw_decode.specs.Decode.{IsInsn}
use Rattle.mw_tables.specs.declared.row.Shape.{Shape}
use Rattle.mw_tables.proofs.FieldLaws.{HasOperands-length}
use Rattle.mw_tables.specs.declared.layout.Field.{Field}
use Rattle.mw_syntax.specs.declared.expression.Expression.{Expression}
use Rattle.mw_tables.specs.Layouts.{is_readable, HasOperands}
use Rattle.mw_syntax.specs.declared.mnemonic.Pattern.{Pattern}
use Rattle.mw_syntax.specs.declared.mnemonic.Pattern.TheVariants.{Row, Li, Lis, Mr, Nop, Always, Light, Tables}
use Rattle.mw_syntax.specs.declared.fault.Refusal.{Refusal}
use Rattle.mw_syntax.specs.declared.item.Kind.{Kind}
use Rattle.mw_syntax.specs.declared.mnemonic.Mnemonic.{Mnemonic}
use Rattle.mw_syntax.specs.Items.{kinds_of, pattern_items}
use Rattle.mw_syntax.specs.Lines.{shape_at}
use Rattle.mw_asm.specs.Values.{Placed, value_of, operand_by, and_operands, operands_of, written_fields, fields_at, insn_of, word_bytes, code_bytes}
use Rattle.mw_asm.specs.Sizes.{IsWritten}
use Rattle.mw_syntax.proofs.MnemonicLemmas.{list_all-at}
use Rattle.mw_asm.proofs.MeaningLemmas.{MeansRow, MeansRow-forms, MeansRow-laid}
use Rattle.mw_asm.proofs.OperandLemmas.{operands_of-HasOperands}

-- the element at a place is the first of what is left
pub drop_at : {X : Type 0} (xs : List X) (place : ℕ) (x : X) → slice_get xs place ≡ Some x → drop place xs ≡ x ∷ drop (place + 1) xs
drop_at xs place x there = drop_more xs place x (slice_get_within xs place x there) ∙ ap (λ y. y ∷ drop (place + 1) xs) (get_or_from_slice_get xs place x x there)

-- the bytes of a word
pub word_bytes-le : (word : ℕ) → to_le_bytes w32 word ≡ word_bytes word
unfolding le_bytes
word_bytes-le word = refl

-- operands in front of others, unless those are refused
abbrev pub before : List ℤ → Result (List ℤ) Refusal → Result (List ℤ) Refusal
before front (Ok others) = Ok (front ++ others)
before front (Err refused) = Err refused

before-ok : (front : List ℤ) (operand : ℤ) (r : Result (List ℤ) Refusal) → before (front ++ operand ∷ []) r ≡ before front (and_operands (Ok operand) r)
before-ok front operand (Ok others) = ap Ok (append_assoc front (operand ∷ []) others)
before-ok front operand (Err refused) = refl

pub before-end : (front : List ℤ) (whole : Result (List ℤ) Refusal) → before front (Ok []) ≡ whole → whole ≡ Ok front
before-end front whole same = sym same ∙ ap Ok (append-nil front)

-- a word alone behind other bytes
pub code_bytes-one : (old new : List ℕ) (code : Code) (bytes : List ℕ) → code.suffix ≡ None → bytes ≡ to_le_bytes w32 code.word → new ≡ old ++ bytes → new ≡ old ++ code_bytes code
code_bytes-one old new code bytes none le is =
    is
    ∙ ap (λ bs. old ++ bs) (le ∙ word_bytes-le code.word ∙ sym (append-nil (word_bytes code.word)) ∙ ap (λ s. word_bytes code.word ++ option_map_or word_bytes s []) (sym none))

-- a prefix and its suffix behind other bytes
pub code_bytes-two : (old middle new : List ℕ) (code : Code) (suffix : ℕ) (first second : List ℕ) → code.suffix ≡ Some suffix → first ≡ to_le_bytes w32 code.word → second ≡ to_le_bytes w32 suffix → middle ≡ old ++ first → new ≡ middle ++ second → new ≡ old ++ code_bytes code
code_bytes-two old middle new code suffix first second some le le-suffix is is-new =
    is-new
    ∙ ap (λ bs. bs ++ second) is
    ∙ append_assoc old first second
    ∙ ap (λ bs. old ++ bs) (ap (λ bs. bs ++ second) (le ∙ word_bytes-le code.word) ∙ ap (λ bs. word_bytes code.word ++ bs) (le-suffix ∙ word_bytes-le suffix) ∙ ap (λ s. word_bytes code.word ++ option_map_or word_bytes s []) (sym some))

operands_of-more : (labels : List Placed) (at : ℕ) (line : List ℕ) (aa : Bool) (es : List Expression) (ks : List Kind) (fs : List Field) (place : ℕ) (e : Expression) (k : Kind) (f : Field) →
    slice_get es place ≡ Some e → slice_get ks place ≡ Some k → slice_get fs place ≡ Some f → operands_of labels at line aa (drop place es) (drop place ks) (drop place fs) ≡ and_operands (operand_by e k f aa at (value_of labels at line e)) (operands_of labels at line aa (drop (place + 1) es) (drop (place + 1) ks) (drop (place + 1) fs))
unfolding operands_of
operands_of-more labels at line aa es ks fs place e k f there kind field = rw (drop_at es place e there, drop_at ks place k kind, drop_at fs place f field) refl

-- an operand that is refused refuses all operands of its instruction
pub operands-refused : (labels : List Placed) (at : ℕ) (line : List ℕ) (aa : Bool) (es : List Expression) (ks : List Kind) (fs : List Field) (place : ℕ) (e : Expression) (k : Kind) (f : Field) (front : List ℤ) (refused : Refusal) (whole : Result (List ℤ) Refusal) →
    slice_get es place ≡ Some e → slice_get ks place ≡ Some k → slice_get fs place ≡ Some f → operand_by e k f aa at (value_of labels at line e) ≡ Err refused
    → before front (operands_of labels at line aa (drop place es) (drop place ks) (drop place fs)) ≡ whole → whole ≡ Err refused
operands-refused labels at line aa es ks fs place e k f front refused whole there kind field is same =
    sym same ∙ rw (operands_of-more labels at line aa es ks fs place e k f there kind field, is) refl

-- one operand more stands behind those before it
pub operands-more : (labels : List Placed) (at : ℕ) (line : List ℕ) (aa : Bool) (es : List Expression) (ks : List Kind) (fs : List Field) (place : ℕ) (e : Expression) (k : Kind) (f : Field) (front : List ℤ) (operand : ℤ) (whole : Result (List ℤ) Refusal) →
    slice_get es place ≡ Some e → slice_get ks place ≡ Some k → slice_get fs place ≡ Some f → operand_by e k f aa at (value_of labels at line e) ≡ Ok operand
    → before front (operands_of labels at line aa (drop place es) (drop place ks) (drop place fs)) ≡ whole
    → before (front ++ operand ∷ []) (operands_of labels at line aa (drop (place + 1) es) (drop (place + 1) ks) (drop (place + 1) fs)) ≡ whole
operands-more labels at line aa es ks fs place e k f front operand whole there kind field is same =
    before-ok front operand (operands_of labels at line aa (drop (place + 1) es) (drop (place + 1) ks) (drop (place + 1) fs))
    ∙ sym (rw (operands_of-more labels at line aa es ks fs place e k f there kind field, is) refl)
    ∙ same

-- where no operand is left the operands are whole
pub operands-end : (labels : List Placed) (at : ℕ) (line : List ℕ) (aa : Bool) (es : List Expression) (ks : List Kind) (fs : List Field) (place : ℕ) (front : List ℤ) (whole : Result (List ℤ) Refusal) →
    length es ≤ place → before front (operands_of labels at line aa (drop place es) (drop place ks) (drop place fs)) ≡ whole → whole ≡ Ok front
unfolding operands_of
operands-end labels at line aa es ks fs place front whole past same =
    before-end front whole (sym (at_drop_all (λ left. before front (operands_of labels at line aa left (drop place ks) (drop place fs))) es place past) ∙ same)

first-and-third : (a b c : Bool) → (a && (b && c)) ≡ true → (a && c) ≡ true
first-and-third true true c e = e
first-and-third true false c e = absurd (true≢false (sym e))
first-and-third false b c e = e

first-and-second : (a b c : Bool) → (a && (b && c)) ≡ true → (a && (b && true)) ≡ true
first-and-second true true c e = refl
first-and-second true false c e = e
first-and-second false b c e = e

all-written : (p : Field → Bool) (pattern : Pattern) (fs : List Field) → list_all p fs ≡ true → list_all p (written_fields pattern fs) ≡ true
all-written p Row fs all = all
all-written p Li [] all = refl
all-written p Li (f ∷ []) all = all
all-written p Li (f ∷ g ∷ fs) all = first-and-third (p f) (p g) (list_all p fs) all
all-written p Lis [] all = refl
all-written p Lis (f ∷ []) all = all
all-written p Lis (f ∷ g ∷ fs) all = first-and-third (p f) (p g) (list_all p fs) all
all-written p Mr [] all = refl
all-written p Mr (f ∷ []) all = all
all-written p Mr (f ∷ g ∷ fs) all = first-and-second (p f) (p g) (list_all p fs) all
all-written p Nop fs all = refl
all-written p Always fs all = refl
all-written p Light fs all = refl
all-written p Tables fs all = refl

-- the field of a written operand is one of the fields
pub written-readable : (pattern : Pattern) (fs : List Field) (place : ℕ) (f : Field) → list_all is_readable fs ≡ true → slice_get (written_fields pattern fs) place ≡ Some f → is_readable f ≡ true
written-readable pattern fs place f all there = list_all-at is_readable (written_fields pattern fs) place f (all-written is_readable pattern fs all) there

-- how many operands are written where a pattern fixes that
pub kinds-IsWritten : (pattern : Pattern) (shape : Shape) (count : ℕ) → count ≡ length (kinds_of (pattern_items pattern shape)) → IsWritten pattern count
kinds-IsWritten Row shape count is = tt
kinds-IsWritten Li shape count is = is
kinds-IsWritten Lis shape count is = is
kinds-IsWritten Mr shape count is = is
kinds-IsWritten Nop shape count is = tt
kinds-IsWritten Always shape count is = tt
kinds-IsWritten Light shape count is = tt
kinds-IsWritten Tables shape count is = tt

-- the operands of a mnemonic that aren't refused fit the fields of those that are written
pub read-HasOperands : (labels : List Placed) (at : ℕ) (line : List ℕ) (mnemonic : Mnemonic) (es : List Expression) (ks : List Kind) (fs : List Field) (operands : List ℤ) →
    MeansRow mnemonic → length es ≡ length (kinds_of (pattern_items mnemonic.pattern (shape_at mnemonic.row))) → ks ≡ kinds_of (pattern_items mnemonic.pattern (shape_at mnemonic.row)) → fs ≡ fields_at mnemonic.row → operands_of labels at line mnemonic.aa es ks (written_fields mnemonic.pattern fs) ≡ Ok operands
    → HasOperands (written_fields mnemonic.pattern (fields_at mnemonic.row)) operands
read-HasOperands labels at line mnemonic es ks fs operands means count kinds fields is =
    subst (λ gs. HasOperands (written_fields mnemonic.pattern gs) operands) fields
    (operands_of-HasOperands labels at line mnemonic.aa es ks (written_fields mnemonic.pattern fs) operands (count ∙ ap length (sym kinds)) (ap length kinds ∙ means.count ∙ ap (λ gs. length (written_fields mnemonic.pattern gs)) (sym fields)) is)

-- a mnemonic has as many operands as are written for it
pub read-count : (mnemonic : Mnemonic) (operands : List ℤ) → MeansRow mnemonic → HasOperands (written_fields mnemonic.pattern (fields_at mnemonic.row)) operands → length operands ≡ length (kinds_of (pattern_items mnemonic.pattern (shape_at mnemonic.row)))
read-count mnemonic operands means has = HasOperands-length (written_fields mnemonic.pattern (fields_at mnemonic.row)) operands has ∙ sym means.count

-- the instruction of a mnemonic with operands that fit is one of the table, unless it is an illegal form
pub insn_of-IsInsn : (mnemonic : Mnemonic) (operands : List ℤ) (insn : Insn) → MeansRow mnemonic → HasOperands (written_fields mnemonic.pattern (fields_at mnemonic.row)) operands → insn ≡ insn_of mnemonic operands → is_illegal_form insn.row insn.ops.items ≡ false → IsInsn insn
insn_of-IsInsn mnemonic operands insn means has is legal =
    subst IsInsn (sym is)
    record {
      forms = MeansRow-forms mnemonic operands means;
      operands = MeansRow-laid mnemonic operands means has;
      legal = ap (λ (i : Insn). is_illegal_form i.row i.ops.items) (sym is) ∙ legal;
    }
