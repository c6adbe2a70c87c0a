-- A printed statement assembles to the instruction's words.
use Rattle.std.proofs.Common.{◌≡◌, ℕ, ◌+◌, ◌-◌, ◌^◌, ◌<◌, ◌≤◌, true, false, true≢false, List, [], ◌∷◌, ◌++◌, Some, None, Ok, length, take, codes, refl, sym, ap, ◌∙◌, arith}
use Rattle.std.specs.Prelude.{bytes_eq, slice_get, Option, IsSomeAnd}
use Rattle.std.proofs.lemmas.Bool.{and_parts, le-ltb}
use Rattle.std.proofs.Math.ListN.{length-append}
use Rattle.std.proofs.Math.Seq.{take-append_seam}
use Rattle.mw_text.specs.declared.token.Token.{Token}
use Rattle.mw_text.specs.declared.token.TokenKind.TheVariants.{Word}
use Rattle.mw_text.specs.Lines.{tokens_of, tokens_from, with_first}
use Rattle.mw_text.specs.Texts.{is_word}
use Rattle.mw_decode.specs.declared.insn.Insn.{Insn}
use Rattle.mw_decode.specs.Decode.{IsInsn, HasForms}
use Rattle.mw_decode.specs.Encode.{encode_of}
use Rattle.mw_tables.specs.declared.layout.Layout.{Layout}
use Rattle.mw_tables.specs.Row.{TableRow}
use Rattle.mw_tables.specs.Rows.{table, layouts}
use Rattle.mw_tables.specs.Layouts.{fields_of, HasOperands}
use Rattle.mw_syntax.specs.declared.expression.Expression.{Expression}
use Rattle.mw_syntax.specs.declared.item.Item.{Item}
use Rattle.mw_syntax.specs.declared.mnemonic.Mnemonic.{Mnemonic}
use Rattle.mw_syntax.specs.declared.statement.Line.{Line}
use Rattle.mw_syntax.specs.declared.statement.Statement.TheVariants.{Instruction}
use Rattle.mw_syntax.specs.Items.{items_of, kinds_of, pattern_items, text_of, operands_at}
use Rattle.mw_syntax.specs.Lines.{unit_of, shape_at, label_of, or_operand, labelled, line_by, line_in, line_of}
use Rattle.mw_syntax.specs.Mnemonics.{mnemonic_of}
use Rattle.mw_asm.specs.Values.{fields_at, instruction_of, code_bytes}
use Rattle.mw_asm.specs.Assembled.{code_size, image_limit, first_line, first_by, second_by, second_line}
use Rattle.mw_asm.specs.Disassembly.{operands_text, behind_name, statement_text}
use Rattle.mw_asm.proofs.PrintedForms.{IsClosed, token_of, operands_tokens, operands_expressions, GivesBytes, AreWritable}
use Rattle.mw_asm.proofs.TokenTextLemmas.{word-piece, piece-tokens, append-no_feed, of_word-no_feed}
use Rattle.mw_asm.proofs.OperandTextLemmas.{behind_name-tokens, operands-short, operands-no_feed}
use Rattle.mw_asm.proofs.OperandReadLemmas.{behind_name-read, operands-label}
use Rattle.mw_asm.proofs.OperandWorthLemmas.{operands-worth, held-AreWritable}
use Rattle.mw_asm.proofs.NameLemmas.{spelling_of, name-means, name-word, name-org, name-unit, name-short, insn-IsListed, IsListed}
use Rattle.mw_asm.specs.Again.{AssemblesTo}
use Rattle.mw_asm.proofs.SecondLemmas.{encoded-length}
use Rattle.mw_asm.proofs.SourceTextLemmas.{gives-AssemblesTo}

-- a name ends where operands begin
behind_name-closed : (bytes : List ℕ) → IsClosed (behind_name bytes)
behind_name-closed [] = refl
behind_name-closed (byte ∷ bytes) = refl

-- a word has a byte
word-some : (text : List ℕ) → is_word text ≡ true → 0 < length text
word-some [] is = absurd (true≢false (sym is))
word-some (byte ∷ text) is = omega arith

-- a line that begins with the name of an instruction
named-line : (line : List ℕ) (size : ℕ) (tokens : List Token) (name : List ℕ) (mnemonic : Mnemonic) (expressions : List Expression) →
    label_of (token_of Word 0 size ∷ tokens) ≡ None → text_of line (token_of Word 0 size) ≡ name → bytes_eq name (codes ".org") ≡ false → unit_of name ≡ None → mnemonic_of name ≡ Some mnemonic
    → operands_at (pattern_items mnemonic.pattern (shape_at mnemonic.row)) line (token_of Word 0 size ∷ tokens) 1 ≡ Ok expressions
    → line_by line (token_of Word 0 size ∷ tokens) ≡ Ok (record { label = None; statement = Instruction 1 mnemonic (record { items = expressions }) })
named-line line size tokens name mnemonic expressions label text org unit means operands =
    rw (label, text, org, unit, means) (ap (λ r. labelled None (or_operand line (token_of Word 0 size ∷ tokens) (λ es. Instruction 1 mnemonic (record { items = es })) r)) operands)

from-zero : (n : ℕ) → 0 + n ≡ n
from-zero n = omega arith

-- the first bytes of a line
text_of-front : (name rest : List ℕ) → text_of (name ++ rest) (token_of Word 0 (length name)) ≡ name
text_of-front name rest =
    let size : 0 + length name - 0 ≡ length name = omega arith in
    ap (λ n. take n (name ++ rest)) size ∙ take-append_seam name rest

-- an instruction's words have as many bytes as its row
length-by : (insn : Insn) (row : Option TableRow) (layout : Option Layout) → slice_get table insn.row ≡ row → slice_get layouts insn.row ≡ layout → IsSomeAnd row (λ r. HasForms r insn) → IsSomeAnd layout (λ l. HasOperands (fields_of l) insn.ops.items) → length (code_bytes (encode_of insn)) ≡ code_size insn.row
length-by insn None layout there laid forms has = absurd forms
length-by insn (Some row) None there laid forms has = absurd has
length-by insn (Some row) (Some layout) there laid forms has = encoded-length insn row layout there laid

pub insn-length : (insn : Insn) → IsInsn insn → length (code_bytes (encode_of insn)) ≡ code_size insn.row
insn-length insn is = length-by insn (slice_get table insn.row) (slice_get layouts insn.row) refl refl is.forms is.operands

-- what an instruction's line is read as
abbrev read_as : Insn → List Expression → Line
read_as insn expressions = record { label = None; statement = Instruction 1 (spelling_of insn).mnemonic (record { items = expressions }) }

module _ (insn : Insn) (is : IsInsn insn) (at : ℕ) where
  abbrev name : List ℕ
  name = (spelling_of insn).name

  abbrev items : List Item
  items = items_of (shape_at insn.row)

  listed : IsListed insn
  listed = insn-IsListed insn is

  writable : AreWritable (kinds_of items) insn.ops.items
  writable = held-AreWritable (kinds_of items) (fields_at insn.row) insn.ops.items listed.hold listed.has

  abbrev behind : List ℕ
  behind = behind_name (operands_text items insn.aa at insn.ops.items)

  abbrev expressions : List Expression
  expressions = operands_expressions items insn.aa at insn.ops.items (length name + 1)

  statement-tokens : at < 2 ^ 63 → tokens_of (statement_text insn at) ≡ Ok (token_of Word 0 (length name) ∷ operands_tokens items insn.aa at insn.ops.items (length name + 1))
  statement-tokens low =
      piece-tokens name behind Word 0 (word-some name (name-word insn is)) (word-piece name behind (name-word insn is) (behind_name-closed (operands_text items insn.aa at insn.ops.items)))
      ∙ ap (λ place. with_first (token_of Word 0 (length name)) (tokens_from behind 0 place)) (from-zero (length name))
      ∙ ap (with_first (token_of Word 0 (length name))) (behind_name-tokens items insn.aa at insn.ops.items (length name) listed.separated writable low)

  statement-line : at < 2 ^ 63 → line_of (statement_text insn at) ≡ Ok (read_as insn expressions)
  unfolding line_of
  statement-line low =
      ap (line_in (statement_text insn at)) (statement-tokens low)
      ∙ named-line (statement_text insn at) (length name) (operands_tokens items insn.aa at insn.ops.items (length name + 1)) name (spelling_of insn).mnemonic expressions
      (operands-label items insn.aa at insn.ops.items (length name) (length name + 1) listed.separated writable)
      (text_of-front name behind)
      (name-org insn is)
      (name-unit insn is)
      (name-means insn is)
      (behind_name-read items insn.aa at insn.ops.items name (token_of Word 0 (length name)) listed.separated writable)

  statement-first : at + code_size insn.row ≤ image_limit → first_line (record { at = at; known = [] }) (statement_text insn at) ≡ Ok (record { at = at + length (code_bytes (encode_of insn)); known = [] })
  unfolding first_line
  statement-first room =
      ap (first_by (record { at = at; known = [] }) (statement_text insn at)) (statement-line (omega arith))
      ∙ rw (le-ltb image_limit (at + code_size insn.row) room) (ap (λ n. Ok (record { at = at + n; known = [] })) (sym (insn-length insn is)))

  statement-second : at < 2 ^ 63 → second_line [] at (statement_text insn at) ≡ Ok (code_bytes (encode_of insn))
  unfolding second_line
  statement-second low =
      ap (second_by [] at (statement_text insn at)) (statement-line low)
      ∙ ap (instruction_of 1 (spelling_of insn).mnemonic) (operands-worth items insn.aa at insn.ops.items (length name + 1) (fields_at insn.row) [] (statement_text insn at) writable listed.hold listed.has low)
      ∙ rw is.legal refl

  -- the statement of an instruction gives its words
  pub statement-gives : at + code_size insn.row ≤ image_limit → GivesBytes at (statement_text insn at) (code_bytes (encode_of insn))
  statement-gives room = record {
    short = omega (arith, name-short insn is, operands-short items insn.aa at insn.ops.items writable, listed.short, length-append name behind);
    one = append-no_feed name behind (of_word-no_feed name (and_parts _ _ (name-word insn is)).1) (operands-no_feed items insn.aa at insn.ops.items writable);
    first = statement-first room;
    second = statement-second (omega arith);
  }

  -- the statement of an instruction assembles to the instruction's words
  pub statement-assembles : at + code_size insn.row ≤ image_limit → AssemblesTo (statement_text insn at) at (code_bytes (encode_of insn))
  statement-assembles room = gives-AssemblesTo at (statement_text insn at) (code_bytes (encode_of insn)) (omega arith) (statement-gives room)
