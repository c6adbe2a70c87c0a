use Rattle.std.proofs.Common.{◌≡◌, ◌++◌, sym, subst, ap, ◌∙◌}
use Rattle.mw_decode.specs.declared.insn.Code.{Code}
use Rattle.mw_decode.specs.Encode.{encode_of}
use Rattle.mw_decode.proofs.EncodeLemmas.{encode_of-decoded}
use Rattle.mw_asm.specs.Values.{code_bytes}
use Rattle.mw_asm.specs.Disassembly.{statement_text}
use Rattle.mw_asm.specs.Again.{AssemblesTo}
use Rattle.mw_asm.proofs.AgainLemmas.{statement-assembles}
use Rattle.mw_asm.proofs.disassembly.print_statement.Goals as goal

pub returns-clause-again : goal.returns-clause-again
returns-clause-again c =
    let text : c.add_statement.new.text ≡ statement_text c.args.insn.now c.args.at = c.in_ok-add_statement.ensures ∙ ap (λ t. t ++ statement_text c.args.insn.now c.args.at) c.new-text.ensures in
    subst (λ t. AssemblesTo t c.args.at (code_bytes (encode_of c.args.insn.now))) (sym text) (statement-assembles c.args.insn.now c.requires.insn c.args.at c.requires.room)

pub returns-clause-words : goal.returns-clause-words
returns-clause-words c code is =
    subst (λ (k : Code). AssemblesTo c.add_statement.new.text c.args.at (code_bytes k)) (encode_of-decoded c.args.insn.now code.word code.suffix is.0 is.1 is.2) (returns-clause-again c)
