use Rattle.std.proofs.Common.{ℕ, Option, Some, None, sym, subst}
use Rattle.mw_decode.specs.Decode.{Decodes, decode_of}
use Rattle.mw_decode.proofs.InsnLemmas.{found-Decodes, found-IsInsn}
use Rattle.mw_decode.proofs.decoder.decode_into.Goals as goal

pub returns-in-Some-clause-value : goal.returns-in-Some-clause-value
returns-in-Some-clause-value c = subst (λ (o : Option ℕ). Decodes c.find_pair.result c.find_pair.new.insn (decode_of c.args.word o)) (sym c.in-Some.is) (found-Decodes c.args.word (Some c.in-Some.suffix) c.find_pair.result c.find_pair.new.insn c.find_pair.ensures)

pub returns-in-Some-clause-insn : goal.returns-in-Some-clause-insn
returns-in-Some-clause-insn c = found-IsInsn c.args.word (Some c.in-Some.suffix) c.find_pair.result c.find_pair.new.insn c.find_pair.ensures

pub returns-in-None-clause-value : goal.returns-in-None-clause-value
returns-in-None-clause-value c = subst (λ (o : Option ℕ). Decodes c.find_word.result c.find_word.new.insn (decode_of c.args.word o)) (sym c.in-None.is) (found-Decodes c.args.word None c.find_word.result c.find_word.new.insn c.find_word.ensures)

pub returns-in-None-clause-insn : goal.returns-in-None-clause-insn
returns-in-None-clause-insn c = found-IsInsn c.args.word None c.find_word.result c.find_word.new.insn c.find_word.ensures
