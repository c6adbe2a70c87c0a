use Rattle.mw_asm.proofs.SourceLemmas.{meaning-from, refusal-from}
use Rattle.mw_asm.proofs.assembler.assemble.Goals as goal

pub returns-clause-meaning : goal.returns-clause-meaning
returns-clause-meaning c = meaning-from c.args.source.now c.pass_twice.result c.pass_twice.ensures.ok

pub returns-clause-refusal : goal.returns-clause-refusal
returns-clause-refusal c = refusal-from c.args.source.now c.pass_twice.result c.pass_twice.ensures.bad
