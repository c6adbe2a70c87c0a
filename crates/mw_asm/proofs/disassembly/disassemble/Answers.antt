use Rattle.std.proofs.Common.{arith}
use Rattle.mw_asm.proofs.EntryLemmas.{entries-exact, entries-whole}
use Rattle.mw_asm.proofs.WholeLemmas.{bytes-small, image-again, image-assembled}
use Rattle.mw_asm.proofs.disassembly.disassemble.Goals as goal

pub returns-clause-again : goal.returns-clause-again
returns-clause-again c inside = image-again c.args.image.now (bytes-small c.args.image.now (λ k. omega (arith, c.type_inv.image k))) inside

pub returns-clause-source : goal.returns-clause-source
returns-clause-source c inside short = image-assembled c.args.image.now (bytes-small c.args.image.now (λ k. omega (arith, c.type_inv.image k))) inside short

pub returns-clause-exact : goal.returns-clause-exact
returns-clause-exact c = entries-exact c.args.image.now (bytes-small c.args.image.now (λ k. omega (arith, c.type_inv.image k)))

pub returns-clause-whole : goal.returns-clause-whole
returns-clause-whole c clear = entries-whole c.args.image.now (bytes-small c.args.image.now (λ k. omega (arith, c.type_inv.image k))) clear
