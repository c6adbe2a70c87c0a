use Rattle.mw_syntax.proofs.LineLemmas.{tokens-read}
use Rattle.mw_syntax.proofs.line.parse_line.Goals as goal

pub returns-in-Ok-clause-bounds : goal.returns-in-Ok-clause-bounds
returns-in-Ok-clause-bounds c = tokens-read c.args.line.now c.in-Ok.tokens c.parse_tokens.result c.in-Ok.ensures.tokens (rw c.as_slice.ensures at c.parse_tokens.ensures)
