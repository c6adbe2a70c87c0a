use Rattle.std.proofs.Common.{◌∙◌}
use Rattle.mw_decode.proofs.InsnLemmas.{none-otherwise}
use Rattle.mw_decode.proofs.decoder.decode.Goals as goal

pub returns-else-decode_into-clause-value : goal.returns-else-decode_into-clause-value
returns-else-decode_into-clause-value c = c.otherwise.ensures ∙ none-otherwise c.args.word c.args.suffix c.if-decode_into.ensures.value
