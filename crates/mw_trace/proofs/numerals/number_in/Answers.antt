use Rattle.std.proofs.Common.{arith}
use Rattle.mw_trace.proofs.WordLemmas.{unread-numeral}
use Rattle.mw_trace.proofs.numerals.number_in.Goals as goal

pub returns-in_default : goal.returns-in_default
returns-in_default c =
    λ numeral small. absurd
    (c.in_default.ensures.cases.0 (unread-numeral c.args.radix c.args.word.now (omega arith) numeral))
