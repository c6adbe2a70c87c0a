use Rattle.mw_bits.proofs.FieldLemmas.{sext-low, sext-high}
use Rattle.mw_bits.proofs.fields.sext.Goals as goal

pub returns-then-low-ones : goal.returns-then-low-ones
returns-then-low-ones c =
    sext-low c.args.x c.args.width c.requires.wide c.requires.in_word c.if-low-ones.true

pub returns-else-low-ones : goal.returns-else-low-ones
returns-else-low-ones c =
    sext-high c.args.x c.args.width c.requires.wide c.requires.in_word c.if-low-ones.false
