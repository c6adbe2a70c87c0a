use Rattle.mw_bits.proofs.MaskLemmas.{mask-straight, mask-wrapped, mask_of-ordered, mask_of-round}
use Rattle.std.proofs.Common.{sym, ◌∙◌}
use Rattle.mw_bits.proofs.fields.mask.Goals as goal

pub returns-then-mb-me : goal.returns-then-mb-me
returns-then-mb-me c =
    mask-straight c.args.mb c.args.me c.if-mb-me.true c.requires.ends ∙ sym (mask_of-ordered c.args.mb c.args.me c.if-mb-me.true)

pub returns-else-mb-me : goal.returns-else-mb-me
returns-else-mb-me c =
    mask-wrapped c.args.mb c.args.me c.if-mb-me.false c.requires.starts ∙ sym (mask_of-round c.args.mb c.args.me c.if-mb-me.false)
