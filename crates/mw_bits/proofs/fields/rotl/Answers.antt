use Rattle.mw_bits.proofs.MaskLemmas.{rotl-code}
use Rattle.std.proofs.Common.{◌∙◌}
use Rattle.mw_bits.proofs.fields.rotl.Goals as goal

pub returns : goal.returns
returns c = c.rotate_left.ensures ∙ rotl-code c.args.x c.args.n c.requires.in_word c.ranges.x.fits
