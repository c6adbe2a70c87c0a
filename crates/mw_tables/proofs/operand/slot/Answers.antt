use Rattle.std.proofs.Common.{◌/◌, ◌^◌, bit_and, ap, ◌∙◌}
use Rattle.std.proofs.lemmas.Nat.{and_mask}
use Rattle.mw_tables.proofs.operand.slot.Goals as goal

pub returns : goal.returns
returns c =
    ap (bit_and (c.args.code / 2 ^ c.args.piece.low)) c.ones.ensures ∙ and_mask (c.args.code / 2 ^ c.args.piece.low) c.args.piece.width
