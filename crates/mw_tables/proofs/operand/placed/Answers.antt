use Rattle.std.proofs.Common.{◌*◌, ◌%◌, ◌^◌, bit_and, ap, ◌∙◌}
use Rattle.mw_tables.proofs.CodeLemmas.{moved-whole}
use Rattle.mw_tables.proofs.operand.placed.Goals as goal

pub returns : goal.returns
returns c =
    ap (λ n. bit_and c.args.number n * 2 ^ c.args.piece.low % 2 ^ 64) c.ones.ensures ∙ moved-whole c.args.number c.args.piece c.requires
