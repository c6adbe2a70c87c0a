use Rattle.std.proofs.Common.{◌∙◌, arith}
use Rattle.mw_trace.proofs.HexLemmas.{encode-hex}
use Rattle.mw_trace.proofs.words.write_hex_bytes.Goals as goal

pub returns : goal.returns
returns c = c.in-Ok.ensures.written ∙ encode-hex c.args.bytes.now (λ k. omega (arith, c.type_inv.bytes k))
