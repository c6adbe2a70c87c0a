use Rattle.std.proofs.Common.{get_or, refl, arith}
use Rattle.mw_uart.proofs.ReadLemmas.{pairs-more, rises-more}
use Rattle.mw_uart.proofs.script.add_bytes.Goals as goal

pub loop-byte-preserved : goal.loop-byte-preserved
loop-byte-preserved c =
    let byte = get_or c.args.bytes.now c.loop-byte.byte-index 0 in
    let fits = c.type_inv.bytes c.loop-byte.byte-index in
    record {
      added = pairs-more c.args.cycle c.loop-byte.byte-index byte c.args.bytes.now c.args.pairs.now.items c.loop-byte.pairs.items c.push.new.self.items c.loop-byte-test.true refl c.loop-byte.invariant.added c.in_ok-push.ensures.items;
      rises = rw (c.in_ok-push.ensures.items) (rises-more 0 c.args.cycle byte c.loop-byte.pairs.items (omega (arith, fits)) c.loop-byte.invariant.rises);
    }
