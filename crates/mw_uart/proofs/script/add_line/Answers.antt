use Rattle.mw_uart.proofs.ReadLemmas.{rises-later}
use Rattle.mw_uart.proofs.script.add_line.Goals as goal

pub add_bytes-requires : goal.add_bytes-requires
add_bytes-requires c = rises-later 0 c.args.before c.in-Ok.given.cycle c.args.pairs.now.items c.in-Ok.ensures.rises c.requires.rises
