use Rattle.mw_loadstore.proofs.BytesLemmas.{bytes-written, low-fits}
use Rattle.mw_loadstore.proofs.store.store_bytes.Goals as goal

pub number_bytes-requires-clause-fits : goal.number_bytes-requires-clause-fits
number_bytes-requires-clause-fits c =
    low-fits c.low_bytes.result c.args.op.now.value c.from.result c.args.op.now.len c.from.ensures c.low_bytes.ensures

pub returns-clause-bytes : goal.returns-clause-bytes
returns-clause-bytes c =
    bytes-written c.args.reversed c.number_bytes.result c.from.result c.args.op.now.len c.low_bytes.result c.args.op.now.value c.from.ensures c.low_bytes.ensures c.number_bytes.ensures
