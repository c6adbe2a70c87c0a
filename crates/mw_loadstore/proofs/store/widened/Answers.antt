use Rattle.mw_loadstore.proofs.BytesLemmas.{fronted}
use Rattle.mw_loadstore.proofs.store.widened.Goals as goal

pub returns : goal.returns
returns c = fronted 8 c.copy_from_slice.new.self c.args.bytes.now _ c.copy_from_slice.ensures.after c.told-bytes
