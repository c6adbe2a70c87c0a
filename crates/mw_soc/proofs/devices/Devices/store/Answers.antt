use Rattle.mw_soc.proofs.Laws.{kept-store}
use Rattle.mw_soc.proofs.devices.Devices.store.Goals as goal

pub invariant_of-self : goal.invariant_of-self
invariant_of-self c = kept-store c.self.inside.uart c.store.new.self _ c.self.inside.dec_at _ c.store.ensures c.self.invariant
