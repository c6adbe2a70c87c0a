use Rattle.mw_soc.proofs.Laws.{kept-load}
use Rattle.mw_soc.proofs.devices.Devices.load.Goals as goal

pub invariant_of-self : goal.invariant_of-self
invariant_of-self c = kept-load c.self.inside.uart c.load.new.self _ c.self.inside.dec_at c.load.ensures.after c.self.invariant
