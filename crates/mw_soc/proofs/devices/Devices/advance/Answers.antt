use Rattle.std.proofs.Common.{ap}
use Rattle.mw_soc.specs.DeviceData.{Housed}
use Rattle.mw_soc.specs.Devices.{cycle_of}
use Rattle.mw_soc.proofs.Laws.{kept-advance}
use Rattle.mw_soc.proofs.devices.Devices.advance.Goals as goal

pub invariant_of-self : goal.invariant_of-self
invariant_of-self c = kept-advance c.self.inside.uart c.advance.new.self c.args.self.now c.args.cycle c.self.inside.dec_at c.advance.ensures (ap (λ (h : Housed). cycle_of h.devices) c.self.view_is) c.requires.later c.self.invariant
