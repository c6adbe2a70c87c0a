use Rattle.mw_discipline.proofs.BlockLaws.{settled-right, synced-seen}
use Rattle.mw_discipline.proofs.blocks.Blocks.sync.Goals as goal

pub invariant_of-self : goal.invariant_of-self
invariant_of-self c =
    settled-right c.self.inside.places.items c.settle.new.places.items c.self.inside.waiting.items c.deref.result.now c.clear.new.self.items c.self.invariant c.deref.ensures.value c.settle.ensures c.clear.ensures.items

pub returns : goal.returns
returns c =
    rw (← c.self.view_is) (synced-seen c.self.inside.places.items c.settle.new.places.items c.self.inside.waiting.items c.deref.result.now c.self.invariant c.deref.ensures.value c.settle.ensures)
