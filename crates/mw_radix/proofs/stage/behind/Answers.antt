use Rattle.std.proofs.Common.{IfOk, sym, subst}
use Rattle.mw_isa.specs.Walk.{IsLeaf}
use Rattle.mw_isa.proofs.WalkReadLaws.{leaf-behind}
use Rattle.mw_radix.proofs.stage.behind.Goals as goal

-- src/stage.rt:47:1
pub returns-then-is_leaf-clause-sound : goal.returns-then-is_leaf-clause-sound
returns-then-is_leaf-clause-sound c = subst (λ r. IfOk r IsLeaf) (sym c.leaf_of.ensures) (leaf-behind c.args.entry c.args.level.now c.requires.0 c.requires.1)
