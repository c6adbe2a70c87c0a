use Rattle.std.proofs.Common.{◌≡◌, ◌+◌, ◌-◌, suc, ◌∙◌, arith}
use Rattle.mw_discipline.proofs.BlockLaws.{changed-more}
use Rattle.mw_discipline.proofs.blocks.Blocks.store_span.Goals as goal

pub loop-block-preserved : goal.loop-block-preserved
loop-block-preserved c =
    let past = c.past_block-block-end.result in
    let left : suc (past - (c.loop-block.block + 1)) ≡ past - c.loop-block.block = omega arith in
    changed-more _ _ c.loop-block.block c.loop-block.self c.change.new.self left c.change.ensures ∙ c.loop-block.invariant
