use Rattle.std.proofs.Common.{◌<◌, ◌≤◌, length, sym, ◌∙◌, arith}
use Rattle.mw_bus.proofs.StorageLemmas.{laid-more, laid-none}
use Rattle.mw_bus.proofs.ram.Ram.write.Goals as goal

pub loop-byte-preserved : goal.loop-byte-preserved
loop-byte-preserved c =
    let below : c.loop-byte.byte-index < length c.args.piece.now = omega arith in
    (omega arith, laid-more c.args.piece.now c.loop-byte.place c.loop-byte.byte-index c.loop-byte.self c.byte_put.new.self below c.byte_put.ensures ∙ c.loop-byte.invariant.1)

pub returns : goal.returns
returns c =
    let past : length c.args.piece.now ≤ c.loop-byte.byte-index = omega arith in
    sym (laid-none c.loop-byte.self c.loop-byte.place c.args.piece.now c.loop-byte.byte-index past) ∙ c.loop-byte.invariant.1
