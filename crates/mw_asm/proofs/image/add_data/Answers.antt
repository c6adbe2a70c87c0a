use Rattle.std.proofs.lemmas.Option.{slice_get-get_or}
use Rattle.mw_asm.proofs.ImageLemmas.{value-refused, value-more, values-end}
use Rattle.mw_asm.proofs.image.add_data.Goals as goal

pub returns-in-Err : goal.returns-in-Err
returns-in-Err c =
    value-refused c.args.labels.now c.args.at c.args.line.now c.args.unit c.args.values.now c.loop-value.value-index _ c.loop-value.image c.in-Err.refusal _ (slice_get-get_or c.args.values.now c.loop-value.value-index _ c.loop-value-test.true) c.in-Err.ensures.err c.loop-value.invariant

pub loop-value-preserved : goal.loop-value-preserved
loop-value-preserved c =
    value-more c.args.labels.now c.args.at c.args.line.now c.args.unit c.args.values.now c.loop-value.value-index _ c.loop-value.image c.add_unit.new.image _ _ (slice_get-get_or c.args.values.now c.loop-value.value-index _ c.loop-value-test.true) c.in-Ok.ensures.ok c.in-Ok-add_unit.ensures c.loop-value.invariant

pub returns : goal.returns
returns c = values-end c.args.labels.now c.args.at c.args.line.now c.args.unit c.args.values.now c.loop-value.value-index c.loop-value.image _ c.loop-value-test.false c.loop-value.invariant
