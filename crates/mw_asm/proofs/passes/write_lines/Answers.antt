use Rattle.std.proofs.Common.{◌≡◌, ◌+◌, ◌<◌, [], Err, length, sym, subst, arith}
use Rattle.mw_asm.specs.Assembled.{in_front, second_pass, lines_of}
use Rattle.mw_asm.specs.Passes.{IfBad}
use Rattle.mw_asm.proofs.CutLemmas.{cut-behind, cut-last, cut-shorter}
use Rattle.mw_asm.proofs.SecondLemmas.{Stands, line-inside, stands-more, second-refused, second-more, second-end}
use Rattle.mw_asm.proofs.passes.write_lines.Goals as goal

pub write_line-requires-clause-placed : goal.write_line-requires-clause-placed
write_line-requires-clause-placed c =
    let stands = subst (λ lines. Stands c.args.labels.now c.loop-fault.number (length c.loop-fault.image) lines) c.cut_line.ensures.lines c.loop-fault.invariant.stands in
    line-inside c.args.labels.now c.loop-fault.number (length c.loop-fault.image) c.cut_line.result.0.now _ stands

pub returns-in-Err-clause-err : goal.returns-in-Err-clause-err
returns-in-Err-clause-err c =
    let whole = second_pass 1 c.args.labels.now 0 (lines_of c.args.source.now) in
    let same = subst (λ lines. in_front c.loop-fault.image (second_pass c.loop-fault.number c.args.labels.now (length c.loop-fault.image) lines) ≡ whole) c.cut_line.ensures.lines c.loop-fault.invariant.same in
    subst (λ fault. IfBad fault (λ place. whole ≡ Err place)) (sym c.fault_at.ensures)
    (second-refused c.in-Err.fault c.args.labels.now c.loop-fault.number c.loop-fault.image c.write_line.new.image c.cut_line.result.0.now _ whole c.in-Err.ensures same)

pub returns-in-None-clause-ok : goal.returns-in-None-clause-ok
returns-in-None-clause-ok c =
    let whole = second_pass 1 c.args.labels.now 0 (lines_of c.args.source.now) in
    let last = cut-last c.loop-fault.rest.now c.cut_line.result.0.now c.cut_line.result.1 c.cut_line.ensures.lines c.in-None.is in
    let same = subst (λ lines. in_front c.loop-fault.image (second_pass c.loop-fault.number c.args.labels.now (length c.loop-fault.image) lines) ≡ whole) last c.loop-fault.invariant.same in
    second-end c.args.labels.now (c.loop-fault.number + 1) c.write_line.new.image whole (second-more c.args.labels.now c.loop-fault.number c.loop-fault.image c.write_line.new.image c.cut_line.result.0.now [] whole c.in-Ok.ensures same)

pub returns-in-None-clause-fits : goal.returns-in-None-clause-fits
returns-in-None-clause-fits c =
    let stands = subst (λ lines. Stands c.args.labels.now c.loop-fault.number (length c.loop-fault.image) lines) c.cut_line.ensures.lines c.loop-fault.invariant.stands in
    (stands-more c.args.labels.now c.loop-fault.number c.loop-fault.image c.write_line.new.image c.cut_line.result.0.now _ stands c.in-Ok.ensures).inside

pub loop-fault-preserved : goal.loop-fault-preserved
loop-fault-preserved c =
    let whole = second_pass 1 c.args.labels.now 0 (lines_of c.args.source.now) in
    let more = cut-behind c.loop-fault.rest.now c.cut_line.result.0.now c.cut_line.result.1 c.in-Some.behind c.cut_line.ensures.lines c.in-Some.is in
    let stands = subst (λ lines. Stands c.args.labels.now c.loop-fault.number (length c.loop-fault.image) lines) more c.loop-fault.invariant.stands in
    let same = subst (λ lines. in_front c.loop-fault.image (second_pass c.loop-fault.number c.args.labels.now (length c.loop-fault.image) lines) ≡ whole) more c.loop-fault.invariant.same in
    let shorter : length c.in-Some.behind.now < length c.loop-fault.rest.now = cut-shorter c.loop-fault.rest.now c.cut_line.result.1 c.in-Some.behind c.cut_line.ensures.shorter c.in-Some.is in
    record {
      numbered = omega (arith, c.loop-fault.invariant.numbered);
      stands = stands-more c.args.labels.now c.loop-fault.number c.loop-fault.image c.write_line.new.image c.cut_line.result.0.now (lines_of c.in-Some.behind.now) stands c.in-Ok.ensures;
      same = second-more c.args.labels.now c.loop-fault.number c.loop-fault.image c.write_line.new.image c.cut_line.result.0.now (lines_of c.in-Some.behind.now) whole c.in-Ok.ensures same;
    }
