use Rattle.std.proofs.Common.{◌≡◌, ◌<◌, [], Err, length, sym, subst, arith}
use Rattle.mw_asm.specs.Assembled.{first_pass, lines_of}
use Rattle.mw_asm.specs.Passes.{IfBad, start}
use Rattle.mw_asm.proofs.CutLemmas.{cut-behind, cut-last, cut-shorter}
use Rattle.mw_asm.proofs.PassLemmas.{Left, pass-refused, pass-next, pass-end}
use Rattle.mw_asm.proofs.passes.place_labels.Goals as goal

pub returns-in-Err-clause-err : goal.returns-in-Err-clause-err
returns-in-Err-clause-err c =
    let whole = first_pass 1 start (lines_of c.args.source.now) in
    let left = subst (λ lines. Left c.loop-next.labels c.loop-next.number c.loop-next.at lines whole) c.cut_line.ensures.lines c.loop-next.invariant.left in
    subst (λ fault. IfBad fault (λ place. whole ≡ Err place)) (sym c.fault_at.ensures)
    (pass-refused c.in-Err.fault c.loop-next.labels c.place_line.new.labels c.loop-next.number c.loop-next.at c.cut_line.result.0.now _ whole c.in-Err.ensures.says left)

pub returns-in-None-clause-ok : goal.returns-in-None-clause-ok
returns-in-None-clause-ok c =
    let whole = first_pass 1 start (lines_of c.args.source.now) in
    let last = cut-last c.loop-next.rest.now c.cut_line.result.0.now c.cut_line.result.1 c.cut_line.ensures.lines c.in-None.is in
    let left = subst (λ lines. Left c.loop-next.labels c.loop-next.number c.loop-next.at lines whole) last c.loop-next.invariant.left in
    pass-end c.place_line.new.labels _ c.in-Ok.next whole (pass-next c.loop-next.labels c.place_line.new.labels c.loop-next.number c.loop-next.at c.in-Ok.next c.cut_line.result.0.now [] whole c.in-Ok.ensures.says left)

pub loop-next-preserved : goal.loop-next-preserved
loop-next-preserved c =
    let whole = first_pass 1 start (lines_of c.args.source.now) in
    let more = cut-behind c.loop-next.rest.now c.cut_line.result.0.now c.cut_line.result.1 c.in-Some.behind c.cut_line.ensures.lines c.in-Some.is in
    let left = subst (λ lines. Left c.loop-next.labels c.loop-next.number c.loop-next.at lines whole) more c.loop-next.invariant.left in
    let shorter : length c.in-Some.behind.now < length c.loop-next.rest.now = cut-shorter c.loop-next.rest.now c.cut_line.result.1 c.in-Some.behind c.cut_line.ensures.shorter c.in-Some.is in
    record {
      numbered = omega (arith, c.loop-next.invariant.numbered);
      inside = c.in-Ok.ensures.inside;
      left = pass-next c.loop-next.labels c.place_line.new.labels c.loop-next.number c.loop-next.at c.in-Ok.next c.cut_line.result.0.now (lines_of c.in-Some.behind.now) whole c.in-Ok.ensures.says left;
    }
