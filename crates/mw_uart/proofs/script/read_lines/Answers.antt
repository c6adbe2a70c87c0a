use Rattle.std.proofs.Common.{◌≡◌, ◌<◌, [], Err, length, sym, subst, ◌∙◌, arith}
use Rattle.mw_uart.specs.Script.{last_cycle, lines_of, read_from}
use Rattle.mw_uart.specs.Pairs.{IfBad}
use Rattle.mw_uart.proofs.CutLemmas.{cut-behind, cut-last, cut-shorter}
use Rattle.mw_uart.proofs.ReadLemmas.{read-refused, read-more, read-end, rises-later}
use Rattle.mw_uart.proofs.script.read_lines.Goals as goal

pub add_line-requires-clause-short : goal.add_line-requires-clause-short
add_line-requires-clause-short c = omega (arith, c.loop-cycle.invariant.short, c.cut_line.ensures.within)

pub returns-in-Err-clause-bad : goal.returns-in-Err-clause-bad
returns-in-Err-clause-bad c =
    let whole = read_from 1 0 [] (lines_of c.args.text.now) in
    let same = subst (λ lines. read_from c.loop-cycle.number c.loop-cycle.before c.loop-cycle.pairs.items lines ≡ whole) c.cut_line.ensures.lines c.loop-cycle.invariant.same in
    subst (λ fault. IfBad fault (λ place. whole ≡ Err place)) (sym c.fault_at.ensures)
    (read-refused c.loop-cycle.number c.loop-cycle.before c.loop-cycle.pairs.items c.cut_line.result.0.now _ whole c.in-Err.fault c.in-Err.ensures.refused same)

pub invariant_of-result : goal.invariant_of-result
invariant_of-result c = rises-later 0 c.in-Ok.cycle last_cycle c.add_line.new.pairs.items c.in-Ok.ensures.low c.in-Ok.ensures.rises

pub returns-in-None-clause-ok : goal.returns-in-None-clause-ok
returns-in-None-clause-ok c =
    let whole = read_from 1 0 [] (lines_of c.args.text.now) in
    let last = cut-last c.loop-cycle.rest.now c.cut_line.result.0.now c.cut_line.result.1 c.cut_line.ensures.lines c.in-None.is in
    let same = subst (λ lines. read_from c.loop-cycle.number c.loop-cycle.before c.loop-cycle.pairs.items lines ≡ whole) last c.loop-cycle.invariant.same in
    read-end c.loop-cycle.number c.loop-cycle.before c.in-Ok.cycle c.loop-cycle.pairs.items c.add_line.new.pairs.items c.cut_line.result.0.now whole c.in-Ok.ensures.ok same

pub loop-cycle-preserved : goal.loop-cycle-preserved
loop-cycle-preserved c =
    let whole = read_from 1 0 [] (lines_of c.args.text.now) in
    let more = cut-behind c.loop-cycle.rest.now c.cut_line.result.0.now c.cut_line.result.1 c.in-Some.behind c.cut_line.ensures.lines c.in-Some.is in
    let same = subst (λ lines. read_from c.loop-cycle.number c.loop-cycle.before c.loop-cycle.pairs.items lines ≡ whole) more c.loop-cycle.invariant.same in
    let shorter : length c.in-Some.behind.now < length c.loop-cycle.rest.now = cut-shorter c.loop-cycle.rest.now c.cut_line.result.1 c.in-Some.behind c.cut_line.ensures.shorter c.in-Some.is in
    record {
      short = omega (arith, c.loop-cycle.invariant.short);
      numbered = omega (arith, c.loop-cycle.invariant.numbered);
      low = c.in-Ok.ensures.low;
      rises = c.in-Ok.ensures.rises;
      same = sym (read-more c.loop-cycle.number c.loop-cycle.before c.in-Ok.cycle c.loop-cycle.pairs.items c.add_line.new.pairs.items c.cut_line.result.0.now (lines_of c.in-Some.behind.now) c.in-Ok.ensures.ok) ∙ same;
    }
