use Rattle.std.proofs.Common.{◌<◌, length, sym, ap, ◌∙◌, arith}
use Rattle.mw_uart.specs.Script.{last_of}
use Rattle.mw_uart.proofs.CutLemmas.{cut-behind, cut-shorter, last_of-behind}
use Rattle.mw_uart.proofs.script.place_behind.Goals as goal

pub loop-behind-preserved : goal.loop-behind-preserved
loop-behind-preserved c =
    let more = cut-behind c.loop-behind.rest.now c.cut_line.result.0.now c.cut_line.result.1 c.in-Some.behind c.cut_line.ensures.lines c.in-Some.is in
    let shorter : length c.in-Some.behind.now < length c.loop-behind.rest.now = cut-shorter c.loop-behind.rest.now c.cut_line.result.1 c.in-Some.behind c.cut_line.ensures.shorter c.in-Some.is in
    let count = ap length more in
    record {
      numbered = omega (arith, c.loop-behind.invariant.numbered);
      counted = omega (arith, c.loop-behind.invariant.counted, count);
      last = sym (last_of-behind c.cut_line.result.0.now c.in-Some.behind.now) ∙ sym (ap last_of more) ∙ c.loop-behind.invariant.last;
    }
