use Rattle.std.proofs.Common.{◌+◌, ◌∷◌, take, sym, ap, ◌∙◌, eq-eqb, arith}
use Rattle.std.proofs.lemmas.List.{take_rest}
use Rattle.mw_uart.specs.Script.{lines_of}
use Rattle.mw_uart.proofs.CutLemmas.{lines_of-cut, lines_of-one}
use Rattle.mw_uart.proofs.script.cut_line.Goals as goal

pub returns-then-byte-eq10-clause-lines : goal.returns-then-byte-eq10-clause-lines
returns-then-byte-eq10-clause-lines c =
    lines_of-cut c.args.text.now c.loop-place.place c.loop-place.invariant c.loop-place-test.true (eq-eqb _ _ c.if-byte-eq10.true)
    ∙ ap (λ rest. take c.loop-place.place c.args.text.now ∷ lines_of rest) (sym (take_rest c.args.text.now (c.loop-place.place + 1)))

pub returns-clause-lines : goal.returns-clause-lines
returns-clause-lines c = lines_of-one c.args.text.now (λ k lt. c.loop-place.invariant k (omega arith))
