use Rattle.std.proofs.Common.{ap, sym, ◌∙◌, arith}
use Rattle.std.specs.Prelude.{◌/◌, ◌^◌, ◌<◌, ℕ}
use Rattle.mw_digits.proofs.WriteLemmas.{power-before, digits-less, digits-all}
use Rattle.mw_digits.proofs.hex_digits.count_digits.Goals as goal
use Rattle.mw_digits.proofs.hex_digits.count_digits.Goals.{then-loop-most-test+else-number-least, else-loop-most-test}

pub loop-most-preserved : goal.loop-most-preserved
loop-most-preserved c =
    let kept = c.loop-most.invariant in
    let small : c.args.number < 16 ^ c.loop-most.most = omega arith in
    record {
      few = omega arith;
      power = ap (λ (n : ℕ). n / 16) kept.power ∙ power-before c.loop-most.most c.loop-most-test.true;
      same = digits-less c.loop-most.most c.args.number c.loop-most-test.true small ∙ kept.same;
    }

pub returns-clause-value : goal.returns-clause-value
returns-clause-value c =
    let kept = c.loop-most.invariant in
    elim c.loop-most-test.branch [
      | then-loop-most-test+else-number-least w ↦ sym (digits-all c.loop-most.most c.args.number (λ some. omega arith)) ∙ kept.same
      | else-loop-most-test w ↦ sym (digits-all c.loop-most.most c.args.number (λ some. absurd (omega arith))) ∙ kept.same
    ]
