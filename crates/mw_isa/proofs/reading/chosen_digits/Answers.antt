-- The fields so far leave room for another one.
use Rattle.std.proofs.Common.{◌<◌, ◌^◌, ℕ, sym, subst, arith}
use Rattle.mw_isa.proofs.ReadLaws.{chosen_digits-room}
use Rattle.mw_isa.proofs.reading.chosen_digits.Goals as goal

pub overflow_mul-cr : goal.overflow_mul-cr
overflow_mul-cr g c =
    let room : c.loop-number.cr < 2 ^ 28 = subst (λ (n : ℕ). n < 2 ^ 28) (sym c.loop-number.invariant) (chosen_digits-room (g.V.SlotView.view c.args.view.now) c.args.mask c.loop-number.number c.loop-number-test.true) in
    omega arith

pub overflow_add-cr : goal.overflow_add-cr
overflow_add-cr g c =
    let room : c.loop-number.cr < 2 ^ 28 = subst (λ (n : ℕ). n < 2 ^ 28) (sym c.loop-number.invariant) (chosen_digits-room (g.V.SlotView.view c.args.view.now) c.args.mask c.loop-number.number c.loop-number-test.true) in
    omega arith
