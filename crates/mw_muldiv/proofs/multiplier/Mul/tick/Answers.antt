use Rattle.std.proofs.Common.{◌<◌, ap, ◌∙◌, arith}
use Rattle.mw_muldiv.specs.Multiplication.{Multiplication, product_at}
use Rattle.mw_muldiv.proofs.ProductLemmas.{InRegisters, multiplied_more, answered-is}
use Rattle.mw_muldiv.proofs.multiplier.Mul.tick.Goals as goal

pub invariant_of-self : goal.invariant_of-self
invariant_of-self c =
    let under : c.self.inside.ticks < 4 = omega (arith, ap (λ (m : Multiplication). m.ticks) c.self.view_is) in
    let known : InRegisters c.self.inside = record { a_fits = search arith; b_fits = search arith; high_fits = search arith; low_fits = search arith } in
    multiplied_more c.self.inside c.extended.result c.piece_of-piece.result under known c.extended.ensures c.piece_of-piece.ensures c.self.invariant

pub returns-clause-answer : goal.returns-clause-answer
returns-clause-answer c =
    let under : c.self.inside.ticks < 4 = omega (arith, ap (λ (m : Multiplication). m.ticks) c.self.view_is) in
    let known : InRegisters c.self.inside = record { a_fits = search arith; b_fits = search arith; high_fits = search arith; low_fits = search arith } in
    c.answered.ensures ∙ answered-is c.self.inside c.extended.result c.piece_of-piece.result under known (invariant_of-self c) ∙ ap product_at c.self.view_is
