use Rattle.std.proofs.Common.{◌≡◌, ap, ◌∙◌, arith}
use Rattle.std.specs.Prelude.{Some}
use Rattle.mw_muldiv.specs.declared.numbers.DivOut.{DivOut}
use Rattle.mw_muldiv.specs.Division.{Division, quotient_at}
use Rattle.mw_muldiv.proofs.QuotientLemmas.{divided-more, divided-last, answered-last}
use Rattle.mw_muldiv.proofs.divider.Div.tick.Goals as goal

pub invariant_of-self : goal.invariant_of-self
invariant_of-self c =
    divided-more c.self.inside c.with_bit-self-inside.result c.if-self-lt64.true c.with_bit-self-inside.ensures c.self.invariant

pub invariant_of-self-else-self-lt64 : goal.invariant_of-self-else-self-lt64
invariant_of-self-else-self-lt64 c =
    let last : c.self.inside.ticks ≡ 64 = omega (arith, ap (λ (d : Division). d.ticks) c.self.view_is) in
    divided-last c.self.inside last c.self.invariant

pub returns-else-self-lt64-clause-answer : goal.returns-else-self-lt64-clause-answer
returns-else-self-lt64-clause-answer c =
    let last : c.self.inside.ticks ≡ 64 = omega (arith, ap (λ (d : Division). d.ticks) c.self.view_is) in
    ap (λ (out : DivOut). Some out) c.outcome_of.ensures ∙ answered-last c.self.inside last c.self.invariant ∙ ap quotient_at c.self.view_is
