use Rattle.mw_bits.proofs.FieldLemmas.{field-and, field-lt}
use Rattle.std.proofs.Common.{◌<◌, ◌^◌, ◌+◌, ◌-◌, ℕ, subst, sym}
use Rattle.mw_bits.proofs.fields.field.Goals as goal

pub returns-clause-value : goal.returns-clause-value
returns-clause-value c =
    field-and c.args.word c.args.first c.args.last c.requires.ordered c.requires.in_word

pub returns-clause-bound : goal.returns-clause-bound
returns-clause-bound c =
    subst (λ (n : ℕ). n < 2 ^ (c.args.last - c.args.first + 1)) (sym (field-and c.args.word c.args.first c.args.last c.requires.ordered c.requires.in_word)) (field-lt c.args.word c.args.first c.args.last)
