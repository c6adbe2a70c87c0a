use Rattle.std.proofs.Common.{ℕ, ◌^◌, ◌<◌, sym, subst}
use Rattle.mw_tables.specs.Layouts.{width_of}
use Rattle.mw_tables.proofs.FieldLaws.{gathered-width}
use Rattle.mw_tables.proofs.CodeLemmas.{gathered-code}
use Rattle.mw_tables.proofs.operand.gathered.Goals as goal

pub returns-clause-value : goal.returns-clause-value
returns-clause-value c =
    gathered-code c.args.code c.args.field.now c.slot-low.result c.slot-middle.result c.slot-high.result c.requires c.slot-low.ensures c.slot-middle.ensures c.slot-high.ensures

pub returns-clause-bound : goal.returns-clause-bound
returns-clause-bound c =
    subst (λ (n : ℕ). n < 2 ^ width_of c.args.field.now) (sym (gathered-code c.args.code c.args.field.now c.slot-low.result c.slot-middle.result c.slot-high.result c.requires c.slot-low.ensures c.slot-middle.ensures c.slot-high.ensures)) (gathered-width c.args.code c.args.field.now)
