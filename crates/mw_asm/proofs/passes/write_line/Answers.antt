use Rattle.std.proofs.Common.{ℕ, List, length, sym, ap, subst, ◌∙◌}
use Rattle.mw_asm.specs.Faults.{IsAdded}
use Rattle.mw_asm.specs.Assembled.{statement_bytes}
use Rattle.mw_asm.proofs.SecondLemmas.{second-unread, second_line-read}
use Rattle.mw_asm.proofs.passes.write_line.Goals as goal

pub returns-in-Ok : goal.returns-in-Ok
returns-in-Ok c =
    subst (λ r. IsAdded c.add_statement.result c.args.image.now c.add_statement.new.image r)
    (ap (λ (image : List ℕ). statement_bytes c.args.labels.now (length image) c.args.line.now c.in-Ok.read.statement) c.as_slice.ensures
    ∙ sym (second_line-read c.args.labels.now (length c.args.image.now) c.args.line.now c.in-Ok.read c.in-Ok.ensures.says))
    c.add_statement.ensures

pub returns-in-Err : goal.returns-in-Err
returns-in-Err c = second-unread c.in-Err.fault c.args.labels.now (length c.args.image.now) c.args.image.now c.args.image.now c.args.line.now c.in-Err.ensures.says
