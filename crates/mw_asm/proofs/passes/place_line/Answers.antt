use Rattle.std.proofs.Common.{sym}
use Rattle.std.proofs.lemmas.Result.{err_from_is_err_and}
use Rattle.mw_asm.proofs.PassLemmas.{line-unread, line-unlabelled, line-refused, line-placed}
use Rattle.mw_asm.proofs.passes.place_line.Goals as goal

pub returns-in_err-read-clause-says : goal.returns-in_err-read-clause-says
returns-in_err-read-clause-says c =
    let p = err_from_is_err_and c.from_residual.result c.from_residual.ensures.1 in
    rw (p.1, p.2)
    (line-unread c.in_err-read.field-0.0 _ c.args.labels.now c.args.line.now c.in_err-read.ensures.says)

pub returns-in_err-add_label-clause-says : goal.returns-in_err-add_label-clause-says
returns-in_err-add_label-clause-says c =
    let p = err_from_is_err_and c.from_residual-in_err-add_label.result c.from_residual-in_err-add_label.ensures.1 in
    rw (p.1, p.2)
    (line-unlabelled c.in_err-add_label.field-0.0 c.args.labels.now c.add_label.new.labels c.add_label.new.labels c.args.at c.args.line.now c.in_ok-read.read c.in_ok-read.ensures.says c.in_err-add_label.ensures)

pub returns-in-Ok-clause-says : goal.returns-in-Ok-clause-says
returns-in-Ok-clause-says c =
    line-placed c.args.labels.now c.add_label.new.labels c.args.at c.in-Ok.next c.args.line.now c.in_ok-read.read c.in_ok-read.ensures.says c.in_ok-add_label.ensures (sym c.in-Ok.ensures.value)

pub returns-clause-says : goal.returns-clause-says
returns-clause-says c = line-refused c.args.labels.now c.add_label.new.labels c.args.at c.args.line.now c.in_ok-read.read c.in-Err.refusal c.in_ok-read.ensures.says c.in_ok-add_label.ensures (sym c.in-Err.ensures.value)
