use Rattle.std.proofs.Common.{if◌then◌else◌, Some, ap, ◌∙◌}
use Rattle.std.specs.Prelude.{bytes_eq}
use Rattle.mw_asm.specs.Values.{address_of}
use Rattle.mw_asm.proofs.LabelLemmas.{address_of-updates}
use Rattle.mw_asm.proofs.labels.Labels.add.Goals as goal

pub returns-clause-ok : goal.returns-clause-ok
returns-clause-ok c = λ q.
    address_of-updates c.self.inside.addresses c.insert.new.self c.args.name.now q c.args.address c.in_ok-insert.ensures.updates
    ∙ ap (λ labels. if bytes_eq c.args.name.now q then Some c.args.address else address_of labels q) c.self.view_is
