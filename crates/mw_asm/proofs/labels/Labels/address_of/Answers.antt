use Rattle.std.proofs.Common.{sym, ap, ◌∙◌}
use Rattle.mw_asm.specs.Values.{address_of}
use Rattle.mw_asm.proofs.LabelLemmas.{address_of-labels_in}
use Rattle.mw_asm.proofs.labels.Labels.address_of.Goals as goal

pub returns : goal.returns
returns c = c.copied.ensures ∙ c.get.ensures.value ∙ sym (address_of-labels_in c.self.inside.addresses.entries c.args.name.now) ∙ ap (λ labels. address_of labels c.args.name.now) c.self.view_is
