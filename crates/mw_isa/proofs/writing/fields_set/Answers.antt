use Rattle.std.proofs.Common.{ℕ, ap, ◌∙◌}
use Rattle.mw_isa.specs.Places.{operand_of}
use Rattle.mw_isa.specs.Slots.{bits_upon}
use Rattle.mw_isa.specs.Special.{fields_in}
use Rattle.mw_isa.proofs.ReadLaws.{bits_upon-none}
use Rattle.mw_isa.proofs.writing.fields_set.Goals as goal

pub returns : goal.returns
returns c =
    c.with_fields.ensures
    ∙ ap (λ (n : ℕ). bits_upon (fields_in n 8) 0) c.mask.ensures
    ∙ bits_upon-none (fields_in (operand_of c.args.insn.now 0) 8)
