use Rattle.std.proofs.Common.{sym, ap, ap₂, ◌∙◌}
use Rattle.std.specs.Prelude.{Option}
use Rattle.mw_isa.specs.declared.slot.Slot.{Slot}
use Rattle.mw_isa.specs.Slots.{bits_upon, bits_with}
use Rattle.mw_isa.specs.Special.{fields_in}
use Rattle.mw_isa.proofs.ReadLaws.{special_slots-bits}
use Rattle.mw_isa.proofs.reading.special_set.Goals as goal

pub returns : goal.returns
returns c =
    c.with_fields.ensures
    ∙ ap (bits_upon (fields_in c.args.special.fields 8)) (
    c.with-named.ensures
    ∙ ap₂ bits_with c.slot_if-4.ensures.value (
    c.with-3.ensures
    ∙ ap₂ bits_with c.slot_if-3.ensures.value (
    c.with-2.ensures
    ∙ ap₂ bits_with c.slot_if-2.ensures.value (c.with.ensures ∙ ap (λ (slot : Option Slot). bits_with slot 0) c.slot_if.ensures.value)
    )
    )
    )
    ∙ sym (special_slots-bits c.args.special)
