use Rattle.std.proofs.Common.{◌≡◌, ◌-◌, suc, Bool, ap, ◌∙◌, arith}
use Rattle.mw_isa.specs.declared.slot.Slot.TheVariants.{CrField}
use Rattle.mw_isa.specs.Endings.{slot_if}
use Rattle.mw_isa.proofs.ReadLaws.{fields_in-back}
use Rattle.mw_isa.proofs.reading.with_fields.Goals as goal

pub loop-number-preserved : goal.loop-number-preserved
loop-number-preserved c =
    let some = c.loop-number-test.true in
    let next : suc (c.loop-number.number - 1) ≡ c.loop-number.number = omega arith in (
      fields_in-back c.args.mask (c.loop-number.number - 1) c.loop-number.number c.loop-number.set.bits c.with-set.result.bits c.slot_if.result next (c.slot_if.ensures.value ∙ ap (λ (b : Bool). slot_if b (CrField (c.loop-number.number - 1))) c.is_chosen.ensures) c.with-set.ensures
          ∙ c.loop-number.invariant.0,
      omega (arith, c.loop-number.invariant.1),
    )
