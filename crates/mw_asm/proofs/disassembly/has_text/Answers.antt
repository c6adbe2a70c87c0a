use Rattle.std.proofs.Common.{◌≡◌, ap, sym, ◌∙◌, Some, None, slice_get}
use Rattle.std.specs.Option.{option_copied}
use Rattle.mw_syntax.specs.declared.item.Item.TheVariants.{Operand, Comma, Open, Close}
use Rattle.mw_asm.proofs.DisassemblyLemmas.{behind-none, behind-operand, behind-comma, behind-open, behind-close}
use Rattle.mw_asm.proofs.disassembly.has_text.Goals as goal

pub returns-in-Some-Operand : goal.returns-in-Some-Operand
returns-in-Some-Operand c =
    let first : slice_get c.args.items.now 0 ≡ Some (Operand c.in-Some-Operand.field-0-0) = sym c.first.ensures.value ∙ ap option_copied c.in-Some-Operand.is ∙ ap Some c.in-Some-Operand.field-0-is in
    rw c.is_empty.ensures (behind-operand c.args.items.now c.in-Some-Operand.field-0-0 c.args.operands.now first)

pub returns-in-Some-Comma : goal.returns-in-Some-Comma
returns-in-Some-Comma c =
    let first : slice_get c.args.items.now 0 ≡ Some Comma = sym c.first.ensures.value ∙ ap option_copied c.in-Some-Comma.is ∙ ap Some c.in-Some-Comma.field-0-is in
    behind-comma c.args.items.now c.args.operands.now first

pub returns-in-Some-Open : goal.returns-in-Some-Open
returns-in-Some-Open c =
    let first : slice_get c.args.items.now 0 ≡ Some Open = sym c.first.ensures.value ∙ ap option_copied c.in-Some-Open.is ∙ ap Some c.in-Some-Open.field-0-is in
    behind-open c.args.items.now c.args.operands.now first

pub returns-in-Some-Close : goal.returns-in-Some-Close
returns-in-Some-Close c =
    let first : slice_get c.args.items.now 0 ≡ Some Close = sym c.first.ensures.value ∙ ap option_copied c.in-Some-Close.is ∙ ap Some c.in-Some-Close.field-0-is in
    behind-close c.args.items.now c.args.operands.now first

pub returns-in-None : goal.returns-in-None
returns-in-None c =
    let first : slice_get c.args.items.now 0 ≡ None = sym c.first.ensures.value ∙ ap option_copied c.in-None.is in
    behind-none c.args.items.now c.args.operands.now first
