use Rattle.std.proofs.Common.{[], ◌∷◌, ℤ, pos, List, arith}
use Rattle.std.specs.Prelude.{codes}
use Rattle.mw_tables.specs.declared.layout.Layout.TheVariants.{DRaRsUi}
use Rattle.mw_generator.proofs.WordLemmas.{row-IsInsn, row-word, ori-row, register-InRange, ui-InRange}
use Rattle.mw_generator.proofs.word.ori.Goals as goal

-- the operands are in range
pub word_of-requires : goal.word_of-requires
word_of-requires c =
    let operands : List ℤ = pos c.args.ra ∷ pos c.args.rs ∷ pos c.args.ui ∷ [] in
    row-IsInsn (codes "ori") 10 DRaRsUi operands c.with_ui.result.items ori-row c.with_ui.ensures (register-InRange c.args.ra c.requires.target, (register-InRange c.args.rs c.requires.source, (ui-InRange c.args.ui (omega (arith, c.ranges.ui)), tt)))

-- the row has this name
pub returns : goal.returns
returns c =
    let operands : List ℤ = pos c.args.ra ∷ pos c.args.rs ∷ pos c.args.ui ∷ [] in
    row-word (codes "ori") 10 DRaRsUi operands c.with_ui.result.items c.word_of.result ori-row c.with_ui.ensures c.word_of.ensures
