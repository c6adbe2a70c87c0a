use Rattle.std.proofs.Common.{[], ℤ, List}
use Rattle.std.specs.Prelude.{codes}
use Rattle.mw_tables.specs.declared.layout.Layout.TheVariants.{Empty}
use Rattle.mw_generator.proofs.WordLemmas.{row-IsInsn, row-word, rfid-row}
use Rattle.mw_generator.proofs.word.rfid.Goals as goal

-- the operands are in range
pub word_of-requires : goal.word_of-requires
word_of-requires c =
    let operands : List ℤ = [] in
    row-IsInsn (codes "rfid") 197 Empty operands c.new.result.items rfid-row c.new.ensures tt

-- the row has this name
pub returns : goal.returns
returns c =
    let operands : List ℤ = [] in
    row-word (codes "rfid") 197 Empty operands c.new.result.items c.word_of.result rfid-row c.new.ensures c.word_of.ensures
