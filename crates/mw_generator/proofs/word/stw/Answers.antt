use Rattle.std.proofs.Common.{[], ◌∷◌, ℤ, pos, List, arith}
use Rattle.std.specs.Prelude.{codes}
use Rattle.mw_tables.specs.declared.layout.Layout.TheVariants.{DRtDRa}
use Rattle.mw_generator.proofs.WordLemmas.{row-IsInsn, row-word, stw-row, d-InRange, register-InRange}
use Rattle.mw_generator.proofs.word.stw.Goals as goal

-- the operands are in range
pub word_of-requires : goal.word_of-requires
word_of-requires c =
    let operands : List ℤ = pos c.args.t ∷ pos c.args.displacement ∷ pos 3 ∷ [] in
    row-IsInsn (codes "stw") 133 DRtDRa operands c.place.result.items stw-row c.place.ensures (register-InRange c.args.t c.requires.register, (d-InRange c.args.displacement c.requires.near, (register-InRange 3 (omega arith), tt)))

-- the row has this name
pub returns : goal.returns
returns c =
    let operands : List ℤ = pos c.args.t ∷ pos c.args.displacement ∷ pos 3 ∷ [] in
    row-word (codes "stw") 133 DRtDRa operands c.place.result.items c.word_of.result stw-row c.place.ensures c.word_of.ensures
