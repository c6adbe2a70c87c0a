use Rattle.std.proofs.Common.{[], ◌∷◌, ℤ, pos, ◌*◌, List, arith}
use Rattle.std.specs.Prelude.{codes}
use Rattle.mw_tables.specs.declared.layout.Layout.TheVariants.{DsRtDRa}
use Rattle.mw_generator.proofs.WordLemmas.{row-IsInsn, row-word, ld-row, ds-InRange, register-InRange}
use Rattle.mw_generator.proofs.word.ld.Goals as goal

-- the operands are in range
pub word_of-requires : goal.word_of-requires
word_of-requires c =
    let operands : List ℤ = pos c.args.t ∷ pos (8 * c.args.doubleword) ∷ pos 3 ∷ [] in
    row-IsInsn (codes "ld") 143 DsRtDRa operands c.place.result.items ld-row c.place.ensures (register-InRange c.args.t c.requires.register, (ds-InRange c.args.doubleword c.requires.near, (register-InRange 3 (omega arith), tt)))

-- the row has this name
pub returns : goal.returns
returns c =
    let operands : List ℤ = pos c.args.t ∷ pos (8 * c.args.doubleword) ∷ pos 3 ∷ [] in
    row-word (codes "ld") 143 DsRtDRa operands c.place.result.items c.word_of.result ld-row c.place.ensures c.word_of.ensures
