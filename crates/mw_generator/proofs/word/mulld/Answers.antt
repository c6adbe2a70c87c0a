use Rattle.std.proofs.Common.{[], ◌∷◌, ℤ, pos, List}
use Rattle.std.specs.Prelude.{codes}
use Rattle.mw_tables.specs.declared.layout.Layout.TheVariants.{XRtRaRb}
use Rattle.mw_generator.proofs.WordLemmas.{row-IsInsn, row-word, mulld-row, register-InRange}
use Rattle.mw_generator.proofs.word.mulld.Goals as goal

-- the operands are in range
pub word_of-requires : goal.word_of-requires
word_of-requires c =
    let operands : List ℤ = pos c.args.t ∷ pos c.args.a ∷ pos c.args.b ∷ [] in
    row-IsInsn (codes "mulld") 55 XRtRaRb operands c.registers.result.items mulld-row c.registers.ensures (register-InRange c.args.t c.requires.registers.0, (register-InRange c.args.a c.requires.registers.1, (register-InRange c.args.b c.requires.registers.2, tt)))

-- the row has this name
pub returns : goal.returns
returns c =
    let operands : List ℤ = pos c.args.t ∷ pos c.args.a ∷ pos c.args.b ∷ [] in
    row-word (codes "mulld") 55 XRtRaRb operands c.registers.result.items c.word_of.result mulld-row c.registers.ensures c.word_of.ensures
