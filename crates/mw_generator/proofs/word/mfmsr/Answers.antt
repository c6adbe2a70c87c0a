use Rattle.std.proofs.Common.{[], ◌∷◌, ℤ, pos, List}
use Rattle.std.specs.Prelude.{codes}
use Rattle.mw_tables.specs.declared.layout.Layout.TheVariants.{XRt}
use Rattle.mw_generator.proofs.WordLemmas.{row-IsInsn, row-word, mfmsr-row, register-InRange}
use Rattle.mw_generator.proofs.word.mfmsr.Goals as goal

-- the operands are in range
pub word_of-requires : goal.word_of-requires
word_of-requires c =
    let operands : List ℤ = pos c.args.rt ∷ [] in
    row-IsInsn (codes "mfmsr") 203 XRt operands c.register.result.items mfmsr-row c.register.ensures (register-InRange c.args.rt c.requires, tt)

-- the row has this name
pub returns : goal.returns
returns c =
    let operands : List ℤ = pos c.args.rt ∷ [] in
    row-word (codes "mfmsr") 203 XRt operands c.register.result.items c.word_of.result mfmsr-row c.register.ensures c.word_of.ensures
