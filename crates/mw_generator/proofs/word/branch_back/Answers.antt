use Rattle.std.proofs.Common.{[], ◌∷◌, ℤ, pos, neg_ℤ, ◌*◌, List}
use Rattle.std.specs.Prelude.{codes}
use Rattle.mw_tables.specs.declared.layout.Layout.TheVariants.{ITarget}
use Rattle.mw_generator.proofs.WordLemmas.{row-IsInsn, row-word, b-row, back-InRange}
use Rattle.mw_generator.proofs.word.branch_back.Goals as goal

-- the operands are in range
pub word_of-requires : goal.word_of-requires
word_of-requires c =
    let operands : List ℤ = neg_ℤ (pos (4 * c.args.words)) ∷ [] in
    row-IsInsn (codes "b") 17 ITarget operands c.backwards.result.items b-row c.backwards.ensures (back-InRange c.args.words c.requires, tt)

-- the row has this name
pub returns : goal.returns
returns c =
    let operands : List ℤ = neg_ℤ (pos (4 * c.args.words)) ∷ [] in
    row-word (codes "b") 17 ITarget operands c.backwards.result.items c.word_of.result b-row c.backwards.ensures c.word_of.ensures
