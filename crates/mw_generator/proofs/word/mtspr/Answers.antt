use Rattle.std.proofs.Common.{[], ◌∷◌, ℤ, pos, List}
use Rattle.std.specs.Prelude.{codes}
use Rattle.mw_tables.specs.declared.layout.Layout.TheVariants.{XfxSprRs}
use Rattle.mw_generator.proofs.WordLemmas.{row-IsInsn, row-word, mtspr-row, register-InRange, spr-InRange}
use Rattle.mw_generator.proofs.word.mtspr.Goals as goal

-- the operands are in range
pub word_of-requires : goal.word_of-requires
word_of-requires c =
    let operands : List ℤ = pos c.args.spr ∷ pos c.args.rs ∷ [] in
    row-IsInsn (codes "mtspr") 209 XfxSprRs operands c.special.result.items mtspr-row c.special.ensures (spr-InRange c.args.spr c.requires.special, (register-InRange c.args.rs c.requires.source, tt))

-- the row has this name
pub returns : goal.returns
returns c =
    let operands : List ℤ = pos c.args.spr ∷ pos c.args.rs ∷ [] in
    row-word (codes "mtspr") 209 XfxSprRs operands c.special.result.items c.word_of.result mtspr-row c.special.ensures c.word_of.ensures
