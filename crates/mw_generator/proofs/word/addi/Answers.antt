use Rattle.std.proofs.Common.{[], ◌∷◌, ℤ, pos, List, ◌≡◌, ◌∙◌, ap}
use Rattle.std.specs.Prelude.{codes}
use Rattle.std.specs.Int.{w16}
use Rattle.std.proofs.lemmas.Int.{to_z-of_z}
use Rattle.mw_tables.specs.declared.layout.Layout.TheVariants.{DRtRaSi}
use Rattle.mw_generator.proofs.WordLemmas.{row-IsInsn, row-word, addi-row, register-InRange, si16-InRange}
use Rattle.mw_generator.proofs.word.addi.Goals as goal

-- the operands are in range
pub word_of-requires : goal.word_of-requires
word_of-requires c =
    let operands : List ℤ = pos c.args.rt ∷ pos c.args.ra ∷ c.args.si ∷ [] in
    let same : c.with_si.result.items ≡ operands = c.with_si.ensures ∙ ap (λ (z : ℤ). pos c.args.rt ∷ pos c.args.ra ∷ z ∷ []) (to_z-of_z w16 c.args.si c.ranges.si) in
    row-IsInsn (codes "addi") 0 DRtRaSi operands c.with_si.result.items addi-row same (register-InRange c.args.rt c.requires.target, (register-InRange c.args.ra c.requires.source, (si16-InRange c.args.si c.ranges.si, tt)))

-- the row has this name
pub returns : goal.returns
returns c =
    let operands : List ℤ = pos c.args.rt ∷ pos c.args.ra ∷ c.args.si ∷ [] in
    let same : c.with_si.result.items ≡ operands = c.with_si.ensures ∙ ap (λ (z : ℤ). pos c.args.rt ∷ pos c.args.ra ∷ z ∷ []) (to_z-of_z w16 c.args.si c.ranges.si) in
    row-word (codes "addi") 0 DRtRaSi operands c.with_si.result.items c.word_of.result addi-row same c.word_of.ensures
