use Rattle.std.proofs.Common.{[], ◌∷◌, ℤ, pos, List, arith, ◌≡◌, ◌∙◌, ap}
use Rattle.std.specs.Prelude.{codes}
use Rattle.std.specs.Int.{w16}
use Rattle.std.proofs.lemmas.Int.{to_z-of_z}
use Rattle.mw_tables.specs.declared.layout.Layout.TheVariants.{DRtRaSi}
use Rattle.mw_generator.proofs.WordLemmas.{row-IsInsn, row-word, addis-row, register-InRange, si16-InRange}
use Rattle.mw_generator.proofs.word.lis.Goals as goal

-- the operands are in range
pub word_of-requires : goal.word_of-requires
word_of-requires c =
    let operands : List ℤ = pos c.args.rt ∷ pos 0 ∷ c.args.si ∷ [] in
    let same : c.with_si.result.items ≡ operands = c.with_si.ensures ∙ ap (λ (z : ℤ). pos c.args.rt ∷ pos 0 ∷ z ∷ []) (to_z-of_z w16 c.args.si c.ranges.si) in
    row-IsInsn (codes "addis") 1 DRtRaSi operands c.with_si.result.items addis-row same (register-InRange c.args.rt c.requires, (register-InRange 0 (omega arith), (si16-InRange c.args.si c.ranges.si, tt)))

-- the row has this name
pub returns : goal.returns
returns c =
    let operands : List ℤ = pos c.args.rt ∷ pos 0 ∷ c.args.si ∷ [] in
    let same : c.with_si.result.items ≡ operands = c.with_si.ensures ∙ ap (λ (z : ℤ). pos c.args.rt ∷ pos 0 ∷ z ∷ []) (to_z-of_z w16 c.args.si c.ranges.si) in
    row-word (codes "addis") 1 DRtRaSi operands c.with_si.result.items c.word_of.result addis-row same c.word_of.ensures
