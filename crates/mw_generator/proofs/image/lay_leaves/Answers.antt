use Rattle.std.proofs.Common.{◌≡◌, ℕ, suc, ◌+◌, ◌*◌, ◌-◌, sym, ap, ◌∙◌, arith}
use Rattle.mw_generator.specs.Generated.{leaves_at, with_leaves, with_doubleword}
use Rattle.mw_generator.proofs.LayingLemmas.{with_leaves-next}
use Rattle.mw_generator.proofs.image.lay_leaves.Goals as goal

-- the leaf that was laid is the first of those that were left
pub loop-page-preserved : goal.loop-page-preserved
loop-page-preserved c =
    let page : ℕ = c.loop-page.page in
    let left : suc (c.args.pages - (page + 1)) ≡ c.args.pages - page = omega (arith, c.loop-page-test.true) in
    record {
      whole = c.lay_doubleword.ensures.whole ∙ c.loop-page.invariant.whole;
      same =
          ap (with_leaves (c.args.pages - (page + 1)) c.args.turn (page + 1)) (c.lay_doubleword.ensures.image ∙ ap (λ d. with_doubleword (leaves_at + 8 * page) d c.loop-page.image) c.leaf.ensures)
          ∙ sym (with_leaves-next (c.args.pages - (page + 1)) (c.args.pages - page) c.args.turn page c.loop-page.image left)
          ∙ c.loop-page.invariant.same;
    }
