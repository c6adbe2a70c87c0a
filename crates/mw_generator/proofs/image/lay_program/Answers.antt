use Rattle.std.proofs.Common.{◌≡◌, ℕ, suc, ◌+◌, ◌-◌, sym, ap, ◌∙◌, arith}
use Rattle.mw_generator.specs.Generated.{with_word, with_words, program}
use Rattle.mw_generator.proofs.LayingLemmas.{program-next, program-end}
use Rattle.mw_generator.proofs.image.lay_program.Goals as goal

-- the word that was laid is the first of those that were left
pub loop-done-preserved : goal.loop-done-preserved
loop-done-preserved c =
    let at : ℕ = c.loop-done.next in
    let left : suc (c.args.count - (c.loop-done.done + 1)) ≡ c.args.count - c.loop-done.done = omega (arith, c.loop-done-test.true) in
    record {
      place = omega (arith, c.loop-done.invariant.place);
      whole = c.lay_word.ensures.whole ∙ c.loop-done.invariant.whole;
      same =
          ap (λ x. with_words (at + 4) (program (c.args.count - (c.loop-done.done + 1)) x) c.lay_word.new.image) c.drawn_word-word.ensures.number
          ∙ ap (with_words (at + 4) (program (c.args.count - (c.loop-done.done + 1)) _)) (c.lay_word.ensures.image ∙ ap (λ w. with_word at w c.loop-done.image) c.drawn_word-word.ensures.word)
          ∙ sym (program-next (c.args.count - (c.loop-done.done + 1)) (c.args.count - c.loop-done.done) at c.loop-done.draws c.loop-done.image left)
          ∙ c.loop-done.invariant.same;
    }

-- behind the last instruction the branch back is all that was left
pub returns-clause-image : goal.returns-clause-image
returns-clause-image c =
    let none : c.args.count - c.loop-done.done ≡ 0 = omega (arith, c.loop-done-test.false) in
    c.lay_word-2.ensures.image
    ∙ ap (λ w. with_word c.loop-done.next w c.loop-done.image) c.back.ensures
    ∙ sym (program-end (c.args.count - c.loop-done.done) c.loop-done.next c.loop-done.draws c.loop-done.image none)
    ∙ c.loop-done.invariant.same
