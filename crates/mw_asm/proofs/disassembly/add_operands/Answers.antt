use Rattle.std.proofs.Common.{arith, rules, ap, ◌∙◌, ◌++◌, sym, ◌≤◌, length}
use Rattle.std.specs.Prelude.{ℤ, FitsSigned}
use Rattle.std.specs.Int.{w64}
use Rattle.std.proofs.lemmas.Int.{to_z-of_z}
use Rattle.std.proofs.lemmas.Bool.{ltb-false, ltb-true}
use Rattle.mw_syntax.specs.declared.item.Kind.TheVariants.{Register}
use Rattle.mw_syntax.specs.declared.item.Item.TheVariants.{Operand}
use Rattle.mw_asm.specs.Disassembly.{operand_text}
use Rattle.mw_asm.proofs.DisassemblyLemmas.{text-without, text-operand, text-comma, text-open, text-close, text-end, piece-more, piece-none}
use Rattle.mw_asm.proofs.disassembly.add_operands.Goals as goal
use Rattle.mw_asm.proofs.disassembly.add_operands.Goals.{in-Operand+in-Some+in_ok-add_operand-in-Operand, in-Comma+in_ok-add-in-Comma, in-Open+in_ok-add-in-Open, in-Close+in_ok-add-in-Close}

pub returns-in_default : goal.returns-in_default
returns-in_default c =
    let kept = c.loop-item.invariant in
    let none : length c.args.operands.now ≤ c.loop-item.place = ltb-false _ _ (sym c.in_default.ensures.lookup.0) in
    piece-none c.loop-item.text _ _ (text-without c.args.items.now c.loop-item.item-index (Operand Register) c.in-Operand.kind c.args.operands.now c.loop-item.place c.args.absolute c.args.at c.loop-item-test.true c.in-Operand.is none) kept.same

pub loop-item-preserved : goal.loop-item-preserved
loop-item-preserved c =
    let kept = c.loop-item.invariant in
    elim c.match-item.branch [
      | in-Operand+in-Some+in_ok-add_operand-in-Operand w ↦
          (let z = w.in-Some.operand.now in
          let fits : FitsSigned w64 z = search rules in
          record {
            few = rw w.place-is (omega arith);
            same = rw (w.text-is, w.place-is) (piece-more c.loop-item.text _ _ _ _ _ (w.in_ok-add_operand-in-Operand.ensures ∙ ap (λ (v : ℤ). c.loop-item.text ++ operand_text w.in-Operand.kind c.args.absolute c.args.at v) (to_z-of_z w64 z fits)) (text-operand c.args.items.now c.loop-item.item-index (Operand Register) w.in-Operand.kind c.args.operands.now c.loop-item.place w.in-Some.operand.now c.args.absolute c.args.at c.loop-item-test.true w.in-Operand.is (ltb-true _ _ (sym w.in-Some.ensures.lookup.0)) w.in-Some.ensures.lookup.1) kept.same);
          })
      | in-Comma+in_ok-add-in-Comma w ↦ record {
        few = rw w.place-is (omega arith);
        same = rw (w.text-is, w.place-is) (piece-more c.loop-item.text _ _ _ _ _ w.in_ok-add-in-Comma.ensures.ok (text-comma c.args.items.now c.loop-item.item-index (Operand Register) _ c.args.absolute c.args.at c.loop-item-test.true w.in-Comma.is) kept.same);
      }
      | in-Open+in_ok-add-in-Open w ↦ record {
        few = rw w.place-is (omega arith);
        same = rw (w.text-is, w.place-is) (piece-more c.loop-item.text _ _ _ _ _ w.in_ok-add-in-Open.ensures.ok (text-open c.args.items.now c.loop-item.item-index (Operand Register) _ c.args.absolute c.args.at c.loop-item-test.true w.in-Open.is) kept.same);
      }
      | in-Close+in_ok-add-in-Close w ↦ record {
        few = rw w.place-is (omega arith);
        same = rw (w.text-is, w.place-is) (piece-more c.loop-item.text _ _ _ _ _ w.in_ok-add-in-Close.ensures.ok (text-close c.args.items.now c.loop-item.item-index (Operand Register) _ c.args.absolute c.args.at c.loop-item-test.true w.in-Close.is) kept.same);
      }
    ]

pub returns : goal.returns
returns c =
    let kept = c.loop-item.invariant in
    piece-none c.loop-item.text _ _ (text-end c.args.items.now c.loop-item.item-index _ c.args.absolute c.args.at c.loop-item-test.false) kept.same
