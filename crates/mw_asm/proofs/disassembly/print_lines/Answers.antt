use Rattle.std.proofs.Common.{◌<◌, ◌≤◌, ◌++◌, ap, sym, ◌∙◌, arith}
use Rattle.mw_asm.specs.Disassembly.{word_count}
use Rattle.mw_asm.proofs.DisassemblyLemmas.{lines-all, lines-suffix, lines-word, lines-none, piece-more, piece-none}
use Rattle.mw_asm.proofs.disassembly.print_lines.Goals as goal
use Rattle.mw_asm.proofs.disassembly.print_lines.Goals.{then-is_suffix, else-is_suffix+in_ok-is_suffix}

pub loop-place-init : goal.loop-place-init
loop-place-init c = rw c.new-text.ensures (lines-all c.args.image.now)

pub loop-place-preserved : goal.loop-place-preserved
loop-place-preserved c =
    let image = c.args.image.now in
    let place = c.loop-place.place in
    let text = c.loop-place.text in
    let inside : place < word_count image = omega arith in
    elim c.if-is_suffix.branch [
      | then-is_suffix w ↦ rw (w.text-is, w.is_suffix-is) (ap (λ lines. text ++ lines) (sym (lines-suffix (word_count image) place image inside)) ∙ rw w.if-is_suffix.true at c.loop-place.invariant)
      | else-is_suffix+in_ok-is_suffix w ↦ rw (w.text-is, w.is_suffix-is, w.in_ok-is_suffix.ensures.pair) (piece-more text _ _ _ _ _ w.in_ok-is_suffix.ensures.line (lines-word (word_count image) place image inside) (rw w.if-is_suffix.false at c.loop-place.invariant))
    ]

pub returns : goal.returns
returns c =
    let end : word_count c.args.image.now ≤ c.loop-place.place = omega arith in
    piece-none c.loop-place.text _ _ (lines-none (word_count c.args.image.now) c.loop-place.place c.loop-place.is_suffix c.args.image.now _ end) c.loop-place.invariant
