use Rattle.std.proofs.Common.{rules, arith, ◌∙◌}
use Rattle.mw_io.proofs.Pieces.{told_again, told_front, told_all, told_end, told_on, Counts-ok}
use Rattle.mw_io.proofs.whole.read_up_to.Goals as goal
use Rattle.mw_io.proofs.whole.read_up_to.Goals.{else-loop-buf-test, then-loop-buf-test+in_ok-read_piece+then-branch-eq0}

pub loop-buf-preserved : goal.loop-buf-preserved
loop-buf-preserved g c = record {
  within = omega (arith, c.in_ok-read_piece.ensures.within, c.in_ok-read_piece.ensures.len);
  joined = told_again _ _ _ _ _ _ _ _ c.loop-buf.invariant.same_files c.loop-buf.invariant.joined c.in_ok-read_piece.ensures.adds c.in_ok-read_piece.ensures.left;
  still_open = search rules;
  passed = told_on _ _ _ _ _ _ _ _ c.loop-buf.invariant.same_files c.loop-buf.invariant.passed c.in_ok-read_piece.ensures.left c.in_ok-read_piece.ensures.len;
  same_files = search rules;
  faults = Counts-ok _ _ _ _ c.in_ok-read_piece.ensures.cause ∙ c.loop-buf.invariant.faults;
  opened = c.in_ok-read_piece.ensures.opened ∙ c.loop-buf.invariant.opened;
  given = omega (arith, c.in_ok-read_piece.ensures.counted, c.in_ok-read_piece.ensures.len);
  sound = search rules;
}

pub returns-clause-bytes : goal.returns-clause-bytes
returns-clause-bytes g c = elim c.loop-buf-test.branch [
  | else-loop-buf-test w ↦ rw w.bytes-is (told_front _ _ _ _ _ c.loop-buf.invariant.joined (omega (arith, c.loop-buf.bytes.ok, c.loop-buf.invariant.within, w.loop-buf-test.false)))
  | then-loop-buf-test+in_ok-read_piece+then-branch-eq0 w ↦
      let e = w.in_ok-read_piece.ensures in
      rw w.bytes-is (told_all _ _ _ _ _ _ c.loop-buf.invariant.same_files
      (told_again _ _ _ _ _ _ _ _ c.loop-buf.invariant.same_files c.loop-buf.invariant.joined e.adds e.left)
      (told_end _ _ _ _ w.if-branch-eq0.true e.end e.left)
      (omega (arith, w.read_piece.new.bytes.ok, e.within, e.len)))
]
