use Rattle.std.proofs.Common.{ℕ, ◌+◌, List, ap, ◌∙◌, drop, arith, length-take, length-drop}
use Rattle.mw_text.specs.Lines.{tokens_from}
use Rattle.mw_text.specs.declared.token.Token.{Token}
use Rattle.mw_text.proofs.LineLemmas.{with_tokens, over-blank, over-token, at-comment, at-bad, at-end}
use Rattle.mw_text.proofs.SpanLemmas.{tokens_of-spans, tokens_of-within}
use Rattle.mw_text.proofs.TokenLemmas.{tokens_of-tokens, tokens_of-refused}
use Rattle.mw_text.proofs.TextLemmas.{tokens_of-longest}
use Rattle.mw_text.proofs.line.read_line.Goals as goal

pub loop-at-preserved-in-Blank : goal.loop-at-preserved-in-Blank
loop-at-preserved-in-Blank c = record {
  within = omega arith;
  same = over-blank _ _ _ _ c.loop-at-test.true c.in-Blank.ensures.value c.loop-at.invariant.same;
}

pub loop-at-preserved : goal.loop-at-preserved
loop-at-preserved c = record {
  within = omega (arith, c.in-Found.ensures.fits, length-take {A = ℕ}, length-drop {A = ℕ});
  same =
      let pushed = c.in_ok-push-in-Found.ensures {u = tt} in
      ap (λ (tokens : List Token). with_tokens tokens (tokens_from (drop (c.loop-at.at + c.in-Found.length) c.args.line.now) 0 (c.loop-at.at + c.in-Found.length))) pushed.ok
      ∙ over-token _ _ _ _ _ _ c.loop-at-test.true c.in-Found.ensures.value c.in-Found.ensures.fits.0 c.loop-at.invariant.same;
}

pub returns-in-Comment-clause-tokens : goal.returns-in-Comment-clause-tokens
returns-in-Comment-clause-tokens c = at-comment _ _ _ _ c.loop-at-test.true c.in-Comment.ensures.value c.loop-at.invariant.same

pub returns-in-Comment-clause-spans : goal.returns-in-Comment-clause-spans
returns-in-Comment-clause-spans c = tokens_of-spans _ _ (at-comment _ _ _ _ c.loop-at-test.true c.in-Comment.ensures.value c.loop-at.invariant.same)

pub returns-in-Bad-clause-bad : goal.returns-in-Bad-clause-bad
returns-in-Bad-clause-bad c = at-bad _ _ _ _ c.loop-at-test.true c.in-Bad.ensures.value c.loop-at.invariant.same

pub returns-clause-tokens : goal.returns-clause-tokens
returns-clause-tokens c = at-end _ _ _ _ c.loop-at-test.false c.loop-at.invariant.same

pub returns-clause-spans : goal.returns-clause-spans
returns-clause-spans c = tokens_of-spans _ _ (at-end _ _ _ _ c.loop-at-test.false c.loop-at.invariant.same)

pub returns-in-Comment-clause-each : goal.returns-in-Comment-clause-each
returns-in-Comment-clause-each c = tokens_of-tokens _ _ (at-comment _ _ _ _ c.loop-at-test.true c.in-Comment.ensures.value c.loop-at.invariant.same)

pub returns-in-Bad-clause-refused : goal.returns-in-Bad-clause-refused
returns-in-Bad-clause-refused c = tokens_of-refused _ _ (at-bad _ _ _ _ c.loop-at-test.true c.in-Bad.ensures.value c.loop-at.invariant.same)

pub returns-clause-each : goal.returns-clause-each
returns-clause-each c = tokens_of-tokens _ _ (at-end _ _ _ _ c.loop-at-test.false c.loop-at.invariant.same)

pub returns-in-Comment-clause-longest : goal.returns-in-Comment-clause-longest
returns-in-Comment-clause-longest c = tokens_of-longest _ _ (at-comment _ _ _ _ c.loop-at-test.true c.in-Comment.ensures.value c.loop-at.invariant.same)

pub returns-clause-longest : goal.returns-clause-longest
returns-clause-longest c = tokens_of-longest _ _ (at-end _ _ _ _ c.loop-at-test.false c.loop-at.invariant.same)

pub returns-in-Comment-clause-within : goal.returns-in-Comment-clause-within
returns-in-Comment-clause-within c = tokens_of-within _ _ (at-comment _ _ _ _ c.loop-at-test.true c.in-Comment.ensures.value c.loop-at.invariant.same)

pub returns-clause-within : goal.returns-clause-within
returns-clause-within c = tokens_of-within _ _ (at-end _ _ _ _ c.loop-at-test.false c.loop-at.invariant.same)
