use Rattle.std.proofs.Common.{◌≡◌, Ok, Err, sym, ap, ◌∙◌}
use Rattle.std.proofs.lemmas.Result.{IfOk-weaker, IfErr-weaker}
use Rattle.mw_asm.specs.Assembled.{assembled, first_pass, lines_of, place_past}
use Rattle.mw_asm.specs.Passes.{IfBad, start}
use Rattle.mw_asm.proofs.AssembledLemmas.{assembled-long, assembled-second, assembled-first, IfBad-weaker}
use Rattle.mw_asm.proofs.assembler.pass_twice.Goals as goal

pub returns-then-source-gt-SOURCE_LIMIT-clause-bad : goal.returns-then-source-gt-SOURCE_LIMIT-clause-bad
returns-then-source-gt-SOURCE_LIMIT-clause-bad c =
    IfBad-weaker c.past.result (λ place. place ≡ place_past c.args.source.now) (λ place. assembled c.args.source.now ≡ Err place)
    (λ place is. assembled-long c.args.source.now c.if-source-gt-SOURCE_LIMIT.true ∙ ap Err (sym is))
    c.past.ensures

pub returns-in-Ok-clause-ok : goal.returns-in-Ok-clause-ok
returns-in-Ok-clause-ok c =
    let second = assembled-second c.args.source.now c.in-Ok.labels c.if-source-gt-SOURCE_LIMIT.false c.in-Ok.ensures.ok in
    IfOk-weaker c.write_lines.result _ (λ bytes. assembled c.args.source.now ≡ Ok bytes) (λ bytes is. second ∙ is) c.write_lines.ensures.ok

pub returns-in-Ok-clause-bad : goal.returns-in-Ok-clause-bad
returns-in-Ok-clause-bad c =
    let second = assembled-second c.args.source.now c.in-Ok.labels c.if-source-gt-SOURCE_LIMIT.false c.in-Ok.ensures.ok in
    IfErr-weaker c.write_lines.result _ (λ fault. IfBad fault (λ place. assembled c.args.source.now ≡ Err place))
    (λ fault. IfBad-weaker fault _ (λ place. assembled c.args.source.now ≡ Err place) (λ place is. second ∙ is))
    c.write_lines.ensures.err

pub returns-in-Err-clause-bad : goal.returns-in-Err-clause-bad
returns-in-Err-clause-bad c =
    IfBad-weaker c.in-Err.fault (λ place. first_pass 1 start (lines_of c.args.source.now) ≡ Err place) (λ place. assembled c.args.source.now ≡ Err place)
    (λ place is. assembled-first c.args.source.now place c.if-source-gt-SOURCE_LIMIT.false is)
    c.in-Err.ensures.err
