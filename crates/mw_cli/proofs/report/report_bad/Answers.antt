use Rattle.std.proofs.Common.{ℕ, inr, List, ◌++◌, codes, subst}
use Rattle.mw_cli.specs.Verdict.{place_line}
use Rattle.mw_cli.specs.Outside.{change, TookUnlessFault}
use Rattle.mw_cli.proofs.WritingLemmas.{both-cases, first-stopped, took_or_stopped}
use Rattle.mw_cli.proofs.report.report_bad.Goals as goal

pub returns-then-write_three-clause-took : goal.returns-then-write_three-clause-took
returns-then-write_three-clause-took g c =
    subst (λ (name : List ℕ). TookUnlessFault (change (g.S.Sink.state c.args.err.now) (g.S.Sink.state c.write_place.new.sink)) (codes "mw: " ++ name ++ codes ":" ++ place_line c.args.line c.args.column)) c.as_bytes.ensures.value
    (took_or_stopped c.write_place.result _ _ (both-cases c.write_place.result _ _ _ (codes "mw: " ++ c.as_bytes.result.now ++ codes ":") (place_line c.args.line c.args.column) c.write_three.ensures.faults c.write_three.ensures.wants c.if-write_three.ensures.cases c.write_place.ensures.cases))

pub returns-else-write_three-clause-took : goal.returns-else-write_three-clause-took
returns-else-write_three-clause-took g c =
    subst (λ (name : List ℕ). TookUnlessFault (change (g.S.Sink.state c.args.err.now) (g.S.Sink.state c.write_three.new.sink)) (codes "mw: " ++ name ++ codes ":" ++ place_line c.args.line c.args.column)) c.as_bytes.ensures.value
    (inr (first-stopped _ (codes "mw: " ++ c.as_bytes.result.now ++ codes ":") (place_line c.args.line c.args.column) c.if-write_three.ensures.cases))
