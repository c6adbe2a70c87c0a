use Rattle.std.proofs.Common.{◌≡◌, ℕ, ◌+◌, ◌-◌, ◌≤◌, List, length, take, drop, ◌∙◌, subst, arith}
use Rattle.mw_io.specs.Outside.{SinkState}
use Rattle.mw_isa.specs.declared.event.Event.{Event}
use Rattle.mw_isa.specs.Text.{event_lines}
use Rattle.mw_cli.specs.Outside.{change, Took}
use Rattle.mw_cli.specs.Stages.{IsWriteRefusal}
use Rattle.mw_cli.proofs.CauseLemmas.{unwritten, unwanted}
use Rattle.mw_cli.proofs.WritingLemmas.{lines-took, lines-refused}
use Rattle.mw_cli.proofs.writing.write_events.Goals as goal

pub loop-at-preserved : goal.loop-at-preserved
loop-at-preserved g c =
    let events : List Event = c.args.events.now in
    let at : ℕ = c.loop-at.at in
    let n : ℕ = c.min.result + at - at in
    let before : SinkState = g.S.Sink.state c.args.out.now in
    let now : SinkState = g.S.Sink.state c.loop-at.out in
    let after : SinkState = g.S.Sink.state c.write_out.new.out in
    let lines = c.as_slice.ensures.value ∙ c.set_lines.ensures in
    let second : Took (change now after) (event_lines (take n (drop at events))) = subst (λ (b : List ℕ). Took (change now after) b) lines c.in-Ok.ensures.took in
    let whole : at + n ≡ c.min.result + at = omega arith in
    let within : c.min.result + at ≤ length events = omega arith in (
      within,
      subst (λ (k : ℕ). Took (change before after) (event_lines (take k events))) whole (lines-took before now after events at n c.loop-at.invariant.1 second),
      unwritten _ _ c.in-Ok.ensures.faults ∙ c.loop-at.invariant.2,
      unwanted _ _ c.in-Ok.ensures.wants ∙ c.loop-at.invariant.3,
    )

pub returns-in-Err-clause-refused : goal.returns-in-Err-clause-refused
returns-in-Err-clause-refused g c =
    let events : List Event = c.args.events.now in
    let at : ℕ = c.loop-at.at in
    let n : ℕ = c.min.result + at - at in
    let before : SinkState = g.S.Sink.state c.args.out.now in
    let now : SinkState = g.S.Sink.state c.loop-at.out in
    let after : SinkState = g.S.Sink.state c.write_out.new.out in
    let lines = c.as_slice.ensures.value ∙ c.set_lines.ensures in
    let second : IsWriteRefusal (change now after) (event_lines (take n (drop at events))) c.in-Err.refusal = subst (λ (b : List ℕ). IsWriteRefusal (change now after) b c.in-Err.refusal) lines c.in-Err.ensures.refused in
    lines-refused before now after events at n c.in-Err.refusal c.loop-at.invariant.1 c.loop-at.invariant.3 second
