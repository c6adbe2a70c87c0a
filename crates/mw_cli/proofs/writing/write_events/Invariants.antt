use Rattle.std.proofs.Common.{◌≡◌, ◌-◌, ◌≤◌, take, length}
use Rattle.mw_isa.specs.Text.{event_lines}
use Rattle.mw_cli.specs.Outside.{change, Took}
use Rattle.mw_cli.proofs.writing.write_events.Given as goal

-- out took the lines of the events so far, and neither count rose
abbrev pub invariant-loop-at : goal.invariant-loop-at
invariant-loop-at g l =
    (l.at ≤ length l.events) × Took (change (g.S.Sink.state l.initial.out) (g.S.Sink.state l.out)) (event_lines (take l.at l.events))
    × ((g.S.Sink.state l.out).faults ≡ (g.S.Sink.state l.initial.out).faults) × ((g.S.Sink.state l.out).wants ≡ (g.S.Sink.state l.initial.out).wants)

abbrev pub decreases-loop-at : goal.decreases-loop-at
decreases-loop-at g l = length l.events - l.at
