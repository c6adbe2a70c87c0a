use Rattle.std.proofs.Common.{length, take, ◌-◌, ◌≡◌, ◌≤◌}
use Rattle.mw_io.specs.Outside.{with_more}
use Rattle.mw_io.proofs.whole.write_all.Given as goal

abbrev pub invariant-loop-at : goal.invariant-loop-at
invariant-loop-at g l = record {
  within : l.at ≤ length l.bytes;
  taken : (g.S.Sink.state l.sink).taken ≡ with_more (g.S.Sink.state l.fn.sink).taken (take l.at l.bytes);
  faults : (g.S.Sink.state l.sink).faults ≡ (g.S.Sink.state l.fn.sink).faults;
  wants : (g.S.Sink.state l.sink).wants ≡ (g.S.Sink.state l.fn.sink).wants;
}

abbrev pub decreases-loop-at : goal.decreases-loop-at
decreases-loop-at g l = length l.bytes - l.at
