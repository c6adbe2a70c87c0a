use Rattle.std.proofs.Common.{◌≡◌, ◌-◌, ◌≤◌, length}
use Rattle.mw_syntax.specs.Lines.{values_at}
use Rattle.mw_syntax.proofs.ReadingLemmas.{behind}
use Rattle.mw_syntax.proofs.data.read_values.Given as goal

abbrev pub invariant-loop : goal.invariant-loop
invariant-loop l = record {
  inside : l.place ≤ length l.tokens;
  end : l.end ≡ length l.tokens;
  same : behind l.values (values_at (l.end - l.counter) l.line l.tokens l.place) ≡ values_at (length l.tokens) l.line l.tokens l.start;
}
