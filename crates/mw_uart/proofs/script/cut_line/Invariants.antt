use Rattle.std.proofs.Common.{◌≡◌, ℕ, ◌<◌, false, get_or}
use Rattle.mw_uart.proofs.CutLemmas.{is_feed}
use Rattle.mw_uart.proofs.script.cut_line.Given as goal

abbrev pub invariant-loop-place : goal.invariant-loop-place
invariant-loop-place l = (k : ℕ) → k < l.place → is_feed (get_or l.text k 0) ≡ false
