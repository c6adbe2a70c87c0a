use Rattle.std.proofs.Common.{◌≡◌, ◌≤◌, ◌*◌, ◌/◌}
use Rattle.mw_isa.specs.State.{seen}
use Rattle.mw_board.proofs.RunLemmas.{IsMade}
use Rattle.mw_board.proofs.simulation.simulate.Given as goal

-- the events so far lead to the state and to what the monitor keeps, there is room for all bytes that the UART sends, and few
-- translations were added
abbrev pub invariant-loop-cycle : goal.invariant-loop-cycle
invariant-loop-cycle l =
    IsMade (record { image = l.image; script = l.fn.script }) l.events l.cycle l.monitor.kept (seen l.state)
    × (l.state.devices.room ≡ l.n / 160)
    × (l.monitor.added ≤ 6 * l.cycle)
