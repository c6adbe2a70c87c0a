use Rattle.std.proofs.Common.{◌≡◌, ℕ, List, ◌+◌, ◌*◌, ◌/◌, ◌≤◌, ap, ◌∙◌, arith}
use Rattle.mw_soc.specs.DeviceData.{Housed}
use Rattle.mw_soc.specs.Devices.{start_devices}
use Rattle.mw_discipline.specs.Monitored.{Monitored}
use Rattle.mw_isa.specs.declared.event.End.TheVariants.{Offence}
use Rattle.mw_isa.specs.declared.state.State.{State as Whole}
use Rattle.mw_isa.specs.State.{seen}
use Rattle.mw_board.proofs.RunLemmas.{seen-start, made-init, made-next, made-end, made-offence}
use Rattle.mw_board.proofs.simulation.simulate.Goals as goal

-- devices at the start, with memory for so many bytes
abbrev housed : ℕ → List (ℕ × ℕ) → Housed
housed room script = record { devices = start_devices script; room = room }

-- devices with a copy of a script are devices with the script
copied : (room : ℕ) (copy script : List (ℕ × ℕ)) → copy ≡ script → housed room copy ≡ housed room script
copied room copy script e = ap (housed room) e

-- nothing was added at the beginning
none-added : (added : ℕ) → added ≡ 0 → added ≤ 6 * 0
none-added added e = omega arith

-- at most six are added in a cycle
few-added : (before after cycle : ℕ) → before ≤ 6 * cycle → after ≤ before + 6 → after ≤ 6 * (cycle + 1)
few-added before after cycle b a = omega arith

pub loop-cycle-init : goal.loop-cycle-init
loop-cycle-init c = (
  made-init (record { image = c.args.image.now; script = c.args.script.now }) c.new-events.result c.in-Ok-new-2.monitor.kept (seen c.new-state.result) c.new-events.ensures (ap (λ (m : Monitored). m.kept) c.in-Ok-new-2.ensures)
      (seen-start (record { image = c.args.image.now; script = c.args.script.now }) (c.args.n / 160) c.new-state.result c.in-Ok.ram c.in-Ok-new.devices c.new-state.ensures c.in-Ok.ensures (c.in-Ok-new.ensures ∙ copied (c.args.n / 160) c.in-Ok-copy.script c.args.script.now c.in-Ok-copy.ensures)),
  ap (λ (w : Whole). w.devices.room) c.new-state.ensures ∙ ap (λ (h : Housed). h.room) c.in-Ok-new.ensures,
  none-added c.in-Ok-new-2.monitor.added (ap (λ (m : Monitored). m.added) c.in-Ok-new-2.ensures),
)

pub loop-cycle-preserved : goal.loop-cycle-preserved
loop-cycle-preserved c = (
  made-next (record { image = c.args.image.now; script = c.args.script.now }) c.loop-cycle.events c.push.new.self c.loop-cycle.cycle c.in-Ok-turned.event c.loop-cycle.monitor.kept c.turned.new.monitor.kept (seen c.loop-cycle.state) (seen c.turned.new.state) c.advance.new.self.devices c.loop-cycle.invariant.0 (ap (λ (h : Housed). h.devices) c.advance.ensures) c.in-Ok-turned.ensures.ok c.in-Ok-push.ensures.ok,
  c.in-Ok-turned.ensures.room ∙ ap (λ (h : Housed). h.room) c.advance.ensures ∙ c.loop-cycle.invariant.1,
  few-added c.loop-cycle.monitor.added c.turned.new.monitor.added c.loop-cycle.cycle c.loop-cycle.invariant.2 c.in-Ok-turned.ensures.added,
)

pub returns-in-Err-Offence-clause-runs : goal.returns-in-Err-Offence-clause-runs
returns-in-Err-Offence-clause-runs c =
    made-offence (record { image = c.args.image.now; script = c.args.script.now }) c.args.n c.loop-cycle.events c.offended.result.events c.loop-cycle.cycle c.in-Err-Offence.access c.in-Err-Offence.field-0 c.offended.result.end c.loop-cycle.monitor.kept (seen c.loop-cycle.state) (seen c.turned.new.state) (seen c.offended.result.state) c.advance.new.self.devices c.loop-cycle.invariant.0 c.loop-cycle-test.true (omega arith) (ap (λ (h : Housed). h.devices) c.advance.ensures) c.in-Err-Offence.field-0-is c.in-Err-Offence.ensures.halt c.offended.ensures.events (c.offended.ensures.end ∙ ap (Offence c.loop-cycle.cycle) c.in-Err-Offence.access-is) c.offended.ensures.last

pub returns-clause-runs : goal.returns-clause-runs
returns-clause-runs c =
    made-end (record { image = c.args.image.now; script = c.args.script.now }) c.args.n c.loop-cycle.events c.stopped.result.events c.loop-cycle.cycle c.stopped.result.end c.loop-cycle.monitor.kept (seen c.loop-cycle.state) (seen c.stopped.result.state) c.loop-cycle.invariant.0 (omega arith) (omega arith) c.stopped.ensures.events c.stopped.ensures.end c.stopped.ensures.last
