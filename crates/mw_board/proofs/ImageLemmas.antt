-- What a run of an image and a script is, told without a boot.
use Rattle.std.proofs.Common.{◌≡◌, ℕ, ◌<◌, ◌≤◌, List, length, All, Some, option_map}
use Rattle.std.specs.List.Sorted.{IsStrictlyIncreasing}
use Rattle.mw_bus.specs.Memory.{ram_size, ram_of}
use Rattle.mw_soc.specs.Devices.{start_devices}
use Rattle.mw_isa.specs.declared.event.Event.{Event}
use Rattle.mw_isa.specs.declared.event.End.{End}
use Rattle.mw_isa.specs.State.{State, brought}
use Rattle.mw_isa.specs.Start.{start, start_regs}
use Rattle.mw_isa.specs.Replay.{cycles_of, replay, state_after}
use Rattle.mw_isa.specs.Prompt.{IsPrompt}
use Rattle.mw_isa.specs.Lively.{IsLively}
use Rattle.mw_isa.specs.Discipline.{nothing_kept}
use Rattle.mw_isa.specs.Disciplined.{IsDisciplined, OffendsBy, kept_after}
use Rattle.mw_isa.specs.Stops.{stop_of, StopsBy}
use Rattle.mw_isa.specs.Runs.{Runs}

-- the machine at cycle 0, the image in its RAM, and the bytes of a script that are to arrive
abbrev pub start_with : List ℕ → List (ℕ × ℕ) → State
start_with image script = record { regs = start_regs; ram = ram_of image; devices = start_devices script }

-- the events are a run of this image and script for n cycles, with this end and last state
pub record RunsImage (image : List ℕ) (script : List (ℕ × ℕ)) (n : ℕ) (events : List Event) (end : End) (last : State) : Type 0 where
  pub fits : length image ≤ ram_size
  pub stops : StopsBy n end
  pub rising : IsStrictlyIncreasing (cycles_of events)
  pub below : All (λ cycle. cycle < stop_of end) (cycles_of events)
  pub replayed : option_map (brought (stop_of end)) (replay events (start_with image script)) ≡ Some last
  pub prompt : IsPrompt events (start_with image script)
  pub lively : IsLively events (stop_of end)
  pub disciplined : IsDisciplined events nothing_kept (start_with image script)
  pub offence : OffendsBy end (kept_after events nothing_kept (start_with image script)) last

-- a run of a boot is one of its image and script
pub runs-image : (image : List ℕ) (script : List (ℕ × ℕ)) (n : ℕ) (events : List Event) (end : End) (last : State) → Runs (record { image = image; script = script }) n events end last → RunsImage image script n events end last
unfolding state_after start
runs-image image script n events end last runs = record {
  fits = runs.fits;
  stops = runs.stops;
  rising = runs.rising;
  below = runs.below;
  replayed = runs.replayed;
  prompt = runs.prompt;
  lively = runs.lively;
  disciplined = runs.disciplined;
  offence = runs.offence;
}
