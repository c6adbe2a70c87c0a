-- What is known of the host and the sink that fail only for want of memory.
use Rattle.std.specs.Prelude.{ℕ, Bool, true, List, Option, Some}
use Rattle.mw_io.specs.Outside.{HostState, SinkState}
use Rattle.mw_io.specs.Shelf.{shelf_files, shelf_is_open, shelf_rest}
use Rattle.mw_io.specs.declared.sure.SureHost.{SureHost}
use Rattle.mw_io.specs.declared.sure.SureSink.{SureSink}

-- these are the files of a host in memory, by name
abbrev pub sure_files : SureHost → List ℕ → Option (List ℕ)
sure_files host = shelf_files host.shelf

-- this is whether a file is open
abbrev pub sure_is_open : SureHost → Bool
sure_is_open host = shelf_is_open host.shelf

-- this is what is left of the open file
abbrev pub sure_rest : SureHost → List ℕ
sure_rest host = shelf_rest host.shelf

-- this is how often the host was asked to open a file
abbrev pub sure_opened : SureHost → ℕ
sure_opened host = host.tally.opened

-- this is how many bytes its reads have given
abbrev pub sure_given : SureHost → ℕ
sure_given host = host.tally.given

-- this is what the host shows of itself
abbrev pub sure_state : SureHost → HostState
sure_state host = record { files = Some (sure_files host); is_sound = true; is_open = sure_is_open host; rest = sure_rest host; faults = 0; opened = sure_opened host; given = sure_given host }

-- these are the bytes that a sink in memory has taken
abbrev pub sure_taken : SureSink → List ℕ
sure_taken sink = sink.bytes.items

-- this is how often the sink has wanted for memory
abbrev pub sure_wants : SureSink → ℕ
sure_wants sink = sink.wants

-- this is what the sink shows of itself
abbrev pub sure_sink_state : SureSink → SinkState
sure_sink_state sink = record { taken = Some (sure_taken sink); faults = 0; wants = sure_wants sink }
