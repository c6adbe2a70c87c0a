-- What is known of the host and the sink whose calls fail where a test says so.
use Rattle.std.specs.Prelude.{ℕ, ◌==◌, Bool, true, false, List, [], ◌∷◌, Option, Some}
use Rattle.std.specs.List.{list_any}
use Rattle.mw_io.specs.Outside.{HostState, SinkState}
use Rattle.mw_io.specs.Shelf.{shelf_files, shelf_is_open, shelf_rest}
use Rattle.mw_io.specs.Sure.{sure_taken, sure_wants}
use Rattle.mw_io.specs.declared.memory.MemHost.{MemHost}
use Rattle.mw_io.specs.declared.memory.MemSink.{MemSink}

-- this is whether no call is to fail
abbrev pub is_clear : List ℕ → Bool
is_clear [] = true
is_clear (call ∷ calls) = false

-- this is whether the call with this number is to fail
abbrev pub is_due : List ℕ → ℕ → Bool
is_due to_fail call = list_any (λ number. number == call) to_fail

-- these are the files of the host, by name
abbrev pub host_files : MemHost → List ℕ → Option (List ℕ)
host_files host = shelf_files host.shelf

-- this is whether a file is open
abbrev pub host_is_open : MemHost → Bool
host_is_open host = shelf_is_open host.shelf

-- this is what is left of the open file
abbrev pub host_rest : MemHost → List ℕ
host_rest host = shelf_rest host.shelf

-- these are the numbers of the host's calls that are to fail
abbrev pub host_to_fail : MemHost → List ℕ
host_to_fail host = host.plan.to_fail.items

-- this is how many calls the host was given, up to 2^64 - 1, and so the number of the next
abbrev pub host_calls : MemHost → ℕ
host_calls host = host.plan.calls

-- this is how often a call of the host failed
abbrev pub host_faults : MemHost → ℕ
host_faults host = host.faults

-- this is how often the host was asked to open a file
abbrev pub host_opened : MemHost → ℕ
host_opened host = host.tally.opened

-- this is how many bytes its reads have given
abbrev pub host_given : MemHost → ℕ
host_given host = host.tally.given

-- this is what the host shows of itself; it is sound where no call is to fail
abbrev pub host_state : MemHost → HostState
host_state host = record { files = Some (host_files host); is_sound = is_clear (host_to_fail host); is_open = host_is_open host; rest = host_rest host; faults = host_faults host; opened = host_opened host; given = host_given host }

-- these are the bytes that the sink has taken
abbrev pub sink_taken : MemSink → List ℕ
sink_taken sink = sure_taken sink.kept

-- these are the numbers of the sink's calls that are to fail
abbrev pub sink_to_fail : MemSink → List ℕ
sink_to_fail sink = sink.plan.to_fail.items

-- this is how many calls the sink was given, up to 2^64 - 1, and so the number of the next
abbrev pub sink_calls : MemSink → ℕ
sink_calls sink = sink.plan.calls

-- this is how often a call of the sink failed
abbrev pub sink_faults : MemSink → ℕ
sink_faults sink = sink.faults

-- this is how often the sink has wanted for memory
abbrev pub sink_wants : MemSink → ℕ
sink_wants sink = sure_wants sink.kept

-- this is what the sink shows of itself
abbrev pub sink_state : MemSink → SinkState
sink_state sink = record { taken = Some (sink_taken sink); faults = sink_faults sink; wants = sink_wants sink }
