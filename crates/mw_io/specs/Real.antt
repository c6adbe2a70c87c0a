-- What is known of the host and the sink of a system.
use Rattle.std.specs.Prelude.{ℕ, false, [], Option, None, is_some}
use Rattle.mw_io.specs.Outside.{HostState, SinkState}
use Rattle.mw_io.specs.declared.real.RealHost.{RealHost}
use Rattle.mw_io.specs.declared.real.RealSink.{RealSink}

-- this is the open file
abbrev pub real_file : {R F D : Type 0} → RealHost R F D → Option F
real_file host = host.file

-- this is the writer that the sink passes its pieces on to
abbrev pub real_writer : {W : Type 0} → RealSink W → W
real_writer sink = sink.writer

-- this is how often a call of the host failed
abbrev pub real_faults : {R F D : Type 0} → RealHost R F D → ℕ
real_faults host = host.faults

-- this is how often the host was asked to open a file
abbrev pub real_opened : {R F D : Type 0} → RealHost R F D → ℕ
real_opened host = host.tally.opened

-- this is how many bytes its reads have given
abbrev pub real_given : {R F D : Type 0} → RealHost R F D → ℕ
real_given host = host.tally.given

-- this is what the host shows of itself: no file
abbrev pub real_state : {R F D : Type 0} → RealHost R F D → HostState
real_state host = record { files = None; is_sound = false; is_open = is_some host.file; rest = []; faults = host.faults; opened = host.tally.opened; given = host.tally.given }

-- this is how often a call of the sink failed
abbrev pub real_sink_faults : {W : Type 0} → RealSink W → ℕ
real_sink_faults sink = sink.faults

-- this is what the sink shows of itself: none of its bytes, and no want of memory
abbrev pub real_sink_state : {W : Type 0} → RealSink W → SinkState
real_sink_state sink = record { taken = None; faults = sink.faults; wants = 0 }
