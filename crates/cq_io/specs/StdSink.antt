-- What a sink over a stream shows.
use Rattle.std.specs.Prelude.{ℕ}
use Rattle.cq_io.specs.declared.std_sink.StdSink.{StdSink}

-- the stream to which it writes
abbrev pub stream : {W : Type 0} → StdSink W → W
stream sink = sink.to

-- how often it has failed
abbrev pub fault_count : {W : Type 0} → StdSink W → ℕ
fault_count sink = sink.faults
