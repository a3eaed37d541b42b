-- What contracts see of the adapters of a host's streams.
use Rattle.std.specs.Prelude.{ℕ, List, Option}
use Rattle.std.specs.Io.Buffered.{writer_buffer, writer_contents, writer_inner}
use Rattle.ff_io.specs.declared.host_sink.HostSink.{HostSink}
use Rattle.ff_io.specs.declared.host_source.HostSource.{HostSource}

-- the stream that a source reads
abbrev pub source_stream : {R : Type 0} → HostSource R → R
source_stream s = s.input

-- how many of its reads have failed
abbrev pub source_faults : {R : Type 0} → HostSource R → ℕ
source_faults s = s.faults

-- the stream that a sink writes to
abbrev pub sink_stream : {W : Type 0} → HostSink W → W
sink_stream s = writer_inner s.output

-- the bytes that wait for the stream
abbrev pub sink_waiting : {W : Type 0} → HostSink W → List ℕ
sink_waiting s = writer_buffer s.output

-- what was written to a sink: the stream's bytes, which are thus a prefix, and then those that wait
abbrev pub sink_written : {W : Type 0} → (W → Option (List ℕ)) → HostSink W → Option (List ℕ)
sink_written contents s = writer_contents contents s.output

-- how many of its writes have failed
abbrev pub sink_faults : {W : Type 0} → HostSink W → ℕ
sink_faults s = s.faults
