-- What contracts see of a source and a sink over std's readers and writers.
use Rattle.std.specs.Prelude.{ℕ}
use Rattle.sx_base.specs.declared.std_source.StdSource.{StdSource}
use Rattle.sx_base.specs.declared.std_sink.StdSink.{StdSink}

-- what the source reads from
abbrev pub reader_of : {R : Type 0} → StdSource R → R
reader_of source = source.inner

-- how many of its takes have failed
abbrev pub failed_takes : {R : Type 0} → StdSource R → ℕ
failed_takes source = source.faults

-- what the sink writes to
abbrev pub writer_of : {W : Type 0} → StdSink W → W
writer_of sink = sink.inner

-- how many of its puts have failed
abbrev pub failed_puts : {W : Type 0} → StdSink W → ℕ
failed_puts sink = sink.faults
