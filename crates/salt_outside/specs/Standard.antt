-- What contracts see of the objects over readers and writers of std.
use Rattle.std.specs.Prelude.{ℕ}
use Rattle.salt_outside.specs.declared.standard.StdSource.{StdSource}
use Rattle.salt_outside.specs.declared.standard.StdSink.{StdSink}

-- the reader under a source
abbrev pub reader : {R : Type 0} → StdSource R → R
reader s = s.inner

-- how often the source has failed
abbrev pub reader_faults : {R : Type 0} → StdSource R → ℕ
reader_faults s = s.faults

-- the writer under a sink
abbrev pub writer : {W : Type 0} → StdSink W → W
writer s = s.inner

-- how often the sink has failed
abbrev pub writer_faults : {W : Type 0} → StdSink W → ℕ
writer_faults s = s.faults
