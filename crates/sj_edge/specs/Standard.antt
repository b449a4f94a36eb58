-- What the adapters over std's readers and writers hold.
use Rattle.std.specs.Prelude.{ℕ}
use Rattle.sj_edge.specs.declared.standard.StdSource.{StdSource}
use Rattle.sj_edge.specs.declared.standard.StdSink.{StdSink}

-- the reader
abbrev pub source_inner : {R : Type 0} → StdSource R → R
source_inner s = s.inner

-- how many faults there were
abbrev pub source_faults : {R : Type 0} → StdSource R → ℕ
source_faults s = s.faults

-- the writer
abbrev pub sink_inner : {W : Type 0} → StdSink W → W
sink_inner s = s.inner

-- how many faults there were
abbrev pub sink_faults : {W : Type 0} → StdSink W → ℕ
sink_faults s = s.faults
