-- The adapters over std's readers and writers: what they stand over, and their counts.
use Rattle.std.specs.Prelude.{ℕ, List, None}
use Rattle.std.specs.declared.option.Option.{Option}
use Rattle.edge_io.specs.declared.standard.StdSource.{StdSource}
use Rattle.edge_io.specs.declared.standard.StdSink.{StdSink}

-- the reader that a source passes on
abbrev pub reader_of : {I : Type 0} → StdSource I → I
reader_of source = source.reader

-- what it has left: it tells none
abbrev pub reader_left : {I : Type 0} → StdSource I → Option (List ℕ)
reader_left source = None

-- how many bytes a source has given
abbrev pub reader_given : {I : Type 0} → StdSource I → ℕ
reader_given source = source.given

-- how many of its reads have failed
abbrev pub reader_faults : {I : Type 0} → StdSource I → ℕ
reader_faults source = source.faults

-- the writer that a sink hands its pieces to
abbrev pub writer_of : {O : Type 0} → StdSink O → O
writer_of sink = sink.writer

-- what it holds, and the room that it has: it tells neither
abbrev pub writer_held : {O : Type 0} → StdSink O → Option (List ℕ)
writer_held sink = None

abbrev pub writer_room : {O : Type 0} → StdSink O → Option ℕ
writer_room sink = None

-- how many writes to a sink have failed
abbrev pub writer_faults : {O : Type 0} → StdSink O → ℕ
writer_faults sink = sink.faults

-- how often a sink took no byte of a piece that had some
abbrev pub writer_stalls : {O : Type 0} → StdSink O → ℕ
writer_stalls sink = sink.stalls
