use Rattle.std.specs.Prelude.{ℕ, List, Some}
use Rattle.realm_io.specs.SinkState.{SinkState}

-- bytes kept in memory, and how many more there is room for
pub record FixedBufferValue : Type 0 where
  pub taken : List ℕ
  pub free : ℕ

-- a source over memory: the bytes still to come, how many a read may give, which reads fail, and the counts of reads, of reads that gave nothing, and of faults
pub record MemorySourceValue : Type 0 where
  pub left : List ℕ
  pub piece : ℕ
  pub fails : List ℕ
  pub reads : ℕ
  pub empty_reads : ℕ
  pub faults : ℕ

-- a sink over memory: the bytes taken, the room left, how many of the bytes were flushed, how many a write may take, which calls fail, and the counts of calls, of writes of an empty piece, and of faults
pub record MemorySinkValue : Type 0 where
  pub taken : List ℕ
  pub free : ℕ
  pub flushed : ℕ
  pub piece : ℕ
  pub fails : List ℕ
  pub calls : ℕ
  pub empty_writes : ℕ
  pub faults : ℕ

-- what a sink over memory tells: everything
abbrev pub told_of : MemorySinkValue → SinkState
told_of s = record {
  taken = Some s.taken;
  flushed = Some s.flushed;
  calls = Some s.calls;
  empty_writes = Some s.empty_writes;
  faults = s.faults;
}

-- a sink that takes everything: how many bytes it took, the first of them, and how many more it can keep
pub record SureSinkValue : Type 0 where
  pub taken : ℕ
  pub kept : List ℕ
  pub free : ℕ
