-- A sink that keeps a text.
use Rattle.std.specs.Prelude.{ℕ, List, Some, None}
use Rattle.realm_io.specs.SinkState.{SinkState}

-- the bytes that it took, how many of them were flushed, and the count of faults
pub record TextSinkValue : Type 0 where
  pub taken : List ℕ
  pub flushed : ℕ
  pub faults : ℕ

-- what it tells: all but its calls
abbrev pub told_of : TextSinkValue → SinkState
told_of s = record { taken = Some s.taken; flushed = Some s.flushed; calls = None; empty_writes = None; faults = s.faults }
