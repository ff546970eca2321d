-- What a sink tells of itself.
use Rattle.std.specs.Prelude.{ℕ, List, Option, None}

-- the bytes that were taken, how many of them were flushed, how many writes and flushes were made and how many writes of an empty piece, each where it is told; and how many faults there were
pub record SinkState : Type 0 where
  pub taken : Option (List ℕ)
  pub flushed : Option ℕ
  pub calls : Option ℕ
  pub empty_writes : Option ℕ
  pub faults : ℕ

-- the state of a sink that tells its faults alone
abbrev pub untold : ℕ → SinkState
untold n = record { taken = None; flushed = None; calls = None; empty_writes = None; faults = n }
