-- What writing part of a text leaves: all of it written, or a prefix of it and a fault.
use Rattle.std.specs.Prelude.{◌≡◌, ℕ, ◌≤◌, List, Result, MatchResult, ◌++◌}
use Rattle.realm_io.specs.SinkState.{SinkState}
use Rattle.realm_io.specs.Counts.{Rose}
use Rattle.realm_io.specs.Told.{with_more, TookPrefix}

-- the bytes were taken, and none was flushed
pub record Wrote (old new : SinkState) (bytes : List ℕ) : Type 0 where
  pub taken : new.taken ≡ with_more old.taken bytes
  pub flushed : new.flushed ≡ old.flushed
  pub count : old.faults ≤ new.faults

-- a prefix of the bytes was taken, none was flushed, and a fault was counted
pub record Stopped (old new : SinkState) (bytes : List ℕ) : Type 0 where
  pub took : TookPrefix old.taken new.taken bytes
  pub flushed : new.flushed ≡ old.flushed
  pub count : old.faults ≤ new.faults
  pub rose : Rose old.faults new.faults

-- either, by the answer
abbrev pub Writes : {X E : Type 0} → SinkState → SinkState → Result X E → List ℕ → Type 0
Writes old new r bytes = MatchResult r (λ _. Wrote old new bytes) (λ _. Stopped old new bytes)

-- part of a whole text was written, and the rest is left
pub record Progress (old new : SinkState) (whole rest : List ℕ) : Type 0 where
  pub done : List ℕ
  pub wrote : Wrote old new done
  pub splits : done ++ rest ≡ whole
