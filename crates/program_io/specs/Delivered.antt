-- What becomes of a text that goes with a status.
use Rattle.std.specs.Prelude.{◌≡◌, ℕ, ◌≤◌, List, length, codes, ◌⊎◌}
use Rattle.std.specs.Option.{option_map}
use Rattle.realm_io.specs.SinkState.{SinkState}
use Rattle.realm_io.specs.Counts.{Rose}
use Rattle.realm_io.specs.Told.{with_more, TookPrefix}

-- all of the text was taken, and all that was taken is flushed
pub record Delivered (old new : SinkState) (out : List ℕ) : Type 0 where
  pub took : new.taken ≡ with_more old.taken out
  pub flushed : new.flushed ≡ option_map length new.taken
  pub count : old.faults ≤ new.faults

-- a prefix of the text was taken, no more is flushed than before, and a fault was counted
pub record BrokenOff (old new : SinkState) (out : List ℕ) : Type 0 where
  pub took : TookPrefix old.taken new.taken out
  pub flushed : new.flushed ≡ old.flushed
  pub count : old.faults ≤ new.faults
  pub rose : Rose old.faults new.faults

-- a text that goes with a status was delivered, or a fault broke it off, which has a status of its own
abbrev pub Delivers : {S : Type 0} → S → SinkState → SinkState → S → S → List ℕ → Type 0
Delivers write_fault old new wanted result out = ((result ≡ wanted) × Delivered old new out) ⊎ ((result ≡ write_fault) × BrokenOff old new out)

-- one of these answers was given, each of them a status with its text, unless memory ran out
abbrev pub IsAnswered : {S : Type 0} → S → S → (S → List ℕ → Type 0) → SinkState → SinkState → S → Type 0
IsAnswered {S} write_fault no_memory Answers old new result =
    (result ≡ no_memory) ⊎ ((wanted : S) × (out : List ℕ) × Answers wanted out × Delivers write_fault old new wanted result out)

-- the line for an input that is too long
abbrev pub too_long_text : List ℕ
too_long_text = codes "input too long\n"
