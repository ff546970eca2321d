-- Which lines are out of a core after a call, and what may be out together.
use Rattle.std.specs.Prelude.{◌≡◌, ◌≢◌, ℕ, true, false, IsTrue}
use Rattle.run_state.specs.Run.{out}
use Rattle.run_state.specs.Apart.{ConflictOnlyExempt}
use Rattle.run_core.specs.Core.{CoreValue}
use Rattle.run_core.specs.declared.answers.Attempt.{Attempt}
use Rattle.run_core.specs.declared.answers.Attempt.TheVariants as attempts

-- the same lines as before, of the same graph and the same host
pub record SameOut (old new : CoreValue) : Type 0 where
  pub graph : new.graph ≡ old.graph
  pub hosted : new.hosted ≡ old.hosted
  pub same : (k : ℕ) → out new.run.stages k ≡ out old.run.stages k

-- this line, and those that were out before
pub record OneMoreOut (old new : CoreValue) (i : ℕ) : Type 0 where
  pub graph : new.graph ≡ old.graph
  pub hosted : new.hosted ≡ old.hosted
  pub before : out old.run.stages i ≡ false
  pub after : out new.run.stages i ≡ true
  pub others : (k : ℕ) → k ≢ i → out new.run.stages k ≡ out old.run.stages k

-- by what an attempt answers
abbrev pub OutAfter : CoreValue → CoreValue → Attempt → Type 0
OutAfter old new (attempts.Taken w) = OneMoreOut old new w.line
OutAfter old new _ = SameOut old new

-- the line conflicts with no line that is out, but where both reduce and are exempt
abbrev pub ConflictsOnlyExempt : CoreValue → ℕ → Type 0
ConflictsOnlyExempt c i = (j : ℕ) → IsTrue (out c.run.stages j) → ConflictOnlyExempt c.graph i j

-- a line that was taken conflicts so with those that were out before
abbrev pub TakenConflictsOnlyExempt : CoreValue → Attempt → Type 0
TakenConflictsOnlyExempt old (attempts.Taken w) = ConflictsOnlyExempt old w.line
TakenConflictsOnlyExempt old _ = Unit {0}
