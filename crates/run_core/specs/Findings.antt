-- What is found of a line that is to be taken.
use Rattle.std.specs.Prelude.{◌≡◌, ◌≢◌, ℕ, true, false}
use Rattle.graph_terms.specs.Graph.{never_comes}
use Rattle.run_state.specs.Run.{Issued, stage_at}
use Rattle.run_state.specs.Quiet.{kept_cancels}
use Rattle.run_core.specs.Core.{CoreValue}
use Rattle.run_parts.specs.Shown.{stage_of}
use Rattle.run_lists.specs.Sources.{IsLeastLeft}
use Rattle.run_lists.specs.Holders.{HasLock}
use Rattle.run_core.specs.Steps.{IsDue, IsHeldBy, HasColumns}
use Rattle.run_core.specs.declared.run.attempt.Finding.{Finding}
use Rattle.run_core.specs.declared.run.attempt.Finding.TheVariants as finding

abbrev pub IsFound : CoreValue → ℕ → Finding → Type 0
IsFound c i (finding.Over s) = (stage_at c.run.stages i ≢ Issued) × (s ≡ stage_of (stage_at c.run.stages i))
IsFound c i finding.Never = (stage_at c.run.stages i ≡ Issued) × (never_comes c.graph i ≡ true)
IsFound c i (finding.NotYet j) = (stage_at c.run.stages i ≡ Issued) × (never_comes c.graph i ≡ false) × IsLeastLeft c.graph c.run.stages i j
IsFound c i finding.Cancelled = IsDue c.graph c.run i × (kept_cancels c.graph c.run.stages i ≡ true)
IsFound c i (finding.Busy thing) = IsDue c.graph c.run i × (kept_cancels c.graph c.run.stages i ≡ false) × IsHeldBy c.graph c.run i thing
IsFound c i finding.Free = IsDue c.graph c.run i × (kept_cancels c.graph c.run.stages i ≡ false) × HasLock c.graph c.run.holders i × HasColumns c.graph c.run i
