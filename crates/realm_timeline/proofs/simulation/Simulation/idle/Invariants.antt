use Rattle.std.proofs.Common.{◌≡◌, ◌<◌, ℕ}
use Rattle.std.specs.Prelude.{Some}
use Rattle.realm_timeline.specs.State.{runs_at}
use Rattle.realm_timeline.proofs.simulation.Simulation.idle.Given as goal

abbrev pub invariant-loop-processor : goal.invariant-loop-processor
invariant-loop-processor l = (p : ℕ) → p < l.processor → (k : ℕ) × (runs_at l.self.running.items p ≡ Some k)
