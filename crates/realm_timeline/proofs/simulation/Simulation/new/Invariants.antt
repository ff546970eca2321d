use Rattle.std.proofs.Common.{◌≡◌, drop}
use Rattle.realm_timeline.specs.State.{state_of, IsConsistent}
use Rattle.realm_timeline.specs.Steps.{first_edges}
use Rattle.realm_timeline.proofs.StartFacts.{IsFresh}
use Rattle.realm_timeline.proofs.simulation.Simulation.new.Given as goal

abbrev pub invariant-loop-line : goal.invariant-loop-line
invariant-loop-line l = record {
  by_columns : l.simulation.by_columns ≡ l.by_columns;
  fresh : IsFresh l.graph l.processors (state_of l.simulation);
  consistent : IsConsistent l.graph l.processors (state_of l.simulation) (drop l.line (first_edges l.graph));
}
