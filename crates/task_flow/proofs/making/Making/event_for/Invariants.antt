use Rattle.std.proofs.Common.{◌≡◌, ◌≤◌, ℕ, length}
use Rattle.task_flow.specs.Construction.{event_for}
use Rattle.task_flow.specs.Making.{made_of}
use Rattle.task_flow.proofs.making.Making.event_for.Given as goal

abbrev pub invariant-loop-alloc : goal.invariant-loop-alloc
invariant-loop-alloc l = record {
  same : (n : ℕ) × (length l.left ≤ n) × (event_for n l.left (made_of l.self) ≡ event_for (length l.initial.left) l.initial.left (made_of l.initial.self));
  graph : l.self.graph ≡ l.initial.self.graph;
  named : l.self.named ≡ l.initial.self.named;
}

abbrev pub decreases-loop-alloc : goal.decreases-loop-alloc
decreases-loop-alloc l = length l.left
