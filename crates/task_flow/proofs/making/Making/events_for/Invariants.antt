use Rattle.std.proofs.Common.{◌≡◌, drop}
use Rattle.task_flow.specs.Construction.{events_for}
use Rattle.task_flow.specs.Making.{made_of}
use Rattle.task_flow.proofs.making.Making.events_for.Given as goal

abbrev pub invariant-loop-part : goal.invariant-loop-part
invariant-loop-part l = record {
  same : events_for l.all (drop l.part-index l.large) (made_of l.self) ≡ events_for l.initial.all l.large (made_of l.initial.self);
  graph : l.self.graph ≡ l.initial.self.graph;
  named : l.self.named ≡ l.initial.self.named;
}
