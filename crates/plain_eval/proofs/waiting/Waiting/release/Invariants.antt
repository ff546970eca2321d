use Rattle.std.proofs.Common.{ℕ, Bool, take}
use Rattle.std.specs.BTreeSet.{contains}
use Rattle.std.specs.Ordering.{nat_cmp}
use Rattle.plain_eval.specs.Waiting.{IsFree}
use Rattle.plain_eval.proofs.WaitingFacts.{IsPassing}
use Rattle.plain_eval.proofs.waiting.Waiting.release.Given as goal

abbrev pub invariant-loop-edge : goal.invariant-loop-edge
invariant-loop-edge l = record {
  passing : (ended : ℕ → Bool) → IsFree l.graph ended l.line l.initial.self.left.items (contains nat_cmp l.initial.self.ready) → IsPassing l.graph ended l.line (take l.edge-index l.edges) l.self.left.items (contains nat_cmp l.self.ready);
}
