use Rattle.std.proofs.Common.{ℕ, length}
use Rattle.race_sweeps.specs.Reach.{IsReach, AreReachedOrSelf, IsBounded}
use Rattle.race_sweeps.proofs.reach.Reach.pass.Given as goal

abbrev pub invariant-loop-edge : goal.invariant-loop-edge
invariant-loop-edge l = record {
  bounded : IsBounded (length l.table.lines.items) l.self;
  reach : (first : ℕ) → IsReach l.graph l.table.lines.items first l.fn.self.words.items → AreReachedOrSelf l.graph l.table.lines.items first l.place l.word → IsReach l.graph l.table.lines.items first l.self.words.items;
}
