use Rattle.std.proofs.Common.{◌≤◌, length}
use Rattle.race_sweeps.specs.Reach.{IsReach, IsBounded}
use Rattle.race_sweeps.proofs.reach.Reach.sweep_block.Given as goal

abbrev pub invariant-loop-place : goal.invariant-loop-place
invariant-loop-place l = record {
  within : l.place ≤ l.end;
  bounded : IsBounded (length l.table.lines.items) l.self;
  reach : IsReach l.graph l.table.lines.items l.first l.self.words.items;
}

abbrev pub decreases-loop-place : goal.decreases-loop-place
decreases-loop-place l = l.place
