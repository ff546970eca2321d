use Rattle.std.proofs.Common.{◌+◌, ◌*◌, ◌<◌, length}
use Rattle.race_sweeps.specs.Reach.{IsReach, IsBounded}
use Rattle.race_sweeps.proofs.reach.Reach.sweep.Given as goal

abbrev pub invariant-loop-block : goal.invariant-loop-block
invariant-loop-block l = record {
  within : 64 * l.block < l.end + 64;
  bounded : IsBounded (length l.table.lines.items) l.self;
  reach : IsReach l.graph l.table.lines.items l.first l.self.words.items;
}

abbrev pub decreases-loop-block : goal.decreases-loop-block
decreases-loop-block l = l.block
