use Rattle.std.proofs.Common.{◌≡◌, ℕ, ◌<◌, length}
use Rattle.race_pairs.specs.Fresh.{AreEnds, IsFresh}
use Rattle.race_pairs.specs.Races.{column_count}
use Rattle.race_pairs.proofs.fresh.all_fresh.Given as goal

abbrev pub invariant-loop-line : goal.invariant-loop-line
invariant-loop-line l = record {
  size : length l.ends.items ≡ column_count l.graph;
  ends : AreEnds l.graph l.ends.items l.line;
  fresh : (j : ℕ) → j < l.line → IsFresh l.graph j;
}
