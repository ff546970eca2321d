use Rattle.std.proofs.Common.{◌≡◌, ◌≤◌, ℕ, length}
use Rattle.std.specs.Prelude.{slice_index}
use Rattle.graph_terms.specs.Access.{all_accesses}
use Rattle.race_pairs.specs.Races.{column_count}
use Rattle.race_pairs.proofs.FreshLines.{ArePassed}
use Rattle.race_pairs.proofs.fresh.is_fresh.Given as goal

abbrev pub invariant-loop-k : goal.invariant-loop-k
invariant-loop-k l = record {
  size : length l.ends.items ≡ column_count l.graph;
  rise : (c : ℕ) → slice_index l.initial.ends.items c ≤ slice_index l.ends.items c;
  passed : ArePassed l.graph l.initial.ends.items l.ends.items (all_accesses l.graph l.line) l.k;
}
