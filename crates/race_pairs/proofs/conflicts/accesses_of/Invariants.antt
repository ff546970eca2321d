use Rattle.std.proofs.Common.{◌≡◌, take}
use Rattle.graph_terms.specs.Access.{all_accesses}
use Rattle.race_pairs.proofs.conflicts.accesses_of.Given as goal

abbrev pub invariant-loop-k : goal.invariant-loop-k
invariant-loop-k l = l.list.items ≡ take l.k (all_accesses l.graph l.line)
