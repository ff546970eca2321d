use Rattle.graph_terms.specs.Access.{all_accesses}
use Rattle.race_pairs.proofs.Asking.{AreFound}
use Rattle.race_pairs.proofs.block_conflicts.Asked.of.Given as goal

abbrev pub invariant-loop-k : goal.invariant-loop-k
invariant-loop-k l = record { found : AreFound l.self.used.items l.self.changed.items (all_accesses l.graph l.line) l.k l.word }
