use Rattle.std.proofs.Common.{◌≡◌, ℕ, length}
use Rattle.graph_terms.specs.declared.verb.Access.{Access}
use Rattle.graph_terms.specs.Access.{all_accesses}
use Rattle.race_pairs.specs.Races.{IsAsked, column_count}
use Rattle.race_pairs.proofs.Asking.{AreAdded}
use Rattle.race_pairs.proofs.block_conflicts.Asked.add_line.Given as goal

abbrev pub invariant-loop-k : goal.invariant-loop-k
invariant-loop-k l = record {
  used_size : length l.self.used.items ≡ column_count l.graph;
  changed_size : length l.self.changed.items ≡ column_count l.graph;
  kept : (a : Access) (b : ℕ) → IsAsked l.initial.self.used.items l.initial.self.changed.items a b → IsAsked l.self.used.items l.self.changed.items a b;
  added : AreAdded l.self.used.items l.self.changed.items (all_accesses l.graph l.line) l.k l.bit;
}
