use Rattle.std.proofs.Common.{◌≡◌, ℕ, true, take}
use Rattle.std.specs.Prelude.{Contains}
use Rattle.graph_terms.specs.declared.verb.Edge.{Edge}
use Rattle.graph_terms.specs.Edges.{edges}
use Rattle.sweep_base.specs.Bits.{bit_in}
use Rattle.section_sweeps.specs.Passing.{HasEither}
use Rattle.section_sweeps.proofs.passing.Passing.pass_from_targets.Given as goal

abbrev pub invariant-loop-edge : goal.invariant-loop-edge
invariant-loop-edge l = record {
  is : (b : ℕ) → bit_in l.word b ≡ true → (e : Edge) × Contains (edges l.graph) e × (e.from ≡ l.line) × HasEither l.self.own.items l.self.passed.items e.to b;
  all : (e : Edge) (b : ℕ) → Contains (take l.edge-index l.edges) e → HasEither l.self.own.items l.self.passed.items e.to b → bit_in l.word b ≡ true;
}
