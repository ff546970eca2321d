use Rattle.std.proofs.Common.{◌≡◌, ℕ, ◌≤◌, ◌-◌, length}
use Rattle.graph_terms.specs.declared.format.Format.TheVariants.{One}
use Rattle.graph_gen.specs.MadeGraph.{made_decls, made_of, after_draws}
use Rattle.graph_gen.proofs.make.make.Given as goal

abbrev pub invariant-loop-alloc : goal.invariant-loop-alloc
invariant-loop-alloc l = ((l.making.graph.format ≡ One) × (l.making.graph.decls ≡ made_decls)) × ((n : ℕ) × (n ≤ length l.making.graph.lines) × (made_of l.making ≡ after_draws l.seed l.size n))

abbrev pub decreases-loop-alloc : goal.decreases-loop-alloc
decreases-loop-alloc l = l.size - length l.making.graph.lines
