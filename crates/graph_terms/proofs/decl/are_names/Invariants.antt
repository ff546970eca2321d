use Rattle.std.proofs.Common.{length}
use Rattle.std.specs.Prelude.{IsTrue}
use Rattle.std.specs.List.{AllByRecursion}
use Rattle.graph_terms.specs.Name.{is_name_in}
use Rattle.graph_terms.specs.declared.format.Format.TheVariants.{Three}
use Rattle.graph_terms.proofs.decl.are_names.Given as goal

abbrev pub invariant-loop-rest : goal.invariant-loop-rest
invariant-loop-rest l = AllByRecursion (λ f. IsTrue (is_name_in Three f)) l.rest → AllByRecursion (λ f. IsTrue (is_name_in Three f)) l.names

abbrev pub decreases-loop-rest : goal.decreases-loop-rest
decreases-loop-rest l = length l.rest
