-- A generated graph of two sections: by computing it is accepted, and its sums conflict with no path either way, so that they have to be exempt.
use Rattle.std.proofs.Common.{inl, inr, refl, arith, lit<, lit≤}
use Rattle.graph_terms.specs.declared.verb.Mode.TheVariants.{Sum}
use Rattle.graph_terms.specs.Graph.{GraphValue}
use Rattle.graph_terms.specs.Access.{access, Conflict}
use Rattle.graph_terms.specs.Edges.{edges}
use Rattle.graph_meaning.specs.Path.{HasPath}
use Rattle.graph_meaning.specs.Rules.{Exempt, Accepted}
use Rattle.graph_meaning.proofs.PathTable.{no_path_by_table}
use Rattle.graph_meaning.proofs.RulesTable.{accepted_by_computing, meets_itself, conflict_by}
use Rattle.graph_gen.specs.MadeGraph.{made_graph}
use Rattle.graph_gen.proofs.Acceptance.{made_accepted}

abbrev two_sections : GraphValue
two_sections = made_graph 59 8

two_sections-accepted : Accepted two_sections
two_sections-accepted = accepted_by_computing two_sections refl

-- the premises of the law are met
pub accepted_by_law : Accepted two_sections
accepted_by_law = made_accepted 59 8 (lit< tt) (lit≤ tt)

sums_conflict : Conflict two_sections 1 5
sums_conflict = conflict_by two_sections 1 5 (access 8 0 Sum) (λ e. absurd (omega arith)) (1, omega arith, refl) (1, omega arith, refl) (meets_itself two_sections (access 8 0 Sum) refl refl)

no_path : HasPath two_sections 1 5 → ⊥
no_path = no_path_by_table (edges two_sections) 8 1 5 refl refl

no_path_back : HasPath two_sections 5 1 → ⊥
no_path_back = no_path_by_table (edges two_sections) 8 5 1 refl refl

pub sums_are_exempt : Exempt two_sections 1 5
sums_are_exempt = elim (accepted_by_law.races 1 5 (omega arith) sums_conflict) [
  | inl p ↦ absurd (no_path p)
  | inr (inl p) ↦ absurd (no_path_back p)
  | inr (inr x) ↦ x
]
