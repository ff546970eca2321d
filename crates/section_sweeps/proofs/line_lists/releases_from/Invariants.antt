use Rattle.graph_terms.specs.Reservations.{Releases}
use Rattle.section_sweeps.specs.PassedBlocks.{AreListed}
use Rattle.section_sweeps.proofs.line_lists.releases_from.Given as goal

abbrev pub invariant-loop-line : goal.invariant-loop-line
invariant-loop-line l = record { listed : AreListed (λ q r. Releases l.graph r q) l.first l.line l.of.items }
