use Rattle.graph_meaning.specs.Rules.{SectionAt}
use Rattle.sweep_base.specs.BlockRules.{IsLeast}
use Rattle.race_check.proofs.sections.first_outside_of.Given as goal

abbrev pub invariant-loop-line : goal.invariant-loop-line
invariant-loop-line l = record { least : IsLeast (SectionAt l.graph) l.first l.limit l.found l.line }
