use Rattle.section_sweeps.specs.PassedBlocks.{IsRelease}
use Rattle.section_sweeps.specs.PassedBlocks.{AreListed}
use Rattle.section_sweeps.proofs.line_lists.releasing_from.Given as goal

abbrev pub invariant-loop-line : goal.invariant-loop-line
invariant-loop-line l = record { listed : AreListed (IsRelease l.graph) l.first l.line l.of.items }
