use Rattle.std.proofs.Common.{◌≡◌}
use Rattle.section_sweeps.specs.PassedBlocks.{AreListed}
use Rattle.section_sweeps.proofs.line_lists.lines_from.Given as goal

abbrev pub invariant-loop-line : goal.invariant-loop-line
invariant-loop-line l = record { listed : AreListed (λ q i. q ≡ i) l.first l.line l.of.items }
