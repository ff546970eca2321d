use Rattle.section_sweeps.specs.Blocks.{IsMarked}
use Rattle.section_sweeps.proofs.blocks.Marked.of.Given as goal

abbrev pub invariant-loop-bit : goal.invariant-loop-bit
invariant-loop-bit l = record { marked : IsMarked l.graph l.table.places.items l.of l.marked l.bit }
