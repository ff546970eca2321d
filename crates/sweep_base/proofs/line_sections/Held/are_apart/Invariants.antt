use Rattle.sweep_base.specs.Held.{list_of}
use Rattle.sweep_base.proofs.Sections.{NoneExclude}
use Rattle.sweep_base.proofs.line_sections.Held.are_apart.Given as goal

abbrev pub invariant-loop-kept : goal.invariant-loop-kept
invariant-loop-kept l = NoneExclude l.graph l.self l.one l.other (list_of l.self l.one) l.kept-index
