use Rattle.section_sweeps.proofs.Finishing.{are_doubted, are_sections}
use Rattle.section_sweeps.proofs.found_sections.Found.sections.Goals as goal

pub returns-then-self : goal.returns-then-self
returns-then-self c = (c.requires.found.size, are_doubted c.args.graph.now c.args.table.now c.requires.table c.args.self c.requires.found)

pub returns : goal.returns
returns c = are_sections c.args.graph.now c.args.table.now c.requires.table c.args.self c.requires.found c.if-self.false
