use Rattle.section_sweeps.proofs.rules.acquires_before.Goals as goal

pub returns-in-None : goal.returns-in-None
returns-in-None c h l a = absurd (c.in-None.ensures l a)
