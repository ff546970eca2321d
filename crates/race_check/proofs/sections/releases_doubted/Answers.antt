use Rattle.race_check.proofs.sections.releases_doubted.Goals as goal

pub returns-in-None : goal.returns-in-None
returns-in-None c h q rel = absurd (c.in-None.ensures q rel)
