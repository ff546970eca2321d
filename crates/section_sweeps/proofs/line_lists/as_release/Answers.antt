use Rattle.std.proofs.Common.{refl}
use Rattle.section_sweeps.proofs.line_lists.as_release.Goals as goal

pub returns-in-Some : goal.returns-in-Some
returns-in-Some c = (refl, (c.in-Some._acquire, c.in-Some.ensures.0))

pub returns-in-None : goal.returns-in-None
returns-in-None c i h = c.in-None.ensures h.1.0 h.1.1
