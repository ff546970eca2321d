use Rattle.realm_audit.proofs.sections.Sections.end_if_open.Goals as goal

pub unreachable-requires : goal.unreachable-requires
unreachable-requires c = let a = c.requires.acquire in c.in-None.ensures a.0 a.1
