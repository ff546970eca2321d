use Rattle.event_tests.proofs.table_tests.three.Goals as goal

pub look-requires : goal.look-requires
look-requires c = record { created = c.serve-3.ensures.kept c.in_ok-first.first (c.serve-2.ensures.kept c.in_ok-first.first c.in_ok-first.ensures.created) }

pub look-requires-2 : goal.look-requires-2
look-requires-2 c = record { created = c.serve-3.ensures.kept c.in_ok-second.second c.in_ok-second.ensures.created }
