use Rattle.std.proofs.Common.{◌∙◌}
use Rattle.event_tests.proofs.shared_tests.leave_and_take_over.Goals as goal

pub look-requires : goal.look-requires
look-requires c = record { created = c.close-left.ensures.seen _ c.in_ok-past.ensures.seen.0 }

pub look-requires-2 : goal.look-requires-2
look-requires-2 c = record { created = c.close-left.ensures.seen _ c.in_ok-past.ensures.seen.1 }

pub end-requires : goal.end-requires
end-requires c = record { pending = c.into_table-table.ensures.answers _ ∙ c.close-left.ensures.left _ c.in_ok-past.ensures.left }

pub look-requires-3 : goal.look-requires-3
look-requires-3 c = record { created = c.end.ensures.created _ (c.into_table-table.ensures.created _ (c.close-left.ensures.seen _ c.in_ok-past.ensures.seen.0)) }
