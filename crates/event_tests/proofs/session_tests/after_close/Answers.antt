use Rattle.std.proofs.Common.{subst}
use Rattle.event_table.specs.EventMap.{IsCreated}
use Rattle.event_tests.proofs.session_tests.after_close.Goals as goal

pub look-requires : goal.look-requires
look-requires c = let l = c.handle_of-faulted.ensures.line in record { created = subst (IsCreated c.close-left.result) l.3 (c.close-left.ensures.created l.0 l.2) }

pub look-requires-2 : goal.look-requires-2
look-requires-2 c = let l = c.handle_of-done.ensures.line in record { created = subst (IsCreated c.close-left.result) l.3 (c.close-left.ensures.created l.0 l.2) }
