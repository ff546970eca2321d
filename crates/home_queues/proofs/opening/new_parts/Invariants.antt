use Rattle.home_queues.proofs.Opened.{PartsOf}
use Rattle.home_queues.proofs.opening.new_parts.Given as goal

abbrev pub invariant-loop-own : goal.invariant-loop-own
invariant-loop-own l = PartsOf l.lines l.number l.fn.owners.items l.own-iterator.rest.items l.rows.items l.parts.items
