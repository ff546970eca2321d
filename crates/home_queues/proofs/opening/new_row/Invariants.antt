use Rattle.home_queues.specs.Opening.{first_shares}
use Rattle.home_queues.proofs.Opened.{RowOf}
use Rattle.home_queues.proofs.opening.new_row.Given as goal

abbrev pub invariant-loop-k : goal.invariant-loop-k
invariant-loop-k l = RowOf l.lines (first_shares l.initial.owners.items) l.k l.initial.owners.items l.owners.items l.row.items
