use Rattle.home_queues.proofs.deque.new_owner.Given as goal

abbrev pub ghosts-set_bound : goal.ghosts-set_bound
ghosts-set_bound a = record { lines = a.lines }
