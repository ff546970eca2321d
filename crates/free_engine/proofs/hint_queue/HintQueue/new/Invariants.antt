use Rattle.free_engine.proofs.hint_queue.HintQueue.new.Given as goal

abbrev pub ghosts-set_bound : goal.ghosts-set_bound
ghosts-set_bound a = record { lines = a.lines }
