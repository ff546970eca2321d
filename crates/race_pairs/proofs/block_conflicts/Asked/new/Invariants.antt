use Rattle.race_pairs.specs.Races.{AreAsked}
use Rattle.race_pairs.proofs.block_conflicts.Asked.new.Given as goal

abbrev pub invariant-loop-line : goal.invariant-loop-line
invariant-loop-line l = record { asked : AreAsked l.graph l.first l.line l.asked }
