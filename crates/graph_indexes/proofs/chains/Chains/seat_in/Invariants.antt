use Rattle.std.proofs.Common.{◌≡◌, ◌-◌}
use Rattle.graph_indexes.specs.declared.chains.TheConstants.{STEPS}
use Rattle.graph_indexes.specs.Names.{seat_in}
use Rattle.graph_indexes.proofs.chains.Chains.seat_in.Given as goal

abbrev pub invariant-loop-turn : goal.invariant-loop-turn
invariant-loop-turn l = seat_in l.self.entries l.name (STEPS - l._turn) l.link ≡ seat_in l.self.entries l.name STEPS l.fn.first
