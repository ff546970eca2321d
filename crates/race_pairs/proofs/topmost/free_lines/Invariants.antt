use Rattle.std.proofs.Common.{◌≤◌}
use Rattle.race_pairs.specs.Topmost.{NoneRaceBelow}
use Rattle.race_pairs.proofs.topmost.free_lines.Given as goal

abbrev pub invariant-loop-step : goal.invariant-loop-step
invariant-loop-step l = record { begins : l.first ≤ l.low; free : NoneRaceBelow l.graph l.low }
