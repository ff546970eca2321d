use Rattle.std.proofs.Common.{◌≡◌, take, map}
use Rattle.task_flow.specs.Construction.{place_in}
use Rattle.task_flow.specs.Making.{made_of}
use Rattle.task_flow.proofs.making.Making.places_of.Given as goal

abbrev pub invariant-loop-line : goal.invariant-loop-line
invariant-loop-line l = (l.places ≡ map (place_in (made_of l.self)) (take l.line-index l.line-items)) × (l.line-items ≡ l.lines)
