use Rattle.std.proofs.Common.{◌≡◌, ◌++◌, take}
use Rattle.explain_text.specs.Accepted.{ways_text}
use Rattle.explain_text.proofs.accepted.put_ways.Given as goal

abbrev pub invariant-loop-way : goal.invariant-loop-way
invariant-loop-way l = l.text ≡ l.initial.text ++ ways_text l.graph l.lines (take l.way-index l.ways)
