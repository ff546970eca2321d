use Rattle.run_lists.specs.Holders.{holders_by, AreHeld}
use Rattle.run_core.specs.Resumed.{FoundBelow}
use Rattle.run_core.proofs.run.resume.holders_of.Given as goal

abbrev pub invariant-loop-line : goal.invariant-loop-line
invariant-loop-line l = record {
  held : AreHeld l.graph l.holders.holding.items l.holders.held.items;
  found : FoundBelow l.graph l.lines (holders_by l.graph l.holders.holding.items) l.line;
}
