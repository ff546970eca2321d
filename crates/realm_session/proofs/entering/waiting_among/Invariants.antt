use Rattle.std.proofs.Common.{◌≡◌, ◌≤◌, take}
use Rattle.basics.specs.Sums.{total}
use Rattle.realm_session.specs.Recorded.{waits}
use Rattle.realm_session.proofs.entering.waiting_among.Given as goal

abbrev pub invariant-loop-line : goal.invariant-loop-line
invariant-loop-line l = record {
  counted : l.waiting ≡ total waits (take l.line l.ends);
  most : l.waiting ≤ l.line;
}
