use Rattle.std.proofs.Common.{◌≡◌, ◌++◌, length}
use Rattle.std.specs.Prelude.{codes}
use Rattle.realm_audit.specs.Text.{at_texts}
use Rattle.realm_audit.specs.Reading.{AreLines}
use Rattle.realm_audit.proofs.reading.read_trace.Given as goal

abbrev pub invariant-loop-line : goal.invariant-loop-line
invariant-loop-line l = record {
  bytes_are : l.bytes ≡ codes "realm-trace 1\n" ++ (at_texts l.graph l.trace ++ l.rest);
  are_lines : AreLines l.graph l.trace;
}

abbrev pub decreases-loop-line : goal.decreases-loop-line
decreases-loop-line l = length l.rest
