use Rattle.std.proofs.Common.{◌≡◌, false, take}
use Rattle.realm_audit.specs.Reading.{has_newline}
use Rattle.realm_audit.proofs.reading.first_line.Given as goal

abbrev pub invariant-loop-i : goal.invariant-loop-i
invariant-loop-i l = has_newline (take l.i l.bytes) ≡ false
