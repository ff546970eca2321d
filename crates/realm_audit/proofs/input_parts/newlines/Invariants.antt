use Rattle.std.proofs.Common.{◌≡◌, ◌≤◌, take}
use Rattle.realm_audit.specs.Parts.{newlines}
use Rattle.realm_audit.proofs.input_parts.newlines.Given as goal

abbrev pub invariant-loop-byte : goal.invariant-loop-byte
invariant-loop-byte l = record { count_is : l.count ≡ newlines (take l.byte-index l.bytes); few : l.count ≤ l.byte-index }
