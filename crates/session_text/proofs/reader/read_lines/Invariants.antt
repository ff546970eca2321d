use Rattle.std.proofs.Common.{length}
use Rattle.session_text.specs.SoFar.{HasRead}
use Rattle.session_text.proofs.reader.read_lines.Given as goal

abbrev pub invariant-loop-line : goal.invariant-loop-line
invariant-loop-line l = HasRead l.fn.bytes l.so_far l.rest l.number

abbrev pub decreases-loop-line : goal.decreases-loop-line
decreases-loop-line l = length l.rest
