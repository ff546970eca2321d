use Rattle.std.proofs.Common.{◌≡◌, ◌+◌, length}
use Rattle.basics.specs.Words.{contents}
use Rattle.line_forms.specs.Calls.{follow_call}
use Rattle.line_forms.specs.declared.calls.Expected.TheVariants.{Value}
use Rattle.line_forms.proofs.calls.follow_call.Given as goal

-- the words that were seen, and those that are left
abbrev pub invariant-loop-rest : goal.invariant-loop-rest
invariant-loop-rest l = (follow_call (Value 0) (contents l.words) ≡ l.count + follow_call l.before (contents l.rest)) × (l.count + length l.rest ≡ length l.words)

abbrev pub decreases-loop-rest : goal.decreases-loop-rest
decreases-loop-rest l = length l.rest
