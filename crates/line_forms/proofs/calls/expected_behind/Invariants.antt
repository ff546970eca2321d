use Rattle.std.proofs.Common.{◌≡◌, length}
use Rattle.basics.specs.Words.{contents}
use Rattle.line_forms.specs.Calls.{expected_behind}
use Rattle.line_forms.specs.declared.calls.Expected.TheVariants.{Value}
use Rattle.line_forms.proofs.calls.expected_behind.Given as goal

abbrev pub invariant-loop-rest : goal.invariant-loop-rest
invariant-loop-rest l = expected_behind (Value 0) (contents l.words) ≡ expected_behind l.before (contents l.rest)

abbrev pub decreases-loop-rest : goal.decreases-loop-rest
decreases-loop-rest l = length l.rest
