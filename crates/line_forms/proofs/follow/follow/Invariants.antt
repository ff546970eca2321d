use Rattle.std.proofs.Common.{◌≡◌, ◌+◌, drop}
use Rattle.basics.specs.Words.{contents}
use Rattle.line_forms.specs.Forms.{follow}
use Rattle.line_forms.proofs.follow.follow.Given as goal

abbrev pub invariant-loop-i : goal.invariant-loop-i
invariant-loop-i l = follow (contents l.items) (contents l.words) ≡ l.i + follow (drop l.i (contents l.items)) (drop l.i (contents l.words))
