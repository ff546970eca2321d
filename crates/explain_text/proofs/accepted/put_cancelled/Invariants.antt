use Rattle.std.proofs.Common.{◌≡◌, ◌++◌, take}
use Rattle.explain_text.specs.Accepted.{cancelled_text, each_text}
use Rattle.explain_text.proofs.accepted.put_cancelled.Given as goal

abbrev pub invariant-loop-i : goal.invariant-loop-i
invariant-loop-i l = l.text ≡ l.initial.text ++ each_text (cancelled_text l.graph l.lines l.ends) 0 (take l.i l.reaches)
