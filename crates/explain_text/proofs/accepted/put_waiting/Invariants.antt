use Rattle.std.proofs.Common.{◌≡◌, ◌++◌, take}
use Rattle.explain_text.specs.Accepted.{waiting_text, each_text}
use Rattle.explain_text.proofs.accepted.put_waiting.Given as goal

abbrev pub invariant-loop-i : goal.invariant-loop-i
invariant-loop-i l = l.text ≡ l.initial.text ++ each_text (waiting_text l.graph l.lines) 0 (take l.i l.reaches)
