use Rattle.std.proofs.Common.{◌≡◌, ◌++◌, take}
use Rattle.refusal_text.specs.Refused.{lines_text}
use Rattle.refusal_text.proofs.lines.put_lines.Given as goal

abbrev pub invariant-loop-i : goal.invariant-loop-i
invariant-loop-i l = l.text ≡ l.initial.text ++ lines_text l.graph l.lines (take l.i-index l.numbers)
