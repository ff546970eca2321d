use Rattle.std.proofs.Common.{◌≡◌, ◌++◌, take}
use Rattle.std.specs.Prelude.{flat_map}
use Rattle.refusal_text.specs.Refused.{further_name}
use Rattle.refusal_text.proofs.lines.put_names.Given as goal

abbrev pub invariant-loop-i : goal.invariant-loop-i
invariant-loop-i l = l.text ≡ l.initial.text ++ flat_map (further_name l.graph) (take l.i-index l.lines)
