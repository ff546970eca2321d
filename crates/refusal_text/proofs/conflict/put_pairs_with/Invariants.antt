use Rattle.std.proofs.Common.{◌≡◌, ◌++◌, take}
use Rattle.std.specs.Prelude.{flat_map}
use Rattle.refusal_text.specs.Refused.{pair_text}
use Rattle.refusal_text.proofs.conflict.put_pairs_with.Given as goal

abbrev pub invariant-loop-other : goal.invariant-loop-other
invariant-loop-other l = l.text ≡ l.initial.text ++ flat_map (pair_text l.graph l.lines l.acquire) (take l.other-index l.others)
