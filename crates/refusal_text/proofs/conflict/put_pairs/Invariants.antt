use Rattle.std.proofs.Common.{◌≡◌, ◌++◌, take}
use Rattle.std.specs.Prelude.{flat_map}
use Rattle.refusal_text.specs.Refused.{pairs_with}
use Rattle.refusal_text.proofs.conflict.put_pairs.Given as goal

abbrev pub invariant-loop-acquire : goal.invariant-loop-acquire
invariant-loop-acquire l = l.text ≡ l.initial.text ++ flat_map (pairs_with l.graph l.lines l.others) (take l.acquire-index l.acquires)
