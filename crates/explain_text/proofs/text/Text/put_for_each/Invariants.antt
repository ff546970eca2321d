use Rattle.std.proofs.Common.{◌≡◌, ◌++◌, map, take}
use Rattle.explain_text.proofs.text.Text.put_for_each.Given as goal

abbrev pub invariant-loop-each : goal.invariant-loop-each
invariant-loop-each l = l.self ≡ l.initial.self ++ map (λ b. l.byte) (take l._each-index l.bytes)
