use Rattle.std.proofs.Common.{◌≡◌, ◌++◌, map, take}
use Rattle.explain_text.specs.Visible.{visible}
use Rattle.explain_text.proofs.text.Text.put_below.Given as goal

abbrev pub invariant-loop-each : goal.invariant-loop-each
invariant-loop-each l = l.self ≡ l.initial.self ++ map (λ b. l.byte) (visible (take l.each-index l.bytes))
