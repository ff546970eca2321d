use Rattle.std.proofs.Common.{◌≡◌, take}
use Rattle.explain_text.specs.Visible.{visible}
use Rattle.explain_text.proofs.visible.visible_front.Given as goal

abbrev pub invariant-loop-byte : goal.invariant-loop-byte
invariant-loop-byte l = l.out.items ≡ visible (take l.byte-index l.bytes)
