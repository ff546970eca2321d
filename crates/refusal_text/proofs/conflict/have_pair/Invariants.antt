use Rattle.std.proofs.Common.{◌≡◌, ℕ, ◌<◌, false}
use Rattle.std.specs.Prelude.{◌&&◌}
use Rattle.std.specs.List.{list_any}
use Rattle.refusal_text.specs.Refused.{takes}
use Rattle.refusal_text.proofs.conflict.have_pair.Given as goal

abbrev pub invariant-loop-lock : goal.invariant-loop-lock
invariant-loop-lock l = (k : ℕ) → k < l.lock → (list_any (takes l.graph k) l.acquires && list_any (takes l.graph k) l.others) ≡ false
