use Rattle.std.proofs.Common.{◌≡◌, All, length}
use Rattle.free_engine.specs.HintQueues.{lines_of, IsPassAt}
use Rattle.free_engine.specs.Hints.{new_hints}
use Rattle.free_engine.proofs.hint_queue.HintQueue.hints.Given as goal

abbrev pub invariant-loop-part : goal.invariant-loop-part
invariant-loop-part l = IsPassAt l.self l.pass × (length l.parts.items ≡ l._part) × All (λ h. h ≡ new_hints (lines_of l.self)) l.parts.items
