-- What contracts say of a queue of hints and of its passes.
use Rattle.std.specs.Prelude.{◌≡◌, ℕ}
use Rattle.crossbeam_queue.specs.Passes.{Pass, IsPassOf, view}
use Rattle.free_engine.specs.declared.hint_view.HintView.{HintView}
use Rattle.free_engine.specs.declared.hint_queue.HintQueue.{HintQueue}
use Rattle.free_engine.specs.declared.hint_queue.HintPass.{HintPass}

abbrev pub lines_of : HintQueue → ℕ
lines_of q = q.lines

-- what the pass knows, and has done
abbrev pub known : Pass ℕ HintView → HintView
known p = view p

-- it is a pass of this queue, and knows its bound
abbrev pub IsPassAt : HintQueue → Pass ℕ HintView → Type 0
IsPassAt q p = IsPassOf q.ruled p × ((view p).lines ≡ q.lines)

-- the right to make this queue's hints
abbrev pub IsHintPassOf : HintQueue → HintPass → Type 0
IsHintPassOf q p = IsPassAt q p.pass
