-- What holds of a queue of hints at each moment, since its rule holds then.
use Rattle.std.specs.Prelude.{◌≡◌, ℕ, ◌+◌, List, slice_set}
use mathlib.Core.Option.{some}
use lib.ListN.{get_elem?}
use Rattle.free_engine.specs.HintRule.{Holds, times}
use Rattle.free_engine.specs.declared.hint_view.HintView.{HintView}

-- where one pass knows v at one moment and w at another, and the queue holds the same and the other passes know the same at both, the pass has put each number in as many times more often as it has taken it more often
abbrev pub ListsChangeBySteps : Type 0
ListsChangeBySteps = (items : List ℕ) (views : List HintView) (p : ℕ) (v w : HintView) → Holds items views → get_elem? views p ≡ some v → Holds items (slice_set views p w)
    → (x : ℕ) → times x w.put + times x v.taken ≡ times x v.put + times x w.taken
