-- The rule of the queue of hints. What all passes have put in is what they have taken and what the queue holds, each number as often, and each is below the bound.
use Rattle.std.specs.Prelude.{◌≡◌, ℕ, ◌+◌, ◌<◌, All, List, [], ◌∷◌, ◌++◌, length}
use mathlib.Core.Option.{some}
use lib.ListN.{get_elem?}
use Rattle.basics.specs.Sums.{total, only}
use Rattle.free_engine.specs.declared.hint_view.HintView.{HintView}

-- how often a number stands in a list
abbrev pub times : ℕ → List ℕ → ℕ
times x l = total (only x) l

abbrev pub first_view : HintView
first_view = record { lines = 0; put = []; taken = [] }

-- a pass that has done nothing, and a pass with another bound, with one number more that it put in, that it took
abbrev pub idle_view : ℕ → HintView
idle_view n = record { lines = n; put = []; taken = [] }

abbrev pub with_lines : ℕ → HintView → HintView
with_lines n v = record { lines = n; put = v.put; taken = v.taken }

abbrev pub with_put : HintView → ℕ → HintView
with_put v x = record { lines = v.lines; put = v.put ++ x ∷ []; taken = v.taken }

abbrev pub with_taken : HintView → ℕ → HintView
with_taken v x = record { lines = v.lines; put = v.put; taken = v.taken ++ x ∷ [] }

pub record Holds (items : List ℕ) (views : List HintView) : Type 0 where
  pub lines : ℕ
  pub below : All (λ x. x < lines) items
  -- each pass knows the bound, and there is one pass alone until it is set
  pub same : (p : ℕ) (v : HintView) → get_elem? views p ≡ some v → v.lines ≡ lines
  pub alone : lines ≡ 0 → length views ≡ 1
  pub balanced : (x : ℕ) → total (λ v. times x v.put) views ≡ total (λ v. times x v.taken) views + times x items

-- at one moment the queue held these items under its rule, with a pass that knew this
unfoldable pub Saw : HintView → List ℕ → Type 0
Saw v items = (views : List HintView) × (p : ℕ) × Holds items views × (get_elem? views p ≡ some v)
