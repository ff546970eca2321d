-- What contracts see of a worker's hints at a queue.
use Rattle.std.specs.Prelude.{ℕ, List, [], ◌∷◌, ◌++◌}
use Rattle.realm_io.specs.Counts.{next_count}

-- the bound, what was put in and taken here, in order, how many pops found the queue empty, and how many pushes found it full
pub record HintsValue : Type 0 where
  pub lines : ℕ
  pub put : List ℕ
  pub taken : List ℕ
  pub empty : ℕ
  pub full : ℕ

-- after one step: a number was put in at the back, a number was taken at the front, the queue was found empty, or full
abbrev pub after_put : HintsValue → ℕ → HintsValue
after_put h x = record h { put = h.put ++ x ∷ [] }

abbrev pub after_taken : HintsValue → ℕ → HintsValue
after_taken h x = record h { taken = h.taken ++ x ∷ [] }

abbrev pub after_empty : HintsValue → HintsValue
after_empty h = record h { empty = next_count h.empty }

abbrev pub after_full : HintsValue → HintsValue
after_full h = record h { full = next_count h.full }

abbrev pub new_hints : ℕ → HintsValue
new_hints lines = record { lines = lines; put = []; taken = []; empty = 0; full = 0 }
