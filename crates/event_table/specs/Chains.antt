-- The chains that the words of a table show.
use Rattle.std.specs.Prelude.{ℕ, zero, suc, ◌+◌, ◌-◌, ◌%◌, ◌<◌, List, [], ◌∷◌, slice_index, Contains}
use Rattle.event_table.specs.declared.handle.Shape.{Shape}

-- the waiters of the chain that begins with the link c, at most n of them
abbrev pub chain_in : ℕ → ℕ → List ℕ → ℕ → List ℕ
chain_in zero slots words c = []
chain_in (suc n) slots words zero = []
chain_in (suc n) slots words (suc k) = k ∷ chain_in n slots words (slice_index words (slots + k))

-- the waiters that stand on the pending handle of the slot i
abbrev pub chain_at : Shape → List ℕ → ℕ → List ℕ
chain_at shape words i = chain_in shape.waiters shape.slots words (slice_index words i % 4294967296 - 1)

-- each item of a chain is the number of a waiter
abbrev pub AreWaiters : Shape → List ℕ → Type 0
AreWaiters shape c = (k : ℕ) → Contains c k → k < shape.waiters
