-- The memory of the program: two accounts, which are the columns 0 and 1 of data, each of one point; and what its bodies do.
use Rattle.std.specs.Prelude.{ℕ, zero, suc, ◌+◌, ◌-◌, ◌*◌, ◌/◌, nat_lt, cond, List, [], ◌∷◌, Option, Some, codes, bytes_eq, slice_index}
use Rattle.graph_terms.specs.declared.outcome.Verdict.{Verdict}
use Rattle.graph_terms.specs.declared.outcome.Verdict.TheVariants.{Fine, Fault}
use Rattle.graph_terms.specs.declared.verb.Verb.{Verb}
use Rattle.graph_terms.specs.declared.verb.Verb.TheVariants.{Call}
use Rattle.graph_terms.specs.Graph.{GraphValue, verb_at}
use Rattle.graph_meaning.specs.Effect.{Cells, CellChange, Effect, Effects, Set, wrapped}
use Rattle.embedded_calls.specs.declared.accounts.Accounts.{Accounts}
use Rattle.embedded_calls.specs.declared.accounts.Body.{Body}
use Rattle.embedded_calls.specs.declared.accounts.Body.TheVariants.{Halve, Move, Double, Nothing}

-- the body for a word
abbrev pub body_of : List ℕ → Body
body_of word = cond (bytes_eq word (codes "halve")) Halve (cond (bytes_eq word (codes "move")) Move (cond (bytes_eq word (codes "double")) Double Nothing))

-- what a body does: half of the first account goes, or an amount goes from it to the other, unless it has less, or the other is doubled
abbrev pub verdict_of : Body → ℕ → Accounts → Verdict
verdict_of Move amount a = cond (nat_lt a.x amount) Fault Fine
verdict_of _ amount a = Fine

abbrev pub accounts_after : Body → ℕ → Accounts → Accounts
accounts_after Halve amount a = record { x = a.x / 2; y = a.y }
accounts_after Move amount a = cond (nat_lt a.x amount) a (record { x = a.x - amount; y = wrapped (a.y + amount) })
accounts_after Double amount a = record { x = a.x; y = wrapped (a.y * 2) }
accounts_after Nothing amount a = a

-- the same as changes of the cells of the two columns
abbrev pub cells_of : ℕ → ℕ → Cells
cells_of x y zero zero = x
cells_of x y (suc zero) zero = y
cells_of x y column point = 0

abbrev pub accounts_in : Cells → Accounts
accounts_in cells = record { x = cells 0 0; y = cells 1 0 }

abbrev pub holds : ℕ → ℕ → CellChange
holds account amount = record { column = account; point = 0; change = Set amount }

abbrev pub changes_by : Body → Accounts → List CellChange
changes_by Halve a = holds 0 a.x ∷ []
changes_by Move a = holds 0 a.x ∷ holds 1 a.y ∷ []
changes_by Double a = holds 1 a.y ∷ []
changes_by Nothing a = []

abbrev pub body_does : Body → ℕ → Cells → Effect
body_does body amount cells = record { verdict = verdict_of body amount (accounts_in cells); changes = changes_by body (accounts_after body amount (accounts_in cells)) }

-- what a line does by its word and its first value
abbrev pub verb_does : Option Verb → Cells → Effect
verb_does (Some (Call call)) cells = body_does (body_of call.word) (slice_index call.values 0) cells
verb_does _ cells = record { verdict = Fine; changes = [] }

abbrev pub accounts_do : GraphValue → Effects
accounts_do g i cells = verb_does (verb_at g i) cells
