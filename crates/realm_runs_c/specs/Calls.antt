-- What a program is told of the call of an operation that was taken, so that it can run the body. Columns are counted among those of data.
use Rattle.std.specs.Prelude.{◌≡◌, ℕ, ◌⊎◌, List, [], Option, Some, None, slice_get}
use Rattle.std.specs.Option.{option_map_or, MatchOption}
use Rattle.std.specs.Arc.{arc_value}
use Rattle.graph_terms.specs.Graph.{space_at}
use Rattle.graph_terms.specs.declared.call.CallParts.{CallParts}
use Rattle.graph_terms.specs.declared.verb.Access.{Access}
use Rattle.graph_terms.specs.declared.verb.Mode.{Mode}
use Rattle.graph_terms.specs.declared.verb.Mode.TheVariants.{Read, Write, Sum, Least, Most}
use Rattle.c_numbers.specs.declared.status.TheConstants.{DONE, NO_ROOM, NONE}
use Rattle.c_answers.specs.Buffers.{Holds, IsCut}
use Rattle.run_handles.specs.Calls.{call_of}
use Rattle.run_handles.specs.declared.token.Taken.{Taken}
use Rattle.realm_runs_c.specs.declared.calls.AccessNumbers.{AccessNumbers}
use Rattle.realm_runs_c.specs.declared.calls.Interval.{Interval}

abbrev pub values_of : Taken → List ℕ
values_of t = option_map_or (λ (c : CallParts). c.values) (call_of t) []

abbrev pub accesses_of : Taken → List Access
accesses_of t = option_map_or (λ (c : CallParts). c.accesses) (call_of t) []

-- the intervals over which access k is
abbrev pub intervals_of : Taken → ℕ → List (ℕ × ℕ)
intervals_of t k = option_map_or (λ (a : Access). space_at (arc_value t.graph).graph a.space) (slice_get (accesses_of t) k) []

-- the word of a call is handed out, where it is one
abbrev pub TellsWord : Option CallParts → ℕ → List ℕ → List ℕ → ℕ → Type 0
TellsWord None answer old new written = (answer ≡ NONE) × (new ≡ old) × (written ≡ 0)
TellsWord (Some c) answer old new written = ((answer ≡ DONE) × Holds c.word old new written) ⊎ ((answer ≡ NO_ROOM) × IsCut c.word old new written)

-- the number of how a call uses a column
abbrev pub mode_number : Mode → ℕ
mode_number Read = 0
mode_number Write = 1
mode_number Sum = 2
mode_number Least = 3
mode_number Most = 4

abbrev pub access_numbers : Access → AccessNumbers
access_numbers a = record { «mode» = mode_number a.mode; column = a.column; space = a.space }

abbrev pub interval_numbers : ℕ × ℕ → Interval
interval_numbers p = record { first = p.0; last = p.1 }

-- an item is told, where there is one
abbrev pub Tells : {A B : Type 0} → (A → B) → Option A → ℕ → B → B → Type 0
Tells f o answer old new = MatchOption o ((answer ≡ NONE) × (new ≡ old)) (λ a. (answer ≡ DONE) × (new ≡ f a))
