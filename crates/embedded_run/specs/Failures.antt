-- The cause of each failure.
use Rattle.std.specs.Prelude.{◌≡◌, ℕ, ◌<◌, Option, Some}
use Rattle.graph_terms.specs.declared.why.Why.{Why}
use Rattle.graph_terms.specs.Graph.{GraphValue}
use Rattle.graph_meaning.specs.Need.{IsNeed}
use Rattle.graph_meaning.specs.Rules.{Accepted}
use Rattle.race_check.specs.declared.checked.CheckRefusal.{CheckRefusal}
use Rattle.race_check.specs.declared.checked.CheckRefusal.TheVariants as refusal
use Rattle.race_check.specs.Refusal.{IsRefusal}
use Rattle.embedded_run.specs.declared.failure.Failure.{Failure}
use Rattle.embedded_run.specs.declared.failure.Failure.TheVariants.{Item, Graph, Slots, NoMemory, Output}

-- a failure to put an item at the end, given the first reason that refuses it
abbrev pub IsItemFailure : Option Why → Failure → Type 0
IsItemFailure fault (Item why) = fault ≡ Some why
IsItemFailure fault (Graph why) = ⊥
IsItemFailure fault (Slots need) = ⊥
IsItemFailure fault NoMemory = Unit {0}
IsItemFailure fault Output = ⊥

-- the failure that a refusal is
abbrev pub failure_of : CheckRefusal → Failure
failure_of refusal.NoMemory = NoMemory
failure_of why = Graph why

-- a failure to run a graph with so many event slots
abbrev pub IsRunFailure : GraphValue → ℕ → Failure → Type 0
IsRunFailure g slots (Item why) = ⊥
IsRunFailure g slots (Graph why) = IsRefusal g why × (Accepted g → ⊥)
IsRunFailure g slots (Slots need) = IsNeed g need × (slots < need)
IsRunFailure g slots NoMemory = Unit {0}
IsRunFailure g slots Output = ⊥
