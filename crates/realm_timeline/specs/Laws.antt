-- What holds of all plans.
use Rattle.std.specs.Prelude.{◌≡◌, ℕ, ◌+◌, ◌*◌, ◌-◌, ◌<◌, ◌≤◌, List, Option}
use Rattle.graph_terms.specs.Graph.{GraphValue}
use Rattle.graph_meaning.specs.Rules.{Accepted}
use Rattle.graph_terms.specs.Reservations.{Acquires}
use Rattle.graph_terms.specs.Fits.{IsGraph}
use Rattle.realm_timeline.specs.declared.slot.Slot.{Slot}
use Rattle.realm_timeline.specs.Plan.{IsPlan, IsValid, IsGreedy, plan_length, total_cost}
use Rattle.realm_timeline.specs.Chains.{IsChain, chain_cost, IsCritical}

-- no line acquires a reservation
abbrev pub AcquiresNone : GraphValue → Type 0
AcquiresNone g = (i l : ℕ) → Acquires g i l → ⊥

-- a valid plan, on any number of processors, is at least as long as each chain
abbrev pub PlansAreAsLongAsChains : Type 0
PlansAreAsLongAsChains = (g : GraphValue) (processors : ℕ) (plan : List (Option Slot)) (c : List ℕ) → IsPlan g processors plan → IsValid g plan → IsChain g c → chain_cost g c ≤ plan_length plan

-- without reservations a greedy plan is short: on p processors, p times its length is at most the costs of all lines and (p - 1) times the cost of the critical chain
abbrev pub GreedyPlansAreShort : Type 0
GreedyPlansAreShort = (g : GraphValue) (processors : ℕ) (plan : List (Option Slot)) (c : List ℕ) → 0 < processors → AcquiresNone g → IsPlan g processors plan → IsValid g plan → IsGreedy g processors plan → IsCritical g c →
    processors * plan_length plan ≤ total_cost g plan + (processors - 1) * chain_cost g c

-- a graph has at most one critical chain
abbrev pub CriticalIsOne : Type 0
CriticalIsOne = (g : GraphValue) (c d : List ℕ) → IsCritical g c → IsCritical g d → c ≡ d

-- an accepted graph has at most one plan on so many processors that is valid and greedy
abbrev pub GreedyPlanIsOne : Type 0
GreedyPlanIsOne = (g : GraphValue) (processors : ℕ) (one other : List (Option Slot)) → IsGraph g → Accepted g →
    IsPlan g processors one → IsValid g one → IsGreedy g processors one → IsPlan g processors other → IsValid g other → IsGreedy g processors other → one ≡ other
