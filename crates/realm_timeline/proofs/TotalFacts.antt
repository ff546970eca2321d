-- The length and the total of a plan, line by line.
use Rattle.std.proofs.Common.{◌≡◌, ℕ, zero, suc, ◌+◌, ◌-◌, ◌*◌, ◌≤◌, ◌<◌, List, [], ◌∷◌, ◌++◌, length, take, sym, ◌∙◌, ap, subst, arith}
use Rattle.std.specs.Prelude.{max, Option, None, sum_by, Some, slice_get}
use Rattle.std.proofs.lemmas.Option.{none-some, same_Some}
use Rattle.std.specs.List.{slice_index_or, range_with_len}
use Rattle.std.proofs.lemmas.List.{take_more, take_all}
use Rattle.std.proofs.lemmas.List.Sums.{sum_by_push}
use Rattle.graph_terms.specs.Graph.{GraphValue}
use Rattle.basics.specs.Lists.{numbers_below}
use Rattle.realm_timeline.specs.declared.slot.Slot.{Slot}
use Rattle.realm_timeline.specs.Plan.{finish_or_0, plan_length, planned_cost, total_cost, IsPlan, IsValid, IsGreedy}
use Rattle.realm_timeline.specs.Chains.{IsChain, chain_cost, IsCritical}
use Rattle.realm_timeline.specs.Laws.{AcquiresNone}
use Rattle.realm_timeline.proofs.SlotFacts.{plans_are_as_long_as_chains}
use Rattle.realm_timeline.proofs.ShortPlans.{greedy_plans_are_short}

plan_length_push : (plan : List (Option Slot)) (o : Option Slot) → plan_length (plan ++ o ∷ []) ≡ max (plan_length plan) (finish_or_0 o)
plan_length_push [] o = omega arith
plan_length_push (x ∷ plan) o = let r : plan_length (plan ++ o ∷ []) ≡ max (plan_length plan) (finish_or_0 o) = plan_length_push plan o in omega arith

pub length_more : (plan : List (Option Slot)) (i n m : ℕ) → n ≡ plan_length (take i plan) → i < length plan → m ≡ max n (finish_or_0 (slice_index_or plan i None)) → m ≡ plan_length (take (i + 1) plan)
length_more plan i n m is h more =
    let p : plan_length (take (i + 1) plan) ≡ max (plan_length (take i plan)) (finish_or_0 (slice_index_or plan i None)) = ap plan_length (take_more plan i None h) ∙ plan_length_push (take i plan) (slice_index_or plan i None) in
    omega arith

pub length_all : (plan : List (Option Slot)) (i n : ℕ) → n ≡ plan_length (take i plan) → length plan ≤ i → n ≡ plan_length plan
length_all plan i n is h = is ∙ ap plan_length (take_all i plan h)

range_push : (lo n : ℕ) → range_with_len lo (n + 1) ≡ range_with_len lo n ++ (lo + n) ∷ []
range_push lo n = subst (λ m. range_with_len lo m ≡ range_with_len lo n ++ (lo + n) ∷ []) (let e : suc n ≡ n + 1 = omega arith in e) (by lo n)
  where
    by : (lo n : ℕ) → range_with_len lo (suc n) ≡ range_with_len lo n ++ (lo + n) ∷ []
    by lo zero = ap (λ x. x ∷ []) (let e : lo ≡ lo + 0 = omega arith in e)
    by lo (suc n) = ap (λ xs. lo ∷ xs) (by (lo + 1) n ∙ ap (λ x. range_with_len (lo + 1) n ++ x ∷ []) (let e : (lo + 1) + n ≡ lo + suc n = omega arith in e))

pub total_more : (g : GraphValue) (plan : List (Option Slot)) (i n c : ℕ) → n ≡ sum_by (planned_cost g plan) (numbers_below i) → c ≡ planned_cost g plan i → n + c ≡ sum_by (planned_cost g plan) (numbers_below (i + 1))
total_more g plan i n c is at =
    let p : numbers_below (i + 1) ≡ numbers_below i ++ i ∷ [] = range_push 0 i ∙ ap (λ x. numbers_below i ++ x ∷ []) (let e : 0 + i ≡ i = omega arith in e) in
    let s : sum_by (planned_cost g plan) (numbers_below (i + 1)) ≡ sum_by (planned_cost g plan) (numbers_below i) + planned_cost g plan i = ap (sum_by (planned_cost g plan)) p ∙ sum_by_push (planned_cost g plan) (numbers_below i) i in
    omega arith

-- the critical chain is a lower bound of each plan's length, and with the total an upper bound of the greedy plan's
pub at_least : (g h : GraphValue) (c : List ℕ) (cost : ℕ) → h ≡ g → IsCritical h c → cost ≡ chain_cost h c → (n : ℕ) (other : List (Option Slot)) → IsPlan g n other → IsValid g other → cost ≤ plan_length other
at_least g h c cost same critical is n other plan valid =
    let chain : IsChain g c = subst (λ x. IsChain x c) same critical.chain in
    let e : cost ≡ chain_cost g c = is ∙ ap (λ x. chain_cost x c) same in
    let l : chain_cost g c ≤ plan_length other = plans_are_as_long_as_chains g n other c plan valid chain in
    omega arith

pub at_most : (g h : GraphValue) (p : ℕ) (plan : List (Option Slot)) (c : List ℕ) (span total cost : ℕ) → h ≡ g → 1 ≤ p → IsPlan h p plan → IsValid h plan → IsGreedy h p plan → IsCritical h c → span ≡ plan_length plan → total ≡ total_cost h plan → cost ≡ chain_cost h c →
    AcquiresNone g → p * span ≤ total + (p - 1) * cost
at_most g h p plan c span total cost same some is valid greedy critical span_is total_is cost_is none =
    let none' : AcquiresNone h = subst AcquiresNone (sym same) none in
    let short : p * plan_length plan ≤ total_cost h plan + (p - 1) * chain_cost h c = greedy_plans_are_short h p plan c (omega arith) none' is valid greedy critical in
    let a : p * span ≡ p * plan_length plan = ap (λ x. p * x) span_is in
    let b : (p - 1) * cost ≡ (p - 1) * chain_cost h c = ap (λ x. (p - 1) * x) cost_is in
    omega arith

-- the numbers of a chain are lines
pub chain_lines : (g : GraphValue) (c : List ℕ) → IsChain g c → (k i : ℕ) → slice_get c k ≡ Some i → i < length g.lines
chain_lines g [] c k i e = absurd (none-some i e)
chain_lines g (x ∷ []) c zero i e = subst (λ z. z < length g.lines) (same_Some x i e) c.line
chain_lines g (x ∷ []) c (suc k) i e = absurd (none-some i e)
chain_lines g (x ∷ y ∷ rest) c zero i e = subst (λ z. z < length g.lines) (same_Some x i e) c.0.line
chain_lines g (x ∷ y ∷ rest) c (suc k) i e = chain_lines g (y ∷ rest) c.2 k i e

pub critical_lines : (g h : GraphValue) (c : List ℕ) → h ≡ g → IsCritical h c → (k i : ℕ) → slice_get c k ≡ Some i → i < length g.lines
critical_lines g h c same critical = chain_lines g c (subst (λ x. IsChain x c) same critical.chain)
