-- What is cited of the proofs of graph_meaning besides its laws, for any effects: how the evaluation ends its lines, and that their order is irrelevant.
use Rattle.std.specs.Prelude.{◌≡◌, ℕ, ◌<◌, ◌==◌, ◌||◌, ◌↔◌, Bool, true, false, List, Contains, IsTrue, length}
use Rattle.graph_terms.specs.declared.outcome.End.TheVariants.{Cancelled, Waiting}
use Rattle.graph_terms.specs.declared.outcome.Verdict.{Verdict}
use Rattle.graph_terms.specs.declared.verb.Edge.{Edge}
use Rattle.graph_terms.specs.Access.{accesses}
use Rattle.graph_terms.specs.Edges.{edges}
use Rattle.graph_terms.specs.Graph.{GraphValue, space_at}
use Rattle.graph_meaning.specs.Effect.{Cells, CellChange, Effects, cells_after, effect, touches}
use Rattle.graph_meaning.specs.Evaluation.{Step, has_ended, is_ended, end_by, end_with, changes_with, cells_with, cells_of_lines_with, steps_with, evaluation_with, order_with}
use Rattle.graph_meaning.specs.Laws.{IsReadyAmongWith, IsWithinAccess, AgreeWhereUsed, KeepsToAccesses}
use Rattle.graph_meaning.specs.Path.{Reached}
use Rattle.graph_meaning.specs.Rules.{NoCycleAt, Everywhere, Accepted}
use Rattle.graph_meaning.specs.Turns.{EdgesInRange, EndsInOrder, EndsByTurn, HaveTurns, IsTurn, StepsEnd}
use Rattle.graph_meaning.proofs.Cancelled as cancelled
use Rattle.graph_meaning.proofs.Confluence as confluence
use Rattle.graph_meaning.proofs.OrderLaws as order_laws
use Rattle.graph_meaning.proofs.Turns as turns
use Rattle.graph_meaning.proofs.Waiting as waiting

pub turns_with : (does : Effects) (first : Cells) (g : GraphValue) (n : ℕ) → HaveTurns does first g (steps_with does first g n)
turns_with = turns.turns_with

pub ends_by_turn_with : (does : Effects) (first : Cells) (g : GraphValue) (i : ℕ) → has_ended (evaluation_with does first g) i ≡ true → EndsByTurn does first g i
ends_by_turn_with = turns.ends_by_turn_with

pub left_is_reached_with : (does : Effects) (first : Cells) (g : GraphValue) → EdgesInRange g → Everywhere (NoCycleAt g) → (i : ℕ) → i < length g.lines →
    has_ended (evaluation_with does first g) i ≡ false → Reached g i
left_is_reached_with = waiting.left_is_reached_with

pub steps_end_with : (does : Effects) (first : Cells) (g : GraphValue) (n : ℕ) → StepsEnd (steps_with does first g n)
steps_end_with = waiting.steps_end_with

pub ends_in_order_with : (does : Effects) (first : Cells) (g : GraphValue) → EndsInOrder g (evaluation_with does first g)
ends_in_order_with = waiting.ends_in_order_with

pub waits_if_reached_with : (does : Effects) (first : Cells) (g : GraphValue) (i : ℕ) → Reached g i → end_with does first g i ≡ Waiting
waits_if_reached_with = waiting.waits_if_reached_with

pub not_cancelled_of : (v : Verdict) → end_by v ≡ Cancelled → ⊥
not_cancelled_of = cancelled.not_cancelled_of

pub listed_iff_ended_with : (does : Effects) (first : Cells) (g : GraphValue) (i : ℕ) → Contains (order_with does first g) i ↔ IsTrue (is_ended (end_with does first g i))
listed_iff_ended_with = order_laws.listed_iff_ended_with

pub line_within : (g : GraphValue) (i : ℕ) (cells : Cells) (x : CellChange) → Contains (effect g i cells).changes x → IsWithinAccess (space_at g) (accesses g i) x
line_within = confluence.line_within

pub verbs_agree : (g : GraphValue) (i : ℕ) (cells others : Cells) → AgreeWhereUsed g i cells others → effect g i cells ≡ effect g i others
verbs_agree = confluence.verbs_agree

pub same_effect_with : (does : Effects) (first : Cells) (g : GraphValue) → Accepted g → KeepsToAccesses g does → (i : ℕ) (before : List Step) → IsTurn does first g (evaluation_with does first g) i before →
    (ended : ℕ → Bool) (put : ℕ → ℕ → Bool) → IsReadyAmongWith does first g i ended put → does i (λ c p. cells_of_lines_with does first g (put c) c p) ≡ does i (cells_with first before)
same_effect_with = confluence.same_effect_with

pub cell_is_put_back_with : (does : Effects) (first : Cells) (g : GraphValue) → Accepted g → KeepsToAccesses g does → (i : ℕ) (before : List Step) → IsTurn does first g (evaluation_with does first g) i before → (ended put : ℕ → Bool) (c p : ℕ) →
    ((e : Edge) → Contains (edges g) e → ended e.to ≡ true → ended e.from ≡ true) →
    ((e : Edge) → Contains (edges g) e → e.to ≡ i → ended e.from ≡ true) →
    ended i ≡ false → put i ≡ false →
    ((k : ℕ) → put k ≡ true → (e : Edge) → Contains (edges g) e → e.to ≡ k → ended e.from ≡ true) →
    ((k : ℕ) → ended k ≡ true → (x : CellChange) → Contains (changes_with does first g k) x → touches c p x ≡ true → put k ≡ true) →
    cells_after (cells_of_lines_with does first g put) (changes_with does first g i) c p ≡ cells_of_lines_with does first g (λ k. (k == i) || put k) c p
cell_is_put_back_with does first g accepted keeps i before turn ended put c p closed ready left out put_ready kept =
    confluence.cell_is_put_back_with does first g accepted keeps i before turn ended put c p closed ready left out put_ready kept
