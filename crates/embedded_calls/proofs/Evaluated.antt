-- What the evaluation of the graph leaves.
use Rattle.std.proofs.Common.{◌≡◌, ℕ, Bool, length, refl, sym, ◌∙◌, ap}
use Rattle.std.specs.Prelude.{Some, slice_get}
use Rattle.std.proofs.lemmas.Option.{get_or_from_slice_get}
use Rattle.graph_terms.specs.declared.outcome.End.{End}
use Rattle.graph_terms.specs.declared.outcome.End.TheVariants.{Done, Faulted, Cancelled, Waiting}
use Rattle.graph_terms.specs.declared.outcome.Outcome.{Outcome}
use Rattle.graph_terms.specs.Graph.{GraphValue}
use Rattle.graph_meaning.specs.Evaluation.{cells_with, end_in, end_with, evaluation_with, outcome_with}
use Rattle.graph_meaning.specs.Effect.{zero_cells}
use Rattle.run_state.specs.Verdicts.{effect_by}
use Rattle.call_bodies.specs.Bodies.{host_does, end_of, faulted_in}
use Rattle.embedded_calls.specs.declared.accounts.Accounts.{Accounts}
use Rattle.embedded_calls.specs.Accounts.{cells_of, accounts_do}
use Rattle.embedded_calls.specs.CallGraph.{call_graph}
use Rattle.embedded_calls.specs.Readings.{evaluated, reading_from}

-- the outcome has an end for each line
pub three_ends : (g : GraphValue) (o : Outcome) → g ≡ call_graph → o ≡ outcome_with (effect_by (faulted_in o) g) zero_cells g o.trace → length o.ends ≡ 3
three_ends g o same is = ap (λ (p : Outcome). length p.ends) is ∙ ap (λ h. length (outcome_with (effect_by (faulted_in o) h) zero_cells h o.trace).ends) same

-- each line is a call, so it matters not which others fault
calls_alone : (a : Accounts) (faults : ℕ → Bool) → evaluation_with (host_does call_graph (accounts_do call_graph) faults) (cells_of a.x a.y) call_graph ≡ evaluated a
calls_alone a faults = refl

pub first_reading : reading_from (record { x = 40; y = 0 }) ≡ record { halve = Done; carry = Done; double = Done; accounts = record { x = 5; y = 30 } }
first_reading = refl

pub second_reading : reading_from (record { x = 5; y = 30 }) ≡ record { halve = Done; carry = Faulted; double = Cancelled; accounts = record { x = 2; y = 30 } }
second_reading = refl

module _ (g : GraphValue) (o : Outcome) (a n : Accounts) (same : g ≡ call_graph)
    (ends : (i : ℕ) → end_of o i ≡ end_with (host_does g (accounts_do g) (faulted_in o)) (cells_of a.x a.y) g i)
    (memory : (c p : ℕ) → cells_of n.x n.y c p ≡ cells_with (cells_of a.x a.y) (evaluation_with (host_does g (accounts_do g) (faulted_in o)) (cells_of a.x a.y) g) c p) where
  steps : evaluation_with (host_does g (accounts_do g) (faulted_in o)) (cells_of a.x a.y) g ≡ evaluated a
  steps = ap (λ h. evaluation_with (host_does h (accounts_do h) (faulted_in o)) (cells_of a.x a.y) h) same ∙ calls_alone a (faulted_in o)

  end_read : (i : ℕ) → end_of o i ≡ end_in (evaluated a) i
  end_read i = ends i ∙ ap (λ ss. end_in ss i) steps

  cell_read : (c p : ℕ) → cells_of n.x n.y c p ≡ cells_with (cells_of a.x a.y) (evaluated a) c p
  cell_read c p = memory c p ∙ ap (λ ss. cells_with (cells_of a.x a.y) ss c p) steps

  read_x : n.x ≡ cells_with (cells_of a.x a.y) (evaluated a) 0 0
  read_x = cell_read 0 0

  read_y : n.y ≡ cells_with (cells_of a.x a.y) (evaluated a) 1 0
  read_y = cell_read 1 0

  pub all_read : (h m d : End) → slice_get o.ends 0 ≡ Some h → slice_get o.ends 1 ≡ Some m → slice_get o.ends 2 ≡ Some d → record { halve = h; carry = m; double = d; accounts = n } ≡ reading_from a
  all_read h m d one two three t = record {
    halve = (sym (get_or_from_slice_get o.ends 0 h Waiting one) ∙ end_read 0) t;
    carry = (sym (get_or_from_slice_get o.ends 1 m Waiting two) ∙ end_read 1) t;
    double = (sym (get_or_from_slice_get o.ends 2 d Waiting three) ∙ end_read 2) t;
    accounts = record { x = read_x t; y = read_y t };
  }
