-- The order of the evaluation lists lines of the graph.
use Rattle.std.proofs.Common.{◌≡◌, ℕ, zero, suc, ◌<◌, List, [], ◌∷◌, ◌++◌, length, map, refl, subst, sym}
use Rattle.std.specs.Prelude.{Option, Some, None, slice_get}
use Rattle.std.proofs.lemmas.Option.{none-some, same_Some}
use Rattle.graph_terms.specs.Graph.{GraphValue}
use Rattle.graph_terms.specs.declared.outcome.Outcome.{Outcome}
use Rattle.graph_meaning.specs.Evaluation.{Step, advance_by, lowest_ready, step_of, steps_after, outcome, order}
use Rattle.graph_meaning.proofs.Public.{step_of-line, lowest_ready_is}

-- each step is of a line
abbrev AreLines : GraphValue → List Step → Type 0
AreLines g ss = (k i : ℕ) → slice_get (map (λ (s : Step). s.line) ss) k ≡ Some i → i < length g.lines

lines_push : (g : GraphValue) (ss : List Step) (s : Step) → s.line < length g.lines → AreLines g ss → AreLines g (ss ++ s ∷ [])
lines_push g [] s b all zero i e = subst (λ n. n < length g.lines) (same_Some s.line i e) b
lines_push g [] s b all (suc k) i e = absurd (none-some i e)
lines_push g (x ∷ xs) s b all zero i e = all 0 i e
lines_push g (x ∷ xs) s b all (suc k) i e = lines_push g xs s b (λ m j f. all (suc m) j f) k i e

lines_by : (g : GraphValue) (ss : List Step) (o : Option ℕ) → lowest_ready g ss ≡ o → AreLines g ss → AreLines g (advance_by g ss o)
lines_by g ss None e all = all
lines_by g ss (Some i) e all = lines_push g ss (step_of g ss i) (subst (λ n. n < length g.lines) (sym (step_of-line g ss i)) (lowest_ready_is g ss i e).below) all

lines_after : (g : GraphValue) (n : ℕ) → AreLines g (steps_after g n)
lines_after g zero = λ k i e. absurd (none-some i e)
lines_after g (suc n) = lines_by g (steps_after g n) (lowest_ready g (steps_after g n)) refl (lines_after g n)

-- each item of the trace is a line
pub trace_of_lines : (g : GraphValue) (o : Outcome) → o ≡ outcome g (order g) → (k i : ℕ) → slice_get o.trace k ≡ Some i → i < length g.lines
trace_of_lines g o e = subst (λ (x : Outcome). (k i : ℕ) → slice_get x.trace k ≡ Some i → i < length g.lines) (sym e) (lines_after g (length g.lines))
