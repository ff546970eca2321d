-- A line that faults changes nothing.
use Rattle.std.proofs.Common.{◌≡◌, ℕ, List, [], refl, ◌∙◌, ap}
use Rattle.std.specs.Prelude.{Option, Some, None}
use Rattle.std.specs.Option.{option_map_or}
use Rattle.graph_terms.specs.declared.table.Kernel.{Kernel}
use Rattle.graph_terms.specs.declared.table.Kernel.TheVariants.{Expect}
use Rattle.graph_terms.specs.declared.verb.Verb.{Verb}
use Rattle.graph_terms.specs.declared.verb.Verb.TheVariants.{Task}
use Rattle.graph_terms.specs.declared.outcome.Verdict.{Verdict}
use Rattle.graph_terms.specs.declared.outcome.Verdict.TheVariants.{Fine, Fault}
use Rattle.graph_terms.specs.Graph.{GraphValue, space_at, verb_at}
use Rattle.graph_meaning.specs.Effect.{Cells, effect, verb_verdict, verb_changes, kernel_verdict, kernel_changes}
use Rattle.graph_meaning.specs.Evaluation.{made_by}
use Rattle.line_effects.specs.Laws.{VerdictMakesChanges}

-- only an expectation faults, and it changes nothing
made_by_kernel : (space : ℕ → List (ℕ × ℕ)) (cells : Cells) (k : Kernel) → made_by (kernel_verdict space cells k) (kernel_changes space cells k) ≡ kernel_changes space cells k
made_by_kernel space cells (Expect x s l h) = by_verdict (kernel_verdict space cells (Expect x s l h))
  where
    by_verdict : (v : Verdict) → made_by v [] ≡ []
    by_verdict Fine = refl
    by_verdict Fault = refl
made_by_kernel space cells _ = refl

made_by_verb : (space : ℕ → List (ℕ × ℕ)) (cells : Cells) (v : Verb) → made_by (verb_verdict space cells v) (verb_changes space cells v) ≡ verb_changes space cells v
made_by_verb space cells (Task k) = made_by_kernel space cells k
made_by_verb space cells _ = refl

made_of : (g : GraphValue) (cells : Cells) (o : Option Verb) → made_by (option_map_or (verb_verdict (space_at g) cells) o Fine) (option_map_or (verb_changes (space_at g) cells) o []) ≡ option_map_or (verb_changes (space_at g) cells) o []
made_of g cells None = refl
made_of g cells (Some v) = made_by_verb (space_at g) cells v

pub all_made : VerdictMakesChanges
all_made g i cells verdict e = ap (λ v. made_by v (effect g i cells).changes) e ∙ made_of g cells (verb_at g i)
