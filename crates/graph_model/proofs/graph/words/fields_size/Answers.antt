use Rattle.std.proofs.Common.{◌≡◌, ◌+◌, List, ℕ, length, ◌∙◌, subst, arith}
use Rattle.graph_terms.specs.Spelling.{comma_word}
use Rattle.graph_model.proofs.CountLaws.{measured_names}
use Rattle.graph_model.proofs.graph.words.fields_size.Goals as goal

pub returns-clause-size : goal.returns-clause-size
returns-clause-size c =
    subst (λ (xs : List (List ℕ)). c.max.result ≡ length (comma_word xs) + 1) (c.as_slice-names.ensures.value ∙ c.fields.view_is)
    (measured_names c.as_slice-names.result.now c.loop-name.name-index c.loop-name.size c.max.result (omega arith) c.loop-name.invariant.sum c.max.ensures)
