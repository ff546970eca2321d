use Rattle.std.proofs.Common.{◌≡◌, ◌<◌, ℕ, Some, length, subst}
use Rattle.std.specs.Prelude.{slice_get}
use Rattle.graph_terms.specs.Graph.{GraphValue}
use Rattle.run_words.proofs.Public.{all_at_first}
use Rattle.realm_top.proofs.running.run_in_words.Goals as goal

pub run_free-requires-clause-all : goal.run_free-requires-clause-all
run_free-requires-clause-all t c = λ ks within. all_at_first c.in_ok-words.seat c.in_ok-words.ensures.first

pub returns-clause-lines : goal.returns-clause-lines
returns-clause-lines t c =
    subst (λ (g : GraphValue). (k i : ℕ) → slice_get c.run_free.result.trace k ≡ Some i → i < length g.lines) c.in_ok-words.ensures.graph c.run_free.ensures.lines
