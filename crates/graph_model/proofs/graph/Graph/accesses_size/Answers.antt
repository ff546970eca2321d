use Rattle.std.proofs.Common.{ap, sym, ◌∙◌, arith}
use Rattle.std.specs.Prelude.{sum_by}
use Rattle.std.proofs.lemmas.List.{take_all}
use Rattle.graph_terms.specs.declared.verb.Access.{Access}
use Rattle.graph_terms.specs.Spelling.{access_words}
use Rattle.graph_indexes.specs.Counts.{words_size}
use Rattle.graph_model.proofs.CountLaws.{sum_flat}
use Rattle.graph_model.proofs.graph.Graph.accesses_size.Goals as goal

pub returns-clause-size : goal.returns-clause-size
returns-clause-size c =
    c.loop-access.invariant.sum
    ∙ (ap (sum_by (λ (a : Access). words_size (access_words c.args.self.now a))) (take_all c.loop-access.access-index c.args.accesses.now (omega arith))
    ∙ sym (sum_flat (access_words c.args.self.now) c.args.accesses.now))
