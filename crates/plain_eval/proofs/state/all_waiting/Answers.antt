use Rattle.std.proofs.Common.{[], ◌∷◌, ◌++◌, ◌∙◌, sym, ap, arith}
use Rattle.std.proofs.lemmas.List.FromFn.{map-range_with_len_more}
use Rattle.graph_terms.specs.declared.outcome.End.TheVariants.{Waiting}
use Rattle.graph_meaning.specs.Evaluation.{end_in}
use Rattle.plain_eval.proofs.state.all_waiting.Goals as goal

pub loop-line-preserved : goal.loop-line-preserved
loop-line-preserved c = record {
  made = c.in_ok-push.ensures.ok ∙ (ap (λ xs. xs ++ Waiting ∷ []) c.loop-line.invariant.made ∙ sym (map-range_with_len_more (end_in []) 0 c.loop-line._line c.loop-line._line (omega arith)));
}
