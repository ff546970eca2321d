use Rattle.std.proofs.Common.{◌∷◌, [], sym, ◌∙◌, subst}
use Rattle.realm_io.specs.Written.{Wrote, Stopped}
use Rattle.realm_io.proofs.Public.{stopped_early, then_writes, stops, writes_as, stopped_as}
use Rattle.graph_answers.proofs.SummaryLines.{summary_parts, counts_are}
use Rattle.graph_answers.proofs.summary.put_summary.Goals as goal

pub returns-in_err-put_counts : goal.returns-in_err-put_counts
returns-in_err-put_counts g c =
    stops _ _ _ c.from_residual.result c.from_residual.ensures.0
    (stopped_as _ _ _ _ (sym (summary_parts c.args.graph.now c.args.outcome.now))
    (stopped_early _ _ _ (10 ∷ []) (subst (Stopped _ _) (counts_are c.counted.result c.ended.result c.ended-2.result c.ended-3.result c.ended-4.result c.counted-2.result c.args.graph.now c.args.outcome.now c.counted.ensures.words (c.counted.ensures.number ∙ c.from.ensures ∙ c.lines.ensures.number)
    c.ended.ensures.words c.ended.ensures.number c.ended-2.ensures.words c.ended-2.ensures.number c.ended-3.ensures.words c.ended-3.ensures.number c.ended-4.ensures.words c.ended-4.ensures.number c.counted-2.ensures.words (c.counted-2.ensures.number ∙ c.total.ensures)) c.in_err-put_counts.ensures)))

pub returns : goal.returns
returns g c =
    writes_as _ _ _ _ c.put_bytes.result (sym (summary_parts c.args.graph.now c.args.outcome.now))
    (then_writes _ _ _ _ (10 ∷ []) c.put_bytes.result (subst (Wrote _ _) (counts_are c.counted.result c.ended.result c.ended-2.result c.ended-3.result c.ended-4.result c.counted-2.result c.args.graph.now c.args.outcome.now c.counted.ensures.words (c.counted.ensures.number ∙ c.from.ensures ∙ c.lines.ensures.number)
    c.ended.ensures.words c.ended.ensures.number c.ended-2.ensures.words c.ended-2.ensures.number c.ended-3.ensures.words c.ended-3.ensures.number c.ended-4.ensures.words c.ended-4.ensures.number c.counted-2.ensures.words (c.counted-2.ensures.number ∙ c.total.ensures)) c.in_ok-put_counts.ensures) c.put_bytes.ensures)
