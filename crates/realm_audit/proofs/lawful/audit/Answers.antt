use Rattle.std.proofs.lemmas.Result.{IfErr-weaker}
use Rattle.realm_audit.proofs.NamedLines.{refusal_names}
use Rattle.realm_audit.proofs.Verdicts.{refusal_is_unlawful}
use Rattle.realm_audit.proofs.lawful.audit.Goals as goal

pub returns-clause-unlawful : goal.returns-clause-unlawful
returns-clause-unlawful c =
    IfErr-weaker c.judge_all.result _ _ (λ e h ne t. refusal_is_unlawful c.sections_never_overlap.ensures c.args.graph.now c.lines.ensures.is_graph c.requires.accepted c.args.trace.now e h ne t) c.judge_all.ensures.refused

pub returns-clause-names : goal.returns-clause-names
returns-clause-names c =
    IfErr-weaker c.judge_all.result _ _ (λ e h. refusal_names c.edges_between_lines.ensures c.args.graph.now c.lines.ensures.is_graph c.args.trace.now c.requires.lines e h) c.judge_all.ensures.refused
