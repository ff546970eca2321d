use Rattle.std.proofs.Common.{subst}
use Rattle.graph_reader.specs.Reading.{IsRefusal}
use Rattle.graph_answers.specs.Refused.{Refuses}
use Rattle.graph_answers.specs.UpgradeAnswer.{UpgradeAnswers}
use Rattle.program_io.proofs.Public.{answered_by}
use Rattle.graph_answers.proofs.UpgradeAnswers.{upgraded_answer, refused_upgrade}
use Rattle.graph_answers.proofs.upgrading.answer_upgrade.Goals as goal

pub returns-in-Ok-clause-answered : goal.returns-in-Ok-clause-answered
returns-in-Ok-clause-answered g c = upgraded_answer c.args.to_three c.args.bytes.now c.in-Ok.graph c.upgraded-later.result _ _ c.put_graph_text.result c.requires.short c.in-Ok.ensures.text c.upgraded-later.ensures c.put_graph_text.ensures

pub returns-in-Err-clause-answered : goal.returns-in-Err-clause-answered
returns-in-Err-clause-answered g c =
    let bytes = c.args.bytes.now in
    answered_by (Refuses bytes) (UpgradeAnswers c.args.to_three bytes) _ _ c.refuse.result (refused_upgrade c.args.to_three bytes c.requires.short)
    (c.refuse.ensures.refused bytes (λ number why e. subst (IsRefusal bytes) e c.in-Err.ensures.refusal))
