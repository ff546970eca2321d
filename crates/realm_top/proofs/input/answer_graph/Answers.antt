use Rattle.std.proofs.Common.{subst}
use Rattle.graph_reader.specs.Reading.{IsRefusal}
use Rattle.graph_answers.specs.Refused.{Refuses}
use Rattle.graph_answers.specs.Answer.{InputAnswers, Judged}
use Rattle.program_io.proofs.Public.{answered_by}
use Rattle.realm_top.proofs.Answered.{judged_input, refused_input}
use Rattle.realm_top.proofs.input.answer_graph.Goals as goal

pub returns-in-Ok-clause-answered : goal.returns-in-Ok-clause-answered
returns-in-Ok-clause-answered g c =
    let request = c.args.request in
    let bytes = c.args.bytes.now in
    answered_by (Judged request c.in-Ok.graph) (InputAnswers request bytes) _ _ c.judge.result (judged_input request bytes c.requires.short c.in-Ok.graph c.in-Ok.ensures.text) c.judge.ensures.settled

pub returns-in-Err-clause-answered : goal.returns-in-Err-clause-answered
returns-in-Err-clause-answered g c =
    let request = c.args.request in
    let bytes = c.args.bytes.now in
    answered_by (Refuses bytes) (InputAnswers request bytes) _ _ c.refuse.result (refused_input request bytes c.requires.short)
    (c.refuse.ensures.refused bytes (λ number why e. subst (IsRefusal bytes) e c.in-Err.ensures.refusal))
