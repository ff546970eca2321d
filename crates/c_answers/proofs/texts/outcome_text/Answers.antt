use Rattle.std.proofs.Common.{◌≡◌, [], ap, ◌∙◌}
use Rattle.run_report.specs.Report.{report}
use Rattle.realm_io.specs.TextSinks.{TextSinkValue}
use Rattle.c_answers.proofs.Sinks.{taken_is}
use Rattle.c_answers.proofs.texts.outcome_text.Goals as goal

pub returns-in-Ok : goal.returns-in-Ok
returns-in-Ok c =
    let empty : c.new-sink.result.taken ≡ [] = ap (λ (s : TextSinkValue). s.taken) c.new-sink.ensures in
    c.into_bytes.ensures ∙ taken_is _ _ (report c.args.graph.now c.args.found.now) empty c.in-Ok.ensures.ok
