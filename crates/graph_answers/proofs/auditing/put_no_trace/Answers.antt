use Rattle.std.proofs.Common.{◌+◌, ap₂}
use Rattle.graph_answers.specs.Texts.{trace_refused_text}
use Rattle.program_io.proofs.Public.{written_then_flushed}
use Rattle.graph_answers.proofs.AuditAnswers.{wrote_number}
use Rattle.graph_answers.proofs.auditing.put_no_trace.Goals as goal

pub returns-in-Ok : goal.returns-in-Ok
returns-in-Ok g c =
    written_then_flushed _ _ _ _ c.flush.result (trace_refused_text (c.args.lines + c.args.number)) (wrote_number _ _ _ _ (ap₂ (λ m n. m + n) c.from.ensures c.from-2.ensures) c.in-Ok.ensures) c.flush.ensures
