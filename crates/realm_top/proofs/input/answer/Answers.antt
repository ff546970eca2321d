use Rattle.std.proofs.Common.{◌≤◌, length, sym, subst}
use Rattle.graph_answers.specs.AuditAnswer.{AuditAnswers}
use Rattle.graph_answers.specs.UpgradeAnswer.{UpgradeAnswers}
use Rattle.realm_top.specs.SessionAnswer.{SessionAnswers}
use Rattle.graph_answers.specs.Answer.{most_slots, InputAnswers}
use Rattle.realm_top.specs.Answer.{Answers, purpose}
use Rattle.program_io.proofs.Public.{answered_by}
use Rattle.realm_top.proofs.Requests.{answers_checked, answers_audit, answers_upgrade, answers_session, limit_checked, limit_audit, limit_upgrade, limit_session, checked_else}
use Rattle.realm_top.proofs.input.answer.Goals as goal

pub answer_audit-requires : goal.answer_audit-requires
answer_audit-requires g c = record { short = subst (λ n. length c.args.bytes.now ≤ n) (limit_audit (purpose c.args.request.action) c.args.bytes.now (sym c.if-audits.ensures)) c.requires.short }

pub answer_upgrade-requires : goal.answer_upgrade-requires
answer_upgrade-requires g c = record { short = subst (λ n. length c.args.bytes.now ≤ n) (limit_upgrade (purpose c.args.request.action) c.args.bytes.now (sym c.if-upgrades.ensures)) c.requires.short }

pub answer_session-requires-clause-short : goal.answer_session-requires-clause-short
answer_session-requires-clause-short g c = λ κs lives. subst (λ n. length c.args.bytes.now ≤ n) (limit_session (purpose c.args.request.action) c.args.bytes.now (sym c.if-runs_session.ensures)) c.requires.short

pub answer_graph-requires-clause-short : goal.answer_graph-requires-clause-short
answer_graph-requires-clause-short g c = λ κs lives.
    let w = purpose c.args.request.action in
    subst (λ n. length c.args.bytes.now ≤ n) (limit_checked w c.args.bytes.now (checked_else w c.requires.reads (sym c.if-audits.ensures) (sym c.if-upgrades.ensures) (sym c.if-runs_session.ensures))) c.requires.short

pub returns-then-audits-clause-answered : goal.returns-then-audits-clause-answered
returns-then-audits-clause-answered g c =
    let request = c.args.request in
    let bytes = c.args.bytes.now in
    answered_by (AuditAnswers bytes) (Answers request bytes) _ _ c.answer_audit.result (answers_audit (purpose request.action) request bytes (sym c.if-audits.ensures)) c.answer_audit.ensures.answered

pub returns-then-upgrades-clause-answered : goal.returns-then-upgrades-clause-answered
returns-then-upgrades-clause-answered g c =
    let request = c.args.request in
    let bytes = c.args.bytes.now in
    answered_by (UpgradeAnswers request.to_three bytes) (Answers request bytes) _ _ c.answer_upgrade.result (answers_upgrade (purpose request.action) request bytes (sym c.if-upgrades.ensures)) c.answer_upgrade.ensures.answered

pub returns-then-runs_session-clause-answered : goal.returns-then-runs_session-clause-answered
returns-then-runs_session-clause-answered g c =
    let request = c.args.request in
    let bytes = c.args.bytes.now in
    answered_by (SessionAnswers (most_slots request.slots) bytes) (Answers request bytes) _ _ c.answer_session.result (answers_session (purpose request.action) request bytes (sym c.if-runs_session.ensures)) c.answer_session.ensures.answered

pub returns-else-runs_session-clause-answered : goal.returns-else-runs_session-clause-answered
returns-else-runs_session-clause-answered g c =
    let request = c.args.request in
    let bytes = c.args.bytes.now in
    let checked = checked_else (purpose request.action) c.requires.reads (sym c.if-audits.ensures) (sym c.if-upgrades.ensures) (sym c.if-runs_session.ensures) in
    answered_by (InputAnswers request bytes) (Answers request bytes) _ _ c.answer_graph.result (answers_checked (purpose request.action) request bytes checked) c.answer_graph.ensures.answered
