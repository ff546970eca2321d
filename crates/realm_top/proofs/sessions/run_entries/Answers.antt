use Rattle.std.proofs.Common.{subst}
use Rattle.session_run.specs.Linked.{linked}
use Rattle.session_run.specs.Session.{StopsOr}
use Rattle.graph_answers.specs.Answer.{most_slots}
use Rattle.realm_top.proofs.SessionAnswers.{ran_answered, unfit_answered, short_answered, no_want_in}
use Rattle.realm_top.proofs.sessions.run_entries.Goals as goal

pub returns-in-Ok-clause-ran : goal.returns-in-Ok-clause-ran
returns-in-Ok-clause-ran g c =
    ran_answered c.most_slots-slots.result (most_slots c.args.request.slots) (linked c.args.entries.items) c.in-Ok.ended.graphs.items _ _ c.put_ended.result c.most_slots-slots.ensures.slots c.in-Ok.ensures.linked c.in-Ok.ensures.ran c.put_ended.ensures

pub returns-in-Err-Unfit-clause-ran : goal.returns-in-Err-Unfit-clause-ran
returns-in-Err-Unfit-clause-ran g c =
    let gs = linked c.args.entries.items in
    let stops = subst (StopsOr c.most_slots-slots.result gs) c.in-Err-Unfit.field-0-is c.in-Err-Unfit.ensures.stops in
    unfit_answered c.most_slots-slots.result (most_slots c.args.request.slots) gs c.in-Err-Unfit.unfit _ _ c.reject_in.result c.most_slots-slots.ensures.slots stops c.reject_in.ensures

pub returns-in-Err-Unfit-clause-no_memory : goal.returns-in-Err-Unfit-clause-no_memory
returns-in-Err-Unfit-clause-no_memory g c =
    let stops = subst (StopsOr c.most_slots-slots.result (linked c.args.entries.items)) c.in-Err-Unfit.field-0-is c.in-Err-Unfit.ensures.stops in
    λ e. absurd (no_want_in c.in-Err-Unfit.unfit _ _ c.reject_in.result stops.refused.2 c.reject_in.ensures e)

pub returns-in-Err-Slots-clause-ran : goal.returns-in-Err-Slots-clause-ran
returns-in-Err-Slots-clause-ran g c =
    let gs = linked c.args.entries.items in
    let stops = subst (StopsOr c.most_slots-slots.result gs) c.in-Err-Slots.field-0-is c.in-Err-Slots.ensures.stops in
    short_answered c.most_slots-slots.result (most_slots c.args.request.slots) gs c.in-Err-Slots.need _ _ c.put_short.result c.most_slots-slots.ensures.slots stops c.put_short.ensures
