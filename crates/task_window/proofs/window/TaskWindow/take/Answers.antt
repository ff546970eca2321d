use Rattle.std.proofs.Common.{◌<◌, List, Bool, ap, sym, ◌∙◌, subst, cond}
use Rattle.std.specs.Prelude.{slice_set}
use Rattle.task_order.specs.declared.status.Status.{Status}
use Rattle.task_order.specs.declared.status.Status.TheVariants.{Running, Cancelled}
use Rattle.task_window.specs.Pieces.{tasks_of}
use Rattle.task_window.specs.Window.{WindowValue, Takes, NoneIsDue}
use Rattle.task_window.proofs.Keeping.{not_due, if_none, start_due, start_cancelled, kept_running, kept_cancelled, cancelled_status}
use Rattle.task_window.proofs.window.TaskWindow.take.Goals as goal

pub returns-in_err-task-clause-none : goal.returns-in_err-task-clause-none
returns-in_err-task-clause-none c =
    let p = c.self.inside.pieces in
    let q = c.self.inside.queue in
    if_none c.from_residual.result _ (
      ap (λ r. record { pieces = p.readers.keys; tasks = tasks_of p; status = r.status.items }) c.in_err-task.ensures.none ∙ c.self.view_is,
      subst (λ (v : WindowValue). NoneIsDue v) c.self.view_is (λ i due. not_due p q c.self.invariant i due (c.in_err-task.ensures.all i (subst (λ n. i < n) (sym c.self.invariant.size) due.inserted) due.waits)),
    )

pub invariant_of-self-then-is_cancelled : goal.invariant_of-self-then-is_cancelled
invariant_of-self-then-is_cancelled c =
    let s = c.in_ok-task.ensures.some in
    let b = start_cancelled c.self.inside.pieces c.self.inside.queue c.start.new.self c.self.invariant c.in_ok-task.task s c.index-is_cancelled.result.now c.index-is_cancelled.ensures in
    kept_cancelled c.self.inside.pieces c.self.inside.queue c.start.new.self c.self.invariant c.in_ok-task.task s c.close.new.self c.close.ensures.rest c.close.ensures.links c.close.ensures.status (sym b ∙ c.if-is_cancelled.true)

pub returns-then-is_cancelled-clause-some : goal.returns-then-is_cancelled-clause-some
returns-then-is_cancelled-clause-some c =
    let p = c.self.inside.pieces in
    let q = c.self.inside.queue in
    let i = c.in_ok-task.task in
    let s = c.in_ok-task.ensures.some in
    let b = start_cancelled p q c.start.new.self c.self.invariant i s c.index-is_cancelled.result.now c.index-is_cancelled.ensures in
    let st = cancelled_status p q c.start.new.self c.self.invariant i s c.close.new.self c.close.ensures.status in
    subst (λ (v : WindowValue). Takes v (record { pieces = p.readers.keys; tasks = tasks_of p; status = c.close.new.self.status.items }) i c.index-is_cancelled.result.now) c.self.view_is (record {
      due = start_due p q c.start.new.self c.self.invariant i s;
      cancelled_is = b;
      after = ap (λ (xs : List Status). record { pieces = p.readers.keys; tasks = tasks_of p; status = xs }) (st ∙ ap (λ (d : Bool). slice_set q.status.items i (cond d Cancelled Running)) (sym c.if-is_cancelled.true));
    })

pub invariant_of-self-else-is_cancelled : goal.invariant_of-self-else-is_cancelled
invariant_of-self-else-is_cancelled c =
    let s = c.in_ok-task.ensures.some in
    let b = start_cancelled c.self.inside.pieces c.self.inside.queue c.start.new.self c.self.invariant c.in_ok-task.task s c.index-is_cancelled.result.now c.index-is_cancelled.ensures in
    kept_running c.self.inside.pieces c.self.inside.queue c.start.new.self c.self.invariant c.in_ok-task.task s c.in_ok-task.ensures.rest (sym b ∙ c.if-is_cancelled.false)

pub returns-clause-some : goal.returns-clause-some
returns-clause-some c =
    let p = c.self.inside.pieces in
    let q = c.self.inside.queue in
    let i = c.in_ok-task.task in
    let s = c.in_ok-task.ensures.some in
    let b = start_cancelled p q c.start.new.self c.self.invariant i s c.index-is_cancelled.result.now c.index-is_cancelled.ensures in
    subst (λ (v : WindowValue). Takes v (record { pieces = p.readers.keys; tasks = tasks_of p; status = c.start.new.self.status.items }) i c.index-is_cancelled.result.now) c.self.view_is (record {
      due = start_due p q c.start.new.self c.self.invariant i s;
      cancelled_is = b;
      after = ap (λ (xs : List Status). record { pieces = p.readers.keys; tasks = tasks_of p; status = xs }) (s.status ∙ ap (λ (d : Bool). slice_set q.status.items i (cond d Cancelled Running)) (sym c.if-is_cancelled.false));
    })
