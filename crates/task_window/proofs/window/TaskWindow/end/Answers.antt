use Rattle.std.proofs.Common.{◌≡◌, sym, subst}
use Rattle.task_order.specs.declared.status.Status.TheVariants.{Running}
use Rattle.task_window.specs.Waits.{status_at}
use Rattle.task_window.specs.Window.{WindowValue}
use Rattle.task_window.proofs.Keeping.{kept_ended, runs_known}
use Rattle.task_window.proofs.window.TaskWindow.end.Goals as goal

pub close-requires-clause-known : goal.close-requires-clause-known
close-requires-clause-known c =
    let q = c.self.inside.queue in
    runs_known q.status.items c.args.task (subst (λ (v : WindowValue). status_at v.status c.args.task ≡ Running) (sym c.self.view_is) c.requires)

pub invariant_of-self : goal.invariant_of-self
invariant_of-self c =
    let p = c.self.inside.pieces in
    let q = c.self.inside.queue in
    let runs = subst (λ (v : WindowValue). status_at v.status c.args.task ≡ Running) (sym c.self.view_is) c.requires in
    kept_ended p q c.close.new.self c.args.task c.args.failed c.end_status.result c.self.invariant c.close.ensures.rest c.close.ensures.links (runs_known q.status.items c.args.task runs) c.end_status.ensures c.close.ensures.status runs
