use Rattle.std.proofs.Common.{◌≡◌, ℕ, ◌<◌, true, not, length, sym, refl, subst, arith}
use Rattle.std.specs.Prelude.{IsTrue}
use Rattle.basics.specs.Lists.{count_below}
use Rattle.task_order.specs.Sequence.{is_over}
use Rattle.task_window.specs.Waits.{status_at}
use Rattle.task_window.specs.Window.{WindowValue}
use Rattle.task_window.proofs.Keeping.{none_left, some_left}
use Rattle.task_window.proofs.window.TaskWindow.clear.Goals as goal

pub returns-then-left-gt0-clause-left : goal.returns-then-left-gt0-clause-left
returns-then-left-gt0-clause-left c =
    let q = c.self.inside.queue in
    let l : q.left ≡ count_below (λ j. not (is_over (status_at q.status.items j))) (length q.status.items) = c.self.invariant.rest.sized.left in
    let some = some_left (status_at q.status.items) (length q.status.items) (omega (arith, l, c.left.ensures, c.if-left-gt0.true)) in
    (refl, subst (λ (v : WindowValue). (i : ℕ) × (i < length v.tasks) × IsTrue (not (is_over (status_at v.status i)))) c.self.view_is (some.0, subst (λ n. some.0 < n) c.self.invariant.size some.1, some.2))

pub returns-clause-over : goal.returns-clause-over
returns-clause-over c =
    let q = c.self.inside.queue in
    let l : q.left ≡ count_below (λ j. not (is_over (status_at q.status.items j))) (length q.status.items) = c.self.invariant.rest.sized.left in
    subst (λ (v : WindowValue). (i : ℕ) → i < length v.tasks → is_over (status_at v.status i) ≡ true) c.self.view_is
    (λ i h. none_left (status_at q.status.items) (length q.status.items) (omega (arith, l, c.left.ensures, c.if-left-gt0.false)) i (subst (λ n. i < n) (sym c.self.invariant.size) h))
