use Rattle.std.proofs.Common.{◌<◌, sym, subst, arith}
use Rattle.crossbeam_deque.specs.Tasks.{Forks}
use Rattle.crossbeam_deque.specs.Handles.{worker_port}
use Rattle.home_queues.specs.DequeRule.{Holds, with_lines, spent_view}
use Rattle.home_queues.specs.declared.deque_view.DequeView.{DequeView}
use Rattle.home_queues.proofs.Steps.{sets}
use Rattle.home_queues.proofs.deque.set_bound.Goals as goal

pub another-requires : goal.another-requires
another-requires g c =
    let some_line : 0 < g.B.Bound.lines = omega (arith, c.requires.bound.0, c.requires.bound.1) in
    let F : DequeView → Type 0 = λ v. Forks Holds (worker_port c.args.owner.now) v (with_lines g.B.Bound.lines v) spent_view in
    subst F (sym c.requires.first) (sets (worker_port c.args.owner.now) g.B.Bound.lines some_line)
