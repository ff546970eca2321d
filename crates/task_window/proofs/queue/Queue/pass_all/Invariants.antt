use Rattle.std.proofs.Common.{◌≡◌, ◌-◌, ◌<◌, ◌≤◌, length}
use Rattle.task_window.specs.Chains.{link_at}
use Rattle.task_window.specs.Waits.{IsPassing}
use Rattle.task_window.proofs.queue.Queue.pass_all.Given as goal

abbrev pub invariant-loop-link : goal.invariant-loop-link
invariant-loop-link l = record {
  passing : IsPassing l.self l.task l.link;
  status : l.self.status ≡ l.initial.self.status;
  links : l.self.links ≡ l.initial.self.links;
  within : l.link ≤ length l.self.links.links;
  is : 0 < l.link → (link_at l.self.links.links (l.link - 1)).key ≡ l.task;
}

abbrev pub decreases-loop-link : goal.decreases-loop-link
decreases-loop-link l = l.link
