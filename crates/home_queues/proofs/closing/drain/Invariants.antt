use Rattle.std.proofs.Common.{◌≡◌, ℕ, ◌+◌, ◌-◌, ◌<◌, ◌≤◌, ◌⊎◌, length}
use Rattle.std.specs.Prelude.{slice_index}
use Rattle.crossbeam_deque.specs.Handles.{worker_view}
use Rattle.basics.specs.Sums.{only}
use Rattle.home_queues.specs.Parts.{IsOwnerWith}
use Rattle.home_queues.specs.Closing.{taken_by}
use Rattle.home_queues.proofs.closing.drain.Given as goal

abbrev pub invariant-loop-line : goal.invariant-loop-line
invariant-loop-line l = record {
  owner : IsOwnerWith l.lines 9 l.owner;
  put : (worker_view l.owner).put ≡ (worker_view l.initial.owner).put;
  len : length l.left.each ≡ l.lines;
  all : l.left.all + length (worker_view l.initial.owner).taken ≡ l.initial.left.all + length (worker_view l.owner).taken;
  within : (length (worker_view l.owner).taken ≤ length (worker_view l.initial.owner).taken) ⊎ (length (worker_view l.owner).taken ≤ length (worker_view l.owner).put);
  counted : (x : ℕ) → x < l.lines → slice_index l.left.each x + taken_by (only x) l.initial.owner ≡ slice_index l.initial.left.each x + taken_by (only x) l.owner;
}

abbrev pub decreases-loop-line : goal.decreases-loop-line
decreases-loop-line l = length (worker_view l.owner).put - length (worker_view l.owner).taken
