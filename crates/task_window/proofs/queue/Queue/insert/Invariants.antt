use Rattle.std.proofs.Common.{◌≡◌, ℕ, ◌+◌, ◌-◌, ◌<◌, ◌≤◌, ◌++◌, true, length, take}
use Rattle.basics.specs.Lists.{count_below}
use Rattle.task_window.specs.Chains.{link_at}
use Rattle.task_window.specs.Waits.{IsQueue, IsSpoiled, status_at, is_pending, is_spoiling, leads, links_to}
use Rattle.task_window.proofs.queue.Queue.insert.Given as goal

abbrev pub invariant-loop-source : goal.invariant-loop-source
invariant-loop-source l =
    let s = l.initial.self.status.items in
    let q = l.initial.self in
    record {
      same : l.self ≡ record l.initial.self { links = l.self.links };
      queue : IsQueue l.self.links.links (length s) (status_at s) (is_pending l.self.links.links (status_at s)) (is_spoiling l.self.links.links (status_at s)) q.waits.items q.spoiled.items q.ready.items q.started q.count;
      waits : l.waits ≡ count_below (leads l.self.links.links (is_pending l.self.links.links (status_at s)) l.task) (length l.self.links.links);
      some : l.is_spoiled ≡ true → IsSpoiled l.self.links.links (is_spoiling l.self.links.links (status_at s)) l.task;
      each : IsSpoiled l.self.links.links (is_spoiling l.self.links.links (status_at s)) l.task → l.is_spoiled ≡ true;
      ends : (x : ℕ) → x < length l.self.links.links → ((link_at l.self.links.links x).key < length s) × ((link_at l.self.links.links x).value < length s + 1);
      few : length l.self.links.links < 4294967296;
      keys : length s < l.self.links.keys;
      room : length l.self.links.links + (length l.sources - l.source-index) ≤ l.self.links.room;
      links : l.self.links.links ≡ l.initial.self.links.links ++ links_to l.task (take l.source-index l.sources);
    }
