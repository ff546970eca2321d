use Rattle.std.proofs.Common.{◌≡◌, ◌-◌, ◌<◌, ◌≤◌, length}
use Rattle.task_window.specs.Chains.{link_at}
use Rattle.task_window.specs.Pieces.{Collects, IsReaderFrom}
use Rattle.task_window.proofs.pieces.Pieces.collect_readers.Given as goal

abbrev pub invariant-loop-link : goal.invariant-loop-link
invariant-loop-link l = record {
  collected : Collects l.initial.sources.items l.sources.items (IsReaderFrom l.self.readers.links l.link l.piece l.writer);
  within : l.link ≤ length l.self.readers.links;
  is : 0 < l.link → (link_at l.self.readers.links (l.link - 1)).key ≡ l.piece;
}

abbrev pub decreases-loop-link : goal.decreases-loop-link
decreases-loop-link l = l.link
