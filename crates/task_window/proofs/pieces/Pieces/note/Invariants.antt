use Rattle.std.proofs.Common.{◌≡◌, ◌+◌, ◌-◌, ◌≤◌, ◌++◌, [], ◌∷◌, List, length, cond}
use Rattle.task_order.specs.declared.access.Access.{Access}
use Rattle.task_window.specs.Pieces.{AreNotedOf}
use Rattle.task_window.proofs.pieces.Pieces.note.Given as goal

abbrev pub invariant-loop-piece : goal.invariant-loop-piece
invariant-loop-piece l =
    let part : Access = record { first = l.access.first; count = l.piece - l.access.first; writes = l.access.writes } in
    record {
      same : l.self ≡ record l.initial.self { writer = l.self.writer; readers = l.self.readers };
      keys : l.self.readers.keys ≡ l.initial.self.readers.keys;
      size : length l.self.writer.items ≡ length l.initial.self.writer.items;
      links : length l.self.readers.links ≡ length l.initial.self.readers.links + cond l.access.writes 0 (l.piece - l.access.first);
      room : l.initial.self.readers.room ≤ l.self.readers.room;
      noted : (tasks : List (List Access)) (of : List Access) → length tasks ≡ l.task → AreNotedOf (tasks ++ of ∷ []) l.initial.self.writer.items l.initial.self.readers.links →
          AreNotedOf (tasks ++ (of ++ part ∷ []) ∷ []) l.self.writer.items l.self.readers.links;
    }
