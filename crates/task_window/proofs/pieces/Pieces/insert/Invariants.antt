use Rattle.std.proofs.Common.{◌≡◌, ◌+◌, ◌-◌, ◌≤◌, ◌++◌, [], ◌∷◌, List, length, take, drop}
use Rattle.std.specs.Vec.{vec_capacity}
use Rattle.task_order.specs.declared.access.Access.{Access}
use Rattle.task_window.specs.Pieces.{AreNotedOf, reads_of}
use Rattle.task_window.proofs.pieces.Pieces.insert.Given as goal

abbrev pub invariant-loop-access : goal.invariant-loop-access
invariant-loop-access l =
    record {
      sizes : l.self.sizes ≡ l.initial.self.sizes;
      accesses : l.self.accesses.items ≡ l.initial.self.accesses.items ++ take l.access-index l.accesses;
      fits : length l.self.accesses.items + (length l.accesses - l.access-index) ≤ vec_capacity l.self.accesses;
      keys : l.self.readers.keys ≡ l.initial.self.readers.keys;
      size : length l.self.writer.items ≡ length l.initial.self.writer.items;
      room : length l.self.readers.links + reads_of (drop l.access-index l.accesses) ≤ l.self.readers.room;
      noted : (tasks : List (List Access)) → length tasks ≡ l.task → AreNotedOf tasks l.initial.self.writer.items l.initial.self.readers.links →
          AreNotedOf (tasks ++ take l.access-index l.accesses ∷ []) l.self.writer.items l.self.readers.links;
    }
