use Rattle.std.proofs.Common.{◌≡◌, ◌+◌, ◌-◌, ◌<◌, ◌++◌, [], ◌∷◌, length, ap, ◌∙◌, arith, refl, subst, cond}
use Rattle.task_window.specs.declared.pieces.Pieces.{Pieces}
use Rattle.task_window.specs.Pieces.{AreNotedOf}
use Rattle.task_window.proofs.Noting.{part, note_next, noted_empty, cond_grows, cond_room, cond_size, cond_links}
use Rattle.task_window.proofs.pieces.Pieces.note.Goals as goal

pub loop-piece-init : goal.loop-piece-init
loop-piece-init c =
    let none : c.args.access.first - c.args.access.first ≡ 0 = omega arith in
    record {
      same = refl;
      keys = refl;
      size = refl;
      links = cond_grows c.args.access.writes (length c.args.self.now.readers.links) (c.args.access.first - c.args.access.first) none;
      room = omega arith;
      noted = λ tasks of e q. noted_empty tasks of c.args.access.first (c.args.access.first - c.args.access.first) c.args.access.writes c.args.self.now.writer.items c.args.self.now.readers.links none q;
    }

pub note_piece-requires-clause-room : goal.note_piece-requires-clause-room
note_piece-requires-clause-room c =
    let i = c.loop-piece.invariant in
    cond_room c.args.access.writes (length c.args.self.now.readers.links) (length c.loop-piece.self.readers.links) (c.loop-piece.piece - c.args.access.first) c.args.access.count c.args.self.now.readers.room c.loop-piece.self.readers.room i.links c.requires.room i.room (omega arith)

pub loop-piece-preserved : goal.loop-piece-preserved
loop-piece-preserved c =
    let i = c.loop-piece.invariant in
    let e = c.note_piece.ensures in
    let q = c.loop-piece.self in
    let a = c.args.access in
    let at : c.loop-piece.piece ≡ a.first + (c.loop-piece.piece - a.first) = omega arith in
    let more : c.loop-piece.piece + 1 - a.first ≡ (c.loop-piece.piece - a.first) + 1 = omega arith in
    let known : a.first + (c.loop-piece.piece - a.first) < length q.writer.items = omega (arith, c.requires.keys, c.requires.within, i.size) in
    record {
      same = e.same ∙ ap (λ (x : Pieces). record x { writer = c.note_piece.new.self.writer; readers = c.note_piece.new.self.readers }) i.same;
      keys = e.keys ∙ i.keys;
      size = ap length e.writer ∙ (cond_size a.writes q.writer.items c.loop-piece.piece (c.args.task + 1) ∙ i.size);
      links = ap length e.links ∙ cond_links a.writes q.readers.links (record { key = c.loop-piece.piece; value = c.args.task }) (length c.args.self.now.readers.links) (c.loop-piece.piece - a.first) (c.loop-piece.piece + 1 - a.first) more i.links;
      room = omega (arith, e.room, i.room);
      noted = λ tasks of n p. note_next tasks of a.first (c.loop-piece.piece - a.first) a.writes q.writer.items q.readers.links known c.args.task n (i.noted tasks of n p)
          c.loop-piece.piece at c.note_piece.new.self.writer.items c.note_piece.new.self.readers.links e.writer e.links (c.loop-piece.piece + 1 - a.first) more;
    }

pub returns-clause-links : goal.returns-clause-links
returns-clause-links c = c.loop-piece.invariant.links ∙ ap (λ n. length c.args.self.now.readers.links + cond c.args.access.writes 0 n) (omega arith)

pub returns-clause-noted : goal.returns-clause-noted
returns-clause-noted c = λ tasks of n p.
    subst (λ m. AreNotedOf (tasks ++ (of ++ part c.args.access.first m c.args.access.writes ∷ []) ∷ []) c.loop-piece.self.writer.items c.loop-piece.self.readers.links) (omega arith) (c.loop-piece.invariant.noted tasks of n p)
