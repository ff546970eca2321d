use Rattle.std.proofs.Common.{◌-◌, ◌∙◌, arith}
use Rattle.task_window.proofs.Collecting.{readers_next, readers_done}
use Rattle.task_window.proofs.pieces.Pieces.collect_readers.Goals as goal

pub returns-then-reader-writer : goal.returns-then-reader-writer
returns-then-reader-writer c =
    let i = c.loop-link.invariant in
    readers_done c.args.self.now.readers.links c.args.piece c.args.writer c.args.sources.now.items c.loop-link.sources.items c.loop-link.link (c.loop-link.link - 1) 0 (omega arith) i.within (i.is (omega arith))
    c.value-reader.result c.value-reader.ensures i.collected c.requires.pieces.noted.ascend c.if-reader-writer.true

pub loop-link-preserved : goal.loop-link-preserved
loop-link-preserved c =
    let i = c.loop-link.invariant in
    let l = c.earlier-link.ensures in
    let key = i.is (omega arith) in
    record {
      collected = readers_next c.args.self.now.readers.links c.args.piece c.args.writer c.args.sources.now.items c.loop-link.sources.items c.loop-link.link (c.loop-link.link - 1) c.earlier-link.result (omega arith) i.within key
          c.value-reader.result c.value-reader.ensures i.collected l c.if-reader-writer.false c.push_new.new.sources.items c.in_ok-push_new.ensures;
      within = omega (arith, l.within, i.within);
      is = λ p. l.is p ∙ key;
    }
