use Rattle.std.proofs.Common.{◌<◌, length, arith}
use Rattle.std.proofs.lemmas.List.{get_or_read}
use Rattle.basics.proofs.Choices.{last_by}
use Rattle.task_window.specs.Pieces.{tasks_of}
use Rattle.task_window.proofs.Collecting.{piece_reads, piece_writes}
use Rattle.task_window.proofs.pieces.Pieces.collect_piece.Goals as goal

pub returns-then-not-writes : goal.returns-then-not-writes
returns-then-not-writes c =
    let q = c.args.self.now in
    let known : c.args.piece < length q.writer.items = omega (arith, c.requires.pieces.keys, c.requires.known) in
    let at = get_or_read q.writer.items c.args.piece c.index-writer.result.now known c.index-writer.ensures 0 in
    piece_reads (tasks_of q) q.writer.items q.readers.links c.requires.pieces.noted c.args.piece c.index-writer.result.now at known c.args.sources.now.items c.collect_writer.new.sources.items c.args.writes
    c.if-not-writes.true c.in_ok-collect_writer.ensures

pub returns : goal.returns
returns c =
    let q = c.args.self.now in
    let known : c.args.piece < length q.writer.items = omega (arith, c.requires.pieces.keys, c.requires.known) in
    let at = get_or_read q.writer.items c.args.piece c.index-writer.result.now known c.index-writer.ensures 0 in
    last_by c.collect_readers.result (λ h. piece_writes (tasks_of q) q.writer.items q.readers.links c.requires.pieces.noted c.args.piece c.index-writer.result.now at known c.args.sources.now.items c.collect_writer.new.sources.items c.collect_readers.new.sources.items c.args.writes
    c.if-not-writes.false c.in_ok-collect_writer.ensures h) c.collect_readers.ensures
