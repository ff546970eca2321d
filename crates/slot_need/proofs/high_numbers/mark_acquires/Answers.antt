use Rattle.std.proofs.Common.{length, refl, arith, subst}
use Rattle.std.specs.Prelude.{Contains}
use Rattle.std.proofs.lemmas.Option.{slice_get_read}
use Rattle.std.proofs.lemmas.Result.{on_ok_weaker}
use Rattle.line_marks.specs.Marking.{IsMarking}
use Rattle.slot_need.proofs.FloodMarks.{acquires_marked, acquires_known}
use Rattle.slot_need.proofs.high_numbers.mark_acquires.Goals as goal

pub mark_all-requires-clause-known : goal.mark_all-requires-clause-known
mark_all-requires-clause-known c i h =
    let lists = c.args.acquires.now in
    let at = slice_get_read lists (length lists) c.args.lock c.index-acquires-lock.result refl (omega (arith, c.requires.lists.count, c.requires.lock)) c.index-acquires-lock.is in
    let known = acquires_known c.args.graph.now lists c.args.lock c.index-acquires-lock.result c.requires.lists at i (subst (λ xs. Contains xs i) c.as_slice.ensures.value h) in
    omega (arith, known, c.requires.size)

pub returns : goal.returns
returns c =
    let lists = c.args.acquires.now in
    let old = c.args.marks.now in
    let new = c.mark_all.new.self in
    let at = slice_get_read lists (length lists) c.args.lock c.index-acquires-lock.result refl (omega (arith, c.requires.lists.count, c.requires.lock)) c.index-acquires-lock.is in
    on_ok_weaker c.mark_all.result
    (λ marked. acquires_marked c.args.graph.now lists c.args.lock c.index-acquires-lock.result c.requires.lists at c.args.mark old.by_line.items old.pending.items new.by_line.items new.pending.items
    (subst (λ xs. IsMarking (Contains xs) c.args.mark old.by_line.items old.pending.items new.by_line.items new.pending.items) c.as_slice.ensures.value marked)) c.mark_all.ensures
