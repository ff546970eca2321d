use Rattle.std.proofs.Common.{◌≡◌, sym, subst, arith}
use Rattle.std.specs.Prelude.{slice_index, slice_set}
use Rattle.std.proofs.lemmas.List.{get_or_read}
use Rattle.line_marks.specs.Marking.{IsMarking}
use Rattle.line_marks.proofs.MarkFacts.{marks_one}
use Rattle.line_marks.proofs.Marks.mark.Goals as goal

pub returns-clause-marking : goal.returns-clause-marking
returns-clause-marking c =
    let s = c.args.self.now in
    let read : c.index.result.now ≡ slice_index s.by_line.items c.args.line = get_or_read s.by_line.items c.args.line c.index.result.now c.requires.known c.index.ensures 0 in
    let none : slice_index s.by_line.items c.args.line ≡ 0 = omega arith in
    subst (λ k. IsMarking (λ i. i ≡ c.args.line) c.args.mark s.by_line.items s.pending.items (slice_set s.by_line.items c.args.line c.args.mark) k) (sym c.in_ok-push.ensures.ok)
    (marks_one c.args.mark s.by_line.items s.pending.items c.args.line c.requires.known none c.requires.some)
