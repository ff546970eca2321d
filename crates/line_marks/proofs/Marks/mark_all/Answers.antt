use Rattle.std.proofs.Common.{◌<◌, sym, subst}
use Rattle.std.specs.Prelude.{slice_index}
use Rattle.std.proofs.lemmas.List.Elements.{Contains-get_or}
use Rattle.line_marks.proofs.MarkFacts.{lines_more}
use Rattle.line_marks.proofs.Marks.mark_all.Goals as goal

pub mark-requires-clause-known : goal.mark-requires-clause-known
mark-requires-clause-known c = subst (λ n. slice_index c.args.lines.now c.loop-line.line-index < n) (sym c.loop-line.invariant.size) (c.requires.known _ (Contains-get_or c.args.lines.now c.loop-line.line-index 0 c.loop-line-test.true))

pub loop-line-preserved : goal.loop-line-preserved
loop-line-preserved c =
    lines_more c.args.mark c.args.self.now.by_line.items c.args.self.now.pending.items c.loop-line.self.by_line.items c.loop-line.self.pending.items c.mark.new.self.by_line.items c.mark.new.self.pending.items
    c.args.lines.now c.loop-line.line-index c.loop-line-test.true c.loop-line.invariant c.in_ok-mark.ensures.marking
