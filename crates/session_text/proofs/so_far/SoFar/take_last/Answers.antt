use Rattle.std.proofs.Common.{◌+◌, sym, ap}
use Rattle.graph_terms.specs.declared.why.Why.TheVariants as why
use Rattle.session_text.proofs.Steps.{graph_read, refused_sum, is_refusal}
use Rattle.session_text.proofs.so_far.SoFar.take_last.Goals as goal

pub returns-then-is_above-clause-refused : goal.returns-then-is_above-clause-refused
returns-then-is_above-clause-refused c = λ bytes behind r t lines.
    let last = c.args.last in
    let sums = c.sums_with-sums.result in
    is_refusal bytes c.refused.result (c.args.number + c.args.lines) why.Limit c.refused.ensures
    (refused_sum bytes behind c.args.self.now last.entry.name last.entry.graph sums.lines sums.cells c.args.number (c.args.number + c.args.lines) r c.requires.named t
    c.sums_with-sums.ensures.lines c.sums_with-sums.ensures.cells (sym c.if-is_above.ensures) (ap (λ n. c.args.number + n) lines))

pub returns-clause-taken : goal.returns-clause-taken
returns-clause-taken c = λ bytes behind r t lines left.
    let sums = c.sums_with-sums.result in
    graph_read bytes behind c.args.after.now c.args.self.now c.add_graph.new.self c.args.last sums.lines sums.cells c.args.number (c.args.number + c.args.lines + 1) r c.requires.named t c.requires.bare c.in-Ok.ensures
    c.sums_with-sums.ensures.lines c.sums_with-sums.ensures.cells (sym c.if-is_above.ensures) left (ap (λ n. c.args.number + n + 1) lines)
