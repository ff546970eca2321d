use Rattle.std.proofs.Common.{◌<◌, length, subst, sym, arith}
use Rattle.std.proofs.lemmas.List.{get_or_read}
use Rattle.cycle_search.proofs.OrderLoops.{counted_all, taken_known, taken_next}
use Rattle.cycle_search.proofs.order.Order.with_others.Goals as goal

pub loop-taken-init : goal.loop-taken-init
loop-taken-init c =
    let g = c.args.graph.now in
    record {
      size = c.requires.counted.size;
      room = c.requires.room;
      taking = counted_all g (λ e m. c.edges_between_lines.ensures g e c.lines.ensures.is_graph m) c.args.self.lines.items c.args.self.left.items c.requires.counted;
    }

pub take-requires-clause-known : goal.take-requires-clause-known
take-requires-clause-known c =
    let same = get_or_read c.loop-taken.self.lines.items c.loop-taken.taken c.index-line.result.now (omega (arith, c.loop-taken.self.lines.ok.0)) c.index-line.ensures 0 in
    subst (λ x. x < length c.args.graph.now.lines) (sym same) (taken_known c.args.graph.now c.loop-taken.self.lines.items c.loop-taken.self.left.items c.loop-taken.taken c.loop-taken.invariant.taking (omega (arith, c.loop-taken.self.lines.ok.0)))

pub take-requires-clause-taking : goal.take-requires-clause-taking
take-requires-clause-taking c =
    taken_next c.args.graph.now c.loop-taken.self.lines.items c.loop-taken.self.left.items c.loop-taken.taken c.index-line.result.now c.loop-taken.invariant.taking (omega (arith, c.loop-taken.self.lines.ok.0))
    (get_or_read c.loop-taken.self.lines.items c.loop-taken.taken c.index-line.result.now (omega (arith, c.loop-taken.self.lines.ok.0)) c.index-line.ensures 0)
