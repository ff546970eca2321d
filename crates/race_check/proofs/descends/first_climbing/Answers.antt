use Rattle.std.proofs.Common.{inl, length, arith}
use Rattle.graph_meaning.specs.Rules.{DescendsAt}
use Rattle.race_check.proofs.BeyondLines.{descends_beyond}
use Rattle.sweep_base.proofs.Public.{blocks_fail, blocks_more, pairs_hold, some_of, none_of}
use Rattle.race_check.proofs.descends.first_climbing.Goals as goal

pub returns-in-Some : goal.returns-in-Some
returns-in-Some c =
    let g = c.args.graph.now in
    let e = some_of _ _ c.in_ok-found.found c.in-Some.pair c.in-Some.is c.in_ok-found.ensures in
    (e.0, e.1, blocks_fail (DescendsAt g) c.loop-first.first (length g.lines) c.in-Some.pair.0 c.in-Some.pair.1 (λ i j h. descends_beyond g (λ e k. c.edges_between_lines.ensures g e c.lines-lines.ensures.is_graph k) i j h) c.loop-first.invariant.before e.2)

pub loop-first-preserved : goal.loop-first-preserved
loop-first-preserved c =
    let g = c.args.graph.now in
    record { before = blocks_more (DescendsAt g) c.loop-first.first (length g.lines) (λ i j h. descends_beyond g (λ e k. c.edges_between_lines.ensures g e c.lines-lines.ensures.is_graph k) i j h) c.loop-first.invariant.before (none_of _ _ c.in_ok-found.found c.in_default.is c.in_ok-found.ensures) }

pub returns : goal.returns
returns c =
    let g = c.args.graph.now in
    pairs_hold (DescendsAt g) c.loop-first.first (λ i j h. descends_beyond g (λ e k. c.edges_between_lines.ensures g e c.lines-lines.ensures.is_graph k) i j (inl (omega (arith, h, c.loop-first-test.false, c.lines-lines.ensures.number)))) c.loop-first.invariant.before
