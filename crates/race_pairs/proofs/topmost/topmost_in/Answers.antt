use Rattle.std.proofs.Common.{length, arith}
use Rattle.race_pairs.specs.Topmost.{races_with}
use Rattle.sweep_base.proofs.Public.{blocks_fail, blocks_more, some_of, none_of}
use Rattle.race_pairs.proofs.Freeing.{later_beyond, all_later}
use Rattle.race_pairs.proofs.topmost.topmost_in.Goals as goal

pub loop-start-init : goal.loop-start-init
loop-start-init c = record { begins = c.requires.begins; before = c.requires.free }

pub returns-in-Some : goal.returns-in-Some
returns-in-Some c =
    let g = c.args.graph.now in
    let e = some_of _ _ c.in_ok-found.found c.in-Some.pair c.in-Some.is c.in_ok-found.ensures in
    (e.0, e.1, blocks_fail (races_with g) c.loop-start.start (length g.lines) c.in-Some.pair.1 c.in-Some.pair.0 (later_beyond g (λ e k. c.edges_between_lines.ensures g e c.lines-lines.ensures.is_graph k)) c.loop-start.invariant.before e.2)

pub loop-start-preserved : goal.loop-start-preserved
loop-start-preserved c =
    let g = c.args.graph.now in
    let begins = c.loop-start.invariant.begins in
    record {
      begins = omega (arith, begins);
      before = blocks_more (races_with g) c.loop-start.start (length g.lines) (later_beyond g (λ e k. c.edges_between_lines.ensures g e c.lines-lines.ensures.is_graph k)) c.loop-start.invariant.before (none_of _ _ c.in_ok-found.found c.in_default.is c.in_ok-found.ensures);
    }

pub returns : goal.returns
returns c =
    let g = c.args.graph.now in
    all_later g c.loop-start.start (λ e k. c.edges_between_lines.ensures g e c.lines-lines.ensures.is_graph k) (omega (arith, c.loop-start-test.false, c.lines-lines.ensures.number)) c.loop-start.invariant.before
