use Rattle.explain_graph.specs.Ways.{IsWay}
use Rattle.std.specs.Prelude.{None}
use Rattle.explain_graph.proofs.FarthestFacts.{ways_skip, ways_more, each_more}
use Rattle.explain_graph.proofs.ways.longest_ways.Goals as goal
use Rattle.explain_graph.proofs.ways.longest_ways.Goals.{in-Some+in_ok-way_to+in_ok-push, in_default}

pub loop-line-preserved : goal.loop-line-preserved
loop-line-preserved c = elim c.match-line.branch [
  | in-Some+in_ok-way_to+in_ok-push w ↦ (
      let way = w.in_ok-way_to.field-0 in
      rw w.ways-is (record {
        lines = ways_more c.deref-line-items.result.now c.loop-line.line-index w.in-Some.line None c.loop-line.ways.items w.push.new.items.items way c.loop-line-test.true w.in-Some.is w.in_ok-push.ensures.ok w.in_ok-way_to.ensures.line c.loop-line.invariant.lines;
        each = each_more (IsWay c.args.reaches.now) c.loop-line.ways.items w.push.new.items.items way w.in_ok-push.ensures.ok w.in_ok-way_to.ensures.way c.loop-line.invariant.each;
      }))
  | in_default w ↦ rw w.ways-is (record {
    lines = ways_skip c.deref-line-items.result.now c.loop-line.line-index None c.loop-line.ways.items c.loop-line-test.true w.in_default.is c.loop-line.invariant.lines;
    each = c.loop-line.invariant.each;
  })
]
