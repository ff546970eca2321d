use Rattle.std.proofs.Common.{ap, subst}
use Rattle.explain_text.specs.Accepted.{each_text, cancelled_text, ways_text}
use Rattle.explain_text.proofs.Public.{put_as, then_put}
use Rattle.explain_graph.specs.Ways.{AreLongest}
use Rattle.explanations.specs.Reaches.{fault_edges}
use Rattle.explain_top.proofs.EdgeFacts.{by_edges, ways_in, fault_in}
use Rattle.explain_top.proofs.accepted.put_all_cancelled.Goals as goal

pub put_cancelled-requires-clause-edges : goal.put_cancelled-requires-clause-edges
put_cancelled-requires-clause-edges c =
    let g = c.args.graph.now in
    by_edges g (fault_edges g c.args.ends.now) (fault_in g c.args.ends.now) c.in_ok-reaches.reaches.items c.as_slice-2.result.now c.as_slice-2.ensures.value c.in_ok-reaches.ensures.linked

pub put_ways-requires : goal.put_ways-requires
put_ways-requires c =
    let g = c.args.graph.now in
    ways_in g (fault_edges g c.args.ends.now) (fault_in g c.args.ends.now) c.in_ok-reaches.reaches.items c.as_slice.result.now c.as_slice.ensures.value c.in_ok-reaches.ensures.linked c.in_ok-ways.ways.items c.as_slice-3.result.now c.as_slice-3.ensures.value c.in_ok-ways.ensures

pub returns : goal.returns
returns c =
    let g = c.args.graph.now in
    let ls = c.args.lines.now in
    let v = c.in_ok-reaches.reaches.items in
    let e = c.in_ok-reaches.ensures in
    record {
      ends = c.args.ends.now;
      reaches = v;
      ways = c.in_ok-ways.ways.items;
      are_cancelled = record { ends_are = c.requires; size = e.size; reached = e.reached; linked = e.linked; exact = e.exact };
      are_ways = subst (λ rs. AreLongest rs c.in_ok-ways.ways.items) c.as_slice.ensures.value c.in_ok-ways.ensures;
      text = then_put c.args.text.now c.put_cancelled.new.text c.put_ways.new.text (each_text (cancelled_text g ls c.args.ends.now) 0 v) (ways_text g ls c.in_ok-ways.ways.items)
          (put_as _ _ _ _ (ap (each_text (cancelled_text g ls c.args.ends.now) 0) c.as_slice-2.ensures.value) c.in_ok-put_cancelled.ensures)
          (put_as _ _ _ _ (ap (ways_text g ls) c.as_slice-3.ensures.value) c.in_ok-put_ways.ensures);
    }
