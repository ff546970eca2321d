use Rattle.std.proofs.Common.{◌≡◌, take, map}
use Rattle.std.specs.Prelude.{Contains, filter_map}
use Rattle.explain_graph.specs.Ways.{IsWay, itself}
use Rattle.explain_graph.specs.declared.ways.Way.{Way}
use Rattle.explain_graph.proofs.ways.longest_ways.Given as goal

abbrev pub invariant-loop-line : goal.invariant-loop-line
invariant-loop-line l = record {
  lines : map (λ (w : Way). w.line) l.ways.items ≡ filter_map itself (take l.line-index l.line-items);
  each : (w : Way) → Contains l.ways.items w → IsWay l.reaches w;
}
